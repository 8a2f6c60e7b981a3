use Rattle.std.proofs.Common.{◌≡◌, ◌++◌, drop, map}
use Rattle.c_tree.specs.Tree.{listed_parts}
use Rattle.c_tree.specs.View.{part_of}
use Rattle.c_sites.specs.Functions.{parts_kept}
use Rattle.c_sites.proofs.function_info.+statement_kept.Given as goal

-- what is pushed and the rest make the whole
abbrev pub invariant-push_parts_kept-loop-part : goal.invariant-push_parts_kept-loop-part
invariant-push_parts_kept-loop-part l = l.out ++ parts_kept (listed_parts (map part_of (drop l.part-index l.parts))) ≡ l.fn.out ++ parts_kept (listed_parts (map part_of l.fn.parts))
