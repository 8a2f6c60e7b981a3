use Rattle.std.proofs.Common.{◌≡◌, ◌++◌, drop, map}
use Rattle.c_tree.specs.Tree.{listed_parts}
use Rattle.c_tree.specs.View.{part_of}
use Rattle.c_frames.specs.Locals.{parts_locals}
use Rattle.c_frames.proofs.local.+statement_locals.Given as goal

-- what is pushed and the rest make the whole
abbrev pub invariant-push_parts_locals-loop-part : goal.invariant-push_parts_locals-loop-part
invariant-push_parts_locals-loop-part l = l.out ++ parts_locals (listed_parts (map part_of (drop l.part-index l.parts))) ≡ l.fn.out ++ parts_locals (listed_parts (map part_of l.fn.parts))
