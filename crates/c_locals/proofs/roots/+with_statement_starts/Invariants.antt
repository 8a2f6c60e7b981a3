use Rattle.std.proofs.Common.{◌≡◌, drop, map}
use Rattle.c_tree.specs.Tree.{listed_parts}
use Rattle.c_tree.specs.View.{part_of}
use Rattle.c_locals.specs.Roots.{with_parts_starts}
use Rattle.c_names.specs.Table.{texts_of}
use Rattle.c_locals.proofs.roots.+with_statement_starts.Given as goal

-- what is put and the rest make the whole
abbrev pub invariant-put_parts_starts-loop-part : goal.invariant-put_parts_starts-loop-part
invariant-put_parts_starts-loop-part l = with_parts_starts (texts_of l.names.keys) (listed_parts (map part_of (drop l.part-index l.parts))) ≡ with_parts_starts (texts_of l.fn.names.keys) (listed_parts (map part_of l.fn.parts))
