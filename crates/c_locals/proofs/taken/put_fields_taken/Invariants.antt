use Rattle.std.proofs.Common.{◌≡◌, drop, map}
use Rattle.c_tree.specs.View.{fields_of}
use Rattle.c_names.specs.Table.{texts_of}
use Rattle.c_locals.specs.Taken.{with_fields_taken}
use Rattle.c_locals.proofs.taken.put_fields_taken.Given as goal

-- what is put and the rest make the whole
abbrev pub invariant-loop-member : goal.invariant-loop-member
invariant-loop-member l = with_fields_taken (texts_of l.names.keys) (map fields_of (drop l.member-index l.members)) ≡ with_fields_taken (texts_of l.fn.names.keys) (map fields_of l.fn.members)
