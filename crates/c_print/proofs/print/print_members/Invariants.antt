use Rattle.std.proofs.Common.{◌≡◌, ◌++◌, drop, map}
use Rattle.c_tree.specs.View.{fields_of}
use Rattle.c_print.specs.Kinds.{all_fields_kinds}
use Rattle.c_print.proofs.print.print_members.Given as goal

-- what is printed and the rest make the whole
abbrev pub invariant-loop-member : goal.invariant-loop-member
invariant-loop-member l = l.out ++ all_fields_kinds (map fields_of (drop l.member-index l.members)) ≡ l.fn.out ++ all_fields_kinds (map fields_of l.fn.members)
