use Rattle.std.proofs.Common.{◌≡◌, ◌++◌, drop}
use Rattle.c_types.specs.Types.{members_kinds}
use Rattle.c_types.proofs.cells.cells_of_members.Given as goal

abbrev pub invariant-loop-member : goal.invariant-loop-member
invariant-loop-member l = l.kinds ++ members_kinds l.structs (drop l.member-index l.members) ≡ members_kinds l.fn.structs l.fn.members
