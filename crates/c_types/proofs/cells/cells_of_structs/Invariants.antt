use Rattle.std.proofs.Common.{◌≡◌, drop, []}
use Rattle.c_types.specs.Types.{kinds_after}
use Rattle.c_types.proofs.cells.cells_of_structs.Given as goal

-- what is known, and what the rest adds
abbrev pub invariant-loop-members : goal.invariant-loop-members
invariant-loop-members l = kinds_after l.known (drop l.members-index l.structs) ≡ kinds_after [] l.fn.structs
