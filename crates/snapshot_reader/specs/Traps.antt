-- Traps by their numbers.
use Rattle.std.specs.Prelude.{ℕ, ◌-◌, List, [], ◌∷◌, Option, slice_get}
use Rattle.rr_base.specs.declared.trap.Trap.{Trap}
use Rattle.rr_base.specs.declared.trap.Trap.TheVariants.{DivideByZero, Overflow, ShiftRange, BadDereference, OutOfObject, BadKind, BadSize, ArenaFull, MutexMisuse, BarrierMisuse, BadThread, Limit, CastRange, PointerToNumber, CompareObjects, Depth, LogFull, RwMisuse}

-- in the order of their numbers
abbrev pub traps : List Trap
traps = DivideByZero ∷ Overflow ∷ ShiftRange ∷ BadDereference ∷ OutOfObject ∷ BadKind ∷ BadSize ∷ ArenaFull ∷ MutexMisuse ∷ BarrierMisuse ∷ BadThread ∷ Limit ∷ CastRange ∷ PointerToNumber ∷ CompareObjects ∷ Depth ∷ LogFull ∷ RwMisuse ∷ []

-- the trap of a number from 1 on
abbrev pub trap_of_number : ℕ → Option Trap
trap_of_number n = slice_get traps (n - 1)
