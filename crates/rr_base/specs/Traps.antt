-- The number by which texts name each trap.
use Rattle.std.specs.Prelude.{ℕ}
use Rattle.rr_base.specs.declared.trap.Trap.{Trap}
use Rattle.rr_base.specs.declared.trap.Trap.TheVariants.{DivideByZero, Overflow, ShiftRange, BadDereference, OutOfObject, BadKind, BadSize, ArenaFull, MutexMisuse, BarrierMisuse, BadThread, Limit, CastRange, PointerToNumber, CompareObjects, Depth, LogFull, RwMisuse}

-- from 1 to 18, as a run's answers print it
abbrev pub trap_number : Trap → ℕ
trap_number DivideByZero = 1
trap_number Overflow = 2
trap_number ShiftRange = 3
trap_number BadDereference = 4
trap_number OutOfObject = 5
trap_number BadKind = 6
trap_number BadSize = 7
trap_number ArenaFull = 8
trap_number MutexMisuse = 9
trap_number BarrierMisuse = 10
trap_number BadThread = 11
trap_number Limit = 12
trap_number CastRange = 13
trap_number PointerToNumber = 14
trap_number CompareObjects = 15
trap_number Depth = 16
trap_number LogFull = 17
trap_number RwMisuse = 18
