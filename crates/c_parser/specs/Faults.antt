-- The parser's faults: their numbers, and where they stand.
use Rattle.std.specs.Prelude.{ℕ, Option, Some, None}
use Rattle.rr_base.specs.declared.position.Position.{Position}
use Rattle.c_parser.specs.declared.fault.ParseFault.{ParseFault}
use Rattle.c_parser.specs.declared.fault.ParseFault.TheVariants as faults

-- the number that messages give: 7, 8 or 20; `OutOfMemory` has none
abbrev pub number_of : ParseFault → Option ℕ
number_of (faults.Syntax at) = Some 7
number_of (faults.Nesting at) = Some 8
number_of (faults.OutOfProfile at) = Some 20
number_of faults.OutOfMemory = None

-- where the source breaks a rule; `OutOfMemory` stands nowhere
abbrev pub place_of : ParseFault → Option Position
place_of (faults.Syntax at) = Some at
place_of (faults.Nesting at) = Some at
place_of (faults.OutOfProfile at) = Some at
place_of faults.OutOfMemory = None
