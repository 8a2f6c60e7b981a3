-- The registers of accesses.
use Rattle.std.specs.Prelude.{ℕ, Option, Some, None}
use Rattle.flow_code.specs.declared.code.Code.{Code}
use Rattle.facts.specs.declared.pair.AccessAt.{AccessAt}
use Rattle.facts.specs.Accesses.{Access}
use Rattle.facts.specs.Pairs.{access_in, act_of}

-- the register that has the address of the cell
abbrev pub through_of : Option Access → Option ℕ
through_of None = None
through_of (Some a) = Some a.through

-- the same by where the access stands in the code
abbrev pub access_through : Code → AccessAt → Option ℕ
access_through code at = through_of (access_in (act_of code at))
