use Rattle.std.proofs.Common.{◌≡◌, ◌≤◌, drop}
use Rattle.c_types.specs.Format.{conversions_from, conversions}
use Rattle.c_types.proofs.format.conversions.Given as goal

-- what was met and what the rest makes of it
abbrev pub invariant-loop-byte : goal.invariant-loop-byte
invariant-loop-byte l = record {
  rest : conversions_from l.inside l.count (drop l.byte-index l.format) ≡ conversions l.fn.format;
  bound : l.count ≤ l.byte-index;
}
