use Rattle.std.proofs.Common.{◌≡◌, ◌<◌, ◌^◌, drop}
use Rattle.c_lexer.specs.Numbers.{digits_value}
use Rattle.c_lexer.proofs.number.digits_value.Given as goal

abbrev pub invariant-loop-b : goal.invariant-loop-b
invariant-loop-b l = record {
  rest : digits_value l.base l.value (drop l.b-index l.digits) ≡ digits_value l.base 0 l.digits;
  fits : l.value < 2 ^ 63;
}
