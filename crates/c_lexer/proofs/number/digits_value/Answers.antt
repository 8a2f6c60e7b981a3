use Rattle.std.proofs.Common.{sym, ap, ◌∙◌, arith}
use Rattle.c_lexer.specs.Numbers.{narrow}
use Rattle.c_lexer.proofs.Numerals.{digits_value-next, narrow-wide}
use Rattle.c_lexer.proofs.number.digits_value.Goals as goal

pub returns-then-next : goal.returns-then-next
returns-then-next c =
    sym (ap narrow (sym c.loop-b.invariant.rest) ∙ narrow-wide _ (omega (arith, digits_value-next c.args.base c.loop-b.value c.loop-b.b-index c.args.digits.now c.requires.low c.loop-b-test.true)))
