use Rattle.std.proofs.Common.{sym, ◌∙◌, arith}
use Rattle.order_log.proofs.Parts.{digit_more, digit_none, digits_done}
use Rattle.order_log.proofs.part.digits.Goals as goal

pub returns-then-not-is_ascii_digit : goal.returns-then-not-is_ascii_digit
returns-then-not-is_ascii_digit c =
    digit_none c.args.text.now c.loop-b.b-index c.loop-b.value _ c.loop-b-test.true (sym c.is_ascii_digit.ensures.value ∙ c.if-not-is_ascii_digit.true) c.loop-b.invariant.1

pub loop-b-preserved : goal.loop-b-preserved
loop-b-preserved c = (
  omega arith,
  digit_more c.args.text.now c.loop-b.b-index c.loop-b.value c.saturating_add-value.result _ c.loop-b-test.true (sym c.is_ascii_digit.ensures.value ∙ c.if-not-is_ascii_digit.false) (omega arith) c.loop-b.invariant.1,
)

pub returns : goal.returns
returns c = digits_done c.args.text.now c.loop-b.b-index c.loop-b.value _ c.loop-b-test.false c.loop-b.invariant.0 c.loop-b.invariant.1
