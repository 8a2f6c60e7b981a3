use Rattle.std.proofs.Common.{◌≡◌, drop, sym, ap, ◌∙◌, arith, length-drop}
use Rattle.std.proofs.lemmas.List.{take_rest}
use Rattle.c_lexer.specs.Quotes.{unit_at}
use Rattle.c_lexer.specs.declared.piece.Unit.TheVariants as part
use Rattle.c_lexer.proofs.Bodies.{byte_turn}
use Rattle.c_lexer.proofs.quoted.body.Goals as goal

pub loop-len-preserved : goal.loop-len-preserved
loop-len-preserved c =
    let text = c.args.text.now in
    let len = c.loop-len.len in
    let n = c.in-Byte.n in
    let is : unit_at 34 (drop len text) ≡ part.Byte c.in-Byte.value n = ap (unit_at 34) (sym (take_rest text len)) ∙ sym c.unit_at.ensures.value ∙ c.in-Byte.is in
    let within = rw (take_rest text len) at c.in-Byte.ensures.within in
    record {
      bytes = rw c.in_ok-push-in-Byte.ensures.ok (byte_turn text len c.in-Byte.value n c.loop-len.bytes _ is within.0 within.1 c.loop-len.invariant.bytes);
      within = omega (arith, length-drop len text, within.1, c.loop-len-test.true);
    }
