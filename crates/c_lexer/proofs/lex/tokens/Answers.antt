use Rattle.std.proofs.Common.{rules, arith, ap, sym, ◌∙◌, ◌+◌, length, ◌≤◌, ◌++◌, ◌∷◌, [], ℤ, w64, to_z, of_z, length-take}
use Rattle.std.proofs.Math.Facts.{to_z-of_z}
use Rattle.std.proofs.lemmas.List.Elements.{All-push}
use Rattle.c_lexer.specs.Spans.{IsPlaced}
use Rattle.c_lexer.specs.declared.piece.Piece.TheVariants as piece
use Rattle.c_lexer.specs.declared.token.Token.{Token}
use Rattle.std.proofs.lemmas.List.{take_rest}
use Rattle.c_lexer.specs.Tokens.{Reading, tokens_of, token_at}
use Rattle.c_lexer.proofs.Steps.{with_front, with_front-token, with_front-empty, blank_step, token_step, define_step, fault_step, order-pushed, order-later, fault-of}
use Rattle.c_lexer.proofs.lex.tokens.Goals as goal

pub loop-rest-init : goal.loop-rest-init
unfolding tokens_of
loop-rest-init c = record {
  tokens = rw (c.new-found.ensures, c.new-names.ensures) (with_front-empty _);
  offset = search rules;
  line = search rules;
  column = search rules;
  first = search rules;
  order = rw c.new-found.ensures (omega arith);
  placed = rw c.new-found.ensures (λ k d h. absurd (omega arith));
}

pub loop-rest-preserved-in-Blank : goal.loop-rest-preserved-in-Blank
loop-rest-preserved-in-Blank c =
    let bs = c.loop-rest.rest.now in
    let r : Reading = record { cursor = c.loop-rest.cursor; token_line = c.loop-rest.token_line; defined = c.loop-rest.names } in
    let within = rw c.in-Blank.is at c.in_ok-len.ensures.within in
    let step = blank_step r bs c.in-Blank.len (sym c.in_ok-len.ensures.value ∙ c.in-Blank.is) within.0 within.1 in
    record {
      tokens = rw (take_rest bs c.in-Blank.len, c.pass-cursor.ensures.value) (ap (with_front c.loop-rest.found) (sym step) ∙ c.loop-rest.invariant.tokens);
      offset = search rules;
      line = search rules;
      column = search rules;
      first = search rules;
      order = order-later 0 c.loop-rest.cursor.offset c.pass-cursor.result.offset c.loop-rest.found c.loop-rest.invariant.order (omega arith);
      placed = c.loop-rest.invariant.placed;
    }

pub loop-rest-preserved-in-Token : goal.loop-rest-preserved-in-Token
loop-rest-preserved-in-Token c =
    let bs = c.loop-rest.rest.now in
    let len = c.in-Token.len in
    let cursor = c.loop-rest.cursor in
    let r : Reading = record { cursor = cursor; token_line = c.loop-rest.token_line; defined = c.loop-rest.names } in
    let t : Token = token_at c.in-Token.kind len cursor in
    let pushed = c.in_ok-push-in-Token.ensures.ok ∙ ap (λ t. c.loop-rest.found ++ t ∷ []) c.token_at.ensures in
    let within = rw c.in-Token.is at c.in_ok-len.ensures.within in
    let step = token_step r bs c.in-Token.kind len (sym c.in_ok-len.ensures.value ∙ c.in-Token.is) within.0 within.1 in
    let room : cursor.offset + len ≤ length c.args.text.now = omega arith in
    let later : cursor.offset + len ≤ c.pass-cursor-in-Token.result.offset = omega (arith, c.pass-cursor-in-Token.ensures.offset, within.1, length-take len bs) in
    record {
      tokens = rw (take_rest bs len, pushed, c.pass-cursor-in-Token.ensures.value)
          (sym (with_front-token c.loop-rest.found t _) ∙ ap (with_front c.loop-rest.found) (sym step) ∙ c.loop-rest.invariant.tokens);
      offset = search rules;
      line = search rules;
      column = search rules;
      first = search rules;
      order = rw pushed (order-later 0 t.end c.pass-cursor-in-Token.result.offset _ (order-pushed 0 cursor.offset c.loop-rest.found t c.loop-rest.invariant.order (omega arith) (omega (arith, within.0))) later);
      placed = rw pushed (All-push IsPlaced c.loop-rest.found t c.loop-rest.invariant.placed (omega (arith, within.0), omega (arith, room, c.requires, c.loop-rest.invariant.column)));
    }

-- the value goes into the map as its bits
pub loop-rest-preserved : goal.loop-rest-preserved
loop-rest-preserved c =
    let bs = c.loop-rest.rest.now in
    let r : Reading = record { cursor = c.loop-rest.cursor; token_line = c.loop-rest.token_line; defined = c.loop-rest.names } in
    let within = rw c.in-Define.is at c.in_ok-len.ensures.within in
    let value : ℤ = to_z w64 (of_z w64 c.in-Define.value) in
    let is = sym c.in_ok-len.ensures.value ∙ c.in-Define.is ∙ ap (λ v. piece.Define c.in-Define.from c.in-Define.to v c.in-Define.len) (sym (to_z-of_z within.4)) in
    let step = define_step r bs c.in-Define.from c.in-Define.to value c.in-Define.len is within.0 within.1 in
    record {
      tokens = rw (take_rest bs c.in-Define.len, c.in_ok-define-in-Define.ensures, c.pass-cursor-in-Define.ensures.value) (ap (with_front c.loop-rest.found) (sym step) ∙ c.loop-rest.invariant.tokens);
      offset = search rules;
      line = search rules;
      column = search rules;
      first = search rules;
      order = order-later 0 c.loop-rest.cursor.offset c.pass-cursor-in-Define.result.offset c.loop-rest.found c.loop-rest.invariant.order (omega arith);
      placed = c.loop-rest.invariant.placed;
    }

pub returns-in-Fault-clause-fault : goal.returns-in-Fault-clause-fault
returns-in-Fault-clause-fault c =
    let bs = c.loop-rest.rest.now in
    let r : Reading = record { cursor = c.loop-rest.cursor; token_line = c.loop-rest.token_line; defined = c.loop-rest.names } in
    let step = fault_step r bs c.in-Fault.fault c.in-Fault.len (sym c.in_ok-len.ensures.value ∙ c.in-Fault.is) (search rules) in
    rw (c.fault_at.ensures, c.pass.ensures.value) (fault-of c.in-Fault.fault _ _ (sym c.loop-rest.invariant.tokens ∙ ap (with_front c.loop-rest.found) step))
