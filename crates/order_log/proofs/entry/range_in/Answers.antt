use Rattle.std.proofs.Common.{ℕ, Some, true, false, sym, ap, ◌∙◌}
use Rattle.order_log.proofs.Ranges.{range_given, no_point}
use Rattle.order_log.proofs.entry.range_in.Goals as goal

pub returns-in_err-stripe : goal.returns-in_err-stripe
returns-in_err-stripe c = absurd (no_point c.args.front.now c.in_ok-first.first c.in_ok-first.ensures (sym c.may_share.ensures ∙ c.if-not-may_share.false) c.in_err-stripe.ensures)

pub returns-then-not-is_less : goal.returns-then-not-is_less
returns-then-not-is_less c =
    sym (range_given c.args.front.now c.args.last.now c.in_ok-stripe.field-0-0.now c.in_ok-stripe.stripe.now c.in_ok-first.first c.in_ok-number.field-0 false
    c.in_ok-first.ensures c.in_ok-number.ensures (sym c.may_share.ensures ∙ c.if-not-may_share.false) c.in_ok-stripe.ensures (λ m n p q. sym c.if-not-is_less.true ∙ c.is_less.ensures m n p q))

pub returns : goal.returns
returns c =
    ap (λ (k : ℕ). Some (record { first = c.in_ok-first.first; last = k })) c.as_u8-end.ensures
    ∙ sym (range_given c.args.front.now c.args.last.now c.in_ok-stripe.field-0-0.now c.in_ok-stripe.stripe.now c.in_ok-first.first c.in_ok-number.field-0 true
    c.in_ok-first.ensures c.in_ok-number.ensures (sym c.may_share.ensures ∙ c.if-not-may_share.false) c.in_ok-stripe.ensures (λ m n p q. sym c.if-not-is_less.false ∙ c.is_less.ensures m n p q))
