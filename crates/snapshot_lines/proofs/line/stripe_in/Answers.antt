use Rattle.std.proofs.Common.{◌≡◌, ℕ, min, Bool, true, false, List, [], ◌∷◌, map, Option, Some, None, refl, sym, ap, ◌∙◌, rules}
use Rattle.std.specs.Prelude.{codes, IsTrue}
use Rattle.std.proofs.lemmas.Bool.{true≢false}
use Rattle.profiles.specs.Profile.{Text}
use Rattle.order_log.specs.Text.{number_text, object_text}
use Rattle.reads_text.specs.Text.{value_text}
use Rattle.snapshot_lines.specs.Fields.{fields_of, fields_left}
use Rattle.snapshot_lines.proofs.Blanks.{text_by_fields}
use Rattle.thread_interpreter.specs.declared.part.StripePart.{StripePart}
use Rattle.snapshots.specs.Text.{stripe_line, stripe_word}
use Rattle.snapshot_lines.specs.Lines.{IsAny, clipped_stripe}
use Rattle.snapshot_lines.proofs.Lines.{read_none, tails, stripe_fields}
use Rattle.snapshot_lines.proofs.line.stripe_in.Goals as goal

pub returns-in_err-lock : goal.returns-in_err-lock
returns-in_err-lock c =
    let first : fields_of c.args.line.now ≡ c.in_ok-take.field-0.now ∷ fields_left c.take.new.self.rest = sym c.of-fields.ensures ∙ c.in_ok-take.ensures in
    read_none IsAny stripe_line clipped_stripe c.args.line.now c.from_residual-in_err-lock.result (search rules)
    (λ x is e. c.in_err-lock.ensures x.lock _ (tails _ _ _ _ (sym first ∙ ap fields_of e ∙ stripe_fields x)))

pub returns-in_err-stripe : goal.returns-in_err-stripe
returns-in_err-stripe c =
    let first : fields_of c.args.line.now ≡ c.in_ok-take.field-0.now ∷ fields_left c.take.new.self.rest = sym c.of-fields.ensures ∙ c.in_ok-take.ensures in
    let l = c.in_ok-lock.ensures in
    let front : fields_of c.args.line.now ≡ c.in_ok-take.field-0.now ∷ number_text l.0 ∷ fields_left c.take_u16.new.self.rest = first ∙ ap (λ (r : List Text). c.in_ok-take.field-0.now ∷ r) l.2 in
    read_none IsAny stripe_line clipped_stripe c.args.line.now c.from_residual-in_err-stripe.result (search rules)
    (λ x is e. c.in_err-stripe.ensures x.stripe _ (tails _ _ _ _ (tails _ _ _ _ (sym front ∙ ap fields_of e ∙ stripe_fields x))))

pub returns-in_err-nesting : goal.returns-in_err-nesting
returns-in_err-nesting c =
    let first : fields_of c.args.line.now ≡ c.in_ok-take.field-0.now ∷ fields_left c.take.new.self.rest = sym c.of-fields.ensures ∙ c.in_ok-take.ensures in
    let l = c.in_ok-lock.ensures in
    let s = c.in_ok-stripe.ensures in
    let front : fields_of c.args.line.now ≡ c.in_ok-take.field-0.now ∷ number_text l.0 ∷ number_text s.0 ∷ fields_left c.take_u8.new.self.rest =
    first ∙ ap (λ (r : List Text). c.in_ok-take.field-0.now ∷ r) (l.2 ∙ ap (λ (r : List Text). number_text l.0 ∷ r) s.2) in
    read_none IsAny stripe_line clipped_stripe c.args.line.now c.from_residual-in_err-nesting.result (search rules)
    (λ x is e. c.in_err-nesting.ensures x.nesting _ (tails _ _ _ _ (tails _ _ _ _ (tails _ _ _ _ (sym front ∙ ap fields_of e ∙ stripe_fields x)))))

pub returns-then-not-is_over : goal.returns-then-not-is_over
returns-then-not-is_over c x is e =
    let first : fields_of c.args.line.now ≡ c.in_ok-take.field-0.now ∷ fields_left c.take.new.self.rest = sym c.of-fields.ensures ∙ c.in_ok-take.ensures in
    let l = c.in_ok-lock.ensures in
    let s = c.in_ok-stripe.ensures in
    let n = c.in_ok-nesting.ensures in
    let front : fields_of c.args.line.now ≡ c.in_ok-take.field-0.now ∷ number_text l.0 ∷ number_text s.0 ∷ number_text n.0 ∷ fields_left c.take_u32.new.self.rest =
    first ∙ ap (λ (r : List Text). c.in_ok-take.field-0.now ∷ r) (l.2 ∙ ap (λ (r : List Text). number_text l.0 ∷ r) (s.2 ∙ ap (λ (r : List Text). number_text s.0 ∷ r) n.2)) in
    let going : c.is_over.result ≡ false = search rules in
    true≢false (sym (c.is_over.ensures.1 (tails _ _ _ _ (tails _ _ _ _ (tails _ _ _ _ (tails _ _ _ _ (sym front ∙ ap fields_of e ∙ stripe_fields x)))))) ∙ going)

pub returns : goal.returns
returns c =
    let first : fields_of c.args.line.now ≡ stripe_word c.in_ok-owed.owed ∷ fields_left c.take.new.self.rest =
    sym c.of-fields.ensures ∙ c.in_ok-take.ensures ∙ ap (λ (w : Text). w ∷ fields_left c.take.new.self.rest) c.in_ok-owed.ensures in
    let l = c.in_ok-lock.ensures in
    let s = c.in_ok-stripe.ensures in
    let n = c.in_ok-nesting.ensures in
    let over : fields_left c.take_u32.new.self.rest ≡ [] = c.is_over.ensures.0 (search rules) in
    let x : StripePart = record { lock = l.0; stripe = s.0; owed = c.in_ok-owed.owed; nesting = n.0 } in
    let front : fields_of c.args.line.now ≡ stripe_word c.in_ok-owed.owed ∷ number_text l.0 ∷ number_text s.0 ∷ number_text n.0 ∷ [] =
    first ∙ ap (λ (r : List Text). stripe_word c.in_ok-owed.owed ∷ r) (l.2 ∙ ap (λ (r : List Text). number_text l.0 ∷ r) (s.2 ∙ ap (λ (r : List Text). number_text s.0 ∷ r) (n.2 ∙ ap (λ (r : List Text). number_text n.0 ∷ r) over))) in (
      x,
      tt,
      text_by_fields c.args.line.now (stripe_word c.in_ok-owed.owed) (number_text l.0 ∷ number_text s.0 ∷ number_text n.0 ∷ []) front,
      λ i. record { lock = l.1 i; stripe = s.1 i; owed = c.in_ok-owed.owed; nesting = n.1 i },
    )
