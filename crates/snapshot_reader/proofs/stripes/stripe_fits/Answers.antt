use Rattle.std.proofs.Common.{◌≡◌, ◌<◌, ◌≤◌, true, length, sym, subst, ◌∙◌, ℕ, arith}
use Rattle.std.proofs.lemmas.Bool.{leb-true, true≢false}
use Rattle.snapshot_reader.specs.Tallies.{IsIn}
use Rattle.snapshot_reader.proofs.LookedUp.{same_number}
use Rattle.snapshot_reader.proofs.StripeFits.{by_count}
use Rattle.snapshot_reader.proofs.Tallying.{place_within}
use Rattle.snapshot_reader.proofs.stripes.stripe_fits.Goals.{then-is_after, else-is_after}
use Rattle.snapshot_reader.proofs.stripes.stripe_fits.Goals as goal

pub returns-then-stripe-ge1 : goal.returns-then-stripe-ge1
returns-then-stripe-ge1 c = λ s regions are.
    let x = c.args.stripe.now in
    let counts = c.args.counts.now in
    let at = c.in-Some.place in
    let here = c.in-Some.ensures in
    let both : (c.is_after.result ≡ true) × (1 ≤ x.nesting) =
    elim c.if-is_after.branch [ then-is_after w ↦ (w.if-is_after.true, leb-true 1 x.nesting (sym w.value-is ∙ c.if-stripe-ge1.true)) | else-is_after w ↦ absurd (true≢false (sym c.if-stripe-ge1.true ∙ w.value-is ∙ w.if-is_after.false)) ] in
    let inside : IsIn (length c.args.code.now.locks) (x.lock, x.stripe) = subst (λ (n : ℕ). IsIn n (x.lock, x.stripe)) c.len.ensures here.0 in
    let within : at < length counts = let h = place_within (length c.args.code.now.locks) (x.lock, x.stripe) inside in let e = here.1 in let f = are.whole in omega arith in
    by_count c.args.code.now s regions c.args.before x counts at c.eq.result are inside here.1 (sym c.is_after.ensures ∙ both.0) both.1
    (c.eq.ensures ∙ same_number counts at c.get.result _ within c.get.ensures.lookup.0 c.get.ensures.lookup.1)
