use Rattle.std.proofs.Common.{◌≡◌, ◌-◌, ℕ, ◌<◌, ◌≤◌, None, Some, Bool, sym, ap, subst, ◌∙◌}
use Rattle.std.specs.Prelude.{min, max, slice_get}
use Rattle.std.specs.Option.{option_copied}
use Rattle.flow_code.specs.Stripes.{any_from, guards, stripe_at}
use Rattle.flow_code.proofs.Scanning.{no_lock, other_site, in_stripe}
use Rattle.flow_code.proofs.stripes.guards_any.Goals as goal

pub returns-in_default : goal.returns-in_default
returns-in_default c =
    let none : slice_get c.args.code.now.locks c.args.lock ≡ None = sym c.get.ensures.value ∙ ap option_copied c.in_default.is in
    sym (no_lock c.args.code.now c.args.word (c.args.following - c.args.first) c.args.first c.args.lock c.args.stripe none)

pub returns-then-info-site : goal.returns-then-info-site
returns-then-info-site c =
    let some : slice_get c.args.code.now.locks c.args.lock ≡ Some c.in-Some.info.now = sym c.get.ensures.value ∙ ap option_copied c.in-Some.is in
    sym (other_site c.args.code.now c.args.word (c.args.following - c.args.first) c.args.first c.args.lock c.args.stripe c.in-Some.info.now some (λ e. c.if-info-site.true (e ∙ sym c.site.ensures.value)))

pub returns : goal.returns
returns c =
    let some : slice_get c.args.code.now.locks c.args.lock ≡ Some c.in-Some.info.now = sym c.get.ensures.value ∙ ap option_copied c.in-Some.is in
    let code = c.args.code.now in
    let word = c.args.word in
    let lo = c.cells_of_stripe-from.result.0 in
    let hi = c.cells_of_stripe-from.result.1 in
    let inside : (o : ℕ) → o < Rattle.rr_base.specs.Words.length_of word → stripe_at c.in-Some.info.now.stripes o (Rattle.rr_base.specs.Words.length_of word) ≡ c.args.stripe → (lo ≤ o) × (o < hi) =
    subst (λ n. (o : ℕ) → o < n → stripe_at c.in-Some.info.now.stripes o n ≡ c.args.stripe → (lo ≤ o) × (o < hi)) c.length.ensures c.cells_of_stripe-from.ensures.guarded in
    c.scan.ensures
    ∙ ap (λ k. any_from (λ offset. guards code word offset c.args.lock c.args.stripe) (c.min.result - k) k) c.max.ensures
    ∙ ap (λ k. any_from (λ offset. guards code word offset c.args.lock c.args.stripe) (k - max c.args.first lo) (max c.args.first lo)) c.min.ensures
    ∙ in_stripe code word c.args.first c.args.following lo hi c.args.lock c.args.stripe c.in-Some.info.now some c.requires inside
