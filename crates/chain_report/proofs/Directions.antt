-- Where no entry after the one point comes before one that is before the other, no chain leads there.
use Rattle.std.proofs.Common.{◌≡◌, ℕ, zero, suc, ◌<◌, ◌||◌, Bool, true, false, if◌then◌else◌, List, [], ◌∷◌, Some, None, refl, sym, ap, ◌∙◌, arith}
use Rattle.std.specs.Prelude.{slice_get}
use Rattle.std.proofs.lemmas.Bool.{true≢false}
use Rattle.sync_objects.specs.declared.entry.Entry.{Entry}
use Rattle.chain_report.specs.Chains.{is_after, is_before, is_chain}
use Rattle.chain_report.specs.Directions.{has_before, may_lead}
use Rattle.chain_report.specs.Finds.{IsLinked, at_first, onward}
use Rattle.chain_report.specs.declared.point.Point.{Point}
use Rattle.chain_report.proofs.LowestChain.{leads}
use Rattle.chain_report.proofs.RowLinks.{passes_less}

or_left : (a b : Bool) → a ≡ true → (a || b) ≡ true
or_left true b e = refl
or_left false b e = cc

or_right : (a b : Bool) → b ≡ true → (a || b) ≡ true
or_right true b e = refl
or_right false b e = e

-- one of the entries is before the point
before_at : (to : Point) (es : List Entry) (k : ℕ) → is_before to (slice_get es k) ≡ true → has_before to es ≡ true
before_at to [] k h = cc
before_at to (e ∷ es) zero h = or_left (is_before to (Some e)) (has_before to es) h
before_at to (e ∷ es) (suc k) h = or_right (is_before to (Some e)) (has_before to es) (before_at to es k h)

-- .. and behind one after the other point
leads_at : (from to : Point) (es : List Entry) (a k : ℕ) → a < k → is_after from (slice_get es a) ≡ true → is_before to (slice_get es k) ≡ true → may_lead from to es ≡ true
leads_at from to [] a k lt h g = cc
leads_at from to (e ∷ es) a zero lt h g = absurd (omega arith)
leads_at from to (e ∷ es) zero (suc k) lt h g = ap (λ b. if b then has_before to es else may_lead from to es) h ∙ before_at to es k g
leads_at from to (e ∷ es) (suc a) (suc k) lt h g = by (is_after from (Some e)) (leads_at from to es a k (omega (arith, lt)) h g)
  where
    by : (b : Bool) → may_lead from to es ≡ true → (if b then has_before to es else may_lead from to es) ≡ true
    by true again = before_at to es k g
    by false again = again

module _ (es : List Entry) (from to : Point) where
  -- a linked entry stands behind one after the first point
  begins_earlier : (k : ℕ) → IsLinked es from k → (a : ℕ) × (a < k) × (is_after from (slice_get es a) ≡ true)
  begins_earlier k (at_first a n h p) = (a, passes_less es from a k p, h)
  begins_earlier k (onward b a n l lt one p) =
      let x = begins_earlier b l in
      let under = passes_less es from a k p in
      (x.0, omega (arith, x.1, lt, under), x.2)

  pub leads_nowhere : may_lead from to es ≡ false → (given : List (ℕ × ℕ)) → is_chain es from to given ≡ true → ⊥
  leads_nowhere never given h =
      let x = leads es from to given None tt h in
      let y = begins_earlier x.0 x.1 in
      true≢false (sym (leads_at from to es y.0 x.0 y.1 y.2 x.2) ∙ never)
