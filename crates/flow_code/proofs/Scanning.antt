-- Which cells of a range have to be looked at to find one that a stripe guards.
use Rattle.std.proofs.Common.{◌≡◌, ℕ, zero, suc, ◌+◌, ◌-◌, ◌*◌, ◌/◌, ◌<◌, ◌≤◌, ◌||◌, ◌&&◌, ◌==◌, ◌⊎◌, inl, inr, ⊎_elim, Bool, true, false, Option, Some, None, if◌then◌else◌, refl, sym, ap, subst, ◌∙◌, arith}
use Rattle.std.specs.Prelude.{min, max, slice_get}
use Rattle.std.proofs.Math.Nat.{div-mul-le_self, lt-div-mul-add}
use Rattle.rr_base.specs.Words.{site_of, length_of}
use Rattle.flow_code.specs.declared.code.Code.{Code}
use Rattle.flow_code.specs.declared.code.LockInfo.{LockInfo}
use Rattle.flow_code.specs.Stripes.{any_from, guards, lock_guards, stripe_at, class_in}
use Rattle.word_semantics.specs.Pointers.{site_at}

same_bool : (a b : Bool) → (a ≡ true → b ≡ true) → (b ≡ true → a ≡ true) → a ≡ b
same_bool true b f g = sym (f refl)
same_bool false true f g = g refl
same_bool false false f g = refl

or_cases : (a b : Bool) → a || b ≡ true → (a ≡ true) ⊎ (b ≡ true)
or_cases true b h = inl refl
or_cases false b h = inr h

or_first : (a b : Bool) → a ≡ true → a || b ≡ true
or_first true b h = refl
or_first false b h = cc

or_second : (a b : Bool) → b ≡ true → a || b ≡ true
or_second true b h = refl
or_second false b h = h

module _ (p : ℕ → Bool) where
  -- a number that passes
  record Found (n k : ℕ) : Type 0 where
    at : ℕ
    from : k ≤ at
    before : at < k + n
    passes : p at ≡ true

  found : (n k : ℕ) → any_from p n k ≡ true → Found n k
  found zero k h = cc
  found (suc n) k h = ⊎_elim
      (λ (e : p k ≡ true). record { at = k; from = omega arith; before = omega arith; passes = e })
      (λ (e : any_from p n (k + 1) ≡ true). let f = found n (k + 1) e in record { at = f.at; from = omega arith; before = omega arith; passes = f.passes })
      (or_cases (p k) (any_from p n (k + 1)) h)

  finds : (n k o : ℕ) → k ≤ o → o < k + n → p o ≡ true → any_from p n k ≡ true
  finds zero k o from before h = absurd (omega arith)
  finds (suc n) k o from before h = go (k == o) refl (λ less. finds n (k + 1) o (omega arith) (omega arith) h)
    where
      go : (b : Bool) → (k == o) ≡ b → (k < o → any_from p n (k + 1) ≡ true) → (p k || any_from p n (k + 1)) ≡ true
      go true e later = let same : k ≡ o = grind (arith, e) in or_first (p k) (any_from p n (k + 1)) (ap p same ∙ h)
      go false e later = let less : k < o = grind (arith, e, from) in or_second (p k) (any_from p n (k + 1)) (later less)

  -- those outside of a range, of which none passes, can be left out
  pub narrowed : (first following lo hi : ℕ) → ((o : ℕ) → o < following → p o ≡ true → (lo ≤ o) × (o < hi)) → any_from p (min following hi - max first lo) (max first lo) ≡ any_from p (following - first) first
  narrowed first following lo hi inside = same_bool (any_from p (min following hi - max first lo) (max first lo)) (any_from p (following - first) first)
      (λ h. let f = found (min following hi - max first lo) (max first lo) h in finds (following - first) first f.at (omega arith) (omega arith) f.passes)
      (λ h. let f = found (following - first) first h in let l : f.at < following = omega arith in let w = inside f.at l f.passes in finds (min following hi - max first lo) (max first lo) f.at (omega arith) (omega arith) f.passes)

none_of : (n k : ℕ) (p : ℕ → Bool) → ((o : ℕ) → p o ≡ false) → any_from p n k ≡ false
none_of zero k p none = refl
none_of (suc n) k p none = ap (λ b. b || any_from p n (k + 1)) (none k) ∙ none_of n (k + 1) p none

pub no_lock : (code : Code) (w n k lock stripe : ℕ) → slice_get code.locks lock ≡ None → any_from (λ offset. guards code w offset lock stripe) n k ≡ false
no_lock code w n k lock stripe e = none_of n k (λ offset. guards code w offset lock stripe) (λ o. ap (λ z. lock_guards z code.sites w o stripe) e)

and_parts : (a b c : Bool) → a && b && c ≡ true → (a ≡ true) × (c ≡ true)
and_parts true true c h = (refl, h)
and_parts true false c h = cc
and_parts false b c h = cc

no_and : (a b c : Bool) → a ≡ false → a && b && c ≡ false
no_and true b c h = cc
no_and false b c h = refl

pub other_site : (code : Code) (w n k lock stripe : ℕ) (l : LockInfo) → slice_get code.locks lock ≡ Some l → (l.site ≡ site_of w → ⊥) → any_from (λ offset. guards code w offset lock stripe) n k ≡ false
other_site code w n k lock stripe l e other = none_of n k (λ offset. guards code w offset lock stripe) (λ o.
    let off : lock_guards (Some l) code.sites w o stripe ≡ false = no_and (l.site == site_of w) (l.class == class_in (site_at code.sites (site_of w)) o) (stripe == stripe_at l.stripes o (length_of w)) (differs (l.site == site_of w) refl) in
    ap (λ z. lock_guards z code.sites w o stripe) e ∙ off)
  where
    differs : (b : Bool) → (l.site == site_of w) ≡ b → b ≡ false
    differs false h = refl
    differs true h = absurd (other (grind (arith, h)))

pub in_stripe : (code : Code) (w first following lo hi lock stripe : ℕ) (l : LockInfo) → slice_get code.locks lock ≡ Some l → following ≤ length_of w → ((o : ℕ) → o < length_of w → stripe_at l.stripes o (length_of w) ≡ stripe → (lo ≤ o) × (o < hi)) → any_from (λ offset. guards code w offset lock stripe) (min following hi - max first lo) (max first lo) ≡ any_from (λ offset. guards code w offset lock stripe) (following - first) first
in_stripe code w first following lo hi lock stripe l e within inside = narrowed (λ offset. guards code w offset lock stripe) first following lo hi (λ o before passes.
    let parts = and_parts (l.site == site_of w) (l.class == class_in (site_at code.sites (site_of w)) o) (stripe == stripe_at l.stripes o (length_of w)) (sym (ap (λ z. lock_guards z code.sites w o stripe) e) ∙ passes) in
    let at : stripe_at l.stripes o (length_of w) ≡ stripe = grind (arith, parts.1) in
    inside o (omega arith) at)

pub in_eighth : (offset cells stripe : ℕ) → offset < cells → offset * 8 / cells ≡ stripe → (min ((stripe * cells + 7) / 8) cells ≤ offset) × (offset < min (((stripe + 1) * cells + 7) / 8) cells)
in_eighth offset cells stripe within e =
    let low : stripe * cells ≤ offset * 8 = subst (λ z. z * cells ≤ offset * 8) e (div-mul-le_self (offset * 8) cells) in
    let some : zero < cells = omega arith in
    let next : offset * 8 < offset * 8 / cells * cells + cells = lt-div-mul-add some in
    let high : offset * 8 < stripe * cells + cells = subst (λ z. offset * 8 < z * cells + cells) e next in
    bounds (stripe * cells) ((stripe + 1) * cells) (omega arith) low high
  where
    bounds : (below through : ℕ) → through ≡ below + cells → below ≤ offset * 8 → offset * 8 < below + cells → (min ((below + 7) / 8) cells ≤ offset) × (offset < min ((through + 7) / 8) cells)
    bounds below through e low high = (omega arith, omega arith)
