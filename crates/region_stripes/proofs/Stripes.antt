-- The stripe that guards a cell is one of its lock's.
use Rattle.std.proofs.Common.{◌≡◌, ℕ, zero, suc, ◌*◌, ◌/◌, ◌<◌, ◌&&◌, Bool, true, false, if◌then◌else◌, List, [], ◌∷◌, refl, arith, Option, Some, None, ◌⊎◌, inl, inr}
use Rattle.std.specs.Prelude.{slice_get, nat_lt, ◌==◌, not}
use Rattle.std.proofs.lemmas.Bool.{lt-ltb}
use Rattle.std.proofs.lemmas.Bool.Decides.{nat_tests}
use Rattle.std.proofs.Math.Nat.{div-lt_iff_lt-mul}
use Rattle.rr_base.specs.Words.{site_of, length_of, offset_of}
use Rattle.rr_base.specs.declared.layout.Place.{Place}
use Rattle.rr_base.specs.declared.layout.Site.{Site}
use Rattle.word_semantics.specs.Pointers.{site_at}
use Rattle.flow_code.specs.declared.code.Code.{Code}
use Rattle.flow_code.specs.declared.code.LockInfo.{LockInfo}
use Rattle.flow_code.specs.Stripes.{stripe_at, class_in, lock_guards, points_to_cell, among, stripes_in}
use Rattle.facts.specs.PointsTo.{Tables}
use Rattle.weak_lock_facts.specs.declared.grain.Grained.{Grained}
use Rattle.weak_code.specs.WeakLocks.{is_striped, locks_for}
use Rattle.weak_valid.proofs.Tests.{both}
use Rattle.guard_paths.proofs.Guarded.{In}
use Rattle.guard_paths.proofs.Nested.{any_at}

pub among_in : (n : ℕ) (locks : List ℕ) → In n locks → among locks n ≡ true
among_in n locks h = any_at (λ k. k == n) locks h.0 n h.1 (grind (arith, nat_tests))

-- one or eight stripes
abbrev HasStripes : Option LockInfo → Type 0
HasStripes None = Unit {0}
HasStripes (Some l) = (l.stripes ≡ 8) ⊎ (l.stripes ≡ 1)

have_stripes : (code : Code) (t : Tables) (rows : List Grained) (ps : List Place) (k : ℕ) → HasStripes (slice_get (locks_for code t rows ps) k)
have_stripes code t rows [] k = tt
have_stripes code t rows (p ∷ ps) zero = go (is_striped code t rows p)
  where
    go : (b : Bool) → HasStripes (Some (record { site = p.site; class = p.class; stripes = if b then 8 else 1 }))
    go true = inl refl
    go false = inr refl
have_stripes code t rows (p ∷ ps) (suc k) = have_stripes code t rows ps k

pub eighth_small : (offset cells : ℕ) → offset < cells → offset * 8 / cells < 8
eighth_small offset cells lt = let some : 0 < cells = omega (arith, lt) in (div-lt_iff_lt-mul some).1 (omega (arith, lt))

stripe_small : (stripes offset cells : ℕ) → (stripes ≡ 8) ⊎ (stripes ≡ 1) → offset < cells → stripe_at stripes offset cells < stripes
stripe_small stripes offset cells h lt = go (stripes == 8) refl h
  where
    go : (b : Bool) → (stripes == 8) ≡ b → (stripes ≡ 8) ⊎ (stripes ≡ 1) → (if b then offset * 8 / cells else 0) < stripes
    go true e (inl q) = omega (arith, q, eighth_small offset cells lt)
    go true e (inr q) = absurd (let z : stripes ≡ 8 = grind (arith, nat_tests, e) in omega (arith, q, z))
    go false e (inl q) = omega (arith, q)
    go false e (inr q) = omega (arith, q)

guarded_small : (o : Option LockInfo) (sites : List Site) (v stripe : ℕ) → HasStripes o → points_to_cell v ≡ true → lock_guards o sites v (offset_of v) stripe ≡ true → nat_lt stripe (stripes_in o) ≡ true
guarded_small None sites v stripe h p g = cc
guarded_small (Some l) sites v stripe h p g =
    let b = both ((l.site == site_of v) && (l.class == class_in (site_at sites (site_of v)) (offset_of v))) (stripe == stripe_at l.stripes (offset_of v) (length_of v)) g in
    let e : stripe ≡ stripe_at l.stripes (offset_of v) (length_of v) = grind (arith, nat_tests, b.1) in
    let c = both (not (site_of v == 0)) (nat_lt (offset_of v) (length_of v)) p in
    let lt : offset_of v < length_of v = grind (arith, nat_tests, c.1) in
    lt-ltb stripe l.stripes (omega (arith, e, stripe_small l.stripes (offset_of v) (length_of v) h lt))

pub stripe_is : (code : Code) (t : Tables) (rows : List Grained) (ps : List Place) (sites : List Site) (lock v stripe : ℕ) → points_to_cell v ≡ true → lock_guards (slice_get (locks_for code t rows ps) lock) sites v (offset_of v) stripe ≡ true → nat_lt stripe (stripes_in (slice_get (locks_for code t rows ps) lock)) ≡ true
stripe_is code t rows ps sites lock v stripe p g = guarded_small (slice_get (locks_for code t rows ps) lock) sites v stripe (have_stripes code t rows ps lock) p g
