-- The stripe of the cell to which a word points.
use Rattle.std.proofs.Common.{◌≡◌, ℕ, ◌<◌, ◌≤◌, ◌*◌, ◌/◌, ◌%◌, ◌==◌, ◌&&◌, Bool, true, false, if◌then◌else◌, List, Option, Some, None, refl, sym, ap, ◌∙◌, arith}
use Rattle.std.specs.Prelude.{slice_get}
use Rattle.std.proofs.lemmas.Bool.Decides.{nat_tests}
use Rattle.std.proofs.lemmas.Option.{slice_get-map}
use Rattle.rr_base.specs.Words.{site_of, length_of, offset_of, class_of}
use Rattle.rr_base.specs.declared.layout.Place.{Place}
use Rattle.rr_base.specs.declared.layout.Site.{Site}
use Rattle.word_semantics.specs.Pointers.{site_at}
use Rattle.flow_code.specs.declared.code.Code.{Code}
use Rattle.flow_code.specs.declared.code.LockInfo.{LockInfo}
use Rattle.flow_code.specs.Stripes.{guards, lock_guards, stripe_at, class_in}
use Rattle.facts.specs.PointsTo.{Tables, place, element_in, element_of}
use Rattle.region_stripes.proofs.Stripes.{eighth_small}
use Rattle.weak_lock_facts.specs.declared.grain.Grained.{Grained}
use Rattle.weak_code.specs.WeakLocks.{lock_for, locks_for}

-- there are eight stripes at most
pub stripe_few : (k offset cells : ℕ) → offset < cells → stripe_at k offset cells < 8
stripe_few k offset cells lt = by (k == 8)
  where
    by : (b : Bool) → (if b then offset * 8 / cells else 0) < 8
    by true = eighth_small offset cells lt
    by false = omega arith

class_same : (o : Option Site) (offset : ℕ) → 1 ≤ element_in o → class_of (element_in o) offset ≡ class_in o offset
class_same None offset h = let r : offset % 1 ≡ 0 = omega arith in r
class_same (Some site) offset h = by (site.layout.element == 0) refl
  where
    by : (b : Bool) → (site.layout.element == 0) ≡ b → class_of site.layout.element offset ≡ (if b then 0 else class_of site.layout.element offset)
    by true e = absurd (let z : site.layout.element ≡ 0 = grind (arith, nat_tests, e) in omega (arith, h, z))
    by false e = refl

-- the stripe of a cell, by the lock of its place
pub stripe_for : Code → Tables → List Grained → Place → (offset cells : ℕ) → ℕ
stripe_for code t rows p offset cells = stripe_at (lock_for code t rows p).stripes offset cells

pub stripe_for_few : (code : Code) (t : Tables) (rows : List Grained) (p : Place) (offset cells : ℕ) → offset < cells → stripe_for code t rows p offset cells < 8
unfolding stripe_for
stripe_for_few code t rows p offset cells lt = stripe_few (lock_for code t rows p).stripes offset cells lt

-- it is the one that guards the cell to which a word points
pub guarded_by : (code : Code) (t : Tables) (rows : List Grained) (locked : List Place) (n v s : ℕ) (w : Code) → w.locks ≡ locks_for code t rows locked → w.sites ≡ code.sites → slice_get locked n ≡ Some (place s (class_of (element_of code.sites s) (offset_of v))) → site_of v ≡ s → 1 ≤ element_of code.sites s → guards w v (offset_of v) n (stripe_for code t rows (place s (class_of (element_of code.sites s) (offset_of v))) (offset_of v) (length_of v)) ≡ true
unfolding stripe_for
guarded_by code t rows locked n v s w locks sites at site some =
    ap (λ o. lock_guards o w.sites v (offset_of v) stripe) (ap (λ xs. slice_get xs n) locks ∙ slice_get-map (lock_for code t rows) locked n ∙ ap (λ o. Rattle.std.specs.Prelude.option_map (lock_for code t rows) o) at)
    ∙ ap (λ ss. lock_guards (Some info) ss v (offset_of v) stripe) sites
    ∙ three
  where
    p : Place
    p = place s (class_of (element_of code.sites s) (offset_of v))

    info : LockInfo
    info = lock_for code t rows p

    stripe : ℕ
    stripe = stripe_at info.stripes (offset_of v) (length_of v)

    class : class_of (element_of code.sites s) (offset_of v) ≡ class_in (site_at code.sites (site_of v)) (offset_of v)
    class = class_same (site_at code.sites s) (offset_of v) some ∙ ap (λ k. class_in (site_at code.sites k) (offset_of v)) (sym site)

    three : ((s == site_of v) && (class_of (element_of code.sites s) (offset_of v) == class_in (site_at code.sites (site_of v)) (offset_of v)) && (stripe == stripe)) ≡ true
    three = let e = site in let c = class in grind (arith, nat_tests, e, c)
