-- A thread has the stripes of its open regions, and no others.
use Rattle.std.proofs.Common.{◌≡◌, ℕ, zero, suc, ◌<◌, ◌==◌, not, Bool, true, false, if◌then◌else◌, List, [], ◌∷◌, ◌++◌, length, Some, refl, sym, subst, ◌∙◌, arith}
use Rattle.std.specs.Prelude.{slice_get, slice_set}
use Rattle.std.proofs.lemmas.Option.{same_Some}
use Rattle.std.proofs.lemmas.Bool.{eq-eqb, true≢false}
use Rattle.flow_code.specs.declared.thread.Stripe.{Stripe}
use Rattle.flow_code.specs.Holding.{nesting, open_ones, number_of_pair}
use Rattle.flow_code.specs.Threads.{OpenRegion}
use Rattle.lock_ownership.specs.ThreadStripes.{AreSorted, ArePairsSorted, IsOpen}
use Rattle.lock_ownership.proofs.Ascending.{ascend_filter}
use Rattle.lock_ownership.proofs.Standings.{standing, is_there}
use Rattle.lock_ownership.proofs.Nestings.{filtered}

abbrev pub AreOpen : List OpenRegion → Type 0
AreOpen [] = Unit {0}
AreOpen (r ∷ rs) = IsOpen r × AreOpen rs

-- each with sorted stripes, or none
abbrev pub HaveSorted : List OpenRegion → Type 0
HaveSorted [] = Unit {0}
HaveSorted (r ∷ rs) = ArePairsSorted r.stripes × HaveSorted rs

pub open_at : (rs : List OpenRegion) (i : ℕ) (r : OpenRegion) → AreOpen rs → slice_get rs i ≡ Some r → IsOpen r
open_at [] i r h e = cc
open_at (q ∷ rs) zero r h e = subst IsOpen (same_Some q r e) h.0
open_at (q ∷ rs) (suc i) r h e = open_at rs i r h.1 e

pub open_push : (rs qs : List OpenRegion) → AreOpen rs → AreOpen qs → AreOpen (rs ++ qs)
open_push [] qs h k = k
open_push (r ∷ rs) qs h k = (h.0, open_push rs qs h.1 k)

pub open_set : (rs : List OpenRegion) (i : ℕ) (q : OpenRegion) → IsOpen q → AreOpen rs → AreOpen (slice_set rs i q)
open_set [] i q k h = tt
open_set (r ∷ rs) zero q k h = (k, h.1)
open_set (r ∷ rs) (suc i) q k h = (h.0, open_set rs i q k h.1)

pub have_sorted : (rs : List OpenRegion) → AreOpen rs → HaveSorted rs
have_sorted [] h = tt
have_sorted (r ∷ rs) h = (h.0.sorted, have_sorted rs h.1)

pub sorted_set : (rs : List OpenRegion) (i : ℕ) (q : OpenRegion) → ArePairsSorted q.stripes → HaveSorted rs → HaveSorted (slice_set rs i q)
sorted_set [] i q k h = tt
sorted_set (r ∷ rs) zero q k h = (k, h.1)
sorted_set (r ∷ rs) (suc i) q k h = (h.0, sorted_set rs i q k h.1)

pub sorted_filter : (p : ℕ → Bool) (rs : List OpenRegion) → HaveSorted rs → HaveSorted (filtered p rs)
sorted_filter p [] h = tt
sorted_filter p (r ∷ rs) h = (ascend_filter number_of_pair (λ x. x.1) (λ x. p (number_of_pair x)) 0 r.stripes h.0, sorted_filter p rs h.1)

some_pairs : (xs : List (ℕ × ℕ)) → (length xs == 0) ≡ false → 0 < length xs
some_pairs [] e = absurd (true≢false (sym (eq-eqb 0 0 refl) ∙ e))
some_pairs (x ∷ xs) e = omega arith

-- those that have stripes are open
pub open_those : (rs : List OpenRegion) → HaveSorted rs → AreOpen (open_ones rs)
open_those [] h = tt
open_those (r ∷ rs) h = by (length r.stripes == 0) refl (open_those rs h.1)
  where
    by : (b : Bool) → (length r.stripes == 0) ≡ b → AreOpen (open_ones rs) → AreOpen (if not b then r ∷ open_ones rs else open_ones rs)
    by true e more = more
    by false e more = (record { some = some_pairs r.stripes e; sorted = h.0 }, more)

-- the stripes that are held or owed are those that some open region has
pub record Agree (xs : List Stripe) (rs : List OpenRegion) : Type 0 where
  pub sorted : AreSorted xs
  pub opened : AreOpen rs
  pub listed : (n : ℕ) → is_there (standing xs n) ≡ true → 0 < nesting rs n
  pub only : (n : ℕ) → is_there (standing xs n) ≡ false → nesting rs n ≡ 0
