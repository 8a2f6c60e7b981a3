-- Which stripes a thread holds and owes, and that they are those of its open regions.
use Rattle.std.specs.Prelude.{◌≡◌, ℕ, ◌+◌, ◌*◌, ◌≤◌, ◌<◌, nat_lt, ◌&&◌, ◌||◌, Bool, false, List, [], ◌∷◌, length, Some, slice_get}
use Rattle.word_semantics.specs.declared.event.Action.{Action}
use Rattle.word_semantics.specs.declared.event.Action.TheVariants as action
use Rattle.flow_code.specs.declared.thread.Stripe.{Stripe}
use Rattle.flow_code.specs.Holding.{number_of_stripe, number_of_pair, nesting}
use Rattle.flow_code.specs.Next.{same_stripe, holds}
use Rattle.flow_code.specs.Threads.{OpenRegion, Thread}

-- the numbers ascend strictly, from this one on, and the stripe of each lock is one of eight
abbrev pub AscendFrom : {A : Type 0} → (number stripe : A → ℕ) → ℕ → List A → Type 0
AscendFrom number stripe n [] = Unit {0}
AscendFrom number stripe n (x ∷ xs) = (n ≤ number x) × (stripe x < 8) × AscendFrom number stripe (number x + 1) xs

-- the stripes of a thread are sorted, and none comes twice
abbrev pub AreSorted : List Stripe → Type 0
AreSorted xs = AscendFrom number_of_stripe (λ x. x.stripe) 0 xs

-- the same of the pairs, lock and stripe, that an open region has
abbrev pub ArePairsSorted : List (ℕ × ℕ) → Type 0
ArePairsSorted xs = AscendFrom number_of_pair (λ x. x.1) 0 xs

-- the thread owes the stripe
abbrev pub owes_stripe : List Stripe → ℕ → ℕ → Bool
owes_stripe [] lock stripe = false
owes_stripe (x ∷ xs) lock stripe = (same_stripe lock stripe x && x.owed) || owes_stripe xs lock stripe

-- an open region has stripes, sorted, and none of them twice
pub record IsOpen (r : OpenRegion) : Type 0 where
  pub some : 0 < length r.stripes
  pub sorted : ArePairsSorted r.stripes

-- each stripe of an open region is held or owed, and not both, and no other stripe is
pub record HasItsStripes (th : Thread) : Type 0 where
  pub sorted : AreSorted th.stripes
  pub open_regions : (i : ℕ) (r : OpenRegion) → slice_get th.regions i ≡ Some r → IsOpen r
  pub nested : (lock stripe : ℕ) → stripe < 8 → (holds th.stripes lock stripe || owes_stripe th.stripes lock stripe) ≡ nat_lt 0 (nesting th.regions (8 * lock + stripe))
  pub not_both : (lock stripe : ℕ) → (holds th.stripes lock stripe && owes_stripe th.stripes lock stripe) ≡ false

-- what comes next is an access or a mark
abbrev pub IsOfMemory : Action → Type 0
IsOfMemory (action.Load c) = Unit {0}
IsOfMemory (action.Store c w) = Unit {0}
IsOfMemory action.Mark = Unit {0}
IsOfMemory _ = ⊥
