-- Stripes by their places, 8 to a lock: in how many regions each is, and which are listed.
use Rattle.std.specs.Prelude.{◌≡◌, ℕ, ◌+◌, ◌*◌, ◌<◌, Bool, if◌then◌else◌, List, length, Option, Some, None, slice_index}
use Rattle.std.specs.List.{AllByRecursion}
use Rattle.snapshots.specs.Conditions.{has_pair, is_among, nesting_in}
use Rattle.thread_interpreter.specs.declared.part.RegionPart.{RegionPart}
use Rattle.thread_interpreter.specs.declared.part.StripePart.{StripePart}

-- a machine with so many locks has the stripe
abbrev pub IsIn : ℕ → ℕ × ℕ → Type 0
IsIn locks p = (p.0 < locks) × (p.1 < 8)

-- the place of a stripe
abbrev pub place : ℕ × ℕ → ℕ
place p = 8 * p.0 + p.1

-- where the stripe has its number, if the machine has it
abbrev pub PlaceIs : ℕ → ℕ × ℕ → Option ℕ → Type 0
PlaceIs locks p None = ¬ IsIn locks p
PlaceIs locks p (Some at) = IsIn locks p × (at ≡ place p)

-- 1 where it holds
abbrev pub one_if : Bool → ℕ
one_if b = if b then 1 else 0

-- each stripe that is among the pairs is counted once
abbrev pub Tallied : ℕ → List ℕ → List ℕ → List (ℕ × ℕ) → Type 0
Tallied locks old new pairs = (p : ℕ × ℕ) → IsIn locks p → slice_index new (place p) ≡ slice_index old (place p) + one_if (has_pair pairs p)

-- in how many regions each stripe is
pub record AreNestings (locks : ℕ) (regions : List RegionPart) (counts : List ℕ) : Type 0 where
  pub whole : length counts ≡ 8 * locks
  pub each : (p : ℕ × ℕ) → IsIn locks p → slice_index counts (place p) ≡ nesting_in regions p

-- all are stripes of the machine, and these are their places
pub record AreListed (locks : ℕ) (stripes : List StripePart) (listed : List ℕ) : Type 0 where
  pub whole : length listed ≡ 8 * locks
  pub inside : AllByRecursion (λ (x : StripePart). IsIn locks (x.lock, x.stripe)) stripes
  pub each : (p : ℕ × ℕ) → IsIn locks p → slice_index listed (place p) ≡ one_if (is_among stripes p)

-- each number is below the bound
abbrev pub AreBelow : ℕ → List ℕ → Type 0
AreBelow bound xs = (k : ℕ) → slice_index xs k < bound
