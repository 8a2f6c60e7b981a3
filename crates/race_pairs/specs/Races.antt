-- When the accesses of two groups may race, and their pairs.
use Rattle.std.specs.Prelude.{◌≡◌, ◌⊎◌, ℕ, ◌≤◌, ◌==◌, ◌||◌, Bool, true, false, not, if◌then◌else◌, List, Option, Some, None, slice_get}
use Rattle.std.specs.List.{Contains}
use Rattle.rr_base.specs.declared.layout.Place.{Place}
use Rattle.sync_objects.specs.declared.mode.Mode.{Mode}
use Rattle.facts.specs.declared.locks.Guarded.{Guarded}
use Rattle.facts.specs.declared.locks.Held.{Held}
use Rattle.facts.specs.declared.locks.LockPath.TheVariants.{Cell}
use Rattle.facts.specs.declared.locks.Summary.{Summary}
use Rattle.facts.specs.declared.pair.AccessAt.{AccessAt}
use Rattle.facts.specs.declared.pair.Pair.{Pair}
use Rattle.facts.specs.Locks.{held_as}
use Rattle.facts.specs.Pairs.{guarded_in, access_less}
use Rattle.race_pairs.specs.declared.touch.Reached.{Reached}
use Rattle.race_pairs.specs.declared.touch.Group.{Group}

-- the access in the summary of its root
abbrev pub guarded_at : List Summary → Reached → Option Guarded
guarded_at ss a = slice_get (guarded_in (slice_get ss a.root)) a.index

-- its root, if no two threads begin with it
abbrev pub alone : Reached → Option ℕ
alone a = if a.is_main then Some a.root else None

-- two threads may have begun with these at once
abbrev pub may_meet : Option ℕ → Option ℕ → Bool
may_meet None o = true
may_meet (Some r) None = true
may_meet (Some r) (Some s) = not (r == s)

-- the lock in a global cell, held in a mode
abbrev pub held_cell : Mode → ℕ → Held
held_cell mode n = held_as mode (Cell n)

-- the lists have a common number
abbrev pub Meet : List ℕ → List ℕ → Type 0
Meet ms ns = (n : ℕ) × Contains ms n × Contains ns n

-- one holds a lock for writing that the other holds too
abbrev pub Exclude : Group → Group → Type 0
Exclude g h = Meet g.writing h.reading ⊎ Meet g.reading h.writing

-- accesses of the two may be at work at once, one of them a store, with no lock that keeps them apart
pub record AreRacing (g h : Group) : Type 0 where
  pub meet : may_meet g.alone h.alone ≡ true
  pub stores : g.store || h.store ≡ true
  pub apart : Exclude g h → ⊥

-- the pair of two accesses, either way round
abbrev pub pair_of : Place → AccessAt → AccessAt → Pair
pair_of p a b = if access_less b a then record { place = p; first = b; second = a } else record { place = p; first = a; second = b }

-- that of an access with the k-th, if that is from a place on
abbrev pub RowAt : Place → AccessAt → List AccessAt → (from k : ℕ) → Pair → Type 0
RowAt p a bs from k v = (from ≤ k) × (b : AccessAt) × (slice_get bs k ≡ Some b) × (v ≡ pair_of p a b)

-- with any that stands at `from` or after it
abbrev pub RowFrom : Place → AccessAt → List AccessAt → (from : ℕ) → Pair → Type 0
RowFrom p a bs from v = (k : ℕ) × RowAt p a bs from k v

-- in one group an access is paired with itself and those after it
abbrev pub first_of : Bool → ℕ → ℕ
first_of true k = k
first_of false k = 0

-- the pair of an access of each
pub record IsPairOf (g h : Group) (v : Pair) : Type 0 where
  pub a : AccessAt
  pub b : AccessAt
  pub of_g : Contains g.accesses a
  pub of_h : Contains h.accesses b
  pub is : v ≡ pair_of g.place a b

-- an access of each group, where the groups may race
abbrev pub IsRacingPair : Group → Group → Pair → Type 0
IsRacingPair g h v = AreRacing g h × IsPairOf g h v

-- that of the i-th and the j-th group
abbrev pub PairAt : List Group → (i j : ℕ) → Pair → Type 0
PairAt gs i j v = (g : Group) × (h : Group) × (slice_get gs i ≡ Some g) × (slice_get gs j ≡ Some h) × (i ≤ j) × (h.place ≡ g.place) × IsRacingPair g h v

-- that of the i-th with any from it on
abbrev pub PairsFrom : List Group → (i : ℕ) → Pair → Type 0
PairsFrom gs i v = (j : ℕ) × PairAt gs i j v

-- all race pairs of a code, by its groups
abbrev pub PairsOf : List Group → Pair → Type 0
PairsOf gs v = (i : ℕ) × PairsFrom gs i v

-- the pairs of the group's accesses with these are listed
abbrev pub ArePaired : Group → List AccessAt → List Pair → Type 0
ArePaired g bs vs = (a b : AccessAt) → Contains g.accesses a → Contains bs b → Contains vs (pair_of g.place a b)
