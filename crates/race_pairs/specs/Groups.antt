-- Groups of the accesses of one place that may race with the same accesses.
use Rattle.std.specs.Prelude.{◌≡◌, ℕ, ◌<◌, ◌≤◌, false, List, [], Some, slice_get}
use Rattle.std.specs.List.{Contains}
use Rattle.std.specs.List.Sorted.{IsNonDecreasing}
use Rattle.sync_objects.specs.declared.mode.Mode.TheVariants.{Read, Write}
use Rattle.facts.specs.declared.locks.Guarded.{Guarded}
use Rattle.facts.specs.declared.locks.Held.{Held}
use Rattle.facts.specs.declared.locks.Summary.{Summary}
use Rattle.facts.specs.declared.pair.AccessAt.{AccessAt}
use Rattle.facts.specs.Pairs.{place_less}
use Rattle.race_pairs.specs.declared.touch.Touch.{Touch}
use Rattle.race_pairs.specs.declared.touch.Group.{Group}
use Rattle.race_pairs.specs.Gains.{Gains, Below}
use Rattle.race_pairs.specs.Races.{guarded_at, alone, held_cell}

-- no place comes before an earlier one
abbrev pub AreSorted : List Touch → Type 0
AreSorted ws = (i j : ℕ) (v w : Touch) → i ≤ j → slice_get ws i ≡ Some v → slice_get ws j ≡ Some w → place_less w.place v.place ≡ false

-- they touch one place, with one root where no two threads begin with it, and are of one kind, with the same locks
pub record Alike (ss : List Summary) (v w : Touch) : Type 0 where
  pub x : Guarded
  pub y : Guarded
  pub first : guarded_at ss v.access ≡ Some x
  pub second : guarded_at ss w.access ≡ Some y
  pub place : v.place ≡ w.place
  pub root : alone v.access ≡ alone w.access
  pub store : x.store ≡ y.store
  pub plus : x.plus ≡ y.plus

-- the group lists the cells of these global locks, for writing and in any way
pub record HasLocks (held : List Held) (g : Group) : Type 0 where
  pub writing : Gains (λ n. Contains held (held_cell Write n)) [] g.writing
  pub reading : Gains (λ n. Contains held (held_cell Read n)) [] g.reading

-- the numbers of its locks never fall
pub record AreLocksInOrder (g : Group) : Type 0 where
  pub writing : IsNonDecreasing g.writing
  pub reading : IsNonDecreasing g.reading

-- the k-th touch, from a place on, stands at a
abbrev pub StandsFrom : List Touch → (from k : ℕ) → AccessAt → Type 0
StandsFrom ws from k a = (from ≤ k) × (w : Touch) × (slice_get ws k ≡ Some w) × (w.access.at ≡ a)

-- the group has the touches of a part, of which the first is the access x of a summary
pub record IsGroup (ws : List Touch) (from to : ℕ) (x : Guarded) (g : Group) : Type 0 where
  pub v : Touch
  pub at : slice_get ws from ≡ Some v
  pub place : g.place ≡ v.place
  pub root : g.alone ≡ alone v.access
  pub store : g.store ≡ x.store
  pub ascend : AreLocksInOrder g
  pub locks : HasLocks x.plus g
  pub accesses : Gains (Below to (StandsFrom ws from)) [] g.accesses

-- the group has the touch
pub record IsIn (ss : List Summary) (g : Group) (w : Touch) : Type 0 where
  pub x : Guarded
  pub found : guarded_at ss w.access ≡ Some x
  pub place : w.place ≡ g.place
  pub root : alone w.access ≡ g.alone
  pub store : x.store ≡ g.store
  pub locks : HasLocks x.plus g
  pub access : Contains g.accesses w.access.at

-- no group has a lesser place than one before it
abbrev pub HasPlacesInOrder : List Group → Type 0
HasPlacesInOrder gs = (i j : ℕ) (g h : Group) → i ≤ j → slice_get gs i ≡ Some g → slice_get gs j ≡ Some h → place_less h.place g.place ≡ false

-- the numbers of each group's locks never fall
abbrev pub HasLocksInOrder : List Group → Type 0
HasLocksInOrder gs = (g : Group) → Contains gs g → AreLocksInOrder g

-- one of the first n touches is in the group, and stands at a
pub record IsFrom (ss : List Summary) (ws : List Touch) (n : ℕ) (g : Group) (a : AccessAt) : Type 0 where
  pub k : ℕ
  pub below : k < n
  pub w : Touch
  pub at : slice_get ws k ≡ Some w
  pub stands : w.access.at ≡ a
  pub within : IsIn ss g w

-- these groups have the first n touches, and no others
pub record AreGroups (ss : List Summary) (ws : List Touch) (n : ℕ) (gs : List Group) : Type 0 where
  pub places : HasPlacesInOrder gs
  pub locks : HasLocksInOrder gs
  pub reached : (g : Group) → Contains gs g → (k : ℕ) × (w : Touch) × (k < n) × (slice_get ws k ≡ Some w) × (g.place ≡ w.place)
  pub each : (g : Group) (a : AccessAt) → Contains gs g → Contains g.accesses a → IsFrom ss ws n g a
  pub all : (k : ℕ) (w : Touch) (x : Guarded) → k < n → slice_get ws k ≡ Some w → guarded_at ss w.access ≡ Some x → (g : Group) × Contains gs g × IsIn ss g w
