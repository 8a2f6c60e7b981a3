-- The accesses of the roots' summaries, each at the places that it may touch.
use Rattle.std.specs.Prelude.{◌≡◌, ℕ, true, List, Some, slice_get}
use Rattle.std.specs.List.{Contains}
use Rattle.flow_code.specs.declared.code.Code.{Code}
use Rattle.flow_code.specs.Threads.{is_main}
use Rattle.facts.specs.declared.locks.Guarded.{Guarded}
use Rattle.facts.specs.declared.locks.Summary.{Summary}
use Rattle.facts.specs.PointsTo.{Tables}
use Rattle.facts.specs.Pairs.{is_root, places_of, stands}
use Rattle.race_pairs.specs.declared.touch.Reached.{Reached}
use Rattle.race_pairs.specs.declared.touch.Touch.{Touch}

-- the k-th access of the summary of root r
abbrev pub reached : Code → (r k : ℕ) → Guarded → Reached
reached code r k x = record { at = stands x; root = r; is_main = is_main code r; index = k }

-- at one of its places
abbrev pub TouchesAt : Code → Tables → (r k : ℕ) → Guarded → Touch → Type 0
TouchesAt code t r k x w = Contains (places_of code t (stands x)) w.place × (w.access ≡ reached code r k x)

-- the k-th of these accesses, if there is one
abbrev pub TouchesNth : Code → Tables → (r : ℕ) → List Guarded → (k : ℕ) → Touch → Type 0
TouchesNth code t r xs k w = (x : Guarded) × (slice_get xs k ≡ Some x) × TouchesAt code t r k x w

-- any of these accesses
abbrev pub TouchesOf : Code → Tables → (r : ℕ) → List Guarded → Touch → Type 0
TouchesOf code t r xs w = (k : ℕ) × TouchesNth code t r xs k w

-- any access of a root's summary
abbrev pub TouchesFrom : Code → Tables → (r : ℕ) → Summary → Touch → Type 0
TouchesFrom code t r s w = (is_root code r ≡ true) × TouchesOf code t r s.guarded w

-- the same for a root's number, by the table of summaries
abbrev pub TouchesRoot : Code → Tables → List Summary → (r : ℕ) → Touch → Type 0
TouchesRoot code t ss r w = (s : Summary) × (slice_get ss r ≡ Some s) × TouchesFrom code t r s w

-- any access of any root's summary
abbrev pub IsTouch : Code → Tables → List Summary → Touch → Type 0
IsTouch code t ss w = (r : ℕ) × TouchesRoot code t ss r w
