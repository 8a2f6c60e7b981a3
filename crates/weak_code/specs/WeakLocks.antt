-- The weak locks of a code: one for each place at which accesses may race, numbered from 0 in the order of the places.
use Rattle.std.specs.Prelude.{ℕ, nat_lt, ◌==◌, ◌&&◌, Bool, true, false, if◌then◌else◌, List, [], ◌∷◌, map, position, Option, Some, None}
use Rattle.std.specs.List.{list_any}
use Rattle.rr_base.specs.declared.layout.Place.{Place}
use Rattle.flow_code.specs.declared.code.Code.{Code}
use Rattle.flow_code.specs.declared.code.LockInfo.{LockInfo}
use Rattle.facts.specs.declared.pair.Pair.{Pair}
use Rattle.facts.specs.PointsTo.{Tables}
use Rattle.facts.specs.Pairs.{place_same, places_of}
use Rattle.weak_lock_facts.specs.declared.grain.Grain.{Grain}
use Rattle.weak_lock_facts.specs.declared.grain.Grain.TheVariants as grain
use Rattle.weak_lock_facts.specs.declared.grain.Grained.{Grained}

-- the next pair is one of the same place
abbrev pub comes_again : Place → List Pair → Bool
comes_again p [] = false
comes_again p (v ∷ vs) = place_same p v.place

-- the places of the pairs, each once; pairs of one place follow each other
abbrev pub places_in : List Pair → List Place
places_in [] = []
places_in (v ∷ vs) = if comes_again v.place vs then places_in vs else v.place ∷ places_in vs

-- ---- which locks a place needs

-- the number of the lock that stands for a place, if one does; these places have locks
abbrev pub lock_at : (locked : List Place) → Place → Option ℕ
lock_at locked p = position (λ q. place_same p q) locked

-- numbers in ascending order, with one more
abbrev pub with_number : ℕ → List ℕ → List ℕ
with_number n [] = n ∷ []
with_number n (x ∷ xs) = if nat_lt x n then x ∷ with_number n xs else (if x == n then x ∷ xs else n ∷ x ∷ xs)

-- the numbers stay where the place has no lock
abbrev pub with_some : Option ℕ → List ℕ → List ℕ
with_some None found = found
with_some (Some n) found = with_number n found

-- the locks that were found, and those of some places
abbrev pub with_locks : (locked : List Place) → (found : List ℕ) → List Place → List ℕ
with_locks locked found [] = found
with_locks locked found (p ∷ ps) = with_locks locked (with_some (lock_at locked p) found) ps

-- the locks of some places, in ascending order
abbrev pub locks_of : (locked : List Place) → List Place → List ℕ
locks_of locked ps = with_locks locked [] ps

-- ---- stripes

-- the access is guarded with a counted loop
abbrev pub is_loop : Grain → Bool
is_loop (grain.Loop at) = true
is_loop _ = false

-- one of the places is of the same site and class
abbrev pub has_place : Place → List Place → Bool
has_place p ps = list_any (λ q. place_same p q) ps

-- an access that is guarded with its loop may touch the place
abbrev pub is_striped : Code → Tables → List Grained → Place → Bool
is_striped code t rows p = list_any (λ g. is_loop g.grain && has_place p (places_of code t g.access)) rows

-- then its lock has 8 stripes, each for an eighth of an object
abbrev pub lock_for : Code → Tables → List Grained → Place → LockInfo
lock_for code t rows p = record { site = p.site; class = p.class; stripes = if is_striped code t rows p then 8 else 1 }

-- the code's weak locks, in the order of their numbers
abbrev pub locks_for : Code → Tables → List Grained → List Place → List LockInfo
locks_for code t rows locked = map (lock_for code t rows) locked
