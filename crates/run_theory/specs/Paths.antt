-- The states that a thread comes to along a run, and prefixes.
use Rattle.std.specs.Prelude.{◌≡◌, ℕ, ◌≤◌, ◌==◌, if◌then◌else◌, List, [], ◌∷◌, ◌++◌, Option, Some, None, slice_get, ◌⊎◌, option_to_list}
use Rattle.sync_objects.specs.declared.entry.Noted.{Noted}
use Rattle.run_theory.specs.Labels.{Label, label_thread}
use Rattle.run_theory.specs.Steps.{Machine, State, stepped, trace, count_of, entries_of}

-- the second list begins with the whole first one
abbrev pub IsPrefixOf : {A : Type 0} → List A → List A → Type 0
IsPrefixOf {A} xs ys = (rest : List A) × (xs ++ rest ≡ ys)

-- one of the two is a prefix of the other
abbrev pub AreComparable : {A : Type 0} → List A → List A → Type 0
AreComparable xs ys = IsPrefixOf xs ys ⊎ IsPrefixOf ys xs

module _ {T : Type 0} (m : Machine T) where
  abbrev pub path_on : ℕ → Label → (State T → List T) → Option (State T) → List T
  path_on t l rest None = []
  path_on t l rest (Some s) = if label_thread l == t then option_to_list (slice_get s.threads t) ++ rest s else rest s

  -- the states of the thread after each of its steps in the run
  abbrev pub path : ℕ → List Label → State T → List T
  path t [] s = []
  path t (l ∷ ls) s = path_on t l (path t ls) (stepped m s l)

  -- each thread's entries in the first run are a prefix of those in the second
  abbrev pub BeginsLike : List Label → List Label → State T → Type 0
  BeginsLike first second s = (t : ℕ) → IsPrefixOf (entries_of t (trace m first s)) (entries_of t (trace m second s))

  -- where a thread has a further entry in the second run, its count at the end of the first isn't above that entry's
  abbrev pub StopsBefore : List Label → List Label → State T → State T → Type 0
  StopsBefore first second s end = (t : ℕ) (x : Noted) (rest : List Noted) → entries_of t (trace m first s) ++ x ∷ rest ≡ entries_of t (trace m second s) → count_of m end t ≤ x.entry.count
