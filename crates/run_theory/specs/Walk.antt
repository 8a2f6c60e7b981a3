-- The walk by a list of entries, where one thread goes at a time, and the runs that it stands for.
use Rattle.std.specs.Prelude.{◌≡◌, ℕ, zero, suc, ◌-◌, if◌then◌else◌, List, [], ◌∷◌, Option, Some, None, option_and_then}
use Rattle.sync_objects.specs.declared.entry.Entry.{Entry}
use Rattle.sync_objects.specs.declared.entry.Noted.{Noted}
use Rattle.run_theory.specs.Labels.{Label, Go, label_thread, label_of}
use Rattle.run_theory.specs.Same.{same_entry}
use Rattle.run_theory.specs.Steps.{Machine, State, stepped, added, run, trace, count_of}

-- the answer, where nothing is added
abbrev pub if_nothing : {A : Type 0} → List Noted → Option A → Option A
if_nothing [] o = o
if_nothing (x ∷ xs) o = None

-- the answer, where this entry and no other is added
abbrev pub if_only : {A : Type 0} → Entry → List Noted → Option A → Option A
if_only e [] o = None
if_only e (x ∷ []) o = if same_entry x.entry e then o else None
if_only e (x ∷ y ∷ xs) o = None

-- the labels are all steps of the thread
abbrev pub AllOf : ℕ → List Label → Type 0
AllOf t [] = Unit {0}
AllOf t (l ∷ ls) = (label_thread l ≡ t) × AllOf t ls

module _ {T : Type 0} (m : Machine T) where
  -- the state after so many own steps of the thread, each a load, a store or a mark
  abbrev pub alone : ℕ → ℕ → State T → Option (State T)
  alone zero t s = Some s
  alone (suc n) t s = if_nothing (added m s (Go t)) (option_and_then (alone n t) (stepped m s (Go t)))

  -- the state after the one label that adds the entry
  abbrev pub made : Entry → State T → Option (State T)
  made e s = if_only e (added m s (label_of e)) (stepped m s (label_of e))

  -- the state after the part of one entry: its thread goes alone up to the entry's count, and the entry is made
  abbrev pub part : Entry → State T → Option (State T)
  part e s = option_and_then (made e) (alone (e.count - count_of m s e.thread) e.thread s)

  -- the state after the parts of all entries, if each of them is allowed
  abbrev pub walk : List Entry → State T → Option (State T)
  walk [] s = Some s
  walk (e ∷ es) s = option_and_then (walk es) (part e s)

  -- a run for one entry: loads, stores and marks of its thread, and then one label that adds the entry
  pub record IsPart (e : Entry) (s s1 : State T) : Type 0 where
    pub before : List Label
    pub own : AllOf e.thread before
    pub nothing : trace m before s ≡ []
    pub between : State T
    pub leads : run m before s ≡ Some between
    pub last : Label
    pub number : ℕ
    pub adds : added m between last ≡ record { entry = e; number = number } ∷ []
    pub ends : stepped m between last ≡ Some s1

  -- a run for the entries, with one part for each of them
  abbrev pub IsSoloRun : List Entry → State T → State T → Type 0
  IsSoloRun [] s s1 = s ≡ s1
  IsSoloRun (e ∷ es) s s1 = (between : State T) × IsPart e s between × IsSoloRun es between s1
