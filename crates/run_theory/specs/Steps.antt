-- Steps of many threads over shared words, and runs of them, for any thread language.
use Rattle.std.specs.Prelude.{◌≡◌, ℕ, Bool, true, ℤ, pos, ◌==◌, if◌then◌else◌, List, [], ◌∷◌, ◌++◌, Option, Some, None, slice_get, slice_set, slice_index, option_and_then}
use Rattle.sync_objects.specs.declared.entry.Entry.{Entry}
use Rattle.sync_objects.specs.declared.entry.Noted.{Noted}
use Rattle.sync_objects.specs.declared.object.ObjId.{ObjId}
use Rattle.run_theory.specs.Labels.{Label, label_thread}

-- what an operation comes to at a word of its object: it isn't allowed there, or the word becomes another, the thread gets an
-- answer and goes on to a state
pub data Change (T : Type 0) : Type 0 where
  NotAllowed : Change T
  Becomes : (word : ℕ) → (answer : ℤ) → (thread : T) → Change T

-- what a label does with a thread in some state: nothing is allowed, a mark, a load whose word decides the state after it, a
-- store, or an operation that adds an entry and whose object's word decides the rest
pub data Effect (T : Type 0) : Type 0 where
  Refused : Effect T
  Marks : (thread : T) → Effect T
  Loads : (cell : ℕ) → (ℕ → T) → Effect T
  Stores : (cell : ℕ) → (word : ℕ) → (thread : T) → Effect T
  Operates : Entry → (ℕ → Change T) → Effect T

-- a thread language with its shared words: what each label does with a thread in some state, how many events a thread's state
-- has after it and whether it has ended, how many of the words are cells, which objects there are and at which place each
-- has its word, and how many operations an object had, by its word
pub record Machine (T : Type 0) : Type 0 where
  pub effect : Label → T → Effect T
  pub count : T → ℕ
  pub has_ended : T → Bool
  pub cells : ℕ
  pub has_object : ObjId → Bool
  pub place : ObjId → ℕ
  pub number : ℕ → ℕ

-- the words of all cells and objects, and the state of each thread
pub record State (T : Type 0) : Type 0 where
  pub words : List ℕ
  pub threads : List T

-- what a step leaves of the words, with the thread's state after it
pub data Outcome (T : Type 0) : Type 0 where
  Blocked : Outcome T
  Leaves : (words : List ℕ) → (thread : T) → Outcome T

-- a load: the word stays, and there has to be one
abbrev pub load_outcome : {T : Type 0} → List ℕ → (ℕ → T) → Option ℕ → Outcome T
load_outcome ws next None = Blocked
load_outcome ws next (Some w) = Leaves ws (next w)

-- what a change leaves, where the word has place i
abbrev pub changed_outcome : {T : Type 0} → List ℕ → ℕ → Change T → Outcome T
changed_outcome ws i NotAllowed = Blocked
changed_outcome ws i (Becomes w answer th) = Leaves (slice_set ws i w) th

-- a store or an operation: the word at the place changes, and there has to be one
abbrev pub change_outcome : {T : Type 0} → List ℕ → ℕ → (ℕ → Change T) → Option ℕ → Outcome T
change_outcome ws i change None = Blocked
change_outcome ws i change (Some w) = changed_outcome ws i (change w)

-- the entries of one thread, in their order
abbrev pub entries_of : ℕ → List Noted → List Noted
entries_of t [] = []
entries_of t (x ∷ xs) = if x.entry.thread == t then x ∷ entries_of t xs else entries_of t xs

module _ {T : Type 0} (m : Machine T) where
  -- what an effect does to the words
  abbrev pub outcome : List ℕ → Effect T → Outcome T
  outcome ws Refused = Blocked
  outcome ws (Marks th) = Leaves ws th
  outcome ws (Loads c next) = load_outcome ws next (slice_get ws c)
  outcome ws (Stores c w th) = change_outcome ws c (λ _. Becomes w (pos 0) th) (slice_get ws c)
  outcome ws (Operates e change) = change_outcome ws (m.place e.obj) change (slice_get ws (m.place e.obj))

  abbrev pub with_thread : List T → ℕ → Outcome T → Option (State T)
  with_thread ths t Blocked = None
  with_thread ths t (Leaves ws th) = Some (record { words = ws; threads = slice_set ths t th })

  abbrev pub step_of_thread : State T → Label → Option T → Option (State T)
  step_of_thread s l None = None
  step_of_thread s l (Some th) = with_thread s.threads (label_thread l) (outcome s.words (m.effect l th))

  -- the state after the label, if it is allowed in this one: at most one word and one thread's state change
  abbrev pub stepped : State T → Label → Option (State T)
  stepped s l = step_of_thread s l (slice_get s.threads (label_thread l))

  -- how many operations the object had before
  abbrev pub number_at : List ℕ → ObjId → ℕ
  number_at ws o = m.number (slice_index ws (m.place o))

  -- the entry of an operation, and none of the rest
  abbrev pub effect_entry : List ℕ → Effect T → List Noted
  effect_entry ws Refused = []
  effect_entry ws (Marks th) = []
  effect_entry ws (Loads c next) = []
  effect_entry ws (Stores c w th) = []
  effect_entry ws (Operates e change) = record { entry = e; number = number_at ws e.obj } ∷ []

  abbrev pub entry_of_thread : List ℕ → Label → Option T → List Noted
  entry_of_thread ws l None = []
  entry_of_thread ws l (Some th) = effect_entry ws (m.effect l th)

  -- the entry that the label adds where it is allowed, with its number, if it is an operation
  abbrev pub added : State T → Label → List Noted
  added s l = entry_of_thread s.words l (slice_get s.threads (label_thread l))

  -- the last state of a run, which is a list of labels, each allowed in the state that those before it lead to
  abbrev pub run : List Label → State T → Option (State T)
  run [] s = Some s
  run (l ∷ ls) s = option_and_then (run ls) (stepped s l)

  abbrev pub trace_on : (State T → List Noted) → Option (State T) → List Noted
  trace_on rest None = []
  trace_on rest (Some s) = rest s

  -- the entries that a run adds, in its order
  abbrev pub trace : List Label → State T → List Noted
  trace [] s = []
  trace (l ∷ ls) s = added s l ++ trace_on (trace ls) (stepped s l)

  -- a run leads from the one state to the other
  abbrev pub Reaches : State T → State T → Type 0
  Reaches s s1 = (ls : List Label) × (run ls s ≡ Some s1)

  abbrev pub count_or_zero : Option T → ℕ
  count_or_zero None = 0
  count_or_zero (Some th) = m.count th

  -- how many events the thread has after it
  abbrev pub count_of : State T → ℕ → ℕ
  count_of s t = count_or_zero (slice_get s.threads t)

  -- all threads have ended
  abbrev pub AllEnded : State T → Type 0
  AllEnded s = (t : ℕ) (th : T) → slice_get s.threads t ≡ Some th → m.has_ended th ≡ true
