-- Runs that follow a log: each thread makes its entries of the log, one after another and with the numbers that they have
-- there, up to some point. Then the log's walk goes as far as the first entry at which a thread has departed.
use Rattle.std.specs.Prelude.{◌≡◌, ◌≢◌, ℕ, ◌<◌, ◌≤◌, true, List, [], ◌∷◌, ◌++◌, Some, slice_get, ⊤}
use Rattle.sync_objects.specs.declared.entry.Entry.{Entry}
use Rattle.sync_objects.specs.declared.entry.Noted.{Noted}
use Rattle.sync_objects.specs.declared.object.ObjId.{ObjId}
use Rattle.run_theory.specs.Labels.{Label, Go, label_of}
use Rattle.run_theory.specs.Paths.{IsPrefixOf}
use Rattle.run_theory.specs.Steps.{Change, NotAllowed, Becomes, Effect, Refused, Operates, Machine, State, trace, entries_of, number_at}
use Rattle.replay_theory.specs.Numbered.{numbered}

-- not a load, a store or a mark
abbrev pub IsNoStep : {T : Type 0} → Effect T → Type 0
IsNoStep Refused = ⊤
IsNoStep (Operates e change) = ⊤
IsNoStep _ = ⊥

module _ {T : Type 0} (m : Machine T) where
  -- each thread has made a front part of its entries of the log, and no others
  abbrev pub Follows : List Entry → List Label → State T → Type 0
  Follows es labels start = (t : ℕ) → IsPrefixOf (entries_of t (trace m labels start)) (entries_of t (numbered es))

  -- each thread has made all that it has of these first entries of the log
  abbrev pub HasMade : List Entry → List Label → State T → Type 0
  HasMade es labels start = (t : ℕ) → IsPrefixOf (entries_of t (numbered es)) (entries_of t (trace m labels start))

  -- no object has had an operation
  abbrev pub IsFresh : State T → Type 0
  IsFresh s = (o : ObjId) → m.has_object o ≡ true → number_at m s.words o ≡ 0

  -- a thread that has ended does nothing more
  abbrev pub EndedRest : Type 0
  EndedRest = (l : Label) (th : T) → m.has_ended th ≡ true → m.effect l th ≡ Refused

  -- an operation leaves at least this count
  abbrev pub LeavesAtLeast : (Entry → ℕ) → Type 0
  LeavesAtLeast floor = (l : Label) (th after : T) (e : Entry) (change : ℕ → Change T) (old new : ℕ) (answer : Rattle.std.specs.Prelude.ℤ) → m.effect l th ≡ Operates e change → change old ≡ Becomes new answer after → floor e ≤ m.count after

  -- why its thread departs from the entry x, which is its next one, where these are its earlier entries, the words are these
  -- and the thread is in this state
  pub data Departs (floor : Entry → ℕ) (made : List Noted) (words : List ℕ) (th : T) (x : Noted) : Type 0 where
    -- its last entry has left a greater count than that of x
    Above : (before : List Noted) (y : Noted) → made ≡ before ++ y ∷ [] → x.entry.count < floor y.entry → Departs floor made words th x
    -- before the count of x it makes an operation, or nothing
    Early : m.count th < x.entry.count → IsNoStep (m.effect (Go x.entry.thread) th) → Departs floor made words th x
    -- at the count of x it makes something else
    Other : m.count th ≡ x.entry.count → ((change : ℕ → Change T) → m.effect (label_of x.entry) th ≢ Operates x.entry change) → Departs floor made words th x
    -- a word that its object has had doesn't allow x, and had as many operations after it as the log has before x. The object's
    -- word has had no fewer since then, and is the same if it has had as many
    Barred : m.count th ≡ x.entry.count → (change : ℕ → Change T) (seen now : ℕ) → m.effect (label_of x.entry) th ≡ Operates x.entry change → change seen ≡ NotAllowed → m.number seen ≡ x.number → slice_get words (m.place x.entry.obj) ≡ Some now → m.number seen ≤ m.number now → (m.number seen ≡ m.number now → seen ≡ now) → Departs floor made words th x
