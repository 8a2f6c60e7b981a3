-- What a machine's labels keep to, which accesses conflict, and states in which two threads race.
use Rattle.std.specs.Prelude.{◌≡◌, ◌≢◌, ℕ, ◌<◌, ◌≤◌, suc, ℤ, true, false, Some, slice_get}
use Rattle.sync_objects.specs.declared.entry.Entry.{Entry}
use Rattle.sync_objects.specs.declared.object.ObjId.{ObjId}
use Rattle.run_theory.specs.Labels.{Label, Go, label_thread, label_of}
use Rattle.run_theory.specs.Steps.{Change, Becomes, Effect, Refused, Marks, Loads, Stores, Operates, Machine, State, Reaches}

-- an access of a cell, or none
pub data Access : Type 0 where
  NoAccess : Access
  LoadOf : (cell : ℕ) → Access
  StoreOf : (cell : ℕ) → Access

-- two accesses conflict: they are of one cell, and one of them is a store
abbrev pub Conflict : Access → Access → Type 0
Conflict (LoadOf c) (StoreOf d) = c ≡ d
Conflict (StoreOf c) (LoadOf d) = c ≡ d
Conflict (StoreOf c) (StoreOf d) = c ≡ d
Conflict _ _ = ⊥

-- operations and marks touch no cell, so they race with nothing
abbrev pub access_of : {T : Type 0} → Effect T → Access
access_of Refused = NoAccess
access_of (Marks th) = NoAccess
access_of (Loads c next) = LoadOf c
access_of (Stores c w th) = StoreOf c
access_of (Operates e change) = NoAccess

module _ {T : Type 0} (m : Machine T) where
  -- a load, a store or a mark is one event more, and its thread goes on
  pub record GoesOn (before after : T) : Type 0 where
    pub counted : m.count after ≡ suc (m.count before)
    pub lives : m.has_ended after ≡ false

  -- an operation draws the next number of its object, and lowers no count
  pub record Draws (before after : T) (old new : ℕ) : Type 0 where
    pub numbered : m.number new ≡ suc (m.number old)
    pub counted : m.count before ≤ m.count after

  -- an operation of a thread adds the entry that goes with the label, with the thread's count, at an object of the machine
  pub record IsOperation (l : Label) (th : T) (e : Entry) (change : ℕ → Change T) : Type 0 where
    pub labelled : label_of e ≡ l
    pub counted : e.count ≡ m.count th
    pub object : m.has_object e.obj ≡ true
    pub draws : (old new : ℕ) (answer : ℤ) (after : T) → change old ≡ Becomes new answer after → Draws th after old new

  -- what a label may do with a thread in this state: accesses and marks are a thread's own steps, and an access is of a cell
  abbrev pub IsLawfulEffect : Label → T → Effect T → Type 0
  IsLawfulEffect l th Refused = Unit {0}
  IsLawfulEffect l th (Marks after) = (l ≡ Go (label_thread l)) × GoesOn th after
  IsLawfulEffect l th (Loads c next) = (l ≡ Go (label_thread l)) × (c < m.cells) × ((w : ℕ) → GoesOn th (next w))
  IsLawfulEffect l th (Stores c w after) = (l ≡ Go (label_thread l)) × (c < m.cells) × GoesOn th after
  IsLawfulEffect l th (Operates e change) = IsOperation l th e change

  -- each label keeps to its law with each thread, and the words of objects stand after the cells, each at a place of its own
  pub record IsLawful : Type 0 where
    pub effects : (l : Label) (th : T) → IsLawfulEffect l th (m.effect l th)
    pub following : (o : ObjId) → m.has_object o ≡ true → m.cells ≤ m.place o
    pub apart : (o p : ObjId) → m.has_object o ≡ true → m.has_object p ≡ true → m.place o ≡ m.place p → o ≡ p

  -- two threads race here: their next actions are conflicting accesses
  pub record IsRaceState (s : State T) : Type 0 where
    pub first : ℕ
    pub second : ℕ
    pub differ : first ≢ second
    pub first_state : T
    pub second_state : T
    pub first_is : slice_get s.threads first ≡ Some first_state
    pub second_is : slice_get s.threads second ≡ Some second_state
    pub conflict : Conflict (access_of (m.effect (Go first) first_state)) (access_of (m.effect (Go second) second_state))

  -- no state that can be reached from this one is a race state
  abbrev pub IsRaceFree : State T → Type 0
  IsRaceFree s = (s1 : State T) → Reaches m s s1 → IsRaceState s1 → ⊥
