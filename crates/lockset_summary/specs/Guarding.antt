-- Rows of guarded accesses, one for each function, that grow to the accesses that each function and those it calls make.
use Rattle.std.specs.Prelude.{◌≡◌, ◌⊎◌, ℕ, ◌+◌, ◌^◌, ◌<◌, ◌≤◌, Bool, true, false, List, length, [], Option, Some, None, slice_get, slice_index_or}
use Rattle.std.specs.List.{Contains}
use Rattle.flow_code.specs.declared.act.Act.TheVariants as act
use Rattle.flow_code.specs.declared.act.Instr.{Instr}
use Rattle.flow_code.specs.declared.code.Code.{Code}
use Rattle.flow_code.specs.declared.code.Function.{Function}
use Rattle.facts.specs.Accesses.{Access, access_of}
use Rattle.facts.specs.declared.locks.Guarded.{Guarded}
use Rattle.facts.specs.declared.locks.RelLocks.{RelLocks}
use Rattle.facts.specs.Locks.{actuals_at, Points}
use Rattle.facts.specs.Summaries.{StandsAt, guarded_by, seen_by, Guards, guarded_less, guarded_ascend}
use Rattle.facts.specs.declared.locks.LockPath.{LockPath}
use Rattle.lockset_summary.specs.Exits.{AreLocksKnown}
use Rattle.lockset_summary.specs.Rounds.{Changes, room}

-- the access may stand at the i-th place: those before it are less, and the others greater
pub record IsPlace (row : List Guarded) (a : Guarded) (i : ℕ) : Type 0 where
  pub within : i ≤ length row
  pub below : (j : ℕ) (b : Guarded) → j < i → slice_get row j ≡ Some b → guarded_less b a ≡ true
  pub above : (j : ℕ) (b : Guarded) → i ≤ j → slice_get row j ≡ Some b → guarded_less a b ≡ true

-- the new row has what the old one had and the access, which was added where it wasn't there
pub record IsPut (old : List Guarded) (a : Guarded) (new : List Guarded) (added : Bool) : Type 0 where
  pub ascends : guarded_ascend new ≡ true
  pub listed : Contains new a
  pub from : (b : Guarded) → Contains new b → Contains old b ⊎ (b ≡ a)
  pub same : added ≡ false → new ≡ old
  pub longer : added ≡ true → (length new ≡ length old + 1) × (length new < 2 ^ 64)

-- the f-th row has the access
pub record InRow (rows : List (List Guarded)) (f : ℕ) (a : Guarded) : Type 0 where
  pub row : List Guarded
  pub stands : slice_get rows f ≡ Some row
  pub listed : Contains row a

-- each row ascends, and its function or one that it calls makes its accesses
pub record AreMade (code : Code) (xs : List Points) (rows : List (List Guarded)) : Type 0 where
  pub long : length rows ≡ length code.functions
  pub ascending : (f : ℕ) (row : List Guarded) → slice_get rows f ≡ Some row → guarded_ascend row ≡ true
  pub made : (f : ℕ) (a : Guarded) → InRow rows f a → Guards code xs f a

-- for each instruction of a function there are locks before it, whose paths the function knows
pub record AreReady (code : Code) (xs : List Points) : Type 0 where
  pub long : length xs ≡ length code.functions
  pub points : (f : ℕ) (fn : Function) (x : Points) → slice_get code.functions f ≡ Some fn → slice_get xs f ≡ Some x → length x.before ≡ length fn.instrs
  pub known : (f k : ℕ) (x : Points) (l : RelLocks) → slice_get xs f ≡ Some x → slice_get x.before k ≡ Some l → AreLocksKnown code f l

-- the f-th row; no accesses where there is none
abbrev pub accesses_of : List (List Guarded) → ℕ → List Guarded
accesses_of rows f = slice_index_or rows f []

-- whether the access is a store, where there is one
abbrev pub store_of : Option Access → Option Bool
store_of None = None
store_of (Some a) = Some a.store

-- the f-th row has an access of a called function as the f-th function sees it
abbrev pub IsSeenAccess : ℕ → List (Option LockPath) → RelLocks → Guarded → List (List Guarded) → Type 0
IsSeenAccess f actuals l b rows = InRow rows f (seen_by actuals l b)

-- the rows have the accesses of the k-th instruction of the f-th function, which holds the locks l there
pub record IsMet (f k : ℕ) (fn : Function) (i : Instr) (l : RelLocks) (rows : List (List Guarded)) : Type 0 where
  pub own : (a : Access) → access_of i.act ≡ Some a → InRow rows f (guarded_by f k a.store l)
  pub called : (g : ℕ) (arguments : List ℕ) (into : Option ℕ) (b : Guarded) → i.act ≡ act.Call g arguments into → InRow rows g b → InRow rows f (seen_by (actuals_at fn k arguments) l b)

-- the same at each place of the code, with the locks found before it
abbrev pub IsMetAt : Code → List Points → (f k : ℕ) → List (List Guarded) → Type 0
IsMetAt code xs f k rows = (fn : Function) (i : Instr) (x : Points) (l : RelLocks) → StandsAt code f k fn i → slice_get xs f ≡ Some x → slice_get x.before k ≡ Some l → IsMet f k fn i l rows

-- at all instructions of the f-th function
abbrev pub AreAllMetAt : Code → List Points → ℕ → List (List Guarded) → Type 0
AreAllMetAt code xs f rows = (k : ℕ) → IsMetAt code xs f k rows

-- at all instructions of all functions: a round adds nothing more
abbrev pub AreAllMet : Code → List Points → List (List Guarded) → Type 0
AreAllMet code xs rows = (f : ℕ) → AreAllMetAt code xs f rows

-- a part of a round
abbrev pub Makes : Code → List Points → (List (List Guarded) → Type 0) → List (List Guarded) → List (List Guarded) → Bool → Type 0
Makes code xs Met old new added = Changes (List (List Guarded)) (room Guarded) (AreMade code xs) Met old new added
