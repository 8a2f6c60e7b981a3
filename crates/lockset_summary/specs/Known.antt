-- Rows of paths, one for each function, that grow to what each function knows.
use Rattle.std.specs.Prelude.{◌≡◌, ℕ, Bool, true, List, [], ◌∷◌, length, Option, Some, slice_get, slice_index_or}
use Rattle.flow_code.specs.declared.act.Act.TheVariants as act
use Rattle.flow_code.specs.declared.act.Instr.{Instr}
use Rattle.flow_code.specs.declared.code.Code.{Code}
use Rattle.flow_code.specs.declared.code.Function.{Function}
use Rattle.sync_objects.specs.declared.mode.Mode.TheVariants.{Read, Write}
use Rattle.facts.specs.declared.locks.Held.{Held}
use Rattle.facts.specs.declared.locks.LockPath.{LockPath}
use Rattle.facts.specs.declared.locks.Naming.TheVariants.{Named}
use Rattle.facts.specs.Locks.{has, held_as, are_ascending, actuals_at}
use Rattle.facts.specs.Paths.{substituted, names_cell}
use Rattle.facts.specs.Summaries.{lock_naming, Knows}
use Rattle.lockset_summary.specs.Rounds.{Changes, room}

-- the f-th row; no paths where there is none
abbrev pub row_of : List (List LockPath) → ℕ → List LockPath
row_of rows f = slice_index_or rows f []

-- the f-th row has the path
pub record In (rows : List (List LockPath)) (f : ℕ) (p : LockPath) : Type 0 where
  pub row : List LockPath
  pub stands : slice_get rows f ≡ Some row
  pub listed : has p row ≡ true

-- each row ascends, and its function knows its paths
pub record AreKnown (code : Code) (rows : List (List LockPath)) : Type 0 where
  pub long : length rows ≡ length code.functions
  pub ascending : (f : ℕ) (row : List LockPath) → slice_get rows f ≡ Some row → are_ascending row ≡ true
  pub known : (f : ℕ) (p : LockPath) → In rows f p → Knows code f p

-- the f-th row has a path of a called function as the f-th function sees it
abbrev pub IsSeen : ℕ → List (Option LockPath) → LockPath → List (List LockPath) → Type 0
IsSeen f actuals p rows = (q : LockPath) → substituted p actuals ≡ Some q → names_cell q ≡ true → In rows f q

-- the rows have what the k-th instruction of the f-th function tells
pub record IsTold (f k : ℕ) (fn : Function) (i : Instr) (rows : List (List LockPath)) : Type 0 where
  pub own : (q : LockPath) → lock_naming fn k i.act ≡ Named q → In rows f q
  pub called : (g : ℕ) (arguments : List ℕ) (into : Option ℕ) (p q : LockPath) → i.act ≡ act.Call g arguments into → In rows g p → substituted p (actuals_at fn k arguments) ≡ Some q → names_cell q ≡ true → In rows f q

-- of all instructions of the f-th function
abbrev pub IsAllTold : ℕ → Function → List (List LockPath) → Type 0
IsAllTold f fn rows = (k : ℕ) (i : Instr) → slice_get fn.instrs k ≡ Some i → IsTold f k fn i rows

-- of all functions: a round adds nothing more
abbrev pub AreAllTold : Code → List (List LockPath) → Type 0
AreAllTold code rows = (f : ℕ) (fn : Function) → slice_get code.functions f ≡ Some fn → IsAllTold f fn rows

-- each of these paths, held for reading and held for writing
abbrev pub in_both_ways : List LockPath → List Held
in_both_ways [] = []
in_both_ways (p ∷ ps) = held_as Read p ∷ held_as Write p ∷ in_both_ways ps

-- a part of a round
abbrev pub Adds : Code → (List (List LockPath) → Type 0) → List (List LockPath) → List (List LockPath) → Bool → Type 0
Adds code Met old new added = Changes (List (List LockPath)) (room LockPath) (AreKnown code) Met old new added
