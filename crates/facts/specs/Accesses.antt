-- The accesses of a code's instructions as analyses see them. `pthread_create` stores the number of its thread, and
-- `pthread_join` what the thread gave; the cells by which threads hand over arguments and results are none of the program's.
use Rattle.std.specs.Prelude.{ℕ, Bool, true, false, List, [], ◌∷◌, Option, Some, None}
use Rattle.flow_code.specs.declared.act.Act.{Act}
use Rattle.flow_code.specs.declared.act.Act.TheVariants as act
use Rattle.word_semantics.specs.declared.library_call.LibraryCall.{LibraryCall}
use Rattle.word_semantics.specs.declared.library_call.LibraryCall.TheVariants as call

-- an access: whether it stores, and the register that points to its cell
pub record Access : Type 0 where
  pub store : Bool
  pub through : ℕ

-- a store to the cell to which register r points
abbrev pub stores_through : ℕ → Option Access
stores_through r = Some (record { store = true; through = r })

-- the cell of the program that a library call stores to, if it does
abbrev pub library_access : LibraryCall → List ℕ → Option Access
library_access (call.Create g) (thread ∷ argument ∷ []) = stores_through thread
library_access call.Join (thread ∷ into ∷ []) = stores_through into
library_access _ _ = None

-- the load or store that an instruction makes, if it makes one
abbrev pub access_of : Act → Option Access
access_of (act.LoadCell into through) = Some (record { store = false; through = through })
access_of (act.StoreCell through from) = stores_through through
access_of (act.Library c arguments into) = library_access c arguments
access_of _ = None

-- the register through which an access is made
abbrev pub through_of : Option Access → Option ℕ
through_of None = None
through_of (Some a) = Some a.through
