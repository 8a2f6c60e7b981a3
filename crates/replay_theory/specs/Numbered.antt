-- The entries of a log with their numbers.
use Rattle.std.specs.Prelude.{◌≡◌, List, [], ◌∷◌, ◌++◌}
use Rattle.std.proofs.Common.{refl}
use Rattle.sync_objects.specs.declared.entry.Entry.{Entry}
use Rattle.sync_objects.specs.declared.entry.Noted.{Noted}
use Rattle.sync_objects.specs.declared.object.ObjId.TheVariants.{Mutex}
use Rattle.sync_objects.specs.declared.operation.OpName.TheVariants.{Lock, Unlock}
use Rattle.run_theory.specs.Merge.{entries_at}

-- an entry after these has the number of those of its object
abbrev pub with_number : List Noted → Entry → Noted
with_number before e = record { entry = e; number = entries_at e.obj before }

-- the last entries of a log, after these
abbrev pub numbered_after : List Noted → List Entry → List Noted
numbered_after before [] = []
numbered_after before (e ∷ es) = with_number before e ∷ numbered_after (before ++ with_number before e ∷ []) es

-- all entries of a log
abbrev pub numbered : List Entry → List Noted
numbered es = numbered_after [] es

-- two locks of one mutex with an unlock of another one between them
row_two_mutexes : numbered (record { thread = 0; count = 1; op = Lock; obj = Mutex 5 } ∷ record { thread = 1; count = 3; op = Unlock; obj = Mutex 6 } ∷ record { thread = 1; count = 4; op = Lock; obj = Mutex 5 } ∷ [])
    ≡ record { entry = record { thread = 0; count = 1; op = Lock; obj = Mutex 5 }; number = 0 } ∷ record { entry = record { thread = 1; count = 3; op = Unlock; obj = Mutex 6 }; number = 0 } ∷ record { entry = record { thread = 1; count = 4; op = Lock; obj = Mutex 5 }; number = 1 } ∷ []
row_two_mutexes = refl
