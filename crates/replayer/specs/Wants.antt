-- What each thread has to make of a log: its entries with their numbers, and where they stand in it.
use Rattle.std.specs.Prelude.{◌≡◌, ℕ, ◌+◌, ◌==◌, if◌then◌else◌, List, [], ◌∷◌, map}
use Rattle.std.proofs.Common.{refl}
use Rattle.sync_objects.specs.declared.entry.Entry.{Entry}
use Rattle.sync_objects.specs.declared.entry.Noted.{Noted}
use Rattle.sync_objects.specs.declared.object.ObjId.TheVariants.{Mutex}
use Rattle.sync_objects.specs.declared.operation.OpName.TheVariants.{Lock, Unlock}
use Rattle.replay_theory.specs.Numbered.{numbered}
use Rattle.replayer.specs.declared.wanted.Wanted.{Wanted}

-- the entries of a thread among these, of which the first one stands at this position
abbrev pub wanted_from : (t position : ℕ) → List Noted → List Wanted
wanted_from t p [] = []
wanted_from t p (x ∷ xs) = if x.entry.thread == t then record { noted = x; position = p } ∷ wanted_from t (p + 1) xs else wanted_from t (p + 1) xs

-- those of a log
abbrev pub wanted_of : (t : ℕ) → List Entry → List Wanted
wanted_of t es = wanted_from t 0 (numbered es)

-- without their positions
abbrev pub noted_in : List Wanted → List Noted
noted_in ws = map (λ (w : Wanted). w.noted) ws

-- of a lock, an unlock by another thread and a lock of one mutex, what the first thread has to make
row_first_and_third : wanted_of 0 (record { thread = 0; count = 1; op = Lock; obj = Mutex 5 } ∷ record { thread = 1; count = 3; op = Unlock; obj = Mutex 5 } ∷ record { thread = 0; count = 4; op = Lock; obj = Mutex 5 } ∷ [])
    ≡ record { noted = record { entry = record { thread = 0; count = 1; op = Lock; obj = Mutex 5 }; number = 0 }; position = 0 } ∷ record { noted = record { entry = record { thread = 0; count = 4; op = Lock; obj = Mutex 5 }; number = 2 }; position = 2 } ∷ []
row_first_and_third = refl
