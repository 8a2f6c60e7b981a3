-- Worked rows of the definitions of rounds.
use Rattle.std.proofs.Common.{◌≡◌, ◌+◌, ◌^◌, true, false, [], ◌∷◌, None, refl}
use Rattle.flow_code.specs.declared.act.Act.TheVariants as act
use Rattle.word_semantics.specs.declared.library_call.LibraryCall.TheVariants as call
use Rattle.sync_objects.specs.declared.mode.Mode.TheVariants.{Read, Write}
use Rattle.facts.specs.declared.locks.LockPath.TheVariants.{Cell, Formal}
use Rattle.facts.specs.declared.locks.Minus.TheVariants.{All, Listed}
use Rattle.facts.specs.declared.locks.Naming.TheVariants.{Unknown, Named}
use Rattle.facts.specs.Locks.{held_as, nothing, topmost}
use Rattle.lockset_flow.specs.Flow.{all_sized}
use Rattle.lockset_flow.specs.Rounds.{after_by, library_by, meet_of, grows, weight, weights, starts}

-- both hold the lock in cell 2 for reading, and one of them may have given that in cell 5 back
meet_row : meet_of (record { plus = held_as Read (Cell 1) ∷ held_as Read (Cell 2) ∷ held_as Write (Cell 2) ∷ []; minus = Listed [] }) (record { plus = held_as Read (Cell 2) ∷ []; minus = Listed (Cell 5 ∷ []) }) ≡ record { plus = held_as Read (Cell 2) ∷ []; minus = Listed (Cell 5 ∷ []) }
meet_row = refl

grows_row : grows (Listed (Cell 1 ∷ [])) All ≡ true
grows_row = refl

weight_row : weight (record { plus = held_as Read (Cell 1) ∷ held_as Write (Cell 1) ∷ []; minus = All }) ≡ 2
weight_row = refl

weights_row : weights (record { plus = held_as Read (Cell 1) ∷ []; minus = All } ∷ nothing ∷ []) ≡ 1 + (1 + 2 ^ 64)
weights_row = refl

starts_row : starts (held_as Read (Cell 1) ∷ []) 3 ≡ nothing ∷ topmost (held_as Read (Cell 1) ∷ []) ∷ topmost (held_as Read (Cell 1) ∷ []) ∷ []
starts_row = refl

sized_row : all_sized (topmost (held_as Write (Cell 2147483648) ∷ []) ∷ []) ≡ false
sized_row = refl

-- a wait gives its mutex back and takes it again
wait_row : library_by call.CondWait (Unknown ∷ Named (Formal 0 1) ∷ []) nothing ≡ record { plus = held_as Read (Formal 0 1) ∷ held_as Write (Formal 0 1) ∷ []; minus = Listed (Formal 0 1 ∷ []) }
wait_row = refl

-- a read-write lock is held for reading alone, and given back
read_row : library_by call.RwRdLock (Named (Cell 3) ∷ []) nothing ≡ record { plus = held_as Read (Cell 3) ∷ []; minus = Listed [] }
read_row = refl

unlock_row : library_by call.RwUnlock (Named (Cell 3) ∷ []) (record { plus = held_as Read (Cell 3) ∷ []; minus = Listed [] }) ≡ record { plus = []; minus = Listed (Cell 3 ∷ []) }
unlock_row = refl

-- a called function whose exit holds the lock that its formal points to
call_row : after_by (record { plus = held_as Read (Formal 0 0) ∷ []; minus = Listed [] } ∷ []) (Named (Cell 7) ∷ []) (act.Call 0 (4 ∷ []) None) nothing ≡ record { plus = held_as Read (Cell 7) ∷ []; minus = Listed [] }
call_row = refl
