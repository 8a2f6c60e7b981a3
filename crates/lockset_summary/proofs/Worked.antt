-- Worked rows of this crate's definitions.
use Rattle.std.proofs.Common.{◌≡◌, refl, false, [], ◌∷◌, Some}
use Rattle.word_semantics.specs.declared.library_call.LibraryCall.TheVariants as call
use Rattle.facts.specs.declared.locks.LockPath.{LockPath}
use Rattle.facts.specs.declared.locks.LockPath.TheVariants.{Cell}
use Rattle.facts.specs.declared.locks.Minus.TheVariants.{All, Listed}
use Rattle.facts.specs.declared.locks.Naming.TheVariants.{Unknown, Named}
use Rattle.facts.specs.Locks.{held_as}
use Rattle.sync_objects.specs.declared.mode.Mode.TheVariants.{Read, Write}
use Rattle.lockset_summary.specs.Exits.{weights, all_same, topmost_exits}
use Rattle.lockset_summary.specs.Guarding.{store_of}
use Rattle.lockset_summary.specs.Known.{row_of, in_both_ways}
use Rattle.lockset_summary.specs.Names.{lock_name}
use Rattle.lockset_summary.specs.Rounds.{room}

-- a wait speaks of its second argument, a lock of its only one
wait_row : lock_name call.CondWait (Unknown ∷ Named (Cell 3) ∷ []) ≡ Named (Cell 3)
wait_row = refl

lock_row : lock_name call.MutexLock (Unknown ∷ Named (Cell 3) ∷ []) ≡ Unknown
lock_row = refl

row_row : row_of ((Cell 1 ∷ []) ∷ (Cell 2 ∷ []) ∷ []) 1 ≡ Cell 2 ∷ []
row_row = refl

past_row : row_of ((Cell 1 ∷ []) ∷ []) 1 ≡ []
past_row = refl

rwlock_row : lock_name call.RwRdLock (Named (Cell 3) ∷ []) ≡ Named (Cell 3)
rwlock_row = refl

-- one lock held counts 1, none given back 1 + 2^64, any lock 0
weights_row : weights (record { plus = held_as Write (Cell 1) ∷ []; minus = Listed [] } ∷ record { plus = []; minus = All } ∷ []) ≡ 18446744073709551618
weights_row = refl

room_row : room LockPath ((Cell 1 ∷ []) ∷ []) ≡ 18446744073709551615
room_row = refl

same_row : all_same (record { plus = []; minus = All } ∷ []) (record { plus = []; minus = Listed [] } ∷ []) ≡ false
same_row = refl

topmost_row : topmost_exits ((held_as Read (Cell 1) ∷ []) ∷ []) ≡ record { plus = held_as Read (Cell 1) ∷ []; minus = Listed [] } ∷ []
topmost_row = refl

both_row : in_both_ways (Cell 1 ∷ Cell 2 ∷ []) ≡ held_as Read (Cell 1) ∷ held_as Write (Cell 1) ∷ held_as Read (Cell 2) ∷ held_as Write (Cell 2) ∷ []
both_row = refl

store_row : store_of (Some (record { store = false; through = 4 })) ≡ Some false
store_row = refl
