-- What some logs decide by themselves.
use Rattle.std.proofs.Common.{◌≡◌, ℕ, pos, [], ◌∷◌, refl}
use Rattle.sync_objects.specs.Advance.{Advances, advanced}
use Rattle.sync_objects.specs.Start.{start_word, packed_start}
use Rattle.sync_objects.specs.Words.{word_of}
use Rattle.sync_objects.specs.declared.entry.Entry.{Entry}
use Rattle.sync_objects.specs.declared.object.ObjId.{ObjId}
use Rattle.sync_objects.specs.declared.object.ObjId.TheVariants as object
use Rattle.sync_objects.specs.declared.operation.OpName.{OpName}
use Rattle.sync_objects.specs.declared.operation.OpName.TheVariants as name
use Rattle.log_walks.specs.Known.{known_advance, known_word, IsNeverAllowed}

-- an entry of a thread; counts don't matter here
abbrev by : ℕ → OpName → ObjId → Entry
by t o obj = record { thread = t; count = 1; op = o; obj = obj }

-- a mutex that thread 0 holds: thread 1 can't lock it, but may try to
row_held : IsNeverAllowed 2 (by 0 name.Lock (object.Mutex 5) ∷ []) (by 1 name.Lock (object.Mutex 5))
unfolding advanced packed_start
row_held = λ fits. refl

row_tried : known_advance 2 (by 1 name.TryLock (object.Mutex 5)) (known_word 2 (object.Mutex 5) (by 0 name.Lock (object.Mutex 5) ∷ []) (start_word (object.Mutex 5))) ≡ Advances (word_of 2 1) (pos 16)
unfolding advanced packed_start
row_tried = refl

-- once thread 0 has unlocked it, it can; what is done to another mutex between doesn't matter
row_unlocked : known_word 2 (object.Mutex 5) (by 0 name.Lock (object.Mutex 5) ∷ by 1 name.Lock (object.Mutex 6) ∷ by 0 name.Unlock (object.Mutex 5) ∷ by 1 name.Lock (object.Mutex 5) ∷ []) (start_word (object.Mutex 5)) ≡ word_of 3 2
unfolding advanced packed_start
row_unlocked = refl

-- a stripe is given by the thread that holds it alone
row_given : IsNeverAllowed 2 (by 0 name.Take (object.Weak 3 1) ∷ []) (by 1 name.Give (object.Weak 3 1))
unfolding advanced packed_start
row_given = λ fits. refl

-- a thread begins in a slot in which a function was started, whichever it is, and once
row_begun : known_word 2 (object.Slot 1) (by 0 name.Start (object.Slot 1) ∷ by 1 name.Begin (object.Slot 1) ∷ []) (start_word (object.Slot 1)) ≡ word_of 2 2
unfolding advanced packed_start
row_begun = refl

row_begun_twice : IsNeverAllowed 2 (by 0 name.Start (object.Slot 1) ∷ by 1 name.Begin (object.Slot 1) ∷ []) (by 1 name.Begin (object.Slot 1))
unfolding advanced packed_start
row_begun_twice = λ fits. refl

-- of two slots the second thread is drawn, and no third one
row_drawn : known_word 2 object.Threads (by 0 name.Draw object.Threads ∷ by 0 name.Draw object.Threads ∷ []) (start_word object.Threads) ≡ word_of 2 66
unfolding advanced packed_start
row_drawn = refl

-- where one thread is live, one leaves
row_left : IsNeverAllowed 2 (by 0 name.Leave object.Threads ∷ []) (by 1 name.Leave object.Threads)
unfolding advanced packed_start
row_left = λ fits. refl

-- the whole program ends once
row_halted : IsNeverAllowed 2 (by 0 name.HaltAll object.Halt ∷ []) (by 1 name.TrapHere object.Halt)
unfolding advanced packed_start
row_halted = λ fits. refl

-- whether a thread may wake isn't told by names
row_woken : known_advance 2 (by 1 name.CondWake (object.Cond 5)) (known_word 2 (object.Cond 5) [] (start_word (object.Cond 5))) ≡ Advances 0 (pos 0)
unfolding packed_start
row_woken = refl

-- no slot is locked
row_no_mutex : IsNeverAllowed 2 [] (by 0 name.Lock (object.Slot 1))
row_no_mutex = λ fits. absurd cc
