-- Rows: who holds a mutex after operations on it, who holds a read-write lock, and which stripes a thread holds and owes.
use Rattle.std.proofs.Common.{◌≡◌, ◌∷◌, [], List, Some, pos, negsuc, true, false, refl, arith}
use Rattle.sync_objects.specs.States.{Free, HeldBy, RwState, Shared}
use Rattle.sync_objects.specs.declared.mode.Mode.TheVariants.{Read, Write}
use Rattle.sync_objects.specs.declared.entry.Noted.{Noted}
use Rattle.sync_objects.specs.declared.object.ObjId.TheVariants as object
use Rattle.sync_objects.specs.declared.operation.OpName.TheVariants as name
use Rattle.flow_code.specs.declared.thread.Stripe.{Stripe}
use Rattle.flow_code.specs.Next.{holds}
use Rattle.run_theory.specs.Ordered.{Did, Loaded}
use Rattle.lock_ownership.specs.Holders.{held_after, held_after_event, holds_as, IsExclusive}
use Rattle.lock_ownership.specs.ThreadStripes.{owes_stripe}

-- a lock, a trylock that gets the mutex and one that finds it busy, an unlock, and an unlock by another thread
locked : held_after name.Lock (pos 0) 3 Free ≡ HeldBy 3
locked = refl

tried : held_after name.TryLock (pos 0) 3 Free ≡ HeldBy 3
tried = refl

busy : held_after name.TryLock (pos 16) 3 (HeldBy 2) ≡ HeldBy 2
busy = refl

unlocked : held_after name.Unlock (pos 0) 3 (HeldBy 3) ≡ Free
unlocked = refl

not_its_own : held_after name.Unlock (negsuc 1) 3 (HeldBy 2) ≡ HeldBy 2
not_its_own = refl

-- an operation on another mutex, and an access
abbrev lock_of_five : Noted
lock_of_five = record { entry = record { thread = 1; count = 0; op = name.Lock; obj = object.Mutex 5 }; number = 0 }

elsewhere : held_after_event (object.Mutex 6) Free (Some (Did 1 lock_of_five 0 (pos 0))) ≡ Free
elsewhere = refl

here : held_after_event (object.Mutex 5) Free (Some (Did 1 lock_of_five 0 (pos 0))) ≡ HeldBy 1
here = refl

accessed : held_after_event (object.Mutex 5) (HeldBy 1) (Some (Loaded 2 40)) ≡ HeldBy 1
accessed = refl

-- threads 0 and 2 read: each holds the lock for reading, and none for writing
abbrev read_by_two : RwState
read_by_two = Shared 5 Free

reader_holds : holds_as Read 2 read_by_two ≡ true
reader_holds = refl

no_reader_writes : holds_as Write 2 read_by_two ≡ false
no_reader_writes = refl

others_hold_not : holds_as Read 1 read_by_two ≡ false
others_hold_not = refl

readers_share : IsExclusive read_by_two
readers_share = tt

-- thread 2 writes, which holds the lock in both ways, alone
writer_writes : holds_as Write 2 (Shared 0 (HeldBy 2)) ≡ true
writer_writes = refl

writer_reads : holds_as Read 2 (Shared 0 (HeldBy 2)) ≡ true
writer_reads = refl

writer_is_alone : IsExclusive (Shared 0 (HeldBy 2))
writer_is_alone = refl

not_beside_a_reader : IsExclusive (Shared 1 (HeldBy 2)) → ⊥
not_beside_a_reader e = absurd (omega (arith, e))

-- a thread that holds stripe 3 of lock 0 and owes the one of lock 1
abbrev two : List Stripe
two = record { lock = 0; stripe = 3; owed = false } ∷ record { lock = 1; stripe = 0; owed = true } ∷ []

holds_first : holds two 0 3 ≡ true
holds_first = refl

owes_second : owes_stripe two 1 0 ≡ true
owes_second = refl

owes_no_first : owes_stripe two 0 3 ≡ false
owes_no_first = refl

owes_no_other : owes_stripe two 0 4 ≡ false
owes_no_other = refl
