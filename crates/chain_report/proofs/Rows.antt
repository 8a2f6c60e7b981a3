-- Rows: chains of logs.
use Rattle.std.proofs.Common.{◌≡◌, ℕ, List, [], ◌∷◌, Some, None, true, false, refl}
use Rattle.chain_report.specs.declared.point.Point.{Point}
use Rattle.chain_report.specs.declared.row.Row.{Row}
use Rattle.chain_report.specs.Chains.{is_chain, passes}
use Rattle.chain_report.specs.Directions.{may_lead}
use Rattle.chain_report.specs.Past.{nothing, kept_after, link_by, got as got_by, let_go}
use Rattle.chain_report.specs.Replayed.{released, acquired}
use Rattle.sync_objects.specs.declared.entry.Entry.{Entry}
use Rattle.sync_objects.specs.declared.mode.Mode.TheVariants.{Read, Write}
use Rattle.sync_objects.specs.declared.object.ObjId.{ObjId}
use Rattle.sync_objects.specs.declared.object.ObjId.TheVariants as object
use Rattle.sync_objects.specs.declared.operation.OpName.{OpName}
use Rattle.sync_objects.specs.declared.operation.OpName.TheVariants as name

abbrev entry : (thread count : ℕ) → OpName → ObjId → Entry
entry thread count op obj = record { thread = thread; count = count; op = op; obj = obj }

abbrev point : (thread count : ℕ) → Point
point thread count = record { thread = thread; count = count }

-- thread 1 holds a mutex at its events 2 and 3, and thread 2 tries it once in vain, at its event 4, and then gets it
abbrev tried : List Entry
tried =
    entry 1 1 name.Lock (object.Mutex 9)
    ∷ entry 2 4 name.TryLock (object.Mutex 9)
    ∷ entry 1 4 name.Unlock (object.Mutex 9)
    ∷ entry 2 6 name.TryLock (object.Mutex 9)
    ∷ []

got : is_chain tried (point 1 2) (point 2 7) ((2, 3) ∷ []) ≡ true
got = refl

-- the trylock that failed gets nothing; neither does an entry pass to an earlier one
failed : passes tried 0 1 ≡ false
failed = refl

backwards : passes tried 2 1 ≡ false
backwards = refl

-- the unlock isn't after event 5, nor the trylock before event 5; and an empty list leads nowhere
before_it : is_chain tried (point 1 5) (point 2 7) ((2, 3) ∷ []) ≡ false
before_it = refl

after_it : is_chain tried (point 1 2) (point 2 5) ((2, 3) ∷ []) ≡ false
after_it = refl

empty : is_chain tried (point 1 2) (point 2 7) [] ≡ false
empty = refl

-- thread 2's trylock comes behind thread 1's unlock, and nothing of thread 1 behind the trylock
onwards : may_lead (point 1 2) (point 2 7) tried ≡ true
onwards = refl

back : may_lead (point 2 6) (point 1 3) tried ≡ false
back = refl

-- a lock that threads 1 and 2 read, and that thread 3 writes after them
abbrev shared : List Entry
shared =
    entry 1 1 name.RdLock (object.Rw 9)
    ∷ entry 1 3 name.RwUnlock (object.Rw 9)
    ∷ entry 2 1 name.RdLock (object.Rw 9)
    ∷ entry 2 3 name.RwUnlock (object.Rw 9)
    ∷ entry 3 1 name.WrLock (object.Rw 9)
    ∷ entry 3 3 name.RwUnlock (object.Rw 9)
    ∷ entry 1 5 name.RdLock (object.Rw 9)
    ∷ []

-- a reader hands nothing to a reader; readers hand it to a writer, and a writer to them
readers : passes shared 1 2 ≡ false
readers = refl

to_writer : passes shared 1 4 ≡ true
to_writer = refl

from_writer : passes shared 5 6 ≡ true
from_writer = refl

-- two links: from thread 2 by thread 3 back to thread 1
linked : is_chain shared (point 2 2) (point 1 6) ((3, 4) ∷ (5, 6) ∷ []) ≡ true
linked = refl

-- the second pass has to be of the thread that the first one led to
of_another : is_chain shared (point 2 2) (point 1 6) ((3, 4) ∷ (1, 6) ∷ []) ≡ false
of_another = refl

-- a read-write lock is let go in the mode in which it was held, and not at all by who doesn't hold it
read_mode : released (entry 1 1 name.RdLock (object.Rw 9) ∷ []) (entry 1 3 name.RwUnlock (object.Rw 9)) ≡ Some Read
read_mode = refl

not_held : released (entry 1 1 name.RdLock (object.Rw 9) ∷ []) (entry 2 3 name.RwUnlock (object.Rw 9)) ≡ None
not_held = refl

-- who holds it already gets nothing
held_already : acquired (entry 1 1 name.RdLock (object.Rw 9) ∷ []) (entry 1 3 name.WrLock (object.Rw 9)) ≡ None
held_already = refl

-- who doesn't hold a lock gets it, and lets it go in the mode in which it was held
got_so : got_by name.RdLock None None ≡ Some Read
got_so = refl

let_go_so : let_go name.RwUnlock (Some Read) ≡ Some Read
let_go_so = refl

-- an entry that may begin a pass, and lets the lock go
abbrev giver : OpName → Row
giver op = record { entry = entry 1 3 op (object.Rw 9); eligible = true; released = Some Read; link = None }

-- the first giver stays the first, and a reader gives to writers alone
first_stays : link_by (kept_after (kept_after nothing (giver name.RwUnlock) 1) (giver name.RwUnlock) 3) name.WrLock (Some Write) ≡ Some 1
first_stays = refl

none_to_readers : link_by (kept_after nothing (giver name.RwUnlock) 1) name.RdLock (Some Read) ≡ None
none_to_readers = refl
