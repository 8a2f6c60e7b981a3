-- Worked rows of the definitions of paths and locks.
use Rattle.std.proofs.Common.{◌≡◌, true, false, [], ◌∷◌, Some, None, refl, negsuc}
use Rattle.flow_code.specs.declared.act.Act.TheVariants as act
use Rattle.flow_code.specs.declared.work.Work.TheVariants as work
use Rattle.word_semantics.specs.declared.library_call.LibraryCall.TheVariants as call
use Rattle.flow_code.specs.declared.code.Function.{Function}
use Rattle.sync_objects.specs.declared.mode.Mode.TheVariants.{Read, Write}
use Rattle.facts.specs.declared.known.Reach.TheVariants as reach
use Rattle.facts.specs.declared.locks.LockPath.TheVariants.{Cell, Formal}
use Rattle.facts.specs.declared.locks.Minus.TheVariants.{All, Listed}
use Rattle.facts.specs.declared.locks.Naming.TheVariants.{Unknown, Named}
use Rattle.facts.specs.Paths.{formal, are_small, are_small_actuals, argument_namings}
use Rattle.facts.specs.Locks.{with, union, held_as, nothing, locked, unlocked, through, locks_are_small, locks_are_sized}
use Rattle.facts.specs.Pairs.{share_lock}
use Rattle.facts.specs.Summaries.{lock_register}
use Rattle.facts.specs.Blocks.{amount_by}
use Rattle.facts.specs.Carried.{put_or_formal}

-- sets of paths
with_row : with (Cell 3) (Cell 1 ∷ Formal 0 2 ∷ []) ≡ Cell 1 ∷ Cell 3 ∷ Formal 0 2 ∷ []
with_row = refl

union_row : union (Cell 1 ∷ Cell 4 ∷ []) (Cell 4 ∷ Formal 1 0 ∷ []) ≡ Cell 1 ∷ Cell 4 ∷ Formal 1 0 ∷ []
union_row = refl

-- locks that are held: who may write may read as well
written_row : locked Write (Named (Cell 3)) nothing ≡ record { plus = held_as Read (Cell 3) ∷ held_as Write (Cell 3) ∷ []; minus = Listed [] }
written_row = refl

read_row : (locked Read (Named (Cell 3)) nothing).plus ≡ held_as Read (Cell 3) ∷ []
read_row = refl

-- the called function holds the lock 2 cells behind its first formal for reading, and may have given any other back
through_row : through (Some (Cell 5) ∷ []) (record { plus = held_as Read (Formal 0 2) ∷ []; minus = All }) (record { plus = held_as Write (Cell 1) ∷ []; minus = Listed [] }) ≡ record { plus = held_as Read (Cell 7) ∷ []; minus = All }
through_row = refl

-- an unlock takes both ways of what may be its lock, and one through a pointer that isn't known takes all
unlocked_row : unlocked (Named (Cell 3)) (record { plus = held_as Read (Cell 1) ∷ held_as Read (Cell 3) ∷ held_as Write (Cell 3) ∷ held_as Read (Formal 0 0) ∷ []; minus = Listed [] }) ≡ record { plus = held_as Read (Cell 1) ∷ []; minus = Listed (Cell 3 ∷ []) }
unlocked_row = refl

unknown_row : unlocked Unknown (record { plus = held_as Write (Cell 1) ∷ []; minus = Listed [] }) ≡ record { plus = []; minus = All }
unknown_row = refl

-- two readers share no lock, and a writer shares one with a reader
readers_row : share_lock (held_as Read (Cell 3) ∷ []) (held_as Read (Cell 3) ∷ []) ≡ false
readers_row = refl

writer_row : share_lock (held_as Read (Cell 3) ∷ []) (held_as Read (Cell 3) ∷ held_as Write (Cell 3) ∷ []) ≡ true
writer_row = refl

-- the calls that name a read-write lock
read_lock_row : lock_register call.RwRdLock (5 ∷ []) ≡ Some 5
read_lock_row = refl

-- sizes
small_row : are_small (Cell 2147483647 ∷ Formal 0 2147483648 ∷ []) ≡ false
small_row = refl

actuals_row : are_small_actuals (None ∷ Some (Cell 7) ∷ []) ≡ true
actuals_row = refl

locks_row : locks_are_small (record { plus = held_as Read (Cell 1) ∷ []; minus = Listed (Cell 2147483648 ∷ []) }) ≡ false
locks_row = refl

sized_row : locks_are_sized (record { plus = held_as Write (Cell 70000) ∷ []; minus = Listed (Formal 0 65536 ∷ []) }) ≡ false
sized_row = refl

-- what is known of a register that the block has put something into, and of a formal
put_row : put_or_formal (true ∷ []) 0 (Some (Some (reach.Formal 2 3))) ≡ Some (record { root = formal 2; cells = 3 })
put_row = refl

lost_row : put_or_formal (true ∷ []) 0 (Some None) ≡ None
lost_row = refl

formal_row : put_or_formal (true ∷ []) 0 None ≡ Some (record { root = formal 0; cells = 0 })
formal_row = refl

-- the constant by which a pointer is moved
amount_row : amount_by (λ r. Some (negsuc r)) (Some (act.Compute 2 (work.Move 0 1 4 false))) ≡ Some (negsuc 1)
amount_row = refl

-- a function that locks the mutex 2 cells behind its formal
locking : Function
locking = record {
  name = [];
  line = 1;
  formals = 1;
  registers = 2;
  pointers = true ∷ true ∷ [];
  gives_pointer = false;
  loops = [];
  regions = [];
  instrs = record { at = record { line = 1; column = 1 }; act = act.Compute 1 (work.Member 0 2) } ∷ record { at = record { line = 2; column = 1 }; act = act.Library call.MutexLock (1 ∷ []) None } ∷ record { at = record { line = 3; column = 1 }; act = act.Return None } ∷ [];
}

namings_row : argument_namings locking ≡ [] ∷ (Named (Formal 0 2) ∷ []) ∷ [] ∷ []
unfolding locking
namings_row = refl
