-- What remains of a run is what remains of the thread that it shows.
use Rattle.std.proofs.Common.{◌≡◌, ℕ, suc, List, [], ◌∷◌, length, Some, refl, ap, ◌∙◌, arith}
use Rattle.std.specs.List.{AllZip}
use Rattle.std.specs.Prelude.{slice_get}
use Rattle.thread_interpreter.specs.Endings.{ending_of, trap_of}
use Rattle.core_run.specs.Machine.{Told}
use Rattle.core_run.specs.Walks.{kept_reads}
use Rattle.thread_step.specs.Steps.{Stepping}
use Rattle.run_walk.specs.declared.remains.Remains.{Remains}
use Rattle.run_walk.specs.Remains.{RemainsOf, remains_in}

-- the same remains of a run and of a thread that has printed the same, has ended in the same way, and of which the run keeps accesses
pub same_remains : (r : Stepping) (told : Told) → r.pieces ≡ told.pieces → r.reads ≡ kept_reads r.formula told → r.flow.kept.thread.phase ≡ told.thread.phase → RemainsOf (remains_in r) told
same_remains r told pieces reads phase =
    ap (λ ps. record { pieces = ps; ending = ending_of r.flow.kept.thread.phase; trap = trap_of r.flow.kept.thread.phase; formula = r.formula; reads = r.reads }) pieces
    ∙ ap (λ xs. record { pieces = told.pieces; ending = ending_of r.flow.kept.thread.phase; trap = trap_of r.flow.kept.thread.phase; formula = r.formula; reads = xs }) reads
    ∙ ap (λ p. record { pieces = told.pieces; ending = ending_of p; trap = trap_of p; formula = r.formula; reads = kept_reads r.formula told }) phase

-- this remains of all threads, if it does of each
pub all_remain : (remains : List Remains) (threads : List Told) → length remains ≡ length threads → ((t : ℕ) (r : Remains) (told : Told) → slice_get remains t ≡ Some r → slice_get threads t ≡ Some told → RemainsOf r told) → AllZip RemainsOf remains threads
all_remain [] [] len h = tt
all_remain [] (x ∷ threads) len h = cc
all_remain (r ∷ remains) [] len h = cc
all_remain (r ∷ remains) (x ∷ threads) len h = (h 0 r x refl refl, all_remain remains threads (omega (arith, len)) (λ t a b p q. h (suc t) a b p q))
