-- What remains of the threads of a walk tells what it comes to.
use Rattle.std.proofs.Common.{◌≡◌, ℕ, suc, ◌+◌, ◌≤◌, List, [], ◌∷◌, ◌++◌, length, map, refl, sym, ap, ◌∙◌, arith}
use Rattle.std.specs.List.{AllZip, cons_option, filter_map, flat_map}
use Rattle.sync_objects.specs.Setup.{SetupView}
use Rattle.sync_objects.specs.declared.entry.Entry.{Entry}
use Rattle.flow_code.specs.declared.code.Code.{Code}
use Rattle.thread_interpreter.specs.declared.access.Access.{Access}
use Rattle.thread_interpreter.specs.declared.access.Formula.{Formula}
use Rattle.thread_interpreter.specs.declared.outcome.Ending.{Ending}
use Rattle.thread_interpreter.specs.Endings.{ending_of, trap_of}
use Rattle.core_run.specs.Machine.{Told, start_state}
use Rattle.core_run.specs.Walks.{Shows, Trapping, first_trap, kept_reads, trap_or}
use Rattle.run_walk.specs.declared.remains.Remains.{Remains}
use Rattle.run_walk.specs.Printed.{bytes_by, pieces_in}
use Rattle.run_walk.specs.Remains.{HaveKept, IsWalked, RemainsOf, endings_in, reads_in, trap_in}
use Rattle.run_walk.proofs.Printing.{walk_bytes, thread_count}

-- ---- of the threads of a state

pieces_are : (remains : List Remains) (threads : List Told) → AllZip RemainsOf remains threads → pieces_in remains ≡ map (λ (told : Told). told.pieces) threads
pieces_are [] [] h = refl
pieces_are [] (x ∷ xs) h = absurd h
pieces_are (r ∷ rs) [] h = absurd h
pieces_are (r ∷ rs) (x ∷ xs) h = ap (λ (z : Remains). z.pieces ∷ pieces_in rs) h.0 ∙ ap (λ zs. x.pieces ∷ zs) (pieces_are rs xs h.1)

endings_are : (remains : List Remains) (threads : List Told) → AllZip RemainsOf remains threads → endings_in remains ≡ filter_map (λ (told : Told). ending_of told.thread.phase) threads
endings_are [] [] h = refl
endings_are [] (x ∷ xs) h = absurd h
endings_are (r ∷ rs) [] h = absurd h
endings_are (r ∷ rs) (x ∷ xs) h = ap (λ (z : Remains). cons_option z.ending (endings_in rs)) h.0 ∙ ap (cons_option (ending_of x.thread.phase)) (endings_are rs xs h.1)

trap_is : (t : ℕ) (remains : List Remains) (threads : List Told) → AllZip RemainsOf remains threads → trap_in t remains ≡ first_trap t threads
trap_is t [] [] h = refl
trap_is t [] (x ∷ xs) h = absurd h
trap_is t (r ∷ rs) [] h = absurd h
trap_is t (r ∷ rs) (x ∷ xs) h = ap (λ (z : Remains). trap_or t z.trap (trap_in (t + 1) rs)) h.0 ∙ ap (trap_or t (trap_of x.thread.phase)) (trap_is (t + 1) rs xs h.1)

reads_are : (f : Formula) (remains : List Remains) (threads : List Told) → HaveKept f remains → AllZip RemainsOf remains threads → reads_in remains ≡ flat_map (kept_reads f) threads
reads_are f [] [] k h = refl
reads_are f [] (x ∷ xs) k h = absurd h
reads_are f (r ∷ rs) [] k h = absurd h
reads_are f (r ∷ rs) (x ∷ xs) k h =
    ap (λ (z : Remains). z.reads ++ reads_in rs) h.0
    ∙ ap (λ g. kept_reads g x ++ reads_in rs) k.0
    ∙ ap (λ zs. kept_reads f x ++ zs) (reads_are f rs xs k.1 h.1)

remains_long : (remains : List Remains) (threads : List Told) → AllZip RemainsOf remains threads → length remains ≡ length threads
remains_long [] [] h = refl
remains_long [] (x ∷ xs) h = absurd h
remains_long (r ∷ rs) [] h = absurd h
remains_long (r ∷ rs) (x ∷ xs) h = ap suc (remains_long rs xs h.1)

-- ---- what is shown of the walk

module _ (code : Code) (s : SetupView) (f : Formula) (es : List Entry) (remains : List Remains) (kept : HaveKept f remains) (w : IsWalked code s es remains) where
  pub shows : (out : List ℕ) (reads : List Access) (ends : List Ending) → out ≡ bytes_by es (pieces_in remains) → reads ≡ reads_in remains → ends ≡ endings_in remains → Shows code s (start_state code s) es f w.end out reads ends
  shows out reads ends out_is reads_is ends_is = record {
    whole = w.whole;
    out_is = out_is ∙ ap (bytes_by es) (pieces_are remains w.end.threads w.remain) ∙ sym (walk_bytes code s es w.end w.whole.walked);
    reads_are = reads_is ∙ reads_are f remains w.end.threads kept w.remain;
    ends_are = ends_is ∙ endings_are remains w.end.threads w.remain;
  }

  pub traps : (x : Trapping) → trap_in 0 remains ≡ x → first_trap 0 w.end.threads ≡ x
  traps x is = sym (trap_is 0 remains w.end.threads w.remain) ∙ is

-- there are no more threads than slots
pub few_remain : (code : Code) (s : SetupView) (es : List Entry) (remains : List Remains) → IsWalked code s es remains → s.slots ≤ 16 → length remains ≤ 16
few_remain code s es remains w few =
    let same : length remains ≡ s.slots = remains_long remains w.end.threads w.remain ∙ thread_count code s es w.end w.whole.walked in
    omega arith
