-- What remains of a thread's run, and what the threads of a walk leave.
use Rattle.std.specs.Prelude.{◌≡◌, ℕ, ◌+◌, List, [], ◌∷◌}
use Rattle.std.specs.List.{AllByRecursion, AllZip, filter_map, flat_map}
use Rattle.sync_objects.specs.Setup.{SetupView}
use Rattle.sync_objects.specs.declared.entry.Entry.{Entry}
use Rattle.flow_code.specs.declared.code.Code.{Code}
use Rattle.thread_interpreter.specs.declared.access.Access.{Access}
use Rattle.thread_interpreter.specs.declared.access.Formula.{Formula}
use Rattle.thread_interpreter.specs.declared.outcome.Ending.{Ending}
use Rattle.thread_interpreter.specs.Endings.{ending_of, trap_of}
use Rattle.core_run.specs.Machine.{Told, start_state}
use Rattle.core_run.specs.Walks.{Trapping, NoTrap, trap_or, kept_reads, IsWhole}
use Rattle.run_theory.specs.Steps.{State}
use Rattle.thread_step.specs.Steps.{Stepping}
use Rattle.run_walk.specs.declared.remains.Remains.{Remains}

-- what a run has printed, how it has ended if it has, its trap if it has trapped, and the accesses that it has kept
abbrev pub remains_in : Stepping → Remains
remains_in r = record { pieces = r.pieces; ending = ending_of r.flow.kept.thread.phase; trap = trap_of r.flow.kept.thread.phase; formula = r.formula; reads = r.reads }

-- what remains of a thread where the first of its accesses are kept that meet the formula
abbrev pub remains_of : Formula → Told → Remains
remains_of f told = record { pieces = told.pieces; ending = ending_of told.thread.phase; trap = trap_of told.thread.phase; formula = f; reads = kept_reads f told }

-- this remains of the thread
abbrev pub RemainsOf : Remains → Told → Type 0
RemainsOf r told = r ≡ remains_of r.formula told

-- a walk of the entries ends with all threads ended, and this remains of them
pub record IsWalked (code : Code) (s : SetupView) (es : List Entry) (remains : List Remains) : Type 0 where
  pub end : State Told
  pub whole : IsWhole code s (start_state code s) es end
  pub remain : AllZip RemainsOf remains end.threads

-- they all have kept accesses by this formula
abbrev pub HaveKept : Formula → List Remains → Type 0
HaveKept f remains = AllByRecursion (λ (r : Remains). r.formula ≡ f) remains

-- how the threads have ended, in their order
abbrev pub endings_in : List Remains → List Ending
endings_in remains = filter_map (λ (r : Remains). r.ending) remains

-- the accesses that were kept of each, in their order
abbrev pub reads_in : List Remains → List Access
reads_in remains = flat_map (λ (r : Remains). r.reads) remains

-- the lowest of these threads, numbered from t on, that has trapped
abbrev pub trap_in : ℕ → List Remains → Trapping
trap_in t [] = NoTrap
trap_in t (r ∷ rs) = trap_or t r.trap (trap_in (t + 1) rs)
