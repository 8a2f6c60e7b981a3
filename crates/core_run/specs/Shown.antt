-- The state of the machine that running threads, words and kept reads show.
use Rattle.std.specs.Prelude.{◌≡◌, ℕ, suc, ◌+◌, nat_lt, ◌&&◌, Bool, true, false, if◌then◌else◌, List, [], ◌∷◌, ◌++◌, length, map, Some, None, slice_get}
use Rattle.sync_objects.specs.Setup.{SetupView}
use Rattle.flow_code.specs.declared.code.Code.{Code}
use Rattle.flow_code.specs.Threads.{Thread}
use Rattle.thread_interpreter.specs.declared.access.Access.{Access}
use Rattle.thread_interpreter.specs.declared.access.Formula.{Formula}
use Rattle.thread_interpreter.specs.Flows.{Running}
use Rattle.sync_objects.specs.declared.entry.Entry.{Entry}
use Rattle.core_run.specs.Machine.{Told, machine, start_state}
use Rattle.core_run.specs.Outside.{ComesOutside, GoesOutside, IsOutside}
use Rattle.core_run.specs.Walks.{most_reads, kept_reads, pieces_of, printed_between, Trapping, NoTrap, TrapOf, trap_or}
use Rattle.thread_interpreter.specs.Formulas.{meets}
use Rattle.thread_interpreter.specs.Endings.{ending_of, trap_of}
use Rattle.thread_interpreter.specs.declared.outcome.Ending.{Ending}
use Rattle.flow_code.specs.Next.{has_ended}
use Rattle.std.specs.List.{filter_map, flat_map}
use Rattle.core_run.specs.declared.outcome.PartEnd.{PartEnd}
use Rattle.core_run.specs.declared.outcome.PartEnd.TheVariants as end
use Rattle.core_run.specs.declared.outcome.Walk.{Walk}
use Rattle.core_run.specs.declared.outcome.Walk.TheVariants as walk
use Rattle.run_theory.specs.Labels.{Go}
use Rattle.run_theory.specs.Steps.{State, stepped, added}
use Rattle.run_theory.specs.Walk.{alone, made, part}

-- its state alone, without the room that is kept for it
abbrev pub running_thread : Running → Thread
running_thread r = r.kept.thread

-- its state alone, without what it has done so far
abbrev pub told_thread : Told → Thread
told_thread told = told.thread

-- the threads run the code under the setup, as threads number k and on
abbrev pub RunAll : Code → SetupView → ℕ → List Running → Type 0
RunAll code s k [] = Unit {0}
RunAll code s k (r ∷ rs) = (r.code ≡ code) × (r.setup ≡ s) × (r.number ≡ k) × RunAll code s (k + 1) rs

-- the words are the state's, the running threads are its threads, and of each thread the first accesses that meet the
-- formula are kept
pub record IsShown (f : Formula) (flows : List Running) (words : List ℕ) (reads : List (List Access)) (st : State Told) : Type 0 where
  pub words_are : words ≡ st.words
  pub threads_are : map running_thread flows ≡ map told_thread st.threads
  pub reads_are : reads ≡ map (kept_reads f) st.threads

-- what is kept after one access more
abbrev pub with_read : Formula → List Access → Access → List Access
with_read f xs a = if meets f a && nat_lt (length xs) most_reads then xs ++ a ∷ [] else xs

-- ---- what the walk's parts have come to, from a state that was shown

-- one own step of thread t, which adds no entry
pub record StepsTo (code : Code) (s : SetupView) (f : Formula) (t : ℕ) (st : State Told) (flows : List Running) (words : List ℕ) (reads : List (List Access)) : Type 0 where
  pub next : State Told
  pub steps : stepped (machine code s) st (Go t) ≡ Some next
  pub adds : added (machine code s) st (Go t) ≡ []
  pub shown : IsShown f flows words reads next
  pub same_pieces : pieces_of (slice_get next.threads t) ≡ pieces_of (slice_get st.threads t)

-- the thread can make no step alone
abbrev pub IsStuck : Code → SetupView → ℕ → State Told → Type 0
IsStuck code s t st = (n : ℕ) → alone (machine code s) (suc n) t st ≡ None

-- the step was made, or the thread can make none alone, and whether that is for want of a cell
abbrev pub OwnStep : Code → SetupView → Formula → ℕ → State Told → List Running → List ℕ → List (List Access) → PartEnd → Type 0
OwnStep code s f t st flows words reads end.Made = StepsTo code s f t st flows words reads
OwnStep code s f t st flows words reads end.Refused = IsStuck code s t st × (ComesOutside code s t st → ⊥)
OwnStep code s f t st flows words reads end.Outside = IsStuck code s t st × ComesOutside code s t st

-- so many own steps of thread t
pub record GoesTo (code : Code) (s : SetupView) (f : Formula) (n t : ℕ) (st : State Told) (flows : List Running) (words : List ℕ) (reads : List (List Access)) : Type 0 where
  pub next : State Told
  pub goes : alone (machine code s) n t st ≡ Some next
  pub inside : GoesOutside code s n t st → ⊥
  pub shown : IsShown f flows words reads next
  pub same_pieces : pieces_of (slice_get next.threads t) ≡ pieces_of (slice_get st.threads t)

-- all the steps were made, or the thread can't make so many, and whether that is for want of a cell
abbrev pub OwnSteps : Code → SetupView → Formula → ℕ → ℕ → State Told → List Running → List ℕ → List (List Access) → PartEnd → Type 0
OwnSteps code s f n t st flows words reads end.Made = GoesTo code s f n t st flows words reads
OwnSteps code s f n t st flows words reads end.Refused = (alone (machine code s) n t st ≡ None) × (GoesOutside code s n t st → ⊥)
OwnSteps code s f n t st flows words reads end.Outside = (alone (machine code s) n t st ≡ None) × GoesOutside code s n t st

-- the operation of an entry, which may have printed
pub record MakesTo (code : Code) (s : SetupView) (f : Formula) (e : Entry) (st : State Told) (flows : List Running) (words : List ℕ) (reads : List (List Access)) (printed : List ℕ) : Type 0 where
  pub next : State Told
  pub makes : made (machine code s) e st ≡ Some next
  pub shown : IsShown f flows words reads next
  pub prints : printed ≡ printed_between e.thread st next

-- true: the entry was made, and its bytes follow; false: it can't be made
abbrev pub EntryStep : Code → SetupView → Formula → Entry → State Told → List Running → List ℕ → List (List Access) → List ℕ → List ℕ → Bool → Type 0
EntryStep code s f e st flows words reads before after true = (printed : List ℕ) × (after ≡ before ++ printed) × MakesTo code s f e st flows words reads printed
EntryStep code s f e st flows words reads before after false = made (machine code s) e st ≡ None

-- the part of an entry, in which its thread goes alone and makes it, and what it has printed
pub record PartTo (code : Code) (s : SetupView) (f : Formula) (e : Entry) (st : State Told) (flows : List Running) (words : List ℕ) (reads : List (List Access)) (printed : List ℕ) : Type 0 where
  pub next : State Told
  pub parts : part (machine code s) e st ≡ Some next
  pub shown : IsShown f flows words reads next
  pub prints : printed ≡ printed_between e.thread st next

-- true: its thread went to the entry and made it; false: it can't
abbrev pub PartStep : Code → SetupView → Formula → Entry → State Told → List Running → List ℕ → List (List Access) → List ℕ → List ℕ → Bool → Type 0
PartStep code s f e st flows words reads before after true = (printed : List ℕ) × (after ≡ before ++ printed) × PartTo code s f e st flows words reads printed
PartStep code s f e st flows words reads before after false = part (machine code s) e st ≡ None

-- the same with the reason why it can't
abbrev pub PartEndIs : Code → SetupView → Formula → Entry → State Told → List Running → List ℕ → List (List Access) → List ℕ → List ℕ → PartEnd → Type 0
PartEndIs code s f e st flows words reads before after end.Made = PartStep code s f e st flows words reads before after true × (IsOutside code s e st → ⊥)
PartEndIs code s f e st flows words reads before after end.Refused = PartStep code s f e st flows words reads before after false × (IsOutside code s e st → ⊥)
PartEndIs code s f e st flows words reads before after end.Outside = PartStep code s f e st flows words reads before after false × IsOutside code s e st

-- ---- the start

-- the running threads are those of the start
pub record AreStarted (code : Code) (s : SetupView) (flows : List Running) : Type 0 where
  pub all : RunAll code s 0 flows
  pub threads : map running_thread flows ≡ map told_thread (start_state code s).threads

-- ---- the end

-- no thread goes on; a trap is an end, too
abbrev pub all_ended : List Running → Bool
all_ended [] = true
all_ended (r ∷ rs) = has_ended r.kept.thread.phase && all_ended rs

-- how the threads have ended, in the order of their numbers
abbrev pub endings : List Running → List Ending
endings rs = filter_map (λ r. ending_of r.kept.thread.phase) rs

-- the trap of the lowest thread that has one, numbered from t on
abbrev pub trap_from : ℕ → List Running → Trapping
trap_from t [] = NoTrap
trap_from t (r ∷ rs) = trap_or t (trap_of r.kept.thread.phase) (trap_from (t + 1) rs)

-- what is shown of these threads, accesses and bytes
abbrev pub ShownAs : List Running → List (List Access) → List ℕ → Walk → Type 0
ShownAs flows reads out (walk.Done o r e) = (o ≡ out) × (r ≡ flat_map (λ xs. xs) reads) × (e ≡ endings flows) × (trap_from 0 flows ≡ NoTrap)
ShownAs flows reads out (walk.Trapped kind thread line o r e) = (o ≡ out) × (r ≡ flat_map (λ xs. xs) reads) × (e ≡ endings flows) × (trap_from 0 flows ≡ TrapOf thread kind line)
ShownAs flows reads out (walk.Wrong at) = ⊥
