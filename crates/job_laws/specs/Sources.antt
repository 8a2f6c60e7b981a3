-- Reading a source, and what its code is.
use Rattle.std.specs.Prelude.{◌≡◌, ℕ, List, Result, Ok, Err, Some}
use Rattle.happens_before.specs.Orders.{IsOrderedWalk}
use Rattle.command_line.specs.declared.answer.Answer.{Answer}
use Rattle.command_line.specs.declared.answer.Answer.TheVariants as answer
use Rattle.c_elaborate.specs.Whole.{core_of_source}
use Rattle.c_tree.specs.Tree.{Outer}
use Rattle.core_run.specs.Histories.{HaveEnded, entries_in, lists_of, run_of}
use Rattle.core_run.specs.Machine.{Told, start_state}
use Rattle.core_run.specs.Walks.{out_of, walk_of}
use Rattle.erasure.specs.Erased.{erased_walk, IsAnywhere}
use Rattle.profiles.specs.declared.profile.Profile.{Profile}
use Rattle.profiles.specs.declared.profile.Profile.TheVariants as profile
use Rattle.flow_code.specs.declared.code.Code.{Code}
use Rattle.front.specs.Plain.{plain_code}
use Rattle.front.specs.Readings.{sound, refused, IsReading}
use Rattle.front.specs.declared.reading.SourceFault.{SourceFault}
use Rattle.lock_sound.specs.Weakened.{Analysed, IsAnalysed}
use Rattle.order_log.specs.Log.{LogView}
use Rattle.job_outcomes.specs.declared.stop.Stop.{Stop}
use Rattle.job_outcomes.specs.declared.stop.Stop.TheVariants as stop
use Rattle.run_theory.specs.Labels.{Label}
use Rattle.run_theory.specs.Merge.{written_merge}
use Rattle.run_theory.specs.Steps.{State}
use Rattle.lowering_simulation.specs.SourceRuns.{IsSourceRun, bytes_of}
use Rattle.sync_objects.specs.Setup.{IsWithinLimits, SetupView}
use Rattle.sync_objects.specs.declared.entry.Entry.{Entry}

-- reading a source: its tree, or its first fault
abbrev pub IsTree : (source : List ℕ) → Result (List Outer) Answer → Type 0
IsTree source (Ok os) = IsReading source (sound os)
IsTree source (Err a) = (fault : SourceFault) × IsReading source (refused fault) × (a ≡ answer.SourceRefused fault.number fault.at.line fault.at.column)

-- the code of the tree with what the analyses find of it, where the profile tells which functions may be at work at once, and
-- with its weak locks
pub record IsFound (os : List Outer) (p : Profile) (found : Analysed) : Type 0 where
  pub is : IsAnalysed found
  pub of : found.plain ≡ plain_code os
  pub by_profile : found.profile ≡ p

-- ---- what is known of runs of weakened code

-- the entries' walk alone is a run of the source once the operations on stripes are left out, and tells the bytes that this run
-- prints; and each two conflicting accesses of the walk are ordered by the operations that the entries are
pub record IsSourceWalk (os : List Outer) (code : Code) (s : SetupView) (entries : List Entry) : Type 0 where
  pub runs : IsSourceRun (core_of_source os) s IsAnywhere (erased_walk code s entries)
  pub prints : out_of code s entries (start_state code s) ≡ bytes_of (erased_walk code s entries)
  pub ordered : IsOrderedWalk code s entries

-- .. where they have a walk
abbrev pub WalksAsSource : List Outer → Code → SetupView → List Entry → Type 0
WalksAsSource os code s entries = (end : State Told) → walk_of code s entries (start_state code s) ≡ Some end → IsSourceWalk os code s entries

-- ---- for private clauses

-- the code of the source, or its refusal
abbrev pub Compiles : (source : List ℕ) → Profile → Result Analysed Stop → Type 0
Compiles source p (Ok found) = (os : List Outer) × IsTree source (Ok os) × IsFound os p found
Compiles source p (Err (stop.Refused a)) = IsTree source (Err a)
Compiles source p (Err stop.ShelfFailed) = ⊥
Compiles source p (Err stop.InputFailed) = ⊥
Compiles source p (Err stop.CrewFailed) = ⊥
Compiles source p (Err stop.OutOfMemory) = Unit {0}

-- the code of a source for the log's profile, on which the log's walk is one of the source
pub record IsCodeFor (source : List ℕ) (log : LogView) (found : Analysed) : Type 0 where
  pub os : List Outer
  pub tree : IsTree source (Ok os)
  pub is : IsFound os log.profile found
  pub walks : WalksAsSource os found.weak log.setup log.entries

-- .. or its refusal
abbrev pub CompilesFor : (source : List ℕ) → LogView → Result Analysed Stop → Type 0
CompilesFor source log (Ok found) = IsCodeFor source log found
CompilesFor source log (Err s) = Compiles source log.profile (Err s)

-- in each run of the source's code for the profile All to the end of all threads, and for each list of entries: their walk is a run of the source
pub record RunsAsSource (source : List ℕ) (found : Analysed) : Type 0 where
  pub os : List Outer
  pub tree : IsTree source (Ok os)
  pub is : IsFound os profile.All found
  pub logs : (s : SetupView) (labels : List Label) (end : State Told) → IsWithinLimits s → run_of found.weak s labels ≡ Some end → HaveEnded found.weak s end → IsSourceWalk os found.weak s (entries_in (written_merge (lists_of end)))
  pub walks : (s : SetupView) (entries : List Entry) → IsWithinLimits s → WalksAsSource os found.weak s entries
