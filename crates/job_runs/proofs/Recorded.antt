-- What a run of weakened code leaves.
use Rattle.std.proofs.Common.{◌≡◌, ◌≤◌, refl, sym, ap, ◌∙◌, subst, ℕ, List, [], ◌∷◌, Result, Err, Some, length}
use Rattle.std.specs.List.{AllByRecursion}
use Rattle.command_line.specs.Jobs.{RecordAsked, HasRecordLimits}
use Rattle.core_run.specs.Histories.{run_of, lists_of, entries_in}
use Rattle.core_run.specs.Machine.{Told}
use Rattle.flow_code.specs.declared.code.Code.{Code}
use Rattle.lock_sound.specs.Weakened.{Analysed}
use Rattle.order_log.specs.Log.{AreWithin, LogView}
use Rattle.order_log.specs.Text.{log_text}
use Rattle.job_outcomes.specs.Faults.{CrewStops, InputStops, RunStops}
use Rattle.job_outcomes.specs.Steps.{Gives}
use Rattle.job_outcomes.specs.declared.outcome.Outcome.{Outcome}
use Rattle.job_outcomes.specs.declared.stop.Stop.{Stop}
use Rattle.job_outcomes.specs.declared.stop.Stop.TheVariants as stop
use Rattle.profiles.specs.declared.profile.Profile.{Profile}
use Rattle.recorder.specs.Records.{Records}
use Rattle.recorder.specs.declared.record.Recorded.{Recorded}
use Rattle.run_theory.specs.Labels.{Label}
use Rattle.run_theory.specs.Merge.{written_merge}
use Rattle.run_theory.specs.Steps.{State}
use Rattle.sync_objects.specs.Names.{Fits}
use Rattle.sync_objects.specs.Setup.{SetupView, IsWithinLimits}
use Rattle.sync_objects.specs.declared.entry.Entry.{Entry}
use Rattle.thread_interpreter.specs.declared.access.Formula.{Formula}
use Rattle.walk_answers.specs.Walking.{formula_of, outcome_of}
use Rattle.happens_before.specs.Orders.{AreOrdered}
use Rattle.job_runs.specs.Recordings.{setup_of, IsLogged, IsRunOf}
use Rattle.job_runs.specs.Works.{HasRun, Work}

-- the log of a run in which all threads have ended
abbrev pub log_of : State Told → List Entry
log_of end = entries_in (written_merge (lists_of end))

-- ---- the run

module _ (old new : Work) (a : Analysed) (s : SetupView) where
  pub left_of_run : (code : Code) (f : Formula) (it : Recorded) → code ≡ a.weak
      → ((labels : List Label) (end : State Told) → run_of a.weak s labels ≡ Some end → AreOrdered a.weak s labels)
      → ((labels : List Label) (end : State Told) → run_of a.weak s labels ≡ Some end → AreWithin s (log_of end) × AllByRecursion (λ (e : Entry). Fits e.op e.obj) (log_of end))
      → Records code s f it.entries it.walk → HasRun s.slots (length it.entries) old new → IsRunOf old new a s f it
  left_of_run code f it e ordered within h worked =
      let r : Records a.weak s f it.entries it.walk = subst (λ (c : Code). Records c s f it.entries it.walk) e h in
      let w = within r.labels r.end r.ran in
      record {
        records = r;
        ordered = ordered r.labels r.end r.ran;
        within = subst (AreWithin s) (sym r.log) w.0;
        fitting = subst (AllByRecursion (λ (e : Entry). Fits e.op e.obj)) (sym r.log) w.1;
        crew = worked;
      }

-- ---- limits

pub setup_within : (r : RecordAsked) (input : List ℕ) → HasRecordLimits r → length input ≤ 1048576 → IsWithinLimits (setup_of r input)
setup_within r input h short = record { some_slot = h.slots_low; few_slots = h.slots_high; enough_cells = h.cells_low; few_cells = h.cells_high; some_event = h.limit_low; few_events = h.limit_high; short_input = short }

-- ---- in the code

-- what is told of the log of a run
abbrev TellsLog : RecordAsked → Profile → Recorded → SetupView → Outcome → Type 0
TellsLog r p it s o = o ≡ outcome_of (record { name = r.log; content = log_text (record { setup = s; profile = p; entries = it.entries }) } ∷ []) r.reads it.walk

pub logged_of : (old new : Work) (r : RecordAsked) (p : Profile) (w : Analysed) (input : List ℕ) (it : Recorded) (s : SetupView) (formula : Formula) (log : LogView) (o : Outcome) → s ≡ setup_of r input → formula ≡ formula_of r.reads → IsRunOf old new w s formula it → log ≡ record { setup = s; profile = p; entries = it.entries } → o ≡ outcome_of (record { name = r.log; content = log_text (record { setup = s; profile = p; entries = it.entries }) } ∷ []) r.reads it.walk → IsLogged old new r p w input log o
logged_of old new r p w input it s formula log o e g run is told =
    record {
      is = record {
        recorded = it;
        run = subst (λ x. IsRunOf old new w x (formula_of r.reads) it) e (subst (λ x. IsRunOf old new w s x it) g run);
        told = subst (λ x. TellsLog r p it x o) e told;
      };
      log_is = is ∙ ap (λ (x : SetupView). record { setup = x; profile = p; entries = it.entries }) e;
    }

-- a crew refuses nothing
pub crew_gives : (MayHave : Outcome → Type 0) (s : Stop) (old new : ℕ) → CrewStops s old new → Gives MayHave (Err s)
crew_gives MayHave (stop.Refused a) old new h = absurd h
crew_gives MayHave stop.ShelfFailed old new h = tt
crew_gives MayHave stop.InputFailed old new h = tt
crew_gives MayHave stop.CrewFailed old new h = tt
crew_gives MayHave stop.OutOfMemory old new h = tt

-- an input that isn't read, and a crew that then isn't asked
pub input_stops : (s : Stop) (input_old input_new crew : ℕ) → InputStops s input_old input_new → RunStops s input_old input_new crew crew
input_stops (stop.Refused a) input_old input_new crew h = (h, refl)
input_stops stop.ShelfFailed input_old input_new crew h = absurd h
input_stops stop.InputFailed input_old input_new crew h = (h, refl)
input_stops stop.CrewFailed input_old input_new crew h = absurd h
input_stops stop.OutOfMemory input_old input_new crew h = (h, refl)

-- it was no crew that failed
pub no_crew : (X : Type 0) (r : Result Outcome Stop) (s : Stop) (old new : ℕ) → InputStops s old new → r ≡ Err s → r ≡ Err stop.CrewFailed → X
no_crew X r (stop.Refused a) old new h is e = absurd (cc (is, e))
no_crew X r stop.ShelfFailed old new h is e = absurd h
no_crew X r stop.InputFailed old new h is e = absurd (cc (is, e))
no_crew X r stop.CrewFailed old new h is e = absurd h
no_crew X r stop.OutOfMemory old new h is e = absurd (cc (is, e))

-- a crew after an input that was read
pub crew_stops : (s : Stop) (input_old input_new crew_old crew_new : ℕ) → input_new ≡ input_old → CrewStops s crew_old crew_new → RunStops s input_old input_new crew_old crew_new
crew_stops (stop.Refused a) input_old input_new crew_old crew_new e h = absurd h
crew_stops stop.ShelfFailed input_old input_new crew_old crew_new e h = absurd h
crew_stops stop.InputFailed input_old input_new crew_old crew_new e h = absurd h
crew_stops stop.CrewFailed input_old input_new crew_old crew_new e h = (e, h)
crew_stops stop.OutOfMemory input_old input_new crew_old crew_new e h = (e, h)
