-- What a run leaves is a recording of its source.
use Rattle.std.proofs.Common.{◌≡◌, ◌≤◌, refl, sym, subst, ℕ, List, Result, Ok, Err, Option, Some, length}
use Rattle.command_line.specs.Jobs.{RecordAsked, HasRecordLimits}
use Rattle.command_line.specs.declared.answer.Answer.{Answer}
use Rattle.command_line.specs.declared.answer.Part.TheVariants as part
use Rattle.c_tree.specs.Tree.{Outer}
use Rattle.core_run.specs.Histories.{run_of, HaveEnded}
use Rattle.core_run.specs.Machine.{Told}
use Rattle.profiles.specs.declared.profile.Profile.{Profile}
use Rattle.job_profiles.specs.Profiles.{IsProfile, named}
use Rattle.lock_sound.specs.Weakened.{Analysed}
use Rattle.job_outcomes.proofs.InRow.{gives_next}
use Rattle.job_outcomes.specs.Faults.{RunStops}
use Rattle.job_outcomes.specs.Outcomes.{answers}
use Rattle.job_outcomes.specs.Steps.{Comes, Gives, IsFile, IsInput, Then}
use Rattle.job_outcomes.specs.declared.outcome.Outcome.{Outcome}
use Rattle.job_outcomes.specs.declared.stop.Stop.{Stop}
use Rattle.job_outcomes.specs.declared.stop.Stop.TheVariants as stop
use Rattle.rr_base.specs.Files.{Files}
use Rattle.order_log.specs.Log.{HasNames}
use Rattle.run_theory.specs.Labels.{Label}
use Rattle.run_theory.specs.Steps.{State}
use Rattle.sync_objects.specs.Setup.{SetupView, IsWithinLimits}
use Rattle.job_runs.proofs.Recorded.{log_of, setup_within}
use Rattle.job_runs.specs.Recordings.{setup_of, IsRecorded}
use Rattle.job_runs.specs.Works.{Work}
use Rattle.job_laws.specs.Readings.{ReadsProfile}
use Rattle.job_laws.specs.Recordings.{IsRecording, RecordsInput}
use Rattle.job_laws.specs.Sources.{Compiles, IsFound, IsSourceWalk, IsTree}

-- ---- the source

module _ (old new : Work) (r : RecordAsked) (p : Profile) (os : List Outer) (w : Analysed) where
  -- the log of each run is a walk of the source
  abbrev pub LogsWalk : (input : List ℕ) → Type 0
  LogsWalk input = (labels : List Label) (end : State Told) → run_of w.weak (setup_of r input) labels ≡ Some end → HaveEnded w.weak (setup_of r input) end → IsSourceWalk os w.weak (setup_of r input) (log_of end)

  pub recording : (input : List ℕ) (o : Outcome) → HasNames p → IsWithinLimits (setup_of r input) → IsFound os p w → LogsWalk input → IsRecorded old new r p w input o → IsRecording old new r p os input o
  recording input o names limits found walks h =
      let run = h.run.records in
      record {
        found = w;
        is = found;
        entries = h.recorded.entries;
        walk = h.recorded.walk;
        records = run;
        source = subst (IsSourceWalk os w.weak (setup_of r input)) (sym run.log) (walks run.labels run.end run.ran run.ended);
        ordered = h.run.ordered;
        log = λ bytes. (record { profile = names; input = bytes; operations = h.run.fitting }, record { setup = limits; entries = h.run.within });
        crew = h.run.crew;
        told = h.told;
      }

  pub recording_entries : (input : List ℕ) (o : Outcome) (names : HasNames p) (limits : IsWithinLimits (setup_of r input)) (found : IsFound os p w) (walks : LogsWalk input) (h : IsRecorded old new r p w input o) → (recording input o names limits found walks h).entries ≡ h.recorded.entries
  unfolding recording
  recording_entries input o names limits found walks h = refl

  module _ (IsStep : Result (List ℕ) Answer → Type 0) (names : HasNames p) (limits : (input : List ℕ) → IsStep (Ok input) → IsWithinLimits (setup_of r input)) (found : IsFound os p w) (walks : (input : List ℕ) → IsStep (Ok input) → LogsWalk input) where
    then_recording : (step : Result (List ℕ) Answer) (o : Outcome) → IsStep step → Then (IsRecorded old new r p w) step o → Then (IsRecording old new r p os) step o
    then_recording (Ok input) o is h = recording input o names (limits input is) found (walks input is) h
    then_recording (Err a) o is h = h

    comes_recording : (o : Outcome) → Comes IsStep (IsRecorded old new r p w) o → Comes IsStep (IsRecording old new r p os) o
    comes_recording o h = record { step = h.step; is = h.is; next = then_recording h.step o h.is h.next }

-- ---- the outcome

module _ (old new : Work) (source : List ℕ) (left : Option (List ℕ)) (r : RecordAsked) (p : Profile) (w : Analysed) (limits : HasRecordLimits r) (names : HasNames p) (compiles : Compiles source p (Ok w)) where
  -- each log of a run is a walk of the source, whatever the setup is
  abbrev LawOfLogs : Type 0
  LawOfLogs = (s : SetupView) (labels : List Label) (end : State Told) → IsWithinLimits s → run_of w.weak s labels ≡ Some end → HaveEnded w.weak s end → IsSourceWalk compiles.0 w.weak s (log_of end)

  of_source : (o : Outcome) → LawOfLogs → Comes (IsInput left 1048576 part.Input) (IsRecorded old new r p w) o → Comes (IsTree source) (λ os. Comes (IsInput left 1048576 part.Input) (IsRecording old new r p os)) o
  of_source o law h =
      let within = λ (input : List ℕ) (is : IsInput left 1048576 part.Input (Ok input)). setup_within r input limits (subst (λ (xs : List ℕ). length xs ≤ 1048576) (sym is.within.0) is.within.1) in
      let walks = λ (input : List ℕ) (is : IsInput left 1048576 part.Input (Ok input)). λ (labels : List Label) (end : State Told). law (setup_of r input) labels end (within input is) in
      record { step = Ok compiles.0; is = compiles.1; next = comes_recording old new r p compiles.0 w (IsInput left 1048576 part.Input) names within compiles.2 walks o h }

  pub recorded_gives : (res : Result Outcome Stop) → LawOfLogs → Gives (Comes (IsInput left 1048576 part.Input) (IsRecorded old new r p w)) res → Gives (Comes (IsTree source) (λ os. Comes (IsInput left 1048576 part.Input) (IsRecording old new r p os))) res
  recorded_gives (Ok o) law h = of_source o law h
  recorded_gives (Err (stop.Refused a)) law h = of_source (answers a) law h
  recorded_gives (Err stop.ShelfFailed) law h = tt
  recorded_gives (Err stop.InputFailed) law h = tt
  recorded_gives (Err stop.CrewFailed) law h = tt
  recorded_gives (Err stop.OutOfMemory) law h = tt

-- nothing was run of what is not compiled
pub runs_nothing : (source : List ℕ) (p : Profile) (s : Stop) (input crew : ℕ) → Compiles source p (Err s) → RunStops s input input crew crew
runs_nothing source p (stop.Refused a) input crew h = (refl, refl)
runs_nothing source p stop.ShelfFailed input crew h = absurd h
runs_nothing source p stop.InputFailed input crew h = absurd h
runs_nothing source p stop.CrewFailed input crew h = absurd h
runs_nothing source p stop.OutOfMemory input crew h = (refl, refl)

-- what comes of a source's text and a profile that are accepted
pub record_gives : (old new : Work) (files : Option Files) (left : Option (List ℕ)) (r : RecordAsked) (text source : List ℕ) (p q : Profile) (res : Result Outcome Stop) → IsFile files 1048576 part.Source r.source (Ok text) → IsProfile files r.profile (Ok p) → source ≡ text → q ≡ named p → Gives (Comes (IsTree source) (λ os. Comes (IsInput left 1048576 part.Input) (IsRecording old new r q os))) res → Gives (ReadsProfile files r.source r.profile (λ x. RecordsInput old new left r (named x))) res
record_gives old new files left r text source p q res h i e f g =
    let Next = λ (t : List ℕ) (x : Profile). Comes (IsTree t) (λ os. Comes (IsInput left 1048576 part.Input) (IsRecording old new r x os)) in
    gives_next (IsFile files 1048576 part.Source r.source) (λ t. Comes (IsProfile files r.profile) (λ x. Next t (named x))) text res h
    (gives_next (IsProfile files r.profile) (λ x. Next text (named x)) p res i (subst (λ t. Gives (Next t (named p)) res) e (subst (λ x. Gives (Next source x) res) f g)))
