-- The outcome of a job, with what the crew has done for it.
use Rattle.std.proofs.Common.{◌≡◌, ◌⊎◌, inl, inr, refl, sym, ap, subst, ℕ, false, List, [], length, Option, Some, None, Result, Ok, Err}
use Rattle.command_line.specs.declared.answer.Answer.{Answer}
use Rattle.command_line.specs.Jobs.{Asked}
use Rattle.command_line.specs.Jobs.Asked.{Make}
use Rattle.c_tree.specs.Tree.{Outer}
use Rattle.job_outcomes.proofs.Endings.{comes_at_once}
use Rattle.job_outcomes.specs.Endings.{ComesTo, IsFoundSo}
use Rattle.job_outcomes.specs.Outcomes.{answers, following}
use Rattle.job_outcomes.specs.Puts.{Put}
use Rattle.job_outcomes.specs.Steps.{Gives}
use Rattle.job_outcomes.specs.declared.outcome.Outcome.{Outcome}
use Rattle.job_outcomes.specs.declared.stop.Stop.{Stop}
use Rattle.job_outcomes.specs.declared.stop.Stop.TheVariants as stop
use Rattle.job_profiles.specs.Profiles.{IsProfile}
use Rattle.profiles.specs.declared.profile.Profile.TheVariants as profile
use Rattle.rr_base.specs.Files.{Files}
use Rattle.workload.specs.Program.{program_text}
use Rattle.job_laws.specs.Jobs.{IsDone, IsOutcome, IsOutcomeOf, PutsBefore, RunsThreads, puts_first}
use Rattle.job_runs.proofs.Worked.{summary_is_of_run, told_of_run}
use Rattle.job_runs.specs.Works.{IsIdle, IsOfRun, Work}
use Rattle.job_laws.specs.Makings.{IsMade, IsMaking}
use Rattle.job_laws.specs.Readings.{CheckpointIs, InputIs, LogIs, Reads, SourceIs, no_log, reading_of}
use Rattle.job_laws.specs.Readings.SourceAsked.{Made}
use Rattle.job_laws.specs.Sources.{IsTree}
use Rattle.job_laws.proofs.InOrder.{AfterCheckpoint, AfterLog, AfterProfile, AfterSource, AfterTree, comes_map, gives_map, steps}

pub made_is_of_run : (old new : Work) (count : ℕ) (name : List ℕ) (os : List Outer) (o : Outcome) → IsMade old new count name os o → IsOfRun o.answer
made_is_of_run old new count name os o h = subst IsOfRun (sym (ap (λ (x : Outcome). x.answer) h.told)) (summary_is_of_run count (length (program_text count)) h.recorded.answer h.replayed.answer (told_of_run h.recorded _ h.recording.walk h.recording.told refl))

-- ---- the outcome of a job

module _ (old new : Work) (files : Option Files) (left : Option (List ℕ)) (job : Asked) (One : Outcome → Type 0) (one : (o : Outcome) → One o → IsOutcomeOf old new files left job o) where
  idle_by : (a : Answer) → RunsThreads (Some job) ⊎ (new ≡ old) → ((IsOfRun a → ⊥) → new ≡ old) → (RunsThreads (Some job) → IsOfRun a → ⊥) → new ≡ old
  idle_by a (inl runs) h none = h (none runs)
  idle_by a (inr e) h none = e

  found_with_work : (first last : Option Files) (o : Outcome) → IsFoundSo One first last o → RunsThreads (Some job) ⊎ (new ≡ old) → ((IsOfRun o.answer → ⊥) → new ≡ old) → IsFoundSo (IsOutcome old new files left (Some job)) first last o
  found_with_work first last o h by idle = record { before = h.before; put = h.put; has = record { is = one (following h.before o) h.has; idle = idle_by o.answer by idle } }

  -- an outcome, with what the crew has done
  pub with_work : (Before : Stop → List Put → Type 0) (first last : Option Files) (r : Result Outcome Stop) → ComesTo One Before first last r → RunsThreads (Some job) ⊎ (new ≡ old) → IsIdle r old new → ComesTo (IsOutcome old new files left (Some job)) Before first last r
  with_work Before first last (Ok o) h by idle = found_with_work first last o h by idle
  with_work Before first last (Err (stop.Refused a)) h by idle = found_with_work first last (answers a) h by idle
  with_work Before first last (Err stop.ShelfFailed) h by idle = h
  with_work Before first last (Err stop.InputFailed) h by idle = h
  with_work Before first last (Err stop.CrewFailed) h by idle = h
  with_work Before first last (Err stop.OutOfMemory) h by idle = h

-- .. of a job that puts nothing on the way
module _ (old new : Work) (files : Option Files) (left : Option (List ℕ)) (job : Asked) (none : puts_first job ≡ []) (before : (s : Stop) → PutsBefore old new (Some job) s []) where
  at_first : (o : Outcome) → Reads files left (reading_of job) (IsDone old new job) o → IsOutcomeOf old new files left job o
  at_first o h = record { rest = o; comes = h; told = sym (ap (λ (ps : List Put). following ps o) none) }

  pub at_once : (One : Outcome → Type 0) → ((o : Outcome) → One o → Reads files left (reading_of job) (IsDone old new job) o) → (r : Result Outcome Stop) → Gives One r → RunsThreads (Some job) ⊎ (new ≡ old) → IsIdle r old new → (last : Option Files) → last ≡ files → ComesTo (IsOutcome old new files left (Some job)) (PutsBefore old new (Some job)) files last r
  at_once One one r gives by idle last same =
      with_work old new files left job (IsOutcomeOf old new files left job) (λ o h. h) (PutsBefore old new (Some job)) files last r
      (comes_at_once (IsOutcomeOf old new files left job) (PutsBefore old new (Some job)) files last r before (gives_map One (IsOutcomeOf old new files left job) r (λ o h. at_first o (one o h)) gives) same) by idle

-- a made source has been read
pub making_reads : (old new : Work) (files : Option Files) (left : Option (List ℕ)) (count : ℕ) (name : List ℕ) (o : Outcome) → IsMaking old new count name o → IsOutcomeOf old new files left (Make count name) o
making_reads old new files left count name o h =
    let reading = reading_of (Make count name) in
    let text = program_text count in
    let Done = IsDone old new (Make count name) in
    record {
      rest = h.rest;
      comes =
          steps (SourceIs files (Made count)) (AfterSource files left reading Done) h.rest text refl
          (steps (IsProfile files None) (AfterProfile files left reading Done text) h.rest profile.All refl
          (steps (LogIs files None) (AfterLog files left reading Done text profile.All) h.rest no_log refl
          (steps (CheckpointIs files None) (AfterCheckpoint files left reading Done text profile.All no_log) h.rest [] refl
          (comes_map (IsTree text) (IsMade old new count name) (AfterTree files left reading Done profile.All no_log []) h.rest
          (λ os m. steps (InputIs left false) (Done profile.All no_log [] os) h.rest [] refl m) h.comes))));
      told = h.told;
    }
