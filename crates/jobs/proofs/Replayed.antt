-- A walk of a log on a source's weakened code.
use Rattle.std.proofs.Common.{◌≡◌, refl, sym, ap, subst, ◌∙◌, ℕ, List, [], Result, Ok, Err, Option, Some}
use Rattle.std.specs.Prelude.{IfOk, MatchResult}
use Rattle.command_line.specs.declared.answer.Answer.{Answer}
use Rattle.command_line.specs.declared.answer.Part.TheVariants as part
use Rattle.happens_before.specs.Orders.{IsOrderedWalk}
use Rattle.c_elaborate.specs.Whole.{core_of_source}
use Rattle.c_tree.specs.Tree.{Outer}
use Rattle.core_run.specs.declared.outcome.Walk.{Walk}
use Rattle.core_run.specs.Machine.{Told, start_state}
use Rattle.core_run.specs.Walks.{out_of, walk_of, WalkIs}
use Rattle.erasure.specs.Erased.{erased_walk, IsAnywhere}
use Rattle.flow_code.specs.declared.code.Code.{Code}
use Rattle.front.specs.Plain.{plain_code}
use Rattle.lock_sound.specs.Weakened.{Analysed, IsAnalysed}
use Rattle.order_log.specs.Log.{LogView}
use Rattle.job_outcomes.specs.Faults.{CrewShelfStops, CrewStops}
use Rattle.replayer.specs.Replays.{entries_taken}
use Rattle.job_outcomes.specs.Steps.{IsFile}
use Rattle.job_outcomes.specs.declared.outcome.Outcome.{Outcome}
use Rattle.job_outcomes.specs.declared.stop.Stop.{Stop}
use Rattle.job_outcomes.specs.declared.stop.Stop.TheVariants as stop
use Rattle.rr_base.specs.Files.{Files}
use Rattle.run_theory.specs.Steps.{State}
use Rattle.lowering_simulation.specs.SourceRuns.{IsSourceRun, bytes_of}
use Rattle.sync_objects.specs.Setup.{SetupView}
use Rattle.sync_objects.specs.declared.entry.Entry.{Entry}
use Rattle.weak_code.specs.Weakened.{weakened}
use Rattle.weak_lock_facts.specs.Ranges.{ranges_of}
use Rattle.walk_answers.specs.Walking.{formula_of, outcome_of}
use Rattle.job_laws.specs.Asks.{HasLog, HasSource}
use Rattle.job_laws.specs.Readings.{IsFollowed, IsLogFile, IsLogOf}
use Rattle.job_laws.specs.Sources.{IsSourceWalk, WalksAsSource}
use Rattle.job_runs.specs.Works.{HasRun, IsIdle, Work}
use Rattle.job_runs.proofs.Worked.{crew_is_idle, ran, told_of_run}

-- ---- the source

module _ (os : List Outer) (s : SetupView) (es : List Entry) where
  -- the entries' walk on this code is a walk of the source
  abbrev WalksSo : Code → State Told → Type 0
  WalksSo c end = walk_of c s es (start_state c s) ≡ Some end → IsSourceRun (core_of_source os) s IsAnywhere (erased_walk c s es) × (out_of c s es (start_state c s) ≡ bytes_of (erased_walk c s es))

  source_walk : (c : Code) (end : State Told) → WalksSo c end → IsOrderedWalk c s es → walk_of c s es (start_state c s) ≡ Some end → IsSourceWalk os c s es
  source_walk c end law ordered walks = let both = law walks in record { runs = both.0; prints = both.1; ordered = ordered }

  pub walks_as_source : (w : Analysed) → IsAnalysed w → w.plain ≡ plain_code os → ((end : State Told) → WalksSo (weakened (plain_code os) w.points w.pairs (ranges_of w.plain w.points) w.grains.rows) end) → ((end : State Told) → walk_of w.weak s es (start_state w.weak s) ≡ Some end → IsOrderedWalk w.weak s es) → WalksAsSource os w.weak s es
  walks_as_source w h is law ordered =
      let weak : w.weak ≡ weakened (plain_code os) w.points w.pairs (ranges_of w.plain w.points) w.grains.rows = h.weak ∙ ap (λ (p : Code). weakened p w.points w.pairs (ranges_of w.plain w.points) w.grains.rows) is in
      λ end walks. source_walk w.weak end (subst (λ (c : Code). WalksSo c end) (sym weak) (law end)) (ordered end walks) walks

log_held : (files : Option Files) (log : List ℕ) (view : LogView) → IsLogFile files log (Ok view) → HasLog files log
log_held files log view h = by h.0 h.1 h.2
  where
    by : (file : Result (List ℕ) Answer) → IsFile files 536870912 part.Log log file → IsLogOf file (Ok view) → HasLog files log
    by (Ok bytes) f l = (bytes, f, (view, l))
    by (Err a) f l = absurd (cc l)

-- ---- the outcome

-- what is told of some walk, which the crew has run
abbrev pub TellsWalk : (old new : Work) → LogView → Option (List ℕ) → Analysed → Outcome → Type 0
TellsWalk old new log reads w o = (walk : Walk) × WalkIs w.weak log.setup log.entries (formula_of reads) walk × HasRun log.setup.slots (entries_taken log.entries walk) old new × (o ≡ outcome_of [] reads walk)

module _ (a b : Work) where
  -- a walk is that of a run, and nothing is refused
  pub replayed_is_idle : (log : LogView) (reads : Option (List ℕ)) (w : Analysed) (r : Result Outcome Stop) (old new : ℕ) → IfOk r (TellsWalk a b log reads w) → MatchResult r (λ _. new ≡ old) (λ end. CrewStops end old new) → IsIdle r a b
  replayed_is_idle log reads w (Ok o) old new is stops = ran a b o (told_of_run o _ is.0 is.3 refl)
  replayed_is_idle log reads w (Err s) old new is stops = crew_is_idle a b s old new stops

-- the shelf had not failed before the crew's run
pub shelf_and_crew : (r : Result Outcome Stop) (shelf_old shelf_new crew_old crew_new : ℕ) → shelf_new ≡ shelf_old → MatchResult r (λ _. crew_new ≡ crew_old) (λ end. CrewStops end crew_old crew_new) → MatchResult r (λ _. (shelf_new ≡ shelf_old) × (crew_new ≡ crew_old)) (λ end. CrewShelfStops end shelf_old shelf_new crew_old crew_new)
shelf_and_crew (Ok o) shelf_old shelf_new crew_old crew_new e h = (e, h)
shelf_and_crew (Err (stop.Refused a)) shelf_old shelf_new crew_old crew_new e h = absurd h
shelf_and_crew (Err stop.ShelfFailed) shelf_old shelf_new crew_old crew_new e h = absurd h
shelf_and_crew (Err stop.InputFailed) shelf_old shelf_new crew_old crew_new e h = absurd h
shelf_and_crew (Err stop.CrewFailed) shelf_old shelf_new crew_old crew_new e h = (e, h)
shelf_and_crew (Err stop.OutOfMemory) shelf_old shelf_new crew_old crew_new e h = (e, h)

-- ---- what was accepted

module _ (files : Option Files) (source log : List ℕ) (w : Analysed) (view : LogView) (by : IsFollowed files source log (Ok (w, view))) where
  pub has_source : HasSource files source
  has_source = (by.0, by.1, (by.3.os, by.3.tree))

  pub has_log : HasLog files log
  has_log = log_held files log view by.2
