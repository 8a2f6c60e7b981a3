-- A recording is replayed, and both are told.
use Rattle.std.specs.Prelude.{◌≡◌, ℕ, List, []}
use Rattle.command_line.specs.Answers.{summary_of}
use Rattle.command_line.specs.declared.answer.Answer.{Answer}
use Rattle.command_line.specs.declared.answer.Answer.TheVariants as answer
use Rattle.core_run.specs.declared.outcome.Walk.{Walk}
use Rattle.core_run.specs.Walks.{WalkIs}
use Rattle.lock_sound.specs.Weakened.{Analysed}
use Rattle.order_log.specs.Log.{LogView}
use Rattle.job_outcomes.specs.declared.outcome.Outcome.{Outcome}
use Rattle.replayer.specs.Replays.{entries_taken}
use Rattle.walk_answers.specs.Walking.{answer_of, no_reads}
use Rattle.job_runs.specs.Works.{HasRun, Work}

-- what was printed
abbrev pub printed : Answer → List ℕ
printed (answer.Done out) = out
printed (answer.Trapped out kind thread line) = out
printed _ = []

-- the same answer, where these bytes were printed
abbrev pub with_printed : List ℕ → Answer → Answer
with_printed out (answer.Done was) = answer.Done out
with_printed out (answer.Trapped was kind thread line) = answer.Trapped out kind thread line
with_printed out a = a

-- how many functions and bytes the source has, what its recording printed, and what the replay did; and the trap, if there was one
abbrev pub summary_told : (count bytes : ℕ) → (recorded replayed : Answer) → Answer
summary_told count bytes recorded replayed = with_printed (summary_of count bytes (printed recorded) (printed replayed)) recorded

-- what is made of a recording by its replay
pub record IsReplayed (old new : Work) (count bytes : ℕ) (found : Analysed) (log : LogView) (recorded o : Outcome) : Type 0 where
  pub walk : Walk
  pub walks : WalkIs found.weak log.setup log.entries no_reads walk
  pub crew : HasRun log.setup.slots (entries_taken log.entries walk) old new
  pub told : o ≡ record { puts = recorded.puts; answer = summary_told count bytes recorded.answer (answer_of walk) }
