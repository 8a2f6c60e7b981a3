-- The rest from a checkpoint repeats the whole walk.
use Rattle.std.specs.Prelude.{◌≡◌, ℕ, List, [], ◌∷◌, drop, take, Some}
use Rattle.command_line.specs.declared.answer.Answer.{Answer}
use Rattle.command_line.specs.declared.answer.Answer.TheVariants as answer
use Rattle.core_run.specs.Machine.{Told, start_state}
use Rattle.core_run.specs.Walks.{WalkIs, out_of, walk_of}
use Rattle.core_run.specs.declared.outcome.Walk.{Walk}
use Rattle.core_run.specs.declared.outcome.Walk.TheVariants as walk
use Rattle.flow_code.specs.declared.code.Code.{Code}
use Rattle.job_outcomes.specs.Outcomes.{answers}
use Rattle.job_outcomes.specs.declared.outcome.Outcome.{Outcome}
use Rattle.lock_sound.specs.Weakened.{Analysed, IsAnalysed}
use Rattle.run_theory.specs.Steps.{State}
use Rattle.sync_objects.specs.Setup.{IsWithinLimits, SetupView}
use Rattle.sync_objects.specs.declared.entry.Entry.{Entry}
use Rattle.thread_interpreter.specs.declared.access.Formula.{Formula}
use Rattle.walk_checkpoints.specs.Telling.{GoesOn, TakesCheckpoint}

-- what is told of the rest of these entries from a state on, by the walk of the whole log: its end, its trap or its wrong entry, with
-- what is printed from that state on
abbrev pub told_from : Code → SetupView → (rest : List Entry) → State Told → (whole : Walk) → Answer
told_from code s rest st (walk.Done out reads ends) = answer.Done (out_of code s rest st)
told_from code s rest st (walk.Trapped kind thread line out reads ends) = answer.Trapped (out_of code s rest st) kind thread line
told_from code s rest st (walk.Wrong at) = answer.WrongEntry at

-- going on by the same log from the file of a checkpoint of weakened code, where the state after the first k entries was taken and
-- this file is put: it is read, and what is told is that of the walk of the whole log, but for what was printed before
abbrev pub RestRepeats : Type 0
RestRepeats = (a : Analysed) (s : SetupView) (es : List Entry) (k : ℕ) (name bytes : List ℕ) (f : Formula) (whole : Walk) (o p : Outcome)
    → IsAnalysed a
    → IsWithinLimits s
    → TakesCheckpoint a.weak s es k name o
    → o.puts ≡ record { name = name; content = bytes } ∷ []
    → WalkIs a.weak s es f whole
    → GoesOn a.weak s es bytes p
    → (st : State Told) × (walk_of a.weak s (take k es) (start_state a.weak s) ≡ Some st) × (p ≡ answers (told_from a.weak s (drop k es) st whole))
