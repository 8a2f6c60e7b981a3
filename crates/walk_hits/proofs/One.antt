-- A log has one answer to a formula on a code.
use Rattle.std.proofs.Common.{◌≡◌, refl, sym, ap, ◌∙◌, ℕ, List}
use Rattle.command_line.specs.declared.answer.Answer.{Answer}
use Rattle.command_line.specs.declared.answer.Answer.TheVariants as answer
use Rattle.core_run.specs.declared.outcome.Walk.{Walk}
use Rattle.core_run.specs.declared.outcome.Walk.TheVariants as walk
use Rattle.flow_code.specs.declared.code.Code.{Code}
use Rattle.job_outcomes.specs.Outcomes.{answers}
use Rattle.job_outcomes.specs.declared.outcome.Outcome.{Outcome}
use Rattle.sync_objects.specs.Setup.{SetupView}
use Rattle.sync_objects.specs.declared.entry.Entry.{Entry}
use Rattle.thread_interpreter.specs.declared.access.Formula.{Formula}
use Rattle.walk_accesses.specs.Accesses.{IsWatched, Placed, accesses_in, first_seen, seen_of}
use Rattle.walk_accesses.specs.declared.seen.Watched.{Watched}
use Rattle.walk_answers.proofs.OneWalk.{one_walk}
use Rattle.walk_answers.specs.Walking as printed
use Rattle.walk_hits.specs.Telling.{answer_of, line_of, TellsHit}

-- what is told of a walk, with this line for what it prints
abbrev pub with_line : List ℕ → Answer → Answer
with_line line (answer.Done out) = answer.Done line
with_line line (answer.Trapped out kind thread at) = answer.Trapped line kind thread at
with_line line a = a

pub by_walk : (line : List ℕ) (w : Walk) → answer_of line w ≡ with_line line (printed.answer_of w)
by_walk line (walk.Done out reads ends) = refl
by_walk line (walk.Trapped kind thread at out reads ends) = refl
by_walk line (walk.Wrong at) = refl

-- what is seen depends on the walk only by its end
by_end : (f : Formula) (xs : List Placed) (w : Walk) → answer_of (line_of (seen_of f xs w)) w ≡ with_line (line_of (first_seen f xs)) (printed.answer_of w)
by_end f xs (walk.Done out reads ends) = refl
by_end f xs (walk.Trapped kind thread at out reads ends) = refl
by_end f xs (walk.Wrong at) = refl

module _ (code : Code) (s : SetupView) (es : List Entry) (f : Formula) where
  seen_is : (w : Watched) → IsWatched code s es f w → answer_of (line_of w.seen) w.walk ≡ with_line (line_of (first_seen f (accesses_in code s es))) (printed.answer_of w.walk)
  seen_is w h = ap (λ s. answer_of (line_of s) w.walk) h.seen ∙ by_end f (accesses_in code s es) w.walk

pub one_hit : (code : Code) (s : SetupView) (es : List Entry) (f : Formula) (o p : Outcome) → TellsHit code s es f o → TellsHit code s es f p → o ≡ p
one_hit code s es f o p h g =
    let same = one_walk code s es f h.watched.walk g.watched.walk h.is.walk g.is.walk in
    let line = line_of (first_seen f (accesses_in code s es)) in
    h.told ∙ ap answers (seen_is code s es f h.watched h.is ∙ ap (with_line line) same.0 ∙ sym (seen_is code s es f g.watched g.is)) ∙ sym g.told
