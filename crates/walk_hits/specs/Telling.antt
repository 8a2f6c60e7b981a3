-- What is told of the first access of a walk that meets a formula.
use Rattle.std.specs.Prelude.{◌≡◌, refl, ℕ, true, false, if◌then◌else◌, List, ◌++◌, codes, decimal}
use Rattle.std.specs.Fmt.{digits}
use Rattle.command_line.specs.declared.answer.Answer.{Answer}
use Rattle.command_line.specs.declared.answer.Answer.TheVariants as answer
use Rattle.core_run.specs.declared.outcome.Walk.{Walk}
use Rattle.core_run.specs.declared.outcome.Walk.TheVariants as walk
use Rattle.flow_code.specs.declared.code.Code.{Code}
use Rattle.job_outcomes.specs.Outcomes.{answers}
use Rattle.job_outcomes.specs.declared.outcome.Outcome.{Outcome}
use Rattle.reads_text.specs.Text.{value_text}
use Rattle.sync_objects.specs.Setup.{SetupView}
use Rattle.sync_objects.specs.declared.entry.Entry.{Entry}
use Rattle.thread_interpreter.specs.declared.access.Access.{Access}
use Rattle.thread_interpreter.specs.declared.access.Formula.{Formula}
use Rattle.walk_accesses.specs.Accesses.{IsWatched}
use Rattle.walk_accesses.specs.declared.seen.Seen.{Seen}
use Rattle.walk_accesses.specs.declared.seen.Seen.TheVariants as seen
use Rattle.walk_accesses.specs.declared.seen.Watched.{Watched}

-- its kind, between blanks
abbrev pub kind_text : Access → List ℕ
kind_text a = if a.store then codes " store " else codes " load "

-- the position of the entry in whose part it is, its thread, how many events this had made before, its kind, its cell and its value as a
-- signed number: `hit 11 1 4 store 6 1`
abbrev pub hit_text : (part : ℕ) → Access → List ℕ
hit_text part a = codes "hit " ++ decimal part ++ codes " " ++ decimal a.thread ++ codes " " ++ decimal a.count ++ kind_text a ++ decimal a.cell ++ codes " " ++ value_text a.value ++ codes "\n"

-- the line that tells what is seen
abbrev pub line_of : Seen → List ℕ
line_of (seen.Hit part access) = hit_text part access
line_of seen.Nowhere = codes "no hit\n"

-- the line, with the trap that the walk ends with; or the first wrong entry
abbrev pub answer_of : (line : List ℕ) → Walk → Answer
answer_of line (walk.Done out reads ends) = answer.Done line
answer_of line (walk.Trapped kind thread at out reads ends) = answer.Trapped line kind thread at
answer_of line (walk.Wrong at) = answer.WrongEntry at

-- the walk of the entries is watched for accesses that meet the formula, and what is seen is told. No file is put
pub record TellsHit (code : Code) (s : SetupView) (es : List Entry) (f : Formula) (o : Outcome) : Type 0 where
  pub watched : Watched
  pub is : IsWatched code s es f watched
  pub told : o ≡ answers (answer_of (line_of watched.seen) watched.walk)

-- the walk of the entries has one answer to a formula
abbrev pub OneHit : Type 0
OneHit = (code : Code) (s : SetupView) (es : List Entry) (f : Formula) (o p : Outcome) → TellsHit code s es f o → TellsHit code s es f p → o ≡ p

-- ---- worked rows

stored : line_of (seen.Hit 11 (record { thread = 1; count = 4; cell = 6; value = 1; store = true })) ≡ codes "hit 11 1 4 store 6 1\n"
unfolding digits
stored = refl

loaded : line_of (seen.Hit 0 (record { thread = 0; count = 1; cell = 4194303; value = 18446744073709551615; store = false })) ≡ codes "hit 0 0 1 load 4194303 -1\n"
unfolding digits
loaded = refl
