-- What is told of a walk, and which of its accesses are written into a file.
use Rattle.std.specs.Prelude.{◌≡◌, ℕ, true, false, List, [], ◌∷◌, ◌++◌, Option, Some, None}
use Rattle.command_line.specs.declared.answer.Answer.{Answer}
use Rattle.command_line.specs.declared.answer.Answer.TheVariants as answer
use Rattle.thread_interpreter.specs.declared.access.Access.{Access}
use Rattle.thread_interpreter.specs.declared.access.Formula.{Formula}
use Rattle.core_run.specs.declared.outcome.Walk.{Walk}
use Rattle.core_run.specs.declared.outcome.Walk.TheVariants as walk
use Rattle.core_run.specs.Walks.{WalkIs}
use Rattle.flow_code.specs.declared.code.Code.{Code}
use Rattle.job_outcomes.specs.Puts.{Put}
use Rattle.job_outcomes.specs.declared.outcome.Outcome.{Outcome}
use Rattle.reads_text.specs.Text.{reads_text_of}
use Rattle.sync_objects.specs.Setup.{SetupView}
use Rattle.sync_objects.specs.declared.entry.Entry.{Entry}

-- ---- which accesses are kept

-- no access is asked for
abbrev pub no_reads : Formula
no_reads = record { loads = false; stores = false; thread = None; low = 1; high = 0; value = None }

-- all loads are asked for
abbrev pub all_loads : Formula
all_loads = record { loads = true; stores = false; thread = None; low = 0; high = 4294967295; value = None }

-- all loads, where a file is named for them
abbrev pub formula_of : Option (List ℕ) → Formula
formula_of None = no_reads
formula_of (Some name) = all_loads

-- ---- what is told

-- the program's answer to a walk, without the accesses it kept
abbrev pub answer_of : Walk → Answer
answer_of (walk.Done out reads ends) = answer.Done out
answer_of (walk.Trapped kind thread line out reads ends) = answer.Trapped out kind thread line
answer_of (walk.Wrong at) = answer.WrongEntry at

-- the accesses that the walk kept; one that is wrong has none
abbrev pub kept : Walk → Option (List Access)
kept (walk.Done out reads ends) = Some reads
kept (walk.Trapped kind thread line out reads ends) = Some reads
kept (walk.Wrong at) = None

-- their file, where it is named
abbrev pub put_of : Option (List ℕ) → Option (List Access) → List Put
put_of (Some name) (Some reads) = record { name = name; content = reads_text_of reads } ∷ []
put_of _ _ = []

-- no file where none is named, or where the walk is wrong
abbrev pub reads_put : Option (List ℕ) → Walk → List Put
reads_put name w = put_of name (kept w)

-- what comes of a walk, where these files are put before
abbrev pub outcome_of : List Put → Option (List ℕ) → Walk → Outcome
outcome_of puts reads w = record { puts = puts ++ reads_put reads w; answer = answer_of w }

-- all walks of a list of entries on a code are told in the same way, and keep the same accesses
abbrev pub OneWalk : Type 0
OneWalk = (code : Code) (s : SetupView) (es : List Entry) (f : Formula) (v w : Walk) → WalkIs code s es f v → WalkIs code s es f w → (answer_of v ≡ answer_of w) × (kept v ≡ kept w)
