-- What is told of two points of a log: what orders the accesses that they name.
use Rattle.std.specs.Prelude.{◌≡◌, refl, ℕ, List, [], ◌∷◌, ◌++◌, length, codes, decimal}
use Rattle.std.specs.Fmt.{digits}
use Rattle.std.specs.List.{flat_map}
use Rattle.chain_report.specs.Finds.{FoundIs}
use Rattle.chain_report.specs.declared.point.Found.{Found}
use Rattle.chain_report.specs.declared.point.Found.TheVariants as found
use Rattle.chain_report.specs.declared.point.Point.{Point}
use Rattle.core_run.specs.Walks.{WalkIs}
use Rattle.core_run.specs.declared.outcome.Walk.{Walk}
use Rattle.flow_code.specs.Settle.{IsRunnable}
use Rattle.flow_code.specs.declared.code.Code.{Code}
use Rattle.job_outcomes.specs.Outcomes.{answers}
use Rattle.job_outcomes.specs.declared.outcome.Outcome.{Outcome}
use Rattle.sync_objects.specs.Setup.{IsWithinLimits, SetupView}
use Rattle.sync_objects.specs.declared.entry.Entry.{Entry}
use Rattle.walk_answers.specs.Walking.{no_reads}
use Rattle.walk_hits.specs.Telling.{answer_of}

-- its thread, a point, and how many events this had made before
abbrev pub point_text : Point → List ℕ
point_text p = decimal p.thread ++ codes "." ++ decimal p.count

-- the positions of the two entries, the first of which passes its object to the second
abbrev pub pass_text : ℕ × ℕ → List ℕ
pass_text pass = codes "pass " ++ decimal pass.0 ++ codes " " ++ decimal pass.1 ++ codes "\n"

-- a line for each
abbrev pub passes_text : List (ℕ × ℕ) → List ℕ
passes_text passes = flat_map pass_text passes

-- the earlier point and the later one, the passes, and how many these are
abbrev pub chain_text : (first second : Point) → List (ℕ × ℕ) → List ℕ
chain_text first second passes =
    codes "order " ++ point_text first ++ codes " " ++ point_text second ++ codes "\n" ++ passes_text passes
    ++ codes "passes " ++ decimal (length passes) ++ codes "\n"

-- the lines that tell what is found; of a wrong walk there are none
abbrev pub lines_of : Found → List ℕ
lines_of (found.Wrong at) = []
lines_of found.NoConflict = codes "no conflict\n"
lines_of (found.Chain first second passes) = chain_text first second passes

-- the walk of the entries, and what is found of the points in it, are told: the lines, with the trap that the walk ends with; or its
-- first wrong entry. No file is put
pub record TellsChain (code : Code) (s : SetupView) (es : List Entry) (one other : Point) (o : Outcome) : Type 0 where
  pub walk : Walk
  pub walks : WalkIs code s es no_reads walk
  pub found : Found
  pub finds : FoundIs code s es one other found
  pub told : o ≡ answers (answer_of (lines_of found) walk)

-- the walk of the entries has one answer for two points
abbrev pub OneChain : Type 0
OneChain = (code : Code) (s : SetupView) (es : List Entry) (one other : Point) (o p : Outcome) → IsRunnable code → IsWithinLimits s → TellsChain code s es one other o → TellsChain code s es one other p → o ≡ p

-- ---- worked rows

abbrev point : (thread count : ℕ) → Point
point thread count = record { thread = thread; count = count }

one_pass : lines_of (found.Chain (point 1 4) (point 2 4) ((11, 15) ∷ [])) ≡ codes "order 1.4 2.4\npass 11 15\npasses 1\n"
unfolding digits
one_pass = refl

three_passes : lines_of (found.Chain (point 3 32) (point 0 25) ((55, 56) ∷ (65, 68) ∷ (86, 87) ∷ [])) ≡ codes "order 3.32 0.25\npass 55 56\npass 65 68\npass 86 87\npasses 3\n"
unfolding digits
three_passes = refl

nothing : lines_of found.NoConflict ≡ codes "no conflict\n"
nothing = refl
