-- How calls end.
use Rattle.std.proofs.Common.{◌≡◌, ◌≤◌, ◌<◌, ◌⊎◌, inl, inr, refl, ap, subst, ◌∙◌, ℕ, List, [], ◌++◌, Option, Some, None, Result, Ok, Err, arith}
use Rattle.command_line.specs.Answers.{status_of, text_of, read_fault, shelf_fault, crew_fault}
use Rattle.command_line.specs.Endings.{Sight, Writes}
use Rattle.command_line.specs.Endings.Writes.{Whole, Failed, NoMemory}
use Rattle.command_line.specs.declared.answer.Answer.{Answer}
use Rattle.command_line.specs.declared.answer.Answer.TheVariants as answer
use Rattle.rr_base.specs.Faults.{Rose}
use Rattle.rr_base.specs.Files.{Files}
use Rattle.job_outcomes.proofs.Putting.{failed_after, partly_after, put_both}
use Rattle.job_outcomes.specs.Endings.{ComesTo, Ends, Finishes, IsFoundSo, MayStop, Outside, ShelfSight, TellsStop, shelf_of}
use Rattle.job_outcomes.specs.Endings.Ends.{Found, ShelfFails, InputFails, CrewFails, WantsMemory}
use Rattle.job_outcomes.specs.Endings.Finishes.{Tells, PutFails, LacksMemory}
use Rattle.job_outcomes.specs.Endings.IsCutOff.{NonePut}
use Rattle.job_outcomes.specs.Faults.{Counts, StopCounts}
use Rattle.job_outcomes.specs.Outcomes.{answers, following}
use Rattle.job_outcomes.specs.Puts.{Put, ArePut}
use Rattle.job_outcomes.specs.Steps.{Gives}
use Rattle.job_outcomes.specs.declared.outcome.Outcome.{Outcome}
use Rattle.job_outcomes.specs.declared.stop.Stop.{Stop}
use Rattle.job_outcomes.specs.declared.stop.Stop.TheVariants as stop

pub no_puts : (old new : Option Files) → new ≡ old → ArePut [] old new
no_puts None new e = e
no_puts (Some files) new e = e

-- an outcome whose first files were put before is finished
finishes_after : (ps : List Put) (o : Outcome) (first between last : ShelfSight) (old new : Sight) (result : ℕ) → ArePut ps first.files between.files → between.faults ≡ first.faults → Finishes o between last old new result → Finishes (following ps o) first last old new result
finishes_after ps o first between last old new result h e (Tells puts faults w) = Tells (put_both ps o.puts first.files between.files last.files h puts) (faults ∙ e) w
finishes_after ps o first between last old new result h e (PutFails puts rose w) = PutFails (failed_after ps o.puts first.files between.files last.files h puts) (subst (λ n. Rose n last.faults) e rose) w
finishes_after ps o first between last old new result h e (LacksMemory is same puts faults) = LacksMemory is same (partly_after ps o.puts first.files between.files last.files h puts) (faults ∙ e)

module _ (MayHave : Outcome → Type 0) (PutsBefore : Stop → List Put → Type 0) (UsesShelf ReadsInput Runs : Type 0) (old new : Outside) (result : ℕ) where
  -- an outcome was found, without a change of the outside but for files that were put, and then finished
  pub finished : (o : Outcome) (between : ShelfSight) → IsFoundSo MayHave old.files between.files o → between.faults ≡ old.counts.shelf → new.counts.input ≡ old.counts.input → new.counts.crew ≡ old.counts.crew → Finishes o between (shelf_of new) old.out new.out result → Ends MayHave PutsBefore UsesShelf ReadsInput Runs old new result
  finished o between h faults input crew f = Found (following h.before o) h.has (record { input = input; crew = crew }) (finishes_after h.before o (shelf_of old) between (shelf_of new) old.out new.out result h.put faults f)

  -- a job was stopped, and that was told
  pub stopped : (s : Stop) → ComesTo MayHave PutsBefore old.files new.files (Err s) → StopCounts s old.counts new.counts → MayStop UsesShelf ReadsInput Runs s → TellsStop s old.out new.out result → Ends MayHave PutsBefore UsesShelf ReadsInput Runs old new result
  stopped (stop.Refused a) h counts may tells =
      let puts : ArePut (h.before ++ []) old.files new.files = put_both h.before [] old.files new.files new.files h.put (no_puts new.files new.files refl) in
      Found (following h.before (answers a)) h.has (record { input = ap (λ (c : Counts). c.input) counts; crew = ap (λ (c : Counts). c.crew) counts }) (Tells puts (ap (λ (c : Counts). c.shelf) counts) tells)
  stopped stop.ShelfFailed h counts may tells = ShelfFails may h.0 h.1 h.2 counts.0 (record { input = counts.1; crew = counts.2 }) tells
  stopped stop.InputFailed h counts may tells = InputFails may h counts.0 counts.1 counts.2 tells
  stopped stop.CrewFailed h counts may tells = CrewFails may h.0 h.1 h.2 counts.0 counts.1 counts.2 tells
  stopped stop.OutOfMemory h counts may tells = WantsMemory tells.0 h.0 h.1 h.2 counts tells.1

-- no file is put on the way to what was found
pub comes_at_once : (MayHave : Outcome → Type 0) (PutsBefore : Stop → List Put → Type 0) (old new : Option Files) (r : Result Outcome Stop) → ((s : Stop) → PutsBefore s []) → Gives MayHave r → new ≡ old → ComesTo MayHave PutsBefore old new r
comes_at_once MayHave PutsBefore old new (Ok o) none h e = record { before = []; put = no_puts old new e; has = h }
comes_at_once MayHave PutsBefore old new (Err (stop.Refused a)) none h e = record { before = []; put = no_puts old new e; has = h }
comes_at_once MayHave PutsBefore old new (Err stop.ShelfFailed) none h e = ([], none _, NonePut refl e)
comes_at_once MayHave PutsBefore old new (Err stop.InputFailed) none h e = e
comes_at_once MayHave PutsBefore old new (Err stop.CrewFailed) none h e = ([], none _, no_puts old new e)
comes_at_once MayHave PutsBefore old new (Err stop.OutOfMemory) none h e = ([], none _, record { made = []; rest = []; split = refl; files = no_puts old new e })

-- ---- the statuses

-- the status is that of an answer, or comes of a fault, which has raised a count, or of memory that ran out
pub record Causes (old new : Outside) (result : ℕ) : Type 0 where
  pub input : result ≡ 7 → Rose old.counts.input new.counts.input
  pub output : result ≡ 8 → Rose old.out.faults new.out.faults
  pub shelf : result ≡ 9 → Rose old.counts.shelf new.counts.shelf
  pub crew : result ≡ 10 → Rose old.counts.crew new.counts.crew
  pub within : result ≤ 13

-- the statuses of answers
abbrev IsAnswered : ℕ → Type 0
IsAnswered n = (n < 7) ⊎ ((11 ≤ n) × (n ≤ 13))

answered : (a : Answer) → IsAnswered (status_of a)
answered (answer.Done out) = inl (omega arith)
answered answer.Usage = inl (omega arith)
answered (answer.SourceRefused number line column) = inl (omega arith)
answered (answer.Trapped out kind thread line) = inl (omega arith)
answered (answer.LogRefused number line) = inl (omega arith)
answered (answer.WrongEntry at) = inl (omega arith)
answered (answer.ProfileRefused number) = inl (omega arith)
answered (answer.TooLarge what) = inr (omega arith, omega arith)
answered (answer.CheckpointRefused number place) = inr (omega arith, omega arith)

module _ (old new : Outside) (result : ℕ) where
  other : (n : ℕ) → IsAnswered n → result ≡ n → Causes old new result
  other n (inl h) e = record { input = λ f. absurd (omega (arith, h, e, f)); output = λ f. absurd (omega (arith, h, e, f)); shelf = λ f. absurd (omega (arith, h, e, f)); crew = λ f. absurd (omega (arith, h, e, f)); within = omega (arith, h, e) }
  other n (inr h) e = record { input = λ f. absurd (omega (arith, h.0, e, f)); output = λ f. absurd (omega (arith, h.0, e, f)); shelf = λ f. absurd (omega (arith, h.0, e, f)); crew = λ f. absurd (omega (arith, h.0, e, f)); within = omega (arith, h.1, e) }

  of_answer : (a : Answer) → result ≡ status_of a → Causes old new result
  of_answer a e = other (status_of a) (answered a) e

  of_input : Rose old.counts.input new.counts.input → result ≡ 7 → Causes old new result
  of_input rose e = record { input = λ _. rose; output = λ f. absurd (omega (arith, e, f)); shelf = λ f. absurd (omega (arith, e, f)); crew = λ f. absurd (omega (arith, e, f)); within = omega (arith, e) }

  of_output : Rose old.out.faults new.out.faults → result ≡ 8 → Causes old new result
  of_output rose e = record { input = λ f. absurd (omega (arith, e, f)); output = λ _. rose; shelf = λ f. absurd (omega (arith, e, f)); crew = λ f. absurd (omega (arith, e, f)); within = omega (arith, e) }

  of_shelf : Rose old.counts.shelf new.counts.shelf → result ≡ 9 → Causes old new result
  of_shelf rose e = record { input = λ f. absurd (omega (arith, e, f)); output = λ f. absurd (omega (arith, e, f)); shelf = λ _. rose; crew = λ f. absurd (omega (arith, e, f)); within = omega (arith, e) }

  of_crew : Rose old.counts.crew new.counts.crew → result ≡ 10 → Causes old new result
  of_crew rose e = record { input = λ f. absurd (omega (arith, e, f)); output = λ f. absurd (omega (arith, e, f)); shelf = λ f. absurd (omega (arith, e, f)); crew = λ _. rose; within = omega (arith, e) }

  of_memory : result ≡ 12 → Causes old new result
  of_memory e = other 12 (inr (omega arith, omega arith)) e

  -- a text was written, with this status
  of_writes : (text : List ℕ) (status : ℕ) → (result ≡ status → Causes old new result) → Writes text status old.out new.out result → Causes old new result
  of_writes text status c (Whole e took faults) = c e
  of_writes text status c (Failed e took rose) = of_output rose e
  of_writes text status c (NoMemory e took faults) = of_memory e

  of_finish : (o : Outcome) → Finishes o (shelf_of old) (shelf_of new) old.out new.out result → Causes old new result
  of_finish o (Tells puts faults w) = of_writes (text_of o.answer) (status_of o.answer) (of_answer o.answer) w
  of_finish o (PutFails puts rose w) = of_writes shelf_fault 9 (of_shelf rose) w
  of_finish o (LacksMemory e same puts faults) = of_memory e

  pub causes : (MayHave : Outcome → Type 0) (PutsBefore : Stop → List Put → Type 0) (UsesShelf ReadsInput Runs : Type 0) → Ends MayHave PutsBefore UsesShelf ReadsInput Runs old new result → Causes old new result
  causes MayHave PutsBefore UsesShelf ReadsInput Runs (Found o h only f) = of_finish o f
  causes MayHave PutsBefore UsesShelf ReadsInput Runs (ShelfFails uses puts before files rose only w) = of_writes shelf_fault 9 (of_shelf rose) w
  causes MayHave PutsBefore UsesShelf ReadsInput Runs (InputFails reads files rose shelf crew w) = of_writes read_fault 7 (of_input rose) w
  causes MayHave PutsBefore UsesShelf ReadsInput Runs (CrewFails runs puts before files rose shelf input w) = of_writes crew_fault 10 (of_crew rose) w
  causes MayHave PutsBefore UsesShelf ReadsInput Runs (WantsMemory e puts before files counts out) = of_memory e
