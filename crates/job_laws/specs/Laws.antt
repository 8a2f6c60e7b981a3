-- How far files and words determine an outcome, and which status has which cause.
use Rattle.std.specs.Prelude.{◌≡◌, ℕ, List, Option, Some}
use Rattle.command_line.specs.Jobs.{Asked}
use Rattle.job_outcomes.specs.Endings.{Ends, Outside}
use Rattle.job_outcomes.specs.declared.outcome.Outcome.{Outcome}
use Rattle.rr_base.specs.Files.{Files}
use Rattle.job_laws.specs.Causes.{CauseOf, IsDecided, WentWell}
use Rattle.job_laws.specs.Asks.{AsksCrew, AsksInput}
use Rattle.job_laws.specs.Jobs.{IsOutcome, PutsBefore, RecordsRun, UsesShelf}
use Rattle.job_runs.specs.Works.{IsOfRun, Work}

-- where the shelf tells its files, a job that records no run has one outcome, whatever its crew did before
abbrev pub OneOutcome : Type 0
OneOutcome = (a b c d : Work) (files : Files) (left : Option (List ℕ)) (job : Option Asked) (o x : Outcome) → (RecordsRun job → ⊥) → IsOutcome a b (Some files) left job o → IsOutcome c d (Some files) left job x → o ≡ x

-- where the input tells what is left of it, too, a job that is refused has no other outcome
abbrev pub OneRefusal : Type 0
OneRefusal = (a b c d : Work) (files : Files) (left : List ℕ) (job : Option Asked) (o x : Outcome) → (IsOfRun o.answer → ⊥) → IsOutcome a b (Some files) (Some left) job o → IsOutcome c d (Some files) (Some left) job x → o ≡ x

-- each status comes only of its cause; and where nothing failed, a cause in the words, the files or the input has its status
abbrev pub StatusesHaveCauses : Type 0
StatusesHaveCauses = (a b : Work) (files : Files) (left : List ℕ) (job : Option Asked) (old new : Outside) (status : ℕ)
    → Ends (IsOutcome a b (Some files) (Some left) job) (PutsBefore a b job) (UsesShelf job) (AsksInput (Some files) job) (AsksCrew (Some files) (Some left) job) old new status
    → CauseOf files left job old new status × (WentWell old new status → IsDecided files left job status)
