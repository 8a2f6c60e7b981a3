-- The profile of a log's walk: the file of the functions that were at work at once along it, and what is told of the walk.
use Rattle.std.specs.Prelude.{◌≡◌, ℕ, List, [], ◌∷◌, Some}
use Rattle.command_line.specs.declared.answer.Answer.{Answer}
use Rattle.command_line.specs.declared.answer.Answer.TheVariants as answer
use Rattle.core_run.specs.Machine.{Told, start_state}
use Rattle.core_run.specs.Walks.{walk_of, WalkIs}
use Rattle.core_run.specs.declared.outcome.Walk.{Walk}
use Rattle.core_run.specs.declared.outcome.Walk.TheVariants as walk
use Rattle.profiles.specs.Profile.{Pair}
use Rattle.flow_code.specs.declared.code.Code.{Code}
use Rattle.job_outcomes.specs.Puts.{Put}
use Rattle.job_outcomes.specs.declared.outcome.Outcome.{Outcome}
use Rattle.profile_book.specs.Writing.{profile_text}
use Rattle.run_theory.specs.Steps.{State}
use Rattle.seen_pairs.specs.Seen.{AreSeen}
use Rattle.sync_objects.specs.Setup.{SetupView}
use Rattle.sync_objects.specs.declared.entry.Entry.{Entry}
use Rattle.walk_answers.specs.Walking.{no_reads}

-- what is told of a walk, but for what it prints: nothing, the trap that it ends with, or its first wrong entry
abbrev pub answer_of : Walk → Answer
answer_of (walk.Done out reads ends) = answer.Done []
answer_of (walk.Trapped kind thread line out reads ends) = answer.Trapped [] kind thread line
answer_of (walk.Wrong at) = answer.WrongEntry at

module _ (code : Code) (s : SetupView) (es : List Entry) (name : List ℕ) where
  -- one file of this name, which lists exactly the pairs of functions that were at work at once along the walk
  pub record PutsSeen (puts : List Put) : Type 0 where
    pub pairs : List Pair
    pub seen : AreSeen code s es pairs
    pub are : puts ≡ record { name = name; content = profile_text pairs } ∷ []

  -- that file where all threads have ended, by a trap too, and none for a walk that is wrong
  abbrev pub PutsFor : Walk → List Put → Type 0
  PutsFor (walk.Done out reads ends) puts = PutsSeen puts
  PutsFor (walk.Trapped kind thread line out reads ends) puts = PutsSeen puts
  PutsFor (walk.Wrong at) puts = puts ≡ []

  -- what comes of the walk of the entries
  pub record ShowsProfile (o : Outcome) : Type 0 where
    pub walk : Walk
    pub walks : WalkIs code s es no_reads walk
    pub puts : PutsFor walk o.puts
    pub told : o.answer ≡ answer_of walk

  -- ---- for private clauses

  -- the file, where the entries have a walk
  abbrev pub PutsWalked : List Put → Type 0
  PutsWalked puts = (end : State Told) → walk_of code s es (start_state code s) ≡ Some end → PutsSeen puts

-- the walk of the entries shows one profile
abbrev pub OneProfile : Type 0
OneProfile = (code : Code) (s : SetupView) (es : List Entry) (name : List ℕ) (o p : Outcome) → ShowsProfile code s es name o → ShowsProfile code s es name p → o ≡ p
