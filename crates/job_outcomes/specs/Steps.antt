-- The steps by which a job comes to its outcome. Each finds something or refuses, and the first refusal is the answer.
use Rattle.std.specs.Prelude.{◌≡◌, ◌≤◌, ◌<◌, ℕ, List, length, Option, Some, None, Result, Ok, Err}
use Rattle.command_line.specs.declared.answer.Answer.{Answer}
use Rattle.command_line.specs.declared.answer.Answer.TheVariants as answer
use Rattle.command_line.specs.declared.answer.Part.{Part}
use Rattle.rr_base.specs.Files.{Files}
use Rattle.job_outcomes.specs.declared.outcome.Outcome.{Outcome}
use Rattle.job_outcomes.specs.declared.stop.Stop.{Stop}
use Rattle.job_outcomes.specs.declared.stop.Stop.TheVariants.{Refused, ShelfFailed, InputFailed, CrewFailed, OutOfMemory}
use Rattle.job_outcomes.specs.Outcomes.{answers}

-- ---- steps in a row

-- what comes of what a step found, or its refusal
abbrev pub Then : {X : Type 0} → (X → Outcome → Type 0) → Result X Answer → Outcome → Type 0
Then Next (Ok x) o = Next x o
Then Next (Err a) o = o ≡ answers a

-- a step, and what comes of it
pub record Comes {X : Type 0} (IsStep : Result X Answer → Type 0) (Next : X → Outcome → Type 0) (o : Outcome) : Type 0 where
  pub step : Result X Answer
  pub is : IsStep step
  pub next : Then Next step o

-- ---- reading

-- the content has at most so many bytes, or it is refused
abbrev pub IsWithin : (most : ℕ) → Part → (content : List ℕ) → Result (List ℕ) Answer → Type 0
IsWithin most what content (Ok bytes) = (bytes ≡ content) × (length content ≤ most)
IsWithin most what content (Err a) = (most < length content) × (a ≡ answer.TooLarge what)

-- the name has this content, where the shelf tells its files
abbrev pub Holds : Option Files → (name content : List ℕ) → Type 0
Holds None name content = Unit {0}
Holds (Some files) name content = files name ≡ Some content

-- it holds no such name
abbrev pub Lacks : Option Files → (name : List ℕ) → Type 0
Lacks None name = Unit {0}
Lacks (Some files) name = files name ≡ None

-- reading a file that may have so many bytes
pub record IsFile (files : Option Files) (most : ℕ) (what : Part) (name : List ℕ) (r : Result (List ℕ) Answer) : Type 0 where
  pub content : List ℕ
  pub held : Holds files name content
  pub within : IsWithin most what content r

-- this is left, where the source tells it
abbrev pub HasLeft : Option (List ℕ) → List ℕ → Type 0
HasLeft None content = Unit {0}
HasLeft (Some left) content = content ≡ left

-- reading an input to its end, which may have so many bytes
pub record IsInput (left : Option (List ℕ)) (most : ℕ) (what : Part) (r : Result (List ℕ) Answer) : Type 0 where
  pub content : List ℕ
  pub had : HasLeft left content
  pub within : IsWithin most what content r

-- ---- what calls answer

-- what a step found, or its refusal; nothing is told of other ends
abbrev pub Finds : {X : Type 0} → (Result X Answer → Type 0) → Result X Stop → Type 0
Finds IsStep (Ok x) = IsStep (Ok x)
Finds IsStep (Err (Refused a)) = IsStep (Err a)
Finds IsStep (Err ShelfFailed) = Unit {0}
Finds IsStep (Err InputFailed) = Unit {0}
Finds IsStep (Err CrewFailed) = Unit {0}
Finds IsStep (Err OutOfMemory) = Unit {0}

-- an outcome, which a refusal is too
abbrev pub Gives : (Outcome → Type 0) → Result Outcome Stop → Type 0
Gives IsOutcome (Ok o) = IsOutcome o
Gives IsOutcome (Err (Refused a)) = IsOutcome (answers a)
Gives IsOutcome (Err ShelfFailed) = Unit {0}
Gives IsOutcome (Err InputFailed) = Unit {0}
Gives IsOutcome (Err CrewFailed) = Unit {0}
Gives IsOutcome (Err OutOfMemory) = Unit {0}
