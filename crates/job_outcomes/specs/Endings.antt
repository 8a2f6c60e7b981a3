-- How a call of the program ends: which files were put, what was told, and the exit status.
use Rattle.std.specs.Prelude.{◌≡◌, ℕ, List, [], Option, Result, Ok, Err}
use Rattle.command_line.specs.Answers.{status_of, text_of, read_fault, shelf_fault, crew_fault}
use Rattle.command_line.specs.Endings.{Sight, Writes}
use Rattle.rr_base.specs.Faults.{Rose}
use Rattle.rr_base.specs.Files.{Files}
use Rattle.job_outcomes.specs.Faults.{Counts}
use Rattle.job_outcomes.specs.Outcomes.{answers, following}
use Rattle.job_outcomes.specs.Puts.{Put, ArePut, ArePartlyPut, PutFailed}
use Rattle.job_outcomes.specs.declared.outcome.Outcome.{Outcome}
use Rattle.job_outcomes.specs.declared.stop.Stop.{Stop}
use Rattle.job_outcomes.specs.declared.stop.Stop.TheVariants as stop

-- what is told where a job stops, and the status: a refusal is told as any answer, and without memory (12) nothing is told
abbrev pub TellsStop : Stop → (old new : Sight) → (result : ℕ) → Type 0
TellsStop (stop.Refused a) old new result = Writes (text_of a) (status_of a) old new result
TellsStop stop.ShelfFailed old new result = Writes shelf_fault 9 old new result
TellsStop stop.InputFailed old new result = Writes read_fault 7 old new result
TellsStop stop.CrewFailed old new result = Writes crew_fault 10 old new result
TellsStop stop.OutOfMemory old new result = (result ≡ 12) × (new ≡ old)

-- the files of a shelf, where it tells them, and its count of faults
pub record ShelfSight : Type 0 where
  pub files : Option Files
  pub faults : ℕ

-- an outcome is put and told. Its files were put and its answer was told; or a put failed, and that was told; or memory ran
-- out at a put (12), and nothing was told
pub data Finishes (o : Outcome) (shelf_old shelf_new : ShelfSight) (out_old out_new : Sight) (result : ℕ) : Type 0 where
  Tells : ArePut o.puts shelf_old.files shelf_new.files → shelf_new.faults ≡ shelf_old.faults → Writes (text_of o.answer) (status_of o.answer) out_old out_new result → Finishes o shelf_old shelf_new out_old out_new result
  PutFails : PutFailed o.puts shelf_old.files shelf_new.files → Rose shelf_old.faults shelf_new.faults → Writes shelf_fault 9 out_old out_new result → Finishes o shelf_old shelf_new out_old out_new result
  LacksMemory : result ≡ 12 → out_new ≡ out_old → ArePartlyPut o.puts shelf_old.files shelf_new.files → shelf_new.faults ≡ shelf_old.faults → Finishes o shelf_old shelf_new out_old out_new result

-- what is seen of the outside: the files, where the shelf tells them, what is left of the input, where that is told, the counts
-- of faults, and the output
pub record Outside : Type 0 where
  pub files : Option Files
  pub counts : Counts
  pub out : Sight

-- the shelf of an outside: its files, and how many faults it has given
abbrev pub shelf_of : Outside → ShelfSight
shelf_of x = record { files = x.files; faults = x.counts.shelf }

-- neither the input nor the crew failed
pub record OnlyShelf (old new : Outside) : Type 0 where
  pub input : new.counts.input ≡ old.counts.input
  pub crew : new.counts.crew ≡ old.counts.crew

-- which faults may stop a job
abbrev pub MayStop : (UsesShelf ReadsInput Runs : Type 0) → Stop → Type 0
MayStop UsesShelf ReadsInput Runs (stop.Refused a) = Unit {0}
MayStop UsesShelf ReadsInput Runs stop.ShelfFailed = UsesShelf
MayStop UsesShelf ReadsInput Runs stop.InputFailed = ReadsInput
MayStop UsesShelf ReadsInput Runs stop.CrewFailed = Runs
MayStop UsesShelf ReadsInput Runs stop.OutOfMemory = Unit {0}

-- putting these was cut off: one of them failed; or there was none, and nothing has changed
pub data IsCutOff (ps : List Put) (old new : Option Files) : Type 0 where
  NonePut : ps ≡ [] → new ≡ old → IsCutOff ps old new
  OneFailed : PutFailed ps old new → IsCutOff ps old new

-- How a call ends, where the outcomes that its job may have are given, and the files that it may have put before it stops so; and whether the
-- job uses the shelf, reads the input, and has threads run. An outcome was found, whose files are put, and it is told; or before
-- that the shelf, the input or the crew failed, and that was told; or memory ran out (12), and nothing was told. What the job
-- had put until then stays.
pub data Ends (MayHave : Outcome → Type 0) (PutsBefore : Stop → List Put → Type 0) (UsesShelf ReadsInput Runs : Type 0) (old new : Outside) (result : ℕ) : Type 0 where
  Found : (o : Outcome) → MayHave o → OnlyShelf old new → Finishes o (shelf_of old) (shelf_of new) old.out new.out result → Ends MayHave PutsBefore UsesShelf ReadsInput Runs old new result
  ShelfFails : UsesShelf → (puts : List Put) → PutsBefore stop.ShelfFailed puts → IsCutOff puts old.files new.files → Rose old.counts.shelf new.counts.shelf → OnlyShelf old new → Writes shelf_fault 9 old.out new.out result → Ends MayHave PutsBefore UsesShelf ReadsInput Runs old new result
  InputFails : ReadsInput → new.files ≡ old.files → Rose old.counts.input new.counts.input → new.counts.shelf ≡ old.counts.shelf → new.counts.crew ≡ old.counts.crew → Writes read_fault 7 old.out new.out result → Ends MayHave PutsBefore UsesShelf ReadsInput Runs old new result
  CrewFails : Runs → (puts : List Put) → PutsBefore stop.CrewFailed puts → ArePut puts old.files new.files → Rose old.counts.crew new.counts.crew → new.counts.shelf ≡ old.counts.shelf → new.counts.input ≡ old.counts.input → Writes crew_fault 10 old.out new.out result → Ends MayHave PutsBefore UsesShelf ReadsInput Runs old new result
  WantsMemory : result ≡ 12 → (puts : List Put) → PutsBefore stop.OutOfMemory puts → ArePartlyPut puts old.files new.files → new.counts ≡ old.counts → new.out ≡ old.out → Ends MayHave PutsBefore UsesShelf ReadsInput Runs old new result

-- ---- for private clauses

-- an outcome some of whose files were put before; the others, and its answer, are left
pub record IsFoundSo (MayHave : Outcome → Type 0) (old new : Option Files) (left : Outcome) : Type 0 where
  pub before : List Put
  pub put : ArePut before old new
  pub has : MayHave (following before left)

-- what a job came to, and which files were put on the way
abbrev pub ComesTo : (MayHave : Outcome → Type 0) → (PutsBefore : Stop → List Put → Type 0) → (old new : Option Files) → Result Outcome Stop → Type 0
ComesTo MayHave PutsBefore old new (Ok left) = IsFoundSo MayHave old new left
ComesTo MayHave PutsBefore old new (Err (stop.Refused a)) = IsFoundSo MayHave old new (answers a)
ComesTo MayHave PutsBefore old new (Err stop.ShelfFailed) = (puts : List Put) × PutsBefore stop.ShelfFailed puts × IsCutOff puts old new
ComesTo MayHave PutsBefore old new (Err stop.InputFailed) = new ≡ old
ComesTo MayHave PutsBefore old new (Err stop.CrewFailed) = (puts : List Put) × PutsBefore stop.CrewFailed puts × ArePut puts old new
ComesTo MayHave PutsBefore old new (Err stop.OutOfMemory) = (puts : List Put) × PutsBefore stop.OutOfMemory puts × ArePartlyPut puts old new
