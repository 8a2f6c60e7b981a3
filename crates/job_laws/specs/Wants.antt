-- That a file is missing which a job asks the shelf for, in the order of work.
use Rattle.std.specs.Prelude.{ℕ, List, ◌⊎◌, Option, Some, None, Ok}
use Rattle.command_line.specs.Jobs.{Asked}
use Rattle.command_line.specs.Jobs.Asked.{Races, Weaken, Record, Replay, Profile, Watch, Chain, Checkpoint, Resume, Make}
use Rattle.command_line.specs.declared.answer.Part.TheVariants as part
use Rattle.job_profiles.specs.Profiles.{LacksProfile}
use Rattle.job_outcomes.specs.Steps.{IsFile, Lacks}
use Rattle.order_log.specs.Log.{LogView}
use Rattle.rr_base.specs.Files.{Files}
use Rattle.job_laws.specs.Readings.{IsLogFile}

-- its source isn't held; or it is, and a later name isn't
abbrev pub LacksEither : Option Files → (source : List ℕ) → (LacksLater : Type 0) → Type 0
LacksEither files source LacksLater = Lacks files source ⊎ ((text : List ℕ) × IsFile files 1048576 part.Source source (Ok text) × LacksLater)

-- its log isn't held; or it is a log, and the checkpoint isn't held
abbrev pub LacksCheckpoint : Option Files → (log checkpoint : List ℕ) → Type 0
LacksCheckpoint files log checkpoint = Lacks files log ⊎ ((view : LogView) × IsLogFile files log (Ok view) × Lacks files checkpoint)

-- the shelf doesn't have a file that the job reads
abbrev pub LacksFile : Option Files → Option Asked → Type 0
LacksFile files None = ⊥
LacksFile files (Some (Races source)) = Lacks files source
LacksFile files (Some (Weaken source profile)) = LacksEither files source (LacksProfile files profile)
LacksFile files (Some (Record r)) = LacksEither files r.source (LacksProfile files r.profile)
LacksFile files (Some (Replay source log reads)) = LacksEither files source (Lacks files log)
LacksFile files (Some (Profile source log name)) = LacksEither files source (Lacks files log)
LacksFile files (Some (Watch source log formula)) = LacksEither files source (Lacks files log)
LacksFile files (Some (Chain source log one other)) = LacksEither files source (Lacks files log)
LacksFile files (Some (Checkpoint source log count name)) = LacksEither files source (Lacks files log)
LacksFile files (Some (Resume source log name)) = LacksEither files source (LacksCheckpoint files log name)
LacksFile files (Some (Make count name)) = ⊥
