-- How far a job comes before it reads the input or has threads run: as far as nothing of what it reads until then is refused.
use Rattle.std.specs.Prelude.{ℕ, List, Option, Some, None, Ok}
use Rattle.command_line.specs.Jobs.{Asked}
use Rattle.command_line.specs.Jobs.Asked.{Record, Replay, Make}
use Rattle.command_line.specs.declared.answer.Part.TheVariants as part
use Rattle.c_tree.specs.Tree.{Outer}
use Rattle.job_profiles.specs.Profiles.{IsProfile}
use Rattle.job_runs.specs.Logs.{IsLogIn}
use Rattle.job_runs.specs.Recordings.{HasInput}
use Rattle.order_log.specs.Log.{LogView}
use Rattle.job_outcomes.specs.Steps.{IsFile}
use Rattle.profiles.specs.declared.profile.Profile.{Profile}
use Rattle.rr_base.specs.Files.{Files}
use Rattle.workload.specs.Program.{program_text}
use Rattle.job_laws.specs.Sources.{IsTree}

-- the text is one of the language
abbrev pub HasTree : (text : List ℕ) → Type 0
HasTree text = (os : List Outer) × IsTree text (Ok os)

-- the file holds such a text
abbrev pub HasSource : Option Files → (source : List ℕ) → Type 0
HasSource files source = (text : List ℕ) × IsFile files 1048576 part.Source source (Ok text) × HasTree text

-- the profile that is given, if any, is one
abbrev pub HasProfile : Option Files → (profile : Option (List ℕ)) → Type 0
HasProfile files profile = (p : Profile) × IsProfile files profile (Ok p)

-- the file holds a log
abbrev pub HasLog : Option Files → (log : List ℕ) → Type 0
HasLog files log = (bytes : List ℕ) × IsFile files 536870912 part.Log log (Ok bytes) × ((view : LogView) × IsLogIn bytes (Ok view))

-- a recording reads the input once its source and its profile are accepted
abbrev pub AsksInput : Option Files → Option Asked → Type 0
AsksInput files (Some (Record r)) = HasSource files r.source × HasProfile files r.profile
AsksInput files _ = ⊥

-- it has threads run once its input is accepted too, a replay once its source and its log are
abbrev pub AsksCrew : Option Files → (left : Option (List ℕ)) → Option Asked → Type 0
AsksCrew files left (Some (Record r)) = AsksInput files (Some (Record r)) × HasInput left
AsksCrew files left (Some (Replay source log reads)) = HasSource files source × HasLog files log
AsksCrew files left (Some (Make count name)) = HasTree (program_text count)
AsksCrew files left _ = ⊥
