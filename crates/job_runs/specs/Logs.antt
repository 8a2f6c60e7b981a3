-- Reading a log, and how it is refused.
use Rattle.std.specs.Prelude.{◌≡◌, ℕ, List, Result, Ok, Err}
use Rattle.command_line.specs.declared.answer.Answer.{Answer}
use Rattle.command_line.specs.declared.answer.Answer.TheVariants as answer
use Rattle.order_log.specs.Log.{LogView}
use Rattle.order_log.specs.Reading as log_text
use Rattle.order_log.specs.declared.fault.LogFault.{LogFault}
use Rattle.order_log.specs.declared.fault.LogFault.TheVariants.{LogSyntax, LogLimit, OutOfMemory}

-- how a log is refused
abbrev pub IsRefusal : LogFault → Answer → Type 0
IsRefusal (LogSyntax line) a = a ≡ answer.LogRefused 23 line
IsRefusal (LogLimit line) a = a ≡ answer.LogRefused 24 line
IsRefusal OutOfMemory a = ⊥

-- reading a log
abbrev pub IsLogIn : (bytes : List ℕ) → Result LogView Answer → Type 0
IsLogIn bytes (Ok log) = log_text.IsAnswer bytes (Ok log)
IsLogIn bytes (Err a) = (fault : LogFault) × log_text.IsAnswer bytes (Err fault) × IsRefusal fault a
