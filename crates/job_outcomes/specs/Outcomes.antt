-- What a job comes to.
use Rattle.std.specs.Prelude.{List, [], ◌++◌}
use Rattle.command_line.specs.declared.answer.Answer.{Answer}
use Rattle.job_outcomes.specs.Puts.{Put}
use Rattle.job_outcomes.specs.declared.outcome.Outcome.{Outcome}

-- an answer alone, with no file put
abbrev pub answers : Answer → Outcome
answers a = record { puts = []; answer = a }

-- an outcome, before whose files these are put
abbrev pub following : List Put → Outcome → Outcome
following puts o = record { puts = puts ++ o.puts; answer = o.answer }
