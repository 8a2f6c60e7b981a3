-- Which actions a log lists.
use Rattle.std.specs.Prelude.{Bool, false, not}
use Rattle.sync_objects.specs.Names.{name_of, is_ending}
use Rattle.word_semantics.specs.declared.event.Action.{Action}
use Rattle.word_semantics.specs.declared.event.Action.TheVariants as action

-- an operation that is listed in the log
abbrev pub is_entry : Action → Bool
is_entry (action.Operate o obj) = not (is_ending (name_of o))
is_entry _ = false
