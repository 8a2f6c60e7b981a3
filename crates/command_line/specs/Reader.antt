-- The commands of `clap` that read the words after a command, and what they match there.
use Rattle.std.specs.Prelude.{true, List, [], ◌∷◌, ◌++◌, map, Option, Some, None, option_and_then, codes}
use Rattle.command_line.specs.Arguments.{Argument, Positional, Setting, Wrong, number_within, number_or}
use Rattle.command_line.specs.Jobs.{Asked, replay_of}
use Rattle.command_line.specs.Jobs.Asked.{Races, Weaken, Record, Profile, Watch, Chain, Checkpoint, Make}
use Rattle.command_line.specs.Events.{event_named}
use Rattle.command_line.specs.Predicates.{accesses_asked}
use Rattle.command_line.specs.declared.command.Command.{Command}
use Rattle.command_line.specs.declared.command.Command.TheVariants as command
use Rattle.clap.specs.Simple.{App, new_rule, new_shape}
use Rattle.clap.specs.Walk.{Row, Rule, Text}
use Rattle.clap.specs.declared.builder.value_parser.Reading.TheVariants.{AsWritten}
use Rattle.clap.specs.declared.parser.matches.ValueSource.TheVariants.{CommandLine}

-- ---- the commands

-- the positional words of a command, by the names under which they are matched
abbrev pub words_of : Command → List Text
words_of command.Races = codes "source" ∷ []
words_of command.Weaken = codes "source" ∷ []
words_of command.Record = codes "source" ∷ codes "log" ∷ []
words_of command.Replay = codes "source" ∷ codes "log" ∷ []
words_of command.Profile = codes "source" ∷ codes "log" ∷ codes "name" ∷ []
words_of command.Watch = codes "source" ∷ codes "log" ∷ codes "predicate" ∷ []
words_of command.Chain = codes "source" ∷ codes "log" ∷ codes "one" ∷ codes "other" ∷ []
words_of command.Checkpoint = codes "source" ∷ codes "log" ∷ codes "count" ∷ codes "name" ∷ []
words_of command.Make = codes "count" ∷ codes "name" ∷ []

-- the options of a command
abbrev pub options_of : Command → List Text
options_of command.Weaken = codes "profile" ∷ []
options_of command.Record = codes "profile" ∷ codes "slots" ∷ codes "cells" ∷ codes "limit" ∷ codes "budget" ∷ codes "reads" ∷ []
options_of command.Replay = codes "reads" ∷ codes "from" ∷ []
options_of _ = []

-- an option that takes a value, as `--name value` and `--name=value`
abbrev pub option_rule : (name : Text) → Rule
option_rule name = record (new_rule name) { long = Some name }

-- a command that reads the words after its own, with no argument yet
abbrev pub bare : (name : Text) → App
bare name = record { top = record (new_shape name) { no_binary_name = true }; subs = [] }

-- the same with these arguments
abbrev pub reading : (name : Text) → (words options : List Text) → App
reading name words options = record { top = record (bare name).top { rules = map new_rule words ++ map option_rule options }; subs = [] }

-- the command that reads the words after a command
abbrev pub reader_of : Command → App
reader_of command.Races = reading (codes "races") (words_of command.Races) (options_of command.Races)
reader_of command.Weaken = reading (codes "weaken") (words_of command.Weaken) (options_of command.Weaken)
reader_of command.Record = reading (codes "record") (words_of command.Record) (options_of command.Record)
reader_of command.Replay = reading (codes "replay") (words_of command.Replay) (options_of command.Replay)
reader_of command.Profile = reading (codes "profile") (words_of command.Profile) (options_of command.Profile)
reader_of command.Watch = reading (codes "watch") (words_of command.Watch) (options_of command.Watch)
reader_of command.Chain = reading (codes "chain") (words_of command.Chain) (options_of command.Chain)
reader_of command.Checkpoint = reading (codes "checkpoint") (words_of command.Checkpoint) (options_of command.Checkpoint)
reader_of command.Make = reading (codes "make") (words_of command.Make) (options_of command.Make)

-- ---- what is matched

-- a name and its value
abbrev pub Pair : Type 0
Pair = Text × Text

-- the values in the order of the words, where positional words have these names
abbrev pub pairs : (names : List Text) → List Argument → List Pair
pairs names [] = []
pairs names (Setting name value ∷ more) = (name, value) ∷ pairs names more
pairs [] (Positional word ∷ more) = pairs [] more
pairs (name ∷ names) (Positional word ∷ more) = (name, word) ∷ pairs names more
pairs names (Wrong ∷ more) = pairs names more

-- what `clap` keeps of a value
abbrev pub row_of : Pair → Row
row_of p = record { id = p.0; values = p.1 ∷ []; count = None; source = Some CommandLine; reading = AsWritten }

-- what `clap` keeps of the arguments of a command
abbrev pub rows_read : Command → (given : List Argument) → List Row
rows_read command given = map row_of (pairs (words_of command) given)

-- ---- the job

infixl 10 ◌>>=◌
abbrev ◌>>=◌ : {A B : Type 0} → Option A → (A → Option B) → Option B
o >>= f = option_and_then f o

-- the job of a command, by the value that each name has
abbrev pub asked_by : Command → (value : Text → Option Text) → Option Asked
asked_by command.Races value = do
  source ← value (codes "source")
  Some (Races source)
asked_by command.Weaken value = do
  source ← value (codes "source")
  Some (Weaken source (value (codes "profile")))
asked_by command.Record value = do
  source ← value (codes "source")
  log ← value (codes "log")
  slots ← number_or 1 16 8 (value (codes "slots"))
  cells ← number_or 1024 131072 16384 (value (codes "cells"))
  limit ← number_or 1 67108864 16777216 (value (codes "limit"))
  budget ← number_or 1 1048576 1000 (value (codes "budget"))
  Some (Record (record { source = source; log = log; profile = value (codes "profile"); slots = slots; cells = cells; limit = limit; budget = budget; reads = value (codes "reads") }))
asked_by command.Replay value = do
  source ← value (codes "source")
  log ← value (codes "log")
  replay_of source log (value (codes "reads")) (value (codes "from"))
asked_by command.Profile value = do
  source ← value (codes "source")
  log ← value (codes "log")
  name ← value (codes "name")
  Some (Profile source log name)
asked_by command.Watch value = do
  source ← value (codes "source")
  log ← value (codes "log")
  predicate ← value (codes "predicate")
  formula ← accesses_asked predicate
  Some (Watch source log formula)
asked_by command.Chain value = do
  source ← value (codes "source")
  log ← value (codes "log")
  one ← value (codes "one")
  i ← event_named one
  other ← value (codes "other")
  j ← event_named other
  Some (Chain source log i j)
asked_by command.Checkpoint value = do
  source ← value (codes "source")
  log ← value (codes "log")
  count ← value (codes "count")
  number ← number_within 0 16777312 count
  name ← value (codes "name")
  Some (Checkpoint source log number name)
asked_by command.Make value = do
  count ← value (codes "count")
  number ← number_within 1 1000 count
  name ← value (codes "name")
  Some (Make number name)
