-- What the words of a command line ask for.
use Rattle.std.specs.Prelude.{◌≡◌, ◌≤◌, refl, ℕ, Bool, true, false, ⊤, if◌then◌else◌, List, [], ◌∷◌, Option, Some, None, option_map, option_and_then, codes}
use Rattle.std.specs.Fmt.{digits}
use Rattle.std.specs.List.{list_any}
use Rattle.std.specs.Str.{bytes_eq}
use Rattle.thread_interpreter.specs.declared.access.Formula.{Formula}
use Rattle.command_line.specs.Arguments.{Argument, arguments, positional, value_of, are_fit, number_within, number_or}
use Rattle.command_line.specs.Events.{HasEventLimits, event_named}
use Rattle.command_line.specs.Predicates.{accesses_asked}
use Rattle.command_line.specs.declared.command.Command.{Command}
use Rattle.command_line.specs.declared.command.Command.TheVariants as command
use Rattle.command_line.specs.declared.event.Event.{Event}
use Rattle.command_line.specs.declared.job.Job.{Job}
use Rattle.command_line.specs.declared.job.Job.TheVariants as job
use Rattle.command_line.specs.declared.job.RecordJob.{RecordJob}

-- a recording: the names of its files, and its numbers
pub record RecordAsked : Type 0 where
  pub source : List ℕ
  pub log : List ℕ
  pub profile : Option (List ℕ)
  pub slots : ℕ
  pub cells : ℕ
  pub limit : ℕ
  pub budget : ℕ
  pub reads : Option (List ℕ)

-- a job, with the names of its files
pub data Asked : Type 0 where
  Races : (source : List ℕ) → Asked
  Weaken : (source : List ℕ) → (profile : Option (List ℕ)) → Asked
  Record : RecordAsked → Asked
  Replay : (source log : List ℕ) → (reads : Option (List ℕ)) → Asked
  Profile : (source log name : List ℕ) → Asked
  Watch : (source log : List ℕ) → (formula : Formula) → Asked
  Chain : (source log : List ℕ) → (one other : Event) → Asked
  Checkpoint : (source log : List ℕ) → (count : ℕ) → (name : List ℕ) → Asked
  Resume : (source log name : List ℕ) → Asked
  Make : (count : ℕ) → (name : List ℕ) → Asked

-- ---- the words

-- the first word of a command line, spelled just so
abbrev pub command_of : List ℕ → Option Command
command_of word =
    if bytes_eq word (codes "races") then Some command.Races else
    (if bytes_eq word (codes "weaken") then Some command.Weaken else
    (if bytes_eq word (codes "record") then Some command.Record else
    (if bytes_eq word (codes "replay") then Some command.Replay else
    (if bytes_eq word (codes "profile") then Some command.Profile else
    (if bytes_eq word (codes "watch") then Some command.Watch else
    (if bytes_eq word (codes "chain") then Some command.Chain else
    (if bytes_eq word (codes "checkpoint") then Some command.Checkpoint else
    (if bytes_eq word (codes "make") then Some command.Make else None))))))))

-- the options that may be given with a command
abbrev pub takes : Command → (option : List ℕ) → Bool
takes command.Weaken option = bytes_eq option (codes "profile")
takes command.Record option = list_any (bytes_eq option) (codes "profile" ∷ codes "slots" ∷ codes "cells" ∷ codes "limit" ∷ codes "budget" ∷ codes "reads" ∷ [])
takes command.Replay option = list_any (bytes_eq option) (codes "reads" ∷ codes "from" ∷ [])
takes _ option = false

infixl 10 ◌>>=◌
abbrev ◌>>=◌ : {A B : Type 0} → Option A → (A → Option B) → Option B
o >>= f = option_and_then f o

-- a recording, whose numbers have their limits and defaults
abbrev pub record_of : (source log : List ℕ) → (given : List Argument) → Option Asked
record_of source log given = do
  slots ← number_or 1 16 8 (value_of (codes "slots") given)
  cells ← number_or 1024 131072 16384 (value_of (codes "cells") given)
  limit ← number_or 1 67108864 16777216 (value_of (codes "limit") given)
  budget ← number_or 1 1048576 1000 (value_of (codes "budget") given)
  Some (Record (record { source = source; log = log; profile = value_of (codes "profile") given; slots = slots; cells = cells; limit = limit; budget = budget; reads = value_of (codes "reads") given }))

-- a replay of the whole log, or of the rest of it from a checkpoint on, where no reads may be asked for
abbrev pub replay_of : (source log : List ℕ) → (reads checkpoint : Option (List ℕ)) → Option Asked
replay_of source log reads None = Some (Replay source log reads)
replay_of source log None (Some name) = Some (Resume source log name)
replay_of source log (Some reads) (Some name) = None

-- what orders two events
abbrev pub chain_of : (source log one other : List ℕ) → Option Asked
chain_of source log one other = do
  i ← event_named one
  j ← event_named other
  Some (Chain source log i j)

-- the job of a command, by its positional words and the options that are given
abbrev pub asked_of : Command → (words : List (List ℕ)) → (given : List Argument) → Option Asked
asked_of command.Races (source ∷ []) given = Some (Races source)
asked_of command.Weaken (source ∷ []) given = Some (Weaken source (value_of (codes "profile") given))
asked_of command.Record (source ∷ log ∷ []) given = record_of source log given
asked_of command.Replay (source ∷ log ∷ []) given = replay_of source log (value_of (codes "reads") given) (value_of (codes "from") given)
asked_of command.Profile (source ∷ log ∷ name ∷ []) given = Some (Profile source log name)
asked_of command.Watch (source ∷ log ∷ predicate ∷ []) given = option_map (Watch source log) (accesses_asked predicate)
asked_of command.Chain (source ∷ log ∷ one ∷ other ∷ []) given = chain_of source log one other
asked_of command.Checkpoint (source ∷ log ∷ count ∷ name ∷ []) given = option_map (λ n. Checkpoint source log n name) (number_within 0 16777312 count)
asked_of command.Make (count ∷ name ∷ []) given = option_map (λ n. Make n name) (number_within 1 1000 count)
asked_of _ _ _ = None

-- the job of a command with such arguments, which have to be fit for it
abbrev pub job_by : (given : List Argument) → Command → Option Asked
job_by given command = if are_fit (takes command) given then asked_of command (positional given) given else None

-- what the words after the program's name ask for: a command, and its arguments. Other words ask for nothing
abbrev pub job_of : List (List ℕ) → Option Asked
job_of [] = None
job_of (word ∷ words) = option_and_then (job_by (arguments words)) (command_of word)

-- ---- limits

-- slots 1 to 16, cells 1024 to 131072, limit 1 to 67108864 entries
pub record HasRecordLimits (asked : RecordAsked) : Type 0 where
  pub slots_low : 1 ≤ asked.slots
  pub slots_high : asked.slots ≤ 16
  pub cells_low : 1024 ≤ asked.cells
  pub cells_high : asked.cells ≤ 131072
  pub limit_low : 1 ≤ asked.limit
  pub limit_high : asked.limit ≤ 67108864
  pub budget_low : 1 ≤ asked.budget
  pub budget_high : asked.budget ≤ 1048576

-- the numbers of a job are within their limits
abbrev pub HasLimits : Asked → Type 0
HasLimits (Record asked) = HasRecordLimits asked
HasLimits (Chain source log one other) = HasEventLimits one × HasEventLimits other
HasLimits (Checkpoint source log count name) = count ≤ 16777312
HasLimits (Make count name) = (1 ≤ count) × (count ≤ 1000)
HasLimits _ = ⊤

-- ---- jobs in the code

-- what a parsed `record` command line asks for
abbrev pub record_told : RecordJob → RecordAsked
record_told r = record { source = r.source.now; log = r.log.now; profile = option_map (λ name. name.now) r.profile; slots = r.slots; cells = r.cells; limit = r.limit; budget = r.budget; reads = option_map (λ name. name.now) r.reads }

-- what a job in the code is
abbrev pub told : Job → Asked
told (job.Races source) = Races source.now
told (job.Weaken source profile) = Weaken source.now (option_map (λ name. name.now) profile)
told (job.Record r) = Record (record_told r)
told (job.Replay source log reads) = Replay source.now log.now (option_map (λ name. name.now) reads)
told (job.Profile source log name) = Profile source.now log.now name.now
told (job.Watch source log formula) = Watch source.now log.now formula
told (job.Chain source log one other) = Chain source.now log.now one other
told (job.Checkpoint source log count name) = Checkpoint source.now log.now count name.now
told (job.Resume source log name) = Resume source.now log.now name.now
told (job.Make count name) = Make count name.now

-- ---- worked rows

no_words : job_of [] ≡ None
no_words = refl

defaults : job_of (codes "record" ∷ codes "a" ∷ codes "b" ∷ []) ≡ Some (Record (record { source = codes "a"; log = codes "b"; profile = None; slots = 8; cells = 16384; limit = 16777216; budget = 1000; reads = None }))
defaults = refl

options_anywhere : job_of (codes "record" ∷ codes "--slots" ∷ codes "3" ∷ codes "a" ∷ codes "--reads=r" ∷ codes "b" ∷ []) ≡ Some (Record (record { source = codes "a"; log = codes "b"; profile = None; slots = 3; cells = 16384; limit = 16777216; budget = 1000; reads = Some (codes "r") }))
unfolding digits
options_anywhere = refl

option_twice : job_of (codes "replay" ∷ codes "--reads=r" ∷ codes "a" ∷ codes "b" ∷ codes "--reads" ∷ codes "r" ∷ []) ≡ None
option_twice = refl

leading_zero : job_of (codes "record" ∷ codes "a" ∷ codes "b" ∷ codes "--slots" ∷ codes "08" ∷ []) ≡ None
unfolding digits
leading_zero = refl

lone_dashes : job_of (codes "replay" ∷ codes "a" ∷ codes "b" ∷ codes "--" ∷ []) ≡ None
lone_dashes = refl

dashes_with_a_word : job_of (codes "races" ∷ codes "--" ∷ codes "b" ∷ codes "a" ∷ []) ≡ None
dashes_with_a_word = refl

one_word_short : job_of (codes "record" ∷ codes "a" ∷ []) ≡ None
one_word_short = refl

watched : job_of (codes "watch" ∷ codes "a" ∷ codes "b" ∷ codes "store" ∷ []) ≡ Some (Watch (codes "a") (codes "b") (record { loads = false; stores = true; thread = None; low = 0; high = 4294967295; value = None }))
watched = refl

ordered : job_of (codes "chain" ∷ codes "a" ∷ codes "b" ∷ codes "2.4" ∷ codes "1.4" ∷ []) ≡ Some (Chain (codes "a") (codes "b") (record { thread = 2; count = 4 }) (record { thread = 1; count = 4 }))
unfolding digits
ordered = refl

one_event_short : job_of (codes "chain" ∷ codes "a" ∷ codes "b" ∷ codes "2.4" ∷ []) ≡ None
one_event_short = refl

last_checkpoint : job_of (codes "checkpoint" ∷ codes "a" ∷ codes "b" ∷ codes "16777312" ∷ codes "c" ∷ []) ≡ Some (Checkpoint (codes "a") (codes "b") 16777312 (codes "c"))
unfolding digits
last_checkpoint = refl

beyond_the_last : job_of (codes "checkpoint" ∷ codes "a" ∷ codes "b" ∷ codes "16777313" ∷ codes "c" ∷ []) ≡ None
unfolding digits
beyond_the_last = refl

resumed : job_of (codes "replay" ∷ codes "a" ∷ codes "b" ∷ codes "--from" ∷ codes "c" ∷ []) ≡ Some (Resume (codes "a") (codes "b") (codes "c"))
resumed = refl

resumed_with_reads : job_of (codes "replay" ∷ codes "a" ∷ codes "b" ∷ codes "--from=c" ∷ codes "--reads=r" ∷ []) ≡ None
resumed_with_reads = refl

made : job_of (codes "make" ∷ codes "1000" ∷ codes "n.c" ∷ []) ≡ Some (Make 1000 (codes "n.c"))
unfolding digits
made = refl
