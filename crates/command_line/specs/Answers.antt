-- What the program tells by each of its answers: its exit status and its text. Each line ends with a newline, and
-- numbers are in decimal.
use Rattle.std.specs.Prelude.{◌≡◌, refl, ℕ, List, ◌++◌, codes, decimal}
use Rattle.std.specs.Fmt.{digits}
use Rattle.rr_base.specs.Traps.{trap_number}
use Rattle.rr_base.specs.declared.trap.Trap.{Trap}
use Rattle.rr_base.specs.declared.trap.Trap.TheVariants as trap
use Rattle.command_line.specs.declared.answer.Part.{Part}
use Rattle.command_line.specs.declared.answer.Part.TheVariants as part
use Rattle.command_line.specs.declared.answer.Answer.{Answer}
use Rattle.command_line.specs.declared.answer.Answer.TheVariants as answer

-- the exit status; only 0 is success
abbrev pub status_of : Answer → ℕ
status_of (answer.Done out) = 0
status_of answer.Usage = 1
status_of (answer.SourceRefused number line column) = 2
status_of (answer.Trapped out kind thread line) = 3
status_of (answer.LogRefused number line) = 4
status_of (answer.WrongEntry at) = 5
status_of (answer.ProfileRefused number) = 6
status_of (answer.TooLarge what) = 11
status_of (answer.CheckpointRefused number place) = 13

-- `source refused 7 3 12`
abbrev pub source_refused : (number line column : ℕ) → List ℕ
source_refused number line column = codes "source refused " ++ decimal number ++ codes " " ++ decimal line ++ codes " " ++ decimal column ++ codes "\n"

-- the words that say what is refused, the number of the fault, and its place
abbrev pub refused : (words : List ℕ) → (number place : ℕ) → List ℕ
refused words number place = words ++ decimal number ++ codes " " ++ decimal place ++ codes "\n"

-- `log refused 23 4`
abbrev pub log_refused : (number line : ℕ) → List ℕ
log_refused number line = refused (codes "log refused ") number line

-- `checkpoint refused 26 2`
abbrev pub checkpoint_refused : (number place : ℕ) → List ℕ
checkpoint_refused number place = refused (codes "checkpoint refused ") number place

-- `trap 9 thread 0 line 2`
abbrev pub trap_line : (kind : Trap) → (thread line : ℕ) → List ℕ
trap_line kind thread line = codes "trap " ++ decimal (trap_number kind) ++ codes " thread " ++ decimal thread ++ codes " line " ++ decimal line ++ codes "\n"

-- `wrong entry 5`
abbrev pub wrong_entry : ℕ → List ℕ
wrong_entry at = codes "wrong entry " ++ decimal at ++ codes "\n"

-- `profile refused 21`
abbrev pub profile_refused : ℕ → List ℕ
profile_refused number = codes "profile refused " ++ decimal number ++ codes "\n"

-- the line for a file or an input beyond its limit
abbrev pub too_large : Part → List ℕ
too_large part.Source = codes "too large source\n"
too_large part.Log = codes "too large log\n"
too_large part.Profile = codes "too large profile\n"
too_large part.Input = codes "too large input\n"
too_large part.Checkpoint = codes "too large checkpoint\n"

-- all that the program writes; what the source printed comes first
abbrev pub text_of : Answer → List ℕ
text_of (answer.Done out) = out
text_of answer.Usage = codes "usage\n"
text_of (answer.SourceRefused number line column) = source_refused number line column
text_of (answer.Trapped out kind thread line) = out ++ trap_line kind thread line
text_of (answer.LogRefused number line) = log_refused number line
text_of (answer.WrongEntry at) = wrong_entry at
text_of (answer.ProfileRefused number) = profile_refused number
text_of (answer.TooLarge what) = too_large what
text_of (answer.CheckpointRefused number place) = checkpoint_refused number place

-- ---- what is told of a made source

-- `made 1 bytes 496 slots 8`
abbrev pub made_line : (count bytes : ℕ) → List ℕ
made_line count bytes = codes "made " ++ decimal count ++ codes " bytes " ++ decimal bytes ++ codes " slots 8\n"

-- how many functions and bytes it has, what the recording printed, and what the replay did
abbrev pub summary_of : (count bytes : ℕ) → (recorded replayed : List ℕ) → List ℕ
summary_of count bytes recorded replayed = made_line count bytes ++ recorded ++ replayed

-- ---- what is told where the outside fails

-- .. reading of the input
abbrev pub read_fault : List ℕ
read_fault = codes "read fault\n"

-- .. the shelf
abbrev pub shelf_fault : List ℕ
shelf_fault = codes "shelf fault\n"

-- .. the crew
abbrev pub crew_fault : List ℕ
crew_fault = codes "crew fault\n"

-- ---- worked rows

one_function : summary_of 1 496 (codes "112\n") (codes "112\n") ≡ codes "made 1 bytes 496 slots 8\n112\n112\n"
unfolding digits
one_function = refl

refused_source : text_of (answer.SourceRefused 7 3 12) ≡ codes "source refused 7 3 12\n"
unfolding digits
refused_source = refl

refused_profile : text_of (answer.ProfileRefused 21) ≡ codes "profile refused 21\n"
unfolding digits
refused_profile = refl

refused_checkpoint : text_of (answer.CheckpointRefused 26 2) ≡ codes "checkpoint refused 26 2\n"
unfolding digits
refused_checkpoint = refl

without_newline : text_of (answer.Trapped (codes "5") trap.MutexMisuse 0 2) ≡ codes "5trap 9 thread 0 line 2\n"
unfolding digits
without_newline = refl
