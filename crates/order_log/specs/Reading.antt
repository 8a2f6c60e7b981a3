-- What reading a log answers: the log whose text the bytes are, or the first line that spoils them.
use Rattle.std.specs.Prelude.{◌≡◌, ℕ, ◌+◌, ◌≤◌, min, ◌==◌, if◌then◌else◌, ◌⊎◌, List, [], ◌∷◌, ◌++◌, length, take, Result, Ok, Err}
use Rattle.profiles.specs.Profile.{Text}
use Rattle.order_log.specs.declared.fault.LogFault.{LogFault}
use Rattle.order_log.specs.declared.fault.LogFault.TheVariants.{LogSyntax, LogLimit, OutOfMemory}
use Rattle.order_log.specs.Log.{LogView, IsLog, KeepsLimits}
use Rattle.order_log.specs.declared.version.Version.{Version}
use Rattle.order_log.specs.Text.{CanSay, text_of, text_in, IsTextOf}

-- ---- the lines of a text

-- the byte is put in front of the first line; without a newline after it there is none
abbrev pub onto_first : ℕ → List Text → List Text
onto_first b [] = []
onto_first b (line ∷ lines) = (b ∷ line) ∷ lines

-- the whole lines, without their newlines; what stands after the last newline is no whole line
abbrev pub lines_of : Text → List Text
lines_of [] = []
lines_of (b ∷ bs) = if b == 10 then [] ∷ lines_of bs else onto_first b (lines_of bs)

-- ---- beginnings

-- a log whose text, in one of the versions that can say it, begins with these lines
pub record BeginsWith (lines : List Text) (v : LogView) : Type 0 where
  pub log : IsLog v
  pub version : Version
  pub words : CanSay version v
  pub more : Text
  pub text : text_in version v ≡ text_of lines ++ more

-- some log's text begins with these lines
abbrev pub BeginLog : List Text → Type 0
BeginLog lines = (v : LogView) × BeginsWith lines v

-- the text of some log within the limits does
abbrev pub BeginLimitedLog : List Text → Type 0
BeginLimitedLog lines = (v : LogView) × BeginsWith lines v × KeepsLimits v

-- ---- faults

-- the lines up to this one, from 1, are there and begin a log within the limits: the first fault comes later
pub record IsSoundUpTo (bytes : Text) (line : ℕ) : Type 0 where
  pub there : line ≤ length (lines_of bytes)
  pub begins : BeginLimitedLog (take line (lines_of bytes))

-- no log's text begins with the lines up to this one, though it is whole; or it is missing or has no newline, and
-- the bytes are no log's text
abbrev pub IsSyntaxFault : Text → ℕ → Type 0
IsSyntaxFault bytes line =
    ((line ≤ length (lines_of bytes)) × ¬ BeginLog (take line (lines_of bytes)))
    ⊎ ((line ≡ length (lines_of bytes) + 1) × ((v : LogView) → IsLog v → ¬ IsTextOf bytes v))

-- the lines up to this one begin a log, but none within the limits
pub record IsLimitFault (bytes : Text) (line : ℕ) : Type 0 where
  pub there : line ≤ length (lines_of bytes)
  pub begins : BeginLog (take line (lines_of bytes))
  pub beyond : ¬ BeginLimitedLog (take line (lines_of bytes))

-- line numbers are shown as 32 bits: the greatest stands for all from there on
abbrev pub shown : ℕ → ℕ
shown line = min line 4294967295

-- the number shows the first line that is at fault
abbrev pub IsFirstAt : (ℕ → Type 0) → Text → ℕ → Type 0
IsFirstAt IsFault bytes number = (before : ℕ) × (number ≡ shown (before + 1)) × IsSoundUpTo bytes before × IsFault (before + 1)

-- ---- answers

-- what each answer says of the bytes; for want of memory see below
abbrev pub IsAnswer : Text → Result LogView LogFault → Type 0
IsAnswer bytes (Ok v) = IsLog v × KeepsLimits v × IsTextOf bytes v
IsAnswer bytes (Err (LogSyntax number)) = IsFirstAt (IsSyntaxFault bytes) bytes number
IsAnswer bytes (Err (LogLimit number)) = IsFirstAt (IsLimitFault bytes) bytes number
IsAnswer bytes (Err OutOfMemory) = ⊥

-- want of memory is answered at any time, and nothing is said of it
abbrev pub UnlessMemory : Result LogView LogFault → Type 0 → Type 0
UnlessMemory (Ok v) P = P
UnlessMemory (Err (LogSyntax number)) P = P
UnlessMemory (Err (LogLimit number)) P = P
UnlessMemory (Err OutOfMemory) P = Unit {0}
