-- Reading line by line, as the code does it. What it comes to is said in Reading.antt: here the steps only have names.
use Rattle.std.specs.Prelude.{◌≡◌, ℕ, zero, suc, ◌+◌, min, Bool, true, false, not, ◌&&◌, ◌==◌, nat_lt, nat_le, if◌then◌else◌, IsTrue, List, [], ◌∷◌, ◌++◌, slice_index, ◌<◌, count_by, codes, Option, Some, None, option_and_then, Result, Ok, Err}
use Rattle.std.specs.Str.{bytes_eq}
use Rattle.profiles.specs.declared.profile.Profile.{Profile}
use Rattle.profiles.specs.declared.profile.Profile.TheVariants as profile
use Rattle.profiles.specs.Profile.{Text, Pair}
use Rattle.sync_objects.specs.declared.entry.Entry.{Entry}
use Rattle.sync_objects.specs.declared.object.ObjId.{ObjId}
use Rattle.sync_objects.specs.declared.object.ObjId.TheVariants as object
use Rattle.sync_objects.specs.Names.{is_ending}
use Rattle.sync_objects.specs.Setup.{SetupView}
use Rattle.order_log.specs.declared.fault.LogFault.{LogFault}
use Rattle.order_log.specs.declared.fault.LogFault.TheVariants.{LogSyntax, LogLimit, OutOfMemory}
use Rattle.order_log.specs.declared.reader.Reader.{Reader}
use Rattle.order_log.specs.Log.{LogView, last_count, is_ending_of, is_other_of}
use Rattle.order_log.specs.Reading.{lines_of}
use Rattle.order_log.specs.declared.version.Version.{Version}
use Rattle.order_log.specs.declared.version.Version.TheVariants as version
use Rattle.order_log.specs.Text.{Group, shares, has_word, version_line}
use Rattle.order_log.specs.Line.{after_word, number_in, pair_in, hex_in, group_in, entries_of}

infixl 10 ◌>>=◌
-- reading ends at the first fault
abbrev pub ◌>>=◌ : {A B : Type 0} → Result A LogFault → (A → Result B LogFault) → Result B LogFault
(Ok x) >>= f = f x
(Err e) >>= f = Err e

-- what a function returned, seen by view, is what reading gives, unless memory ran out
abbrev pub Fails : {Y : Type 0} → LogFault → Result Y LogFault → Type 0
Fails (LogSyntax number) read = read ≡ Err (LogSyntax number)
Fails (LogLimit number) read = read ≡ Err (LogLimit number)
Fails OutOfMemory read = Unit {0}

-- a returned value or fault is the one that reading gives, but for memory
abbrev pub Gives : {X Y : Type 0} → (X → Y) → Result X LogFault → Result Y LogFault → Type 0
Gives view (Ok x) read = read ≡ Ok (view x)
Gives view (Err e) read = Fails e read

-- ---- lines that are left

-- a byte in front of what is unfinished belongs to it, unless a whole line follows
abbrev pub kept : ℕ → List Text → Text → Text → Text
kept b [] bs rest = b ∷ bs
kept b (line ∷ lines) bs rest = rest

-- what stands after the last newline
abbrev pub unfinished_of : Text → Text
unfinished_of [] = []
unfinished_of (b ∷ bs) = if b == 10 then unfinished_of bs else kept b (lines_of bs) bs (unfinished_of bs)

-- the number of the next line, the whole lines from it on, and what stands after them
pub record Lines : Type 0 where
  pub at : ℕ
  pub whole : List Text
  pub rest : Text

-- the bytes that are left, the first of them in the line `at`
abbrev pub lines_in : ℕ → Text → Lines
lines_in at bytes = record { at = at; whole = lines_of bytes; rest = unfinished_of bytes }

-- the lines that a reader has left
abbrev pub left : Reader → Lines
left r = lines_in r.line r.bytes.now

-- line numbers stop at the greatest of 32 bits
abbrev pub next : ℕ → ℕ
next at = min (at + 1) 4294967295

-- where no whole line is left, the fault is that of a missing line
abbrev pub first_of : ℕ → List Text → Text → Result (Text × Lines) LogFault
first_of at [] rest = Err (LogSyntax at)
first_of at (line ∷ lines) rest = Ok (line, record { at = next at; whole = lines; rest = rest })

-- the next whole line, and those after it
abbrev pub next_line : Lines → Result (Text × Lines) LogFault
next_line l = first_of l.at l.whole l.rest

-- what was found in the line of this number
abbrev pub found_at : {A : Type 0} → ℕ → Option A → Result A LogFault
found_at at None = Err (LogSyntax at)
found_at at (Some x) = Ok x

-- ---- the head

-- the version of which this is the first line
abbrev pub version_in : Text → Option Version
version_in line = if bytes_eq line (version_line version.One) then Some version.One else (if bytes_eq line (version_line version.Two) then Some version.Two else None)

-- a log begins with the format and its version
unfoldable pub first_line : Lines → Result (Version × Lines) LogFault
first_line l = do
  line ← next_line l
  w ← found_at l.at (version_in line.0)
  Ok (w, line.1)

-- a word and a number from low to high
unfoldable pub numbered : Text → ℕ → ℕ → Lines → Result (ℕ × Lines) LogFault
numbered word low high l = do
  line ← next_line l
  n ← found_at l.at (option_and_then number_in (after_word word line.0))
  if nat_le low n && nat_le n high then Ok (n, line.1) else Err (LogLimit l.at)

-- so many pairs, after those that were read
abbrev pub pairs_from : ℕ → List Pair → Lines → Result (List Pair × Lines) LogFault
pairs_from zero ps l = Ok (ps, l)
pairs_from (suc left) ps l = next_line l >>= λ line. found_at l.at (pair_in ps line.0) >>= λ p. pairs_from left (ps ++ p ∷ []) line.1

-- a profile that names pairs
abbrev pub as_profile : List Pair × Lines → Profile × Lines
as_profile x = (profile.Pairs x.0, x.1)

-- `profile all`, or `profile` with a number and so many pairs below it
unfoldable pub profile_at : Lines → Result (Profile × Lines) LogFault
profile_at l = do
  line ← next_line l
  if bytes_eq line.0 (codes "profile all") then Ok (profile.All, line.1)
      else found_at l.at (option_and_then number_in (after_word (codes "profile ") line.0)) >>= λ n. pairs_from n [] line.1 >>= λ x. Ok (as_profile x)

-- the digits of so many bytes
unfoldable pub input_at : ℕ → Lines → Result (List ℕ × Lines) LogFault
input_at size l = do
  line ← next_line l
  bytes ← found_at l.at (hex_in size line.0)
  Ok (bytes, line.1)

-- ---- entries

-- the test for what `IsObjectWithin` demands
abbrev pub is_object_within : ℕ → ObjId → Bool
is_object_within slots (object.Mutex cell) = nat_lt cell 4194304
is_object_within slots (object.Cond cell) = nat_lt cell 4194304
is_object_within slots (object.Barrier cell) = nat_lt cell 4194304
is_object_within slots (object.Rw cell) = nat_lt cell 4194304
is_object_within slots (object.Weak lock stripe) = nat_le lock 65471 && nat_le stripe 7
is_object_within slots (object.Slot slot) = nat_lt slot slots
is_object_within slots object.Threads = true
is_object_within slots object.Halt = true
is_object_within slots object.Input = true
is_object_within slots object.Output = true

-- the test for what `IsEntryWithin` demands
abbrev pub is_entry_within : SetupView → Entry → Bool
is_entry_within s e = nat_lt e.thread s.slots && (nat_le e.count (last_count s.limit e.op) && is_object_within s.slots e.obj)

-- the thread may have one more such entry
abbrev pub has_room : Bool → ℕ → List Entry → Bool
has_room true thread es = nat_lt (count_by (is_ending_of thread) es) 6
has_room false thread es = nat_lt (count_by (is_other_of thread) es) 1048576

-- within the limits, and its thread has room for it after those before
abbrev pub may_follow : SetupView → List Entry → Entry → Bool
may_follow s es e = is_entry_within s e && has_room (is_ending e.op) e.thread es

-- these may follow, one after another
abbrev pub may_all_follow : SetupView → List Entry → List Entry → Bool
may_all_follow s es [] = true
may_all_follow s es (f ∷ fs) = may_follow s es f && may_all_follow s (es ++ f ∷ []) fs

-- the entry belongs into the last line of those before
abbrev pub joins : Version → List Entry → Entry → Bool
joins w [] f = false
joins w (e ∷ []) f = shares w e f
joins w (e ∷ g ∷ es) f = joins w (g ∷ es) f

-- a line may begin with the entry after those before: the version has a word for it, and it doesn't belong into the last line
abbrev pub may_begin : Version → List Entry → Entry → Bool
may_begin w es f = has_word w f.op && not (joins w es f)

-- the entries of a line that begins as it has to
abbrev pub apart : Version → List Entry → Group → Option Group
apart w es r = if may_begin w es r.first then Some r else None

-- bytes without a newline behind the last line are a fault
abbrev pub ended : List Entry → ℕ → Text → Result (List Entry) LogFault
ended es at [] = Ok es
ended es at (b ∷ bs) = Err (LogSyntax at)

-- the entries to the end, after those that were read
abbrev pub entries_from : Version → SetupView → List Entry → ℕ → List Text → Text → Result (List Entry) LogFault
entries_from w s es at [] rest = ended es at rest
entries_from w s es at (line ∷ lines) rest =
    found_at at (option_and_then (apart w es) (group_in w line)) >>= λ r. if may_all_follow s es (entries_of r) then entries_from w s (es ++ entries_of r) (next at) lines rest else Err (LogLimit at)

-- all lines below the head are entries
abbrev pub entries_at : Version → SetupView → Lines → Result (List Entry) LogFault
entries_at w s l = entries_from w s [] l.at l.whole l.rest

-- ---- the whole

-- the head's lines in their one order, then the entries
unfoldable pub log_at : Lines → Result LogView LogFault
log_at l = do
  first ← first_line l
  slots ← numbered (codes "slots ") 1 16 first.1
  cells ← numbered (codes "cells ") 1024 131072 slots.1
  limit ← numbered (codes "limit ") 1 67108864 cells.1
  profile ← profile_at limit.1
  size ← numbered (codes "input ") 0 1048576 profile.1
  input ← input_at size.0 size.1
  entries ← entries_at first.0 (record { slots = slots.0; cells = cells.0; limit = limit.0; input = input.0 }) input.1
  Ok (record { setup = record { slots = slots.0; cells = cells.0; limit = limit.0; input = input.0 }; profile = profile.0; entries = entries })

-- ---- counting

-- the counts are those of these entries
pub record AreCounted (others endings : List ℕ) (es : List Entry) : Type 0 where
  pub of_others : (thread : ℕ) → thread < 16 → slice_index others thread ≡ count_by (is_other_of thread) es
  pub of_endings : (thread : ℕ) → thread < 16 → slice_index endings thread ≡ count_by (is_ending_of thread) es

-- whether these may follow those before, and then they are put after them and counted
pub record Pushes (s : SetupView) (before these : List Entry) (may : Bool) (after : List Entry) (others endings : List ℕ) : Type 0 where
  pub told : may ≡ may_all_follow s before these
  pub put : IsTrue may → after ≡ before ++ these
  pub counted : IsTrue may → AreCounted others endings after
