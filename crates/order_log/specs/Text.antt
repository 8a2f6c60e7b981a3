-- The one text of a log in either version: lines, each ended by a newline byte.
use Rattle.std.specs.Prelude.{◌≡◌, ℕ, suc, ◌+◌, ◌/◌, ◌%◌, Bool, true, false, not, ◌&&◌, ◌==◌, nat_lt, if◌then◌else◌, List, [], ◌∷◌, ◌++◌, length, map, codes}
use Rattle.std.specs.List.{AllByRecursion, flat_map}
use Rattle.std.specs.Int.Digits.{digits_of}
use Rattle.profiles.specs.declared.profile.Profile.{Profile}
use Rattle.profiles.specs.declared.profile.Profile.TheVariants as profile
use Rattle.profiles.specs.Profile.{Text, Pair}
use Rattle.sync_objects.specs.declared.entry.Entry.{Entry}
use Rattle.sync_objects.specs.declared.object.ObjId.{ObjId}
use Rattle.sync_objects.specs.declared.object.ObjId.TheVariants as object
use Rattle.sync_objects.specs.declared.operation.OpName.{OpName}
use Rattle.sync_objects.specs.declared.operation.OpName.TheVariants as op
use Rattle.order_log.specs.declared.version.Version.{Version}
use Rattle.order_log.specs.declared.version.Version.TheVariants as version
use Rattle.order_log.specs.Log.{LogView}
use Rattle.order_log.specs.Operations.{op_text}

-- a number in decimal, without leading zeros
abbrev pub number_text : ℕ → Text
number_text n = if n == 0 then codes "0" else map (λ d. 48 + d) (digits_of 10 n)

-- `0` to `9`, then `a` to `f`
abbrev pub hex_digit : ℕ → ℕ
hex_digit d = if nat_lt d 10 then 48 + d else 87 + d

-- two digits a byte
abbrev pub hex_text : List ℕ → Text
hex_text bytes = flat_map (λ b. hex_digit (b / 16) ∷ hex_digit (b % 16) ∷ []) bytes

-- a letter for the kind, small before a number, and capital where there is one object
abbrev pub object_text : ObjId → Text
object_text (object.Mutex cell) = codes "m" ++ number_text cell
object_text (object.Cond cell) = codes "c" ++ number_text cell
object_text (object.Barrier cell) = codes "b" ++ number_text cell
object_text (object.Rw cell) = codes "r" ++ number_text cell
object_text (object.Weak lock stripe) = codes "w" ++ number_text lock ++ codes "." ++ number_text stripe
object_text (object.Slot slot) = codes "s" ++ number_text slot
object_text object.Threads = codes "T"
object_text object.Halt = codes "H"
object_text object.Input = codes "I"
object_text object.Output = codes "O"

-- ---- lines

-- such as `3 17 lock m1040`: thread, count, operation, object
abbrev pub entry_line : Entry → Text
entry_line e = number_text e.thread ++ codes " " ++ number_text e.count ++ codes " " ++ op_text e.op ++ codes " " ++ object_text e.obj

-- two functions that may run in parallel
abbrev pub pair_line : Pair → Text
pair_line p = codes "pair " ++ p.0 ++ codes " " ++ p.1

-- a head with how many pairs there are, then each in its own line
abbrev pub profile_lines : Profile → List Text
profile_lines profile.All = codes "profile all" ∷ []
profile_lines (profile.Pairs ps) = (codes "profile " ++ number_text (length ps)) ∷ map pair_line ps

-- what stands between the first line and the entries
abbrev pub head_lines : LogView → List Text
head_lines v =
    (codes "slots " ++ number_text v.setup.slots) ∷
    (codes "cells " ++ number_text v.setup.cells) ∷
    (codes "limit " ++ number_text v.setup.limit) ∷
    profile_lines v.profile ++
    (codes "input " ++ number_text (length v.setup.input)) ∷
    hex_text v.setup.input ∷
    []

-- ---- entries that share a line

-- two takes, or two gives
abbrev pub are_alike : OpName → OpName → Bool
are_alike op.Take op.Take = true
are_alike op.Give op.Give = true
are_alike _ _ = false

-- the second is the next stripe of the first one's lock
abbrev pub is_next : ObjId → ObjId → Bool
is_next (object.Weak lock stripe) (object.Weak other next) = lock == other && next == stripe + 1
is_next _ _ = false

-- after the first, one thread takes or gives the next stripe at the same count
abbrev pub continues : Entry → Entry → Bool
continues e f = e.thread == f.thread && (e.count == f.count && (are_alike e.op f.op && is_next e.obj f.obj))

-- the second stands in the first one's line. In version 1 each entry has a line of its own
abbrev pub shares : Version → Entry → Entry → Bool
shares version.One e f = false
shares version.Two e f = continues e f

-- the entries of one line: the first, and how many more there are
pub record Group : Type 0 where
  pub first : Entry
  pub more : ℕ

-- an entry joins the line after it, or has its own
abbrev pub onto_group : Version → Entry → List Group → List Group
onto_group w e [] = record { first = e; more = 0 } ∷ []
onto_group w e (r ∷ rs) = if shares w e r.first then record { first = e; more = suc r.more } ∷ rs else record { first = e; more = 0 } ∷ r ∷ rs

-- the entries line by line, in each line all that share it
abbrev pub groups_of : Version → List Entry → List Group
groups_of w [] = []
groups_of w (e ∷ es) = onto_group w e (groups_of w es)

-- the stripe of an object that has one
abbrev pub stripe_of : ObjId → ℕ
stripe_of (object.Weak lock stripe) = stripe
stripe_of _ = 0

-- the last stripe of more than one
abbrev pub last_text : Group → Text
last_text r = if r.more == 0 then [] else codes "-" ++ number_text (stripe_of r.first.obj + r.more)

-- such as `3 17 take w4.0-2`, which stands for the takes of three stripes
abbrev pub group_line : Group → Text
group_line r = entry_line r.first ++ last_text r

-- ---- what a version can say

-- an operation on a read-write lock
abbrev pub is_of_rwlock : OpName → Bool
is_of_rwlock op.RdLock = true
is_of_rwlock op.WrLock = true
is_of_rwlock op.RwUnlock = true
is_of_rwlock op.RwInit = true
is_of_rwlock _ = false

-- version 1 has no words for read-write locks
abbrev pub has_word : Version → OpName → Bool
has_word version.One o = not (is_of_rwlock o)
has_word version.Two o = true

-- the version has a word for the operation of each entry
abbrev pub CanSay : Version → LogView → Type 0
CanSay w v = AllByRecursion (λ e. has_word w e.op ≡ true) v.entries

-- ---- the whole

-- the format and its version
abbrev pub version_line : Version → Text
version_line version.One = codes "chimera log 1"
version_line version.Two = codes "chimera log 2"

-- the version stands first, the entries last
abbrev pub log_lines : Version → LogView → List Text
log_lines w v = version_line w ∷ head_lines v ++ map group_line (groups_of w v.entries)

-- the lines, each with its newline
abbrev pub text_of : List Text → Text
text_of lines = flat_map (λ line. line ++ 10 ∷ []) lines

-- the bytes that mean the log in this version, the only ones
abbrev pub text_in : Version → LogView → Text
text_in w v = text_of (log_lines w v)

-- the bytes of the log's file, as it is written
abbrev pub log_text : LogView → Text
log_text v = text_in version.Two v

-- the bytes are the log's text in one of the versions that can say it
abbrev pub IsTextOf : Text → LogView → Type 0
IsTextOf bytes v = (w : Version) × CanSay w v × (bytes ≡ text_in w v)
