-- Reading one line, as the code does it. What it comes to is said in Reading.antt: here the steps only have names.
use Rattle.std.specs.Prelude.{◌≡◌, ℕ, zero, suc, ◌+◌, ◌-◌, ◌*◌, ◌<◌, min, Bool, true, false, ◌&&◌, ◌==◌, nat_lt, if◌then◌else◌, List, [], ◌∷◌, length, codes, Option, Some, None, option_map, option_and_then}
use Rattle.std.specs.Char.{is_ascii_digit}
use Rattle.std.specs.Int.{is_in_range}
use Rattle.std.specs.List.{list_all}
use Rattle.std.specs.Ordering.{is_le, is_lt}
use Rattle.std.specs.Str.{bytes_eq}
use Rattle.profiles.specs.Profile.{Text, Pair, text_order, pair_order}
use Rattle.sync_objects.specs.declared.entry.Entry.{Entry}
use Rattle.sync_objects.specs.declared.object.ObjId.{ObjId}
use Rattle.sync_objects.specs.declared.object.ObjId.TheVariants as object
use Rattle.sync_objects.specs.declared.operation.OpName.{OpName}
use Rattle.sync_objects.specs.declared.operation.OpName.TheVariants as op
use Rattle.sync_objects.specs.declared.kind.ObjKind.{ObjKind}
use Rattle.sync_objects.specs.declared.kind.ObjKind.TheVariants as kind
use Rattle.sync_objects.specs.Names.{kind_of, object_kind}
use Rattle.order_log.specs.declared.entry.LineGroup.{LineGroup}
use Rattle.order_log.specs.declared.version.Version.{Version}
use Rattle.order_log.specs.declared.version.Version.TheVariants as version
use Rattle.order_log.specs.Names.{begins_name, continues_name}
use Rattle.order_log.specs.Text.{are_alike, Group, stripe_of}

infixl 10 ◌>>=◌
-- a line is refused as soon as one part of it is
abbrev pub ◌>>=◌ : {A B : Type 0} → Option A → (A → Option B) → Option B
o >>= f = option_and_then f o

-- ---- parts of a line

-- what stands before the first such byte, and what stands after it
abbrev pub cut : ℕ → Text → Option (Text × Text)
cut c [] = None
cut c (b ∷ bs) = if b == c then Some ([], bs) else option_map (λ p. (b ∷ p.0, p.1)) (cut c bs)

-- what stands after the word, where the line begins with it
abbrev pub after_word : Text → Text → Option Text
after_word [] line = Some line
after_word (w ∷ ws) [] = None
after_word (w ∷ ws) (b ∷ bs) = if b == w then after_word ws bs else None

-- the number that decimal digits after those of v write
abbrev pub digits_from : ℕ → Text → Option ℕ
digits_from v [] = Some v
digits_from v (b ∷ bs) = if is_ascii_digit b then digits_from (v * 10 + (b - 48)) bs else None

-- after a leading 0 no digit may stand
abbrev pub only_zero : Text → Option ℕ
only_zero [] = Some 0
only_zero (b ∷ bs) = None

-- a number without leading zeros
abbrev pub number_in : Text → Option ℕ
number_in [] = None
number_in (b ∷ bs) = if b == 48 then only_zero bs else digits_from 0 (b ∷ bs)

-- a number as 64 bits hold it: the greatest stands for all from there on
abbrev pub capped : ℕ → ℕ
capped n = min n 18446744073709551615

-- the test for a name of C, in bytes
abbrev pub is_name : Text → Bool
is_name [] = false
is_name (b ∷ bs) = begins_name b && list_all continues_name bs

-- ---- entries

-- none where no operation has this name
abbrev pub op_among : List (Text × OpName) → Text → Option OpName
op_among [] text = None
op_among (row ∷ rows) text = if bytes_eq row.0 text then Some row.1 else op_among rows text

-- each operation once by its name, so the order decides nothing
abbrev pub op_rows : List (Text × OpName)
op_rows =
    (codes "take", op.Take) ∷
    (codes "give", op.Give) ∷
    (codes "lock", op.Lock) ∷
    (codes "unlock", op.Unlock) ∷
    (codes "retake", op.Retake) ∷
    (codes "revoke", op.Revoke) ∷
    (codes "print", op.Print) ∷
    (codes "getchar", op.GetChar) ∷
    (codes "trylock", op.TryLock) ∷
    (codes "minit", op.MutexInit) ∷
    (codes "center", op.CondEnter) ∷
    (codes "cwake", op.CondWake) ∷
    (codes "signal", op.Signal) ∷
    (codes "binit", op.BarrierInit) ∷
    (codes "arrive", op.Arrive) ∷
    (codes "pass", op.Pass) ∷
    (codes "draw", op.Draw) ∷
    (codes "start", op.Start) ∷
    (codes "begin", op.Begin) ∷
    (codes "end", op.End) ∷
    (codes "join", op.Join) ∷
    (codes "leave", op.Leave) ∷
    (codes "close", op.Close) ∷
    (codes "halt", op.HaltAll) ∷
    (codes "trap", op.TrapHere) ∷
    (codes "stop", op.Stop) ∷
    (codes "rdlock", op.RdLock) ∷
    (codes "wrlock", op.WrLock) ∷
    (codes "rwunlock", op.RwUnlock) ∷
    (codes "rwinit", op.RwInit) ∷
    []

-- a lock and its stripe, with a point between them
unfoldable pub weak_in : Text → Option ObjId
weak_in text = do
  parts ← cut 46 text
  lock ← number_in parts.0
  stripe ← number_in parts.1
  Some (object.Weak lock stripe)

-- the object that has no number
abbrev pub lone_object : ℕ → Option ObjId
lone_object b =
    if b == 84 then Some object.Threads else
    (if b == 72 then Some object.Halt else
    (if b == 73 then Some object.Input else
    (if b == 79 then Some object.Output else None)))

-- the object whose first byte is b
abbrev pub object_by : ℕ → Text → Option ObjId
object_by b bs =
    if b == 109 then option_map object.Mutex (number_in bs) else
    (if b == 99 then option_map object.Cond (number_in bs) else
    (if b == 98 then option_map object.Barrier (number_in bs) else
    (if b == 114 then option_map object.Rw (number_in bs) else
    (if b == 119 then weak_in bs else
    (if b == 115 then option_map object.Slot (number_in bs) else
    (if length bs == 0 then lone_object b else None))))))

-- an object by its first byte and its number
unfoldable pub object_in : Text → Option ObjId
object_in [] = None
object_in (b ∷ bs) = object_by b bs

-- kinds have numbers only so that they can be compared
abbrev pub kind_number : ObjKind → ℕ
kind_number kind.Mutex = 0
kind_number kind.Cond = 1
kind_number kind.Barrier = 2
kind_number kind.Weak = 3
kind_number kind.Slot = 4
kind_number kind.Threads = 5
kind_number kind.Halt = 6
kind_number kind.Input = 7
kind_number kind.Output = 8
kind_number kind.Rw = 9

-- the test for an operation on an object of its own kind
abbrev pub fits : OpName → ObjId → Bool
fits op obj = kind_number (kind_of op) == kind_number (object_kind obj)

-- thread, count, operation and object, with a space between each
unfoldable pub entry_in : Text → Option Entry
entry_in line = do
  t ← cut 32 line
  c ← cut 32 t.1
  o ← cut 32 c.1
  thread ← number_in t.0
  count ← number_in c.0
  op ← op_among op_rows o.0
  obj ← object_in o.1
  if fits op obj then Some (record { thread = thread; count = count; op = op; obj = obj }) else None

-- ---- lines of entries

-- the operations of which several may stand in one line
abbrev pub may_share : OpName → Bool
may_share o = are_alike o o

-- an entry alone in its line
abbrev pub alone : Entry → Group
alone e = record { first = e; more = 0 }

-- from an entry's stripe to a greater one
abbrev pub group_to : Entry → ℕ → Option Group
group_to e last = if may_share e.op && nat_lt (stripe_of e.obj) last then Some (record { first = e; more = last - stripe_of e.obj }) else None

-- an entry, and the last stripe
unfoldable pub range_in : Text × Text → Option Group
range_in p = do
  e ← entry_in p.0
  last ← number_in p.1
  group_to e last

-- what a line is that was cut at its hyphen, where it has one
abbrev pub group_cut : Text → Option (Text × Text) → Option Group
group_cut line None = option_map alone (entry_in line)
group_cut line (Some p) = range_in p

-- the entries of a line, of which version 1 has one in each
abbrev pub group_in : Version → Text → Option Group
group_in version.One line = group_cut line None
group_in version.Two line = group_cut line (cut 45 line)

-- the next stripe of the same lock
abbrev pub next_object : ObjId → ObjId
next_object (object.Mutex cell) = object.Mutex cell
next_object (object.Cond cell) = object.Cond cell
next_object (object.Barrier cell) = object.Barrier cell
next_object (object.Rw cell) = object.Rw cell
next_object (object.Weak lock stripe) = object.Weak lock (stripe + 1)
next_object (object.Slot slot) = object.Slot slot
next_object object.Threads = object.Threads
next_object object.Halt = object.Halt
next_object object.Input = object.Input
next_object object.Output = object.Output

-- the same of the next stripe
abbrev pub next_entry : Entry → Entry
next_entry e = record { thread = e.thread; count = e.count; op = e.op; obj = next_object e.obj }

-- so many entries after this one, each of the next stripe
abbrev pub stripes_after : Entry → ℕ → List Entry
stripes_after e zero = []
stripes_after e (suc more) = next_entry e ∷ stripes_after (next_entry e) more

-- the entries of a line
abbrev pub entries_of : Group → List Entry
entries_of r = r.first ∷ stripes_after r.first r.more

-- only a stripe has others after it in its line
abbrev pub IsGroup : Group → Type 0
IsGroup r = 0 < r.more → object_kind r.first.obj ≡ kind.Weak

-- ---- an entry in the code's types, whose greatest numbers stand for all from there on

-- cells have 32 bits, locks 16, stripes and slots 8
abbrev pub clipped_object : ObjId → ObjId
clipped_object (object.Mutex cell) = object.Mutex (min cell 4294967295)
clipped_object (object.Cond cell) = object.Cond (min cell 4294967295)
clipped_object (object.Barrier cell) = object.Barrier (min cell 4294967295)
clipped_object (object.Rw cell) = object.Rw (min cell 4294967295)
clipped_object (object.Weak lock stripe) = object.Weak (min lock 65535) (min stripe 255)
clipped_object (object.Slot slot) = object.Slot (min slot 255)
clipped_object object.Threads = object.Threads
clipped_object object.Halt = object.Halt
clipped_object object.Input = object.Input
clipped_object object.Output = object.Output

-- threads have 8 bits, counts 32
abbrev pub clipped : Entry → Entry
clipped e = record { thread = min e.thread 255; count = min e.count 4294967295; op = e.op; obj = clipped_object e.obj }

-- the first entry of a line, and the last stripe
abbrev pub clipped_group : Group → LineGroup
clipped_group r = record { first = clipped r.first; last = min (stripe_of r.first.obj + r.more) 255 }

-- ---- pairs

-- the pair comes after the last of those
abbrev pub ends_before : List Pair → Pair → Bool
ends_before [] p = true
ends_before (q ∷ []) p = is_lt (pair_order q p)
ends_before (q ∷ r ∷ rs) p = ends_before (r ∷ rs) p

-- `pair` and two names, the lesser first, after all pairs so far
unfoldable pub pair_in : List Pair → Text → Option Pair
pair_in ps line = do
  rest ← after_word (codes "pair ") line
  p ← cut 32 rest
  if is_name p.0 && (is_name p.1 && (is_le (text_order p.0 p.1) && ends_before ps p)) then Some p else None

-- ---- bytes in hexadecimal digits

-- capital letters are no digits here
abbrev pub hex_value : ℕ → Option ℕ
hex_value b = if is_in_range 48 57 b then Some (b - 48) else (if is_in_range 97 102 b then Some (b - 87) else None)

-- of two digits, the high one first
unfoldable pub byte_in : ℕ → ℕ → Option ℕ
byte_in a b = do
  high ← hex_value a
  low ← hex_value b
  Some (16 * high + low)

-- an odd digit at the end spoils them all
abbrev pub bytes_in : Text → Option (List ℕ)
bytes_in [] = Some []
bytes_in (a ∷ []) = None
bytes_in (a ∷ b ∷ rest) = byte_in a b >>= λ byte. bytes_in rest >>= λ bytes. Some (byte ∷ bytes)

-- none unless there are two digits for each of `size` bytes
abbrev pub hex_in : ℕ → Text → Option (List ℕ)
hex_in size line = if length line == 2 * size then bytes_in line else None
