-- For private clauses: what is kept of the entries before one, of which its row is made.
use Rattle.std.specs.Prelude.{◌≡◌, ℕ, ◌<◌, ◌==◌, ◌&&◌, ◌||◌, Bool, true, false, if◌then◌else◌, List, Option, Some, None, slice_get}
use Rattle.std.specs.Option.{option_map_or}
use Rattle.indexmap.specs.IndexMap.{IndexMap, get}
use Rattle.run_theory.specs.Same.{same_object}
use Rattle.sync_objects.specs.declared.entry.Entry.{Entry}
use Rattle.sync_objects.specs.declared.mode.Mode.{Mode}
use Rattle.sync_objects.specs.declared.mode.Mode.TheVariants.{Read, Write}
use Rattle.sync_objects.specs.declared.object.ObjId.{ObjId}
use Rattle.sync_objects.specs.declared.operation.OpName.{OpName}
use Rattle.sync_objects.specs.declared.operation.OpName.TheVariants as name
use Rattle.chain_report.specs.Chains.{exclude, hands_thread, is_after}
use Rattle.chain_report.specs.Replayed.{holder_after, holder_over, hold_over, unless_held}
use Rattle.chain_report.specs.Tables.{is_link_of, first_from}
use Rattle.chain_report.specs.declared.kept.Hold.{Hold}
use Rattle.chain_report.specs.declared.kept.Kept.{Kept}
use Rattle.chain_report.specs.declared.past.Past.{Past}
use Rattle.chain_report.specs.declared.point.Point.{Point}
use Rattle.chain_report.specs.declared.row.Row.{Row}

-- ---- what an operation lets go and gets

-- the mode in which an operation lets its object go, where its thread held it in this mode
abbrev pub let_go : OpName → Option Mode → Option Mode
let_go name.Unlock held = Some Write
let_go name.Give held = Some Write
let_go name.Revoke held = Some Write
let_go name.RwUnlock held = held
let_go _ held = None

-- the mode in which it gets its object, where this thread held it as a mutex, and its own thread held it in this mode
abbrev pub got : OpName → Option ℕ → Option Mode → Option Mode
got name.Lock holder held = Some Write
got name.TryLock holder held = unless_held holder Write
got name.Take holder held = Some Write
got name.Retake holder held = Some Write
got name.RdLock holder held = unless_held held Read
got name.WrLock holder held = unless_held held Write
got _ holder held = None

-- whether it asks who holds a mutex
abbrev pub asks_holder : OpName → Bool
asks_holder name.TryLock = true
asks_holder _ = false

-- whether it asks how its thread holds a read-write lock, or changes that
abbrev pub asks_hold : OpName → Bool
asks_hold name.RdLock = true
asks_hold name.WrLock = true
asks_hold name.RwUnlock = true
asks_hold _ = false

-- ---- what is kept

-- what is kept of an object that no entry is of
abbrev pub nothing : Kept
nothing = record { holder = None; to_begin = None; to_join = None; to_writer = None; to_reader = None }

-- what is kept of an object
abbrev pub kept_in : {S : Type 0} → IndexMap ObjId Kept S → ObjId → Kept
kept_in objects o = option_map_or (λ kept. kept) (get same_object objects o) nothing

-- one lock, and one thread
abbrev pub same_hold : Hold → Hold → Bool
same_hold a b = same_object a.lock b.lock && (a.thread == b.thread)

-- how a thread holds a read-write lock
abbrev pub hold_in : {S : Type 0} → IndexMap Hold (Option Mode) S → Hold → Option Mode
hold_in holds hold = option_map_or (λ held. held) (get same_hold holds hold) None

-- the row's entry may hand a thread to an operation of this name on the object
abbrev pub hands_on : ObjId → OpName → Row → Bool
hands_on o next r = r.eligible && same_object r.entry.obj o && hands_thread r.entry.op next

-- the row's entry may begin a pass to one that gets the object in this mode
abbrev pub lets_go_to : ObjId → Mode → Row → Bool
lets_go_to o mode r = r.eligible && same_object r.entry.obj o && exclude r.released (Some mode)

-- what is kept of an object after these entries with these rows
pub record KeptIs (before : List Entry) (rows : List Row) (o : ObjId) (kept : Kept) : Type 0 where
  pub holder : kept.holder ≡ holder_over o None before
  pub to_begin : kept.to_begin ≡ first_from (hands_on o name.Begin) 0 rows
  pub to_join : kept.to_join ≡ first_from (hands_on o name.Join) 0 rows
  pub to_writer : kept.to_writer ≡ first_from (lets_go_to o Write) 0 rows
  pub to_reader : kept.to_reader ≡ first_from (lets_go_to o Read) 0 rows

-- the first linked entry of each thread
abbrev pub AreLinks : List Row → List (Option ℕ) → Type 0
AreLinks rows links = (t : ℕ) → t < 256 → slice_get links t ≡ Some (first_from (is_link_of t) 0 rows)

-- what is kept of all that comes before an entry
pub record PastIs (before : List Entry) (rows : List Row) (past : Past) : Type 0 where
  pub objects : (o : ObjId) → KeptIs before rows o (kept_in past.objects o)
  pub holds : (hold : Hold) → hold_in past.holds hold ≡ hold_over hold.lock hold.thread None before
  pub links : AreLinks rows past.links

-- ---- the row of an entry by what is kept

-- the first entry that may begin a pass to one that gets its object in this mode
abbrev pub link_by_mode : Kept → Option Mode → Option ℕ
link_by_mode kept None = None
link_by_mode kept (Some Write) = kept.to_writer
link_by_mode kept (Some Read) = kept.to_reader

-- the first one that may begin a pass to an operation of this name
abbrev pub link_by : Kept → OpName → Option Mode → Option ℕ
link_by kept name.Begin mode = kept.to_begin
link_by kept name.Join mode = kept.to_join
link_by kept _ mode = link_by_mode kept mode

-- the row of an entry, where its thread held its object in this mode, and some entry of its thread is linked
abbrev pub row_by : Point → Kept → Option Mode → Bool → Entry → Row
row_by from kept held linked y = record {
  entry = y;
  eligible = is_after from (Some y) || linked;
  released = let_go y.op held;
  link = link_by kept y.op (got y.op kept.holder held);
}

-- ---- what is kept with one row more

-- the first position, or this one where there is none yet and the row there is one
abbrev pub first_or : Option ℕ → Bool → ℕ → Option ℕ
first_or (Some first) meets at = Some first
first_or None meets at = if meets then Some at else None

-- what is kept of the object of the row at this position
abbrev pub kept_after : Kept → Row → ℕ → Kept
kept_after kept r at = record {
  holder = holder_after r.entry.op r.entry.thread kept.holder;
  to_begin = first_or kept.to_begin (r.eligible && hands_thread r.entry.op name.Begin) at;
  to_join = first_or kept.to_join (r.eligible && hands_thread r.entry.op name.Join) at;
  to_writer = first_or kept.to_writer (r.eligible && exclude r.released (Some Write)) at;
  to_reader = first_or kept.to_reader (r.eligible && exclude r.released (Some Read)) at;
}

-- this is kept of the object, and of others what was
abbrev pub IsKept : {S : Type 0} → IndexMap ObjId Kept S → ObjId → Kept → IndexMap ObjId Kept S → Type 0
IsKept objects o kept new = (p : ObjId) → kept_in new p ≡ (if same_object o p then kept else kept_in objects p)

-- a thread holds its lock in this mode, and others as they did
abbrev pub IsHeld : {S : Type 0} → IndexMap Hold (Option Mode) S → Hold → Option Mode → IndexMap Hold (Option Mode) S → Type 0
IsHeld holds hold held new = (h : Hold) → hold_in new h ≡ (if same_hold hold h then held else hold_in holds h)
