-- What a log says, and the limits that are kept by each log that is read or written.
use Rattle.std.specs.Prelude.{ℕ, ◌+◌, ◌<◌, ◌≤◌, Bool, not, ◌&&◌, ◌==◌, if◌then◌else◌, List, count_by}
use Rattle.std.specs.List.{AllByRecursion}
use Rattle.profiles.specs.declared.profile.Profile.{Profile}
use Rattle.profiles.specs.declared.profile.Profile.TheVariants as profile
use Rattle.profiles.specs.Profile.{Pair, AreAscending, IsLesserFirst}
use Rattle.sync_objects.specs.declared.entry.Entry.{Entry}
use Rattle.sync_objects.specs.declared.object.ObjId.{ObjId}
use Rattle.sync_objects.specs.declared.object.ObjId.TheVariants as object
use Rattle.sync_objects.specs.declared.operation.OpName.{OpName}
use Rattle.sync_objects.specs.Names.{Fits, is_ending}
use Rattle.sync_objects.specs.Setup.{SetupView, IsWithinLimits}
use Rattle.order_log.specs.Names.{IsName}

-- what the run was set up with, the functions that it took for parallel, and its operations in order. The numbers
-- are of any size here
pub record LogView : Type 0 where
  pub setup : SetupView
  pub profile : Profile
  pub entries : List Entry

-- ---- what has a text

-- names, the lesser one first
pub record IsNamePair (p : Pair) : Type 0 where
  pub first : IsName p.0
  pub second : IsName p.1
  pub lesser_first : IsLesserFirst p

-- pairs ascend, each once, so that each profile has one text
abbrev pub HasNames : Profile → Type 0
HasNames profile.All = Unit {0}
HasNames (profile.Pairs ps) = AreAscending ps × AllByRecursion IsNamePair ps

-- a log, whatever its numbers are
pub record IsLog (v : LogView) : Type 0 where
  pub profile : HasNames v.profile
  pub input : AllByRecursion (λ b. b < 256) v.setup.input
  pub operations : AllByRecursion (λ e. Fits e.op e.obj) v.entries

-- ---- the limits

-- cells below 2^22, locks to 65471, stripes to 7, slots below the setup's
abbrev pub IsObjectWithin : ℕ → ObjId → Type 0
IsObjectWithin slots (object.Mutex cell) = cell < 4194304
IsObjectWithin slots (object.Cond cell) = cell < 4194304
IsObjectWithin slots (object.Barrier cell) = cell < 4194304
IsObjectWithin slots (object.Rw cell) = cell < 4194304
IsObjectWithin slots (object.Weak lock stripe) = (lock ≤ 65471) × (stripe ≤ 7)
IsObjectWithin slots (object.Slot slot) = slot < slots
IsObjectWithin slots object.Threads = Unit {0}
IsObjectWithin slots object.Halt = Unit {0}
IsObjectWithin slots object.Input = Unit {0}
IsObjectWithin slots object.Output = Unit {0}

-- an ending entry may stand after the last event
abbrev pub last_count : ℕ → OpName → ℕ
last_count limit op = if is_ending op then limit + 1 else limit

-- its thread has a slot, its count is within the limit, and its object is too
pub record IsEntryWithin (s : SetupView) (e : Entry) : Type 0 where
  pub thread : e.thread < s.slots
  pub count : e.count ≤ last_count s.limit e.op
  pub object : IsObjectWithin s.slots e.obj

-- counts to the 6 endings that a thread may have
abbrev pub is_ending_of : ℕ → Entry → Bool
is_ending_of thread e = e.thread == thread && is_ending e.op

-- counts to the 2^20 entries that a thread may have besides its endings
abbrev pub is_other_of : ℕ → Entry → Bool
is_other_of thread e = e.thread == thread && not (is_ending e.op)

-- the entries are within the limits, and no thread has too many of either sort
pub record AreWithin (s : SetupView) (es : List Entry) : Type 0 where
  pub each : AllByRecursion (IsEntryWithin s) es
  pub others : (thread : ℕ) → count_by (is_other_of thread) es ≤ 1048576
  pub endings : (thread : ℕ) → count_by (is_ending_of thread) es ≤ 6

-- a log within the limits
pub record KeepsLimits (v : LogView) : Type 0 where
  pub setup : IsWithinLimits v.setup
  pub entries : AreWithin v.setup v.entries
