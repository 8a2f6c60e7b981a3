-- A running thread as the interpreter shows it: its code, its setup, its number, its state, and whether it has room for a
-- step more.
use Rattle.std.specs.Prelude.{ℕ, ◌+◌, ◌-◌, ◌*◌, ◌<◌, ◌^◌, nat_le, ◌&&◌, Bool, true, false, List, Option, Some, None, length, slice_get, slice_set}
use Rattle.sync_objects.specs.Setup.{SetupView, IsWithinLimits}
use Rattle.flow_code.specs.Ranges.{InRange}
use Rattle.flow_code.specs.Settle.{IsRunnable}
use Rattle.sync_objects.specs.declared.operation.Op.{Op}
use Rattle.sync_objects.specs.declared.operation.Op.TheVariants as op
use Rattle.flow_code.specs.declared.act.Act.{Act}
use Rattle.flow_code.specs.declared.act.Act.TheVariants as act
use Rattle.flow_code.specs.declared.code.Code.{Code}
use Rattle.flow_code.specs.declared.thread.Phase.{Phase}
use Rattle.flow_code.specs.declared.thread.Phase.TheVariants as phase
use Rattle.flow_code.specs.declared.region.Region.{Region}
use Rattle.flow_code.specs.Stripes.{end_lock}
use Rattle.flow_code.specs.Holding.{region_of, taken_pairs, left_from}
use Rattle.flow_code.specs.Threads.{Thread, registers_in}
use Rattle.flow_code.specs.Next.{act_at}

-- how many registers a call of a function needs
abbrev pub needs_of_act : Code → Option Act → ℕ
needs_of_act code (Some (act.Call function arguments into)) = registers_in (slice_get code.functions function)
needs_of_act code _ = 0

-- a thread that begins enters its function; one that runs may call one
abbrev pub needs_of_phase : Code → Phase → Option Act → ℕ
needs_of_phase code (phase.Begun f) at = registers_in (slice_get code.functions f)
needs_of_phase code (phase.Loaded f w) at = registers_in (slice_get code.functions f)
needs_of_phase code phase.Running at = needs_of_act code at
needs_of_phase code _ at = 0

-- how many registers the next step needs: those of the function that it enters, if it enters one
abbrev pub needs : Code → Thread → ℕ
needs code th = needs_of_phase code th.phase (act_at code th.top)

-- how many stripes the region of a Take has at most after the next step
abbrev pub pairs_of_region : Code → Thread → Option Region → ℕ
pairs_of_region code th None = 0
pairs_of_region code th (Some r) = length (taken_pairs th) + (8 * end_lock code r - left_from th r)

-- only a Take gives its thread stripes of a region
abbrev pub pairs_of_act : Code → Thread → Option Act → ℕ
pairs_of_act code th (Some (act.Take r)) = pairs_of_region code th (region_of code th.top r)
pairs_of_act code th _ = 0

-- for how many stripes of a region the next step needs room
abbrev pub needs_pairs : Code → Thread → ℕ
needs_pairs code th = pairs_of_act code th (act_at code th.top)

-- a thread's state, whether there is room for one frame more, for how many registers there is, whether there is room for one
-- stripe and one open region more, and for how many stripes of a region there is
pub record Kept : Type 0 where
  pub thread : Thread
  pub has_place : Bool
  pub registers : ℕ
  pub has_stripe : Bool
  pub has_region : Bool
  pub pairs : ℕ

-- there is room for the stripes of the next step
abbrev pub has_stripe_room : Code → Kept → Bool
has_stripe_room code k = k.has_stripe && k.has_region && nat_le (needs_pairs code k.thread) k.pairs

-- there is room for the next step
abbrev pub is_ready : Code → Kept → Bool
is_ready code k = k.has_place && nat_le (needs code k.thread) k.registers && has_stripe_room code k

-- one slot's thread, as the interpreter keeps it while it runs
pub record Running : Type 0 where
  pub code : Code
  pub setup : SetupView
  pub number : ℕ
  pub kept : Kept

-- the list with the item at this place changed, if there is one
abbrev pub changed_at : {A : Type 0} → (A → A) → Option A → List A → ℕ → List A
changed_at f None xs i = xs
changed_at f (Some x) xs i = slice_set xs i (f x)

-- the thread takes back a stripe that was revoked
abbrev pub is_retake : Op → Bool
is_retake op.Retake = true
is_retake _ = false

-- the numbers of a thread's state fit the types in which the code keeps them
pub record Fits (th : Thread) : Type 0 where
  pub count : th.count < 2 ^ 32
  pub entries : th.entries < 2 ^ 32
  pub made : th.top.made < 2 ^ 8
  pub arena : th.arena < 2 ^ 32
  pub printed : th.printed < 2 ^ 32

-- how many events beyond the limit a thread may begin with
abbrev pub most_extra : ℕ
most_extra = 2

-- a running thread of a code that can be run, with its numbers in range
pub record IsSoundFlow (code : Code) (s : SetupView) (t : ℕ) (th : Thread) : Type 0 where
  pub runnable : IsRunnable code
  pub limits : IsWithinLimits s
  pub number : t < s.slots
  pub range : InRange code s most_extra t th
