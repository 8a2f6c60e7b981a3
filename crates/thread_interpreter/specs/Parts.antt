-- A thread's state as a checkpoint keeps it, and the thread that such a part stands for.
use Rattle.std.specs.Prelude.{◌≡◌, ℕ, ◌-◌, Bool, true, false, if◌then◌else◌, List, [], ◌∷◌, ◌++◌, length, map, take, unwrap_or, Some, slice_get}
use Rattle.flow_code.specs.declared.thread.Phase.{Phase}
use Rattle.flow_code.specs.declared.thread.Phase.TheVariants as phase
use Rattle.flow_code.specs.declared.thread.Stripe.{Stripe}
use Rattle.word_semantics.specs.Values.{number, word}
use Rattle.flow_code.specs.Threads.{Frame, Thread, OpenRegion}
use Rattle.flow_code.specs.Next.{has_ended}
use Rattle.flow_code.specs.Holding.{nesting, number_of_stripe}
use Rattle.thread_interpreter.specs.Endings.{trap_of}
use Rattle.thread_interpreter.specs.Starts.{no_frame}
use Rattle.thread_interpreter.specs.declared.part.FramePart.{FramePart}
use Rattle.thread_interpreter.specs.declared.part.StripePart.{StripePart}
use Rattle.thread_interpreter.specs.declared.part.RegionPart.{RegionPart}
use Rattle.thread_interpreter.specs.declared.part.ThreadPart.{ThreadPart}
use Rattle.thread_interpreter.specs.declared.part.PhasePart.{PhasePart}
use Rattle.thread_interpreter.specs.declared.part.PhasePart.TheVariants as part

-- ---- the part of a thread

-- a frame, with its last answer as a word
abbrev pub frame_part : Frame → FramePart
frame_part f = record { function = f.function; instr = f.instr; made = f.made; kept = word f.kept; registers = f.registers }

-- a stripe, with the number of these regions that have it
abbrev pub stripe_part : List OpenRegion → Stripe → StripePart
stripe_part regions x = record { lock = x.lock; stripe = x.stripe; owed = x.owed; nesting = nesting regions (number_of_stripe x) }

-- an open region
abbrev pub region_part : OpenRegion → RegionPart
region_part r = record { frame = r.frame; instr = r.instr; stripes = r.stripes }

-- how far the thread is. All ends but a trap are one; a thread that has loaded its argument runs, without frames yet: no part
-- is asked for there
abbrev pub phase_part : Phase → PhasePart
phase_part phase.Fresh = part.Fresh
phase_part (phase.Begun f) = part.Begun f
phase_part (phase.Loaded f w) = part.Running
phase_part phase.Running = part.Running
phase_part phase.Ended = part.Ended
phase_part phase.Halted = part.Ended
phase_part (phase.Trapped kind line) = part.Trapped kind line
phase_part phase.Stopped = part.Ended
phase_part phase.Closed = part.Ended

-- a thread has frames while it runs, the running one last
abbrev pub frames_in : Phase → Thread → List Frame
frames_in phase.Running th = th.below ++ th.top ∷ []
frames_in _ th = []

-- what a thread still has in this phase: nothing once it has ended
abbrev pub still : {A : Type 0} → Phase → List A → List A
still p xs = if has_ended p then [] else xs

-- a thread's state as a checkpoint keeps it
abbrev pub part_of : Thread → ThreadPart
part_of th = record {
  count = th.count;
  arena = th.arena;
  entries = th.entries;
  revokes = th.revokes;
  printed = th.printed;
  frames = map frame_part (frames_in th.phase th);
  stripes = map (stripe_part th.regions) (still th.phase th.stripes);
  regions = map region_part (still th.phase th.regions);
  phase = phase_part th.phase;
}

-- ---- the thread of a part

-- a frame of these numbers
abbrev pub frame_of : FramePart → Frame
frame_of f = record { function = f.function; instr = f.instr; made = f.made; kept = number f.kept; registers = f.registers }

-- a held or owed stripe: its nesting is known by the regions
abbrev pub stripe_of : StripePart → Stripe
stripe_of x = record { lock = x.lock; stripe = x.stripe; owed = x.owed }

-- an open region
abbrev pub region_of : RegionPart → OpenRegion
region_of r = record { frame = r.frame; instr = r.instr; stripes = r.stripes }

-- how far the thread is
abbrev pub phase_of : PhasePart → Phase
phase_of part.Fresh = phase.Fresh
phase_of (part.Begun f) = phase.Begun f
phase_of part.Running = phase.Running
phase_of part.Ended = phase.Ended
phase_of (part.Trapped kind line) = phase.Trapped kind line

-- the last of these frames runs
abbrev pub top_in : List Frame → Frame
top_in frames = unwrap_or (slice_get frames (length frames - 1)) no_frame

-- all others wait for it
abbrev pub below_in : List Frame → List Frame
below_in frames = take (length frames - 1) frames

-- the thread that a part stands for
abbrev pub thread_of : ThreadPart → Thread
thread_of p = record {
  count = p.count;
  arena = p.arena;
  entries = p.entries;
  revokes = p.revokes;
  printed = p.printed;
  phase = phase_of p.phase;
  top = top_in (map frame_of p.frames);
  below = below_in (map frame_of p.frames);
  stripes = map stripe_of p.stripes;
  regions = map region_of p.regions;
}

-- ---- where the part of a thread stands for that thread

-- the thread stands between the load of its argument and the Mark of its function
abbrev pub is_loaded : Phase → Bool
is_loaded (phase.Loaded f w) = true
is_loaded _ = false

-- the answer that the frame keeps is the one that its word shows
abbrev pub IsWord : Frame → Type 0
IsWord f = number (word f.kept) ≡ f.kept

-- these frames keep answers of 64 bits
pub record AreWords (frames : List Frame) : Type 0 where
  pub each : (k : ℕ) (f : Frame) → slice_get frames k ≡ Some f → IsWord f

-- a thread that runs or is to begin, whose frames keep answers of 64 bits, and that has frames only while it runs
pub record IsParted (th : Thread) : Type 0 where
  pub lives : has_ended th.phase ≡ false
  pub entered : is_loaded th.phase ≡ false
  pub words : AreWords (frames_in th.phase th)
  pub no_top : frames_in th.phase th ≡ [] → th.top ≡ no_frame
  pub none_below : frames_in th.phase th ≡ [] → th.below ≡ []

-- two threads that have ended alike: the same trap and the same numbers, of which the second has nothing else left
pub record IsEndedAs (th q : Thread) : Type 0 where
  pub ended : has_ended q.phase ≡ true
  pub trap : trap_of q.phase ≡ trap_of th.phase
  pub count : q.count ≡ th.count
  pub arena : q.arena ≡ th.arena
  pub entries : q.entries ≡ th.entries
  pub revokes : q.revokes ≡ th.revokes
  pub printed : q.printed ≡ th.printed
  pub top : q.top ≡ no_frame
  pub below : q.below ≡ []
  pub stripes : q.stripes ≡ []
  pub regions : q.regions ≡ []
