-- An item of each sort, to show that each beginning can go on.
use Rattle.std.specs.Prelude.{false, []}
use Rattle.snapshots.specs.declared.draft.DraftThread.{DraftThread}
use Rattle.snapshots.specs.declared.draft.Head.{Head}
use Rattle.snapshots.specs.declared.draft.HeadPhase.TheVariants as phase
use Rattle.thread_interpreter.specs.declared.part.FramePart.{FramePart}
use Rattle.thread_interpreter.specs.declared.part.StripePart.{StripePart}
use Rattle.thread_interpreter.specs.declared.part.RegionPart.{RegionPart}

-- a thread with nothing
abbrev pub blank_head : Head
blank_head = record { number = 0; count = 0; arena = 0; entries = 0; revokes = 0; printed = 0; frames = 0; stripes = 0; regions = 0; phase = phase.Fresh }

-- a frame without registers
abbrev pub blank_frame : FramePart
blank_frame = record { function = 0; instr = 0; made = 0; kept = 0; registers = [] }

-- a stripe
abbrev pub blank_stripe : StripePart
blank_stripe = record { lock = 0; stripe = 0; owed = false; nesting = 0 }

-- a region without stripes
abbrev pub blank_region : RegionPart
blank_region = record { frame = 0; instr = 0; stripes = [] }

-- a thread without lines below its first
abbrev pub blank_thread : DraftThread
blank_thread = record { head = blank_head; frames = []; stripes = []; regions = [] }
