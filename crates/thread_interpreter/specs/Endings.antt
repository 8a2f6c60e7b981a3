-- How a thread has ended, by its phase.
use Rattle.std.specs.Prelude.{ℕ, Option, Some, None}
use Rattle.rr_base.specs.declared.trap.Trap.{Trap}
use Rattle.flow_code.specs.declared.thread.Phase.{Phase}
use Rattle.flow_code.specs.declared.thread.Phase.TheVariants as phase
use Rattle.thread_interpreter.specs.declared.outcome.Ending.{Ending}
use Rattle.thread_interpreter.specs.declared.outcome.Ending.TheVariants as ending

-- how it has ended, if it has
abbrev pub ending_of : Phase → Option Ending
ending_of phase.Fresh = None
ending_of (phase.Begun f) = None
ending_of (phase.Loaded f w) = None
ending_of phase.Running = None
ending_of phase.Ended = Some ending.Ended
ending_of phase.Halted = Some ending.Halted
ending_of (phase.Trapped kind line) = Some ending.Trapped
ending_of phase.Stopped = Some ending.Stopped
ending_of phase.Closed = Some ending.Closed

-- the kind and the line of its trap, if it has trapped
abbrev pub trap_of : Phase → Option (Trap × ℕ)
trap_of (phase.Trapped kind line) = Some (kind, line)
trap_of _ = None
