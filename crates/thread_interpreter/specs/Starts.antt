-- A thread at its start.
use Rattle.std.specs.Prelude.{ℕ, zero, suc, pos, [], position, unwrap_or, Some}
use Rattle.sync_objects.specs.Setup.{SetupView}
use Rattle.flow_code.specs.declared.code.Code.{Code}
use Rattle.flow_code.specs.declared.thread.Phase.{Phase}
use Rattle.flow_code.specs.declared.thread.Phase.TheVariants as phase
use Rattle.flow_code.specs.Threads.{Frame, Thread, arena_start, is_main_in}

-- the function `main`
abbrev pub main_of : Code → ℕ
main_of code = unwrap_or (position (λ f. is_main_in (Some f)) code.functions) 0

-- what stands on top before a thread enters its first function
abbrev pub no_frame : Frame
no_frame = record { function = 0; instr = 0; made = 0; kept = pos 0; registers = [] }

-- thread 0 has begun, all others are fresh
abbrev pub start_phase : Code → ℕ → Phase
start_phase code zero = phase.Begun (main_of code)
start_phase code (suc k) = phase.Fresh

-- thread 0 is to enter `main`; the others wait to be started
abbrev pub start_thread : Code → SetupView → ℕ → Thread
start_thread code s k = record { count = 0; arena = arena_start code s k; entries = 0; revokes = 0; printed = 0; phase = start_phase code k; top = no_frame; below = []; stripes = []; regions = [] }
