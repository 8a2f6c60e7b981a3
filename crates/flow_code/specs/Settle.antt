-- All quiet steps of a thread, what comes after them, and the state after that.
use Rattle.std.specs.Prelude.{◌≡◌, ℕ, zero, suc, ◌+◌, ◌-◌, ◌<◌, ◌≤◌, ◌^◌, Bool, true, false, if◌then◌else◌, ℤ, pos, List, length, sum_by, Option, Some, slice_get, ◌⊎◌}
use Rattle.sync_objects.specs.Setup.{SetupView}
use Rattle.flow_code.specs.declared.act.Act.{Act}
use Rattle.flow_code.specs.declared.act.Act.TheVariants as act
use Rattle.flow_code.specs.declared.act.Instr.{Instr}
use Rattle.word_semantics.specs.declared.library_call.LibraryCall.{LibraryCall}
use Rattle.word_semantics.specs.declared.library_call.LibraryCall.TheVariants as call
use Rattle.flow_code.specs.declared.code.Code.{Code}
use Rattle.word_semantics.specs.declared.event.Due.{Due}
use Rattle.word_semantics.specs.declared.event.Due.TheVariants as due
use Rattle.word_semantics.specs.declared.event.Action.{Action}
use Rattle.word_semantics.specs.Library.{IsSoundCall}
use Rattle.flow_code.specs.Threads.{Frame, Thread, instrs_in}
use Rattle.flow_code.specs.Next.{due_of, action_at, stepped, act_in}

-- the step touches nothing but the thread itself
abbrev pub is_quiet : Due → Bool
is_quiet due.Quiet = true
is_quiet _ = false

-- how many instructions the frame's function has from here on
abbrev pub left_in : Code → Frame → ℕ
left_in code f = length (instrs_in (slice_get code.functions f.function)) - f.instr

-- how many quiet steps may come at most: none where what is due isn't one, else one for each instruction that may be passed
-- and one for each stripe that may be forgotten
unfoldable pub weight : Code → SetupView → ℕ → Thread → ℕ
weight code s t th = if is_quiet (due_of code s t th) then 1 + left_in code th.top + sum_by (left_in code) th.below + length th.stripes else 0

-- goes on after a quiet step, and stands still before any other
abbrev pub settle_on : (Thread → Thread) → Code → SetupView → ℕ → Thread → Bool → Thread
settle_on next code s t th true = next (stepped code s t th (pos 0))
settle_on next code s t th false = th

-- the state after so many quiet steps, or after as many as come
abbrev pub settle : ℕ → Code → SetupView → ℕ → Thread → Thread
settle zero code s t th = th
settle (suc n) code s t th = settle_on (settle n code s t) code s t th (is_quiet (due_of code s t th))

-- the state after all quiet steps
unfoldable pub settled : Code → SetupView → ℕ → Thread → Thread
settled code s t th = settle (weight code s t th) code s t th

-- what comes next, after all quiet steps
abbrev pub next : Code → SetupView → ℕ → Thread → Action
next code s t th = action_at code s t (settled code s t th)

-- the state after it, with its answer
abbrev pub after : Code → SetupView → ℕ → Thread → ℤ → Thread
after code s t th answer = stepped code s t (settled code s t th) answer

-- each jump goes on, or back to a Mark
abbrev pub IsJump : List Instr → ℕ → ℕ → Type 0
IsJump is at to = (at < to) ⊎ (act_in (slice_get is to) ≡ Some act.Mark)

-- what one instruction must obey so that threads can run it
abbrev pub IsSoundAct : List Instr → ℕ → Option Act → Type 0
IsSoundAct is at (Some (act.Jump to)) = IsJump is at to
IsSoundAct is at (Some (act.Branch on then_at else_at)) = IsJump is at then_at × IsJump is at else_at
IsSoundAct is at (Some (act.Library call arguments into)) = IsSoundCall call
IsSoundAct is at _ = Unit {0}

-- what a thread needs of its code so that its quiet steps end, and its cells and the functions that it starts have numbers;
-- each valid code has it
pub record IsRunnable (code : Code) : Type 0 where
  pub jumps : (f k : ℕ) → IsSoundAct (instrs_in (slice_get code.functions f)) k (act_in (slice_get (instrs_in (slice_get code.functions f)) k))
  pub few_globals : length code.globals ≤ 2 ^ 20
  pub few_functions : length code.functions ≤ 2 ^ 20
