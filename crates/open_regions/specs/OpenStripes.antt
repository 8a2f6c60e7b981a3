-- What a thread of weakened code holds for its open regions.
use Rattle.std.specs.Prelude.{◌≡◌, ℕ, ◌<◌, Bool, true, false, List, Option, Some, slice_get}
use Rattle.std.specs.List.{Contains}
use Rattle.sync_objects.specs.Setup.{SetupView}
use Rattle.word_semantics.specs.declared.library_call.LibraryCall.TheVariants as call
use Rattle.flow_code.specs.declared.act.Act.{Act}
use Rattle.flow_code.specs.declared.act.Act.TheVariants as act
use Rattle.flow_code.specs.declared.code.Code.{Code}
use Rattle.flow_code.specs.declared.region.Region.{Region}
use Rattle.flow_code.specs.Holding.{region_of}
use Rattle.flow_code.specs.Next.{pointers_in}
use Rattle.flow_code.specs.Stripes.{wants}
use Rattle.flow_code.specs.Threads.{Thread, instrs_in}
use Rattle.loop_bounds.specs.Turns.{Setting}
use Rattle.guard_paths.specs.Walked.{Opening, Walked}
use Rattle.core_run.specs.Machine.{Told}
use Rattle.run_theory.specs.Steps.{State}
use Rattle.lock_ownership.specs.Holders.{holds_stripe}

-- the call ends its thread
abbrev pub is_exit : Option Act → Bool
is_exit (Some (act.Library call.Exit arguments into)) = true
is_exit _ = false

-- what the words of function f rest on
abbrev pub setting_of : Code → SetupView → (f : ℕ) → Setting
setting_of code s f = record { slots = s.slots; sites = code.sites; pointers = pointers_in (slice_get code.functions f) }

-- The running frame of thread t has come to where it stands on a way with these open regions, and the thread holds each stripe
-- that one of them wants by the registers at its Take.
pub record HoldsItsOpen (code : Code) (s : SetupView) (t : ℕ) (state : State Told) (th : Thread) : Type 0 where
  pub opened : List Opening
  pub walked : Walked (setting_of code s th.top.function) (instrs_in (slice_get code.functions th.top.function)) th.top.instr th.top.registers opened
  pub held : (x : Opening) (r : Region) (lock stripe : ℕ) → Contains opened x → region_of code th.top x.0 ≡ Some r → stripe < 8 → wants code x.1 r lock stripe ≡ true → holds_stripe lock stripe t state ≡ true
