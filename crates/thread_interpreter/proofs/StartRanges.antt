-- The numbers of a thread at its start are in range.
use Rattle.std.proofs.Common.{ℕ, arith}
use Rattle.sync_objects.specs.Setup.{SetupView}
use Rattle.flow_code.specs.declared.code.Code.{Code}
use Rattle.flow_code.specs.Ranges.{InRange, within}
use Rattle.thread_interpreter.specs.Starts.{start_thread}

-- a thread at the start
pub start_in_range : (code : Code) (s : SetupView) (extra k : ℕ) → InRange code s extra k (start_thread code s k)
start_in_range code s extra k = record {
  counted = within (omega arith);
  few_entries = omega arith;
  few_revokes = omega arith;
  few_printed = omega arith;
  few_made = omega arith;
  few_frames = omega arith;
  room = omega arith;
  callers = λ j f e. cc;
}
