use Rattle.std.proofs.Common.{◌≡◌, ◌+◌, ◌++◌, ℕ, Some, length, map}
use Rattle.std.specs.Prelude.{slice_get}
use Rattle.flow_code.specs.Ranges.{InRange}
use Rattle.thread_interpreter.specs.Flows.{most_extra}
use Rattle.thread_interpreter.specs.Parts.{thread_of}
use Rattle.thread_interpreter.specs.declared.part.ThreadPart.{ThreadPart}
use Rattle.core_run.specs.Shown.{RunAll, running_thread}
use Rattle.checkpoint.proofs.resuming.flows_of.Given as goal

abbrev pub invariant-loop-rest : goal.invariant-loop-rest
invariant-loop-rest l = record {
  all : RunAll l.code l.setup 0 l.flows.items;
  len : length l.flows.items ≡ l.thread;
  place : l.thread + length l.rest ≡ length l.parts;
  range : (t : ℕ) (p : ThreadPart) → slice_get l.rest t ≡ Some p → InRange l.code l.setup most_extra (l.thread + t) (thread_of p);
  threads : map running_thread l.flows.items ++ map thread_of l.rest ≡ map thread_of l.parts;
}

abbrev pub decreases-loop-rest : goal.decreases-loop-rest
decreases-loop-rest l = length l.rest
