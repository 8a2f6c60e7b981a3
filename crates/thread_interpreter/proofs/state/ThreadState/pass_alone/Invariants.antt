use Rattle.std.proofs.Common.{◌≡◌, ◌-◌, length}
use Rattle.thread_interpreter.specs.Passing.{Passes}
use Rattle.flow_code.specs.declared.thread.Phase.TheVariants as phase
use Rattle.thread_interpreter.proofs.state.ThreadState.pass_alone.Given as goal

abbrev pub invariant-loop-at : goal.invariant-loop-at
invariant-loop-at l = record {
  passes : Passes l.code l.setup l.initial.self.thread l.self.thread;
  phase : l.self.thread.phase ≡ phase.Running;
  function : l.self.thread.top.function ≡ l.function;
  at : l.at ≡ l.self.thread.top.instr;
}

abbrev pub decreases-loop-at : goal.decreases-loop-at
decreases-loop-at l = length l.instrs - l.at
