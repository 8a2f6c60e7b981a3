use Rattle.std.proofs.Common.{◌≡◌}
use Rattle.flow_code.specs.Settle.{weight, settled}
use Rattle.thread_interpreter.proofs.flow.Flow.settle_to_next.Given as goal

abbrev pub invariant-loop-self : goal.invariant-loop-self
invariant-loop-self l = record {
  code : l.self.code ≡ l.initial.self.code;
  setup : l.self.setup ≡ l.initial.self.setup;
  number : l.self.number ≡ l.initial.self.number;
  same : settled l.self.code l.self.setup l.self.number l.self.kept.thread ≡ settled l.initial.self.code l.initial.self.setup l.initial.self.number l.initial.self.kept.thread;
}

abbrev pub decreases-loop-self : goal.decreases-loop-self
decreases-loop-self l = weight l.self.code l.self.setup l.self.number l.self.kept.thread
