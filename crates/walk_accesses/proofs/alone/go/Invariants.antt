use Rattle.std.proofs.Common.{◌≡◌, Some}
use Rattle.core_run.specs.Machine.{Told, machine}
use Rattle.run_theory.specs.Steps.{State}
use Rattle.run_theory.specs.Walk.{alone}
use Rattle.walk_accesses.specs.Steps.{IsIn}
use Rattle.walk_accesses.proofs.OwnSteps.{Between}
use Rattle.walk_accesses.proofs.alone.go.Given as goal

abbrev pub invariant-loop-left : goal.invariant-loop-left
invariant-loop-left l = record {
  code : l.flow.code ≡ l.fn.flow.code;
  setup : l.flow.setup ≡ l.fn.flow.setup;
  number : l.flow.number ≡ l.fn.flow.number;
  between : (st st1 : State Told) → IsIn l.thread st l.fn.flow.kept.thread l.fn.words.items → alone (machine l.fn.flow.code l.fn.flow.setup) l.count l.thread st ≡ Some st1 →
      Between l.fn.flow.code l.fn.flow.setup l.left l.thread st1 l.flow.kept.thread l.words.items;
}

abbrev pub decreases-loop-left : goal.decreases-loop-left
decreases-loop-left l = l.left
