use Rattle.std.proofs.Common.{◌≡◌, length}
use Rattle.core_run.specs.Machine.{Told}
use Rattle.core_run.specs.Parts.{KeepsObjects}
use Rattle.core_run.specs.Shown.{RunAll, IsShown}
use Rattle.run_theory.specs.Steps.{State}
use Rattle.core_run.proofs.Leaving.{Leaves}
use Rattle.core_run.proofs.walker.own_steps_in.Given as goal

abbrev pub invariant-loop-left : goal.invariant-loop-left
invariant-loop-left l = record {
  all : RunAll l.code l.setup 0 l.flows.items;
  flows : length l.flows.items ≡ length l.initial.flows.items;
  reads : length l.reads.items ≡ length l.initial.reads.items;
  keeps : KeepsObjects l.cells l.initial.words.items l.words.items;
  leaves : (st : State Told) → IsShown l.formula l.initial.flows.items l.initial.words.items l.initial.reads.items st → Leaves l.code l.setup l.formula l.count l.left l.thread st l.flows.items l.words.items l.reads.items;
}

abbrev pub decreases-loop-left : goal.decreases-loop-left
decreases-loop-left l = l.left
