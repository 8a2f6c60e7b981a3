use Rattle.std.proofs.Common.{◌≡◌, ◌++◌, ℕ, Some, length, map, false}
use Rattle.std.specs.Prelude.{slice_get}
use Rattle.thread_interpreter.specs.Flows.{Running}
use Rattle.thread_interpreter.specs.Parts.{is_loaded, part_of}
use Rattle.checkpoint.specs.Resuming.{KeepsWords}
use Rattle.checkpoint.proofs.taking.parts_of.Given as goal

abbrev pub invariant-loop-rest : goal.invariant-loop-rest
invariant-loop-rest l = record {
  parts : l.parts ++ map (λ (r : Running). part_of r.kept.thread) l.rest ≡ map (λ (r : Running). part_of r.kept.thread) l.flows;
  entered : (k : ℕ) (r : Running) → slice_get l.rest k ≡ Some r → is_loaded r.kept.thread.phase ≡ false;
  words : ((k : ℕ) (r : Running) → slice_get l.rest k ≡ Some r → KeepsWords r.kept.thread) → (k : ℕ) (r : Running) → slice_get l.flows k ≡ Some r → KeepsWords r.kept.thread;
}

abbrev pub decreases-loop-rest : goal.decreases-loop-rest
decreases-loop-rest l = length l.rest
