use Rattle.std.proofs.Common.{◌≡◌, ◌≤◌}
use Rattle.facts.specs.Blocks as spec
use Rattle.facts.proofs.blocks.constant_at.Given as goal

abbrev pub invariant-loop-place : goal.invariant-loop-place
invariant-loop-place l = (l.place ≤ l.at) × (spec.constant_at l.instrs l.place l.register ≡ spec.constant_at l.instrs l.at l.register)

abbrev pub decreases-loop-place : goal.decreases-loop-place
decreases-loop-place l = l.place
