use Rattle.std.proofs.Common.{◌≡◌, ◌≤◌}
use Rattle.weak_lock_facts.specs.Ranges as spec
use Rattle.loop_bounds.proofs.makers.last_maker.Given as goal

abbrev pub invariant-loop-place : goal.invariant-loop-place
invariant-loop-place l = (l.place ≤ l.before) × (spec.last_maker l.instrs l.place l.register ≡ spec.last_maker l.instrs l.before l.register)

abbrev pub decreases-loop-place : goal.decreases-loop-place
decreases-loop-place l = l.place
