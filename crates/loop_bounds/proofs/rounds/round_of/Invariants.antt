use Rattle.std.proofs.Common.{◌≡◌, ◌≤◌}
use Rattle.weak_lock_facts.specs.Ranges as spec
use Rattle.loop_bounds.proofs.rounds.round_of.Given as goal

abbrev pub invariant-loop-front : goal.invariant-loop-front
invariant-loop-front l = (l.front ≤ l.at) × (spec.mark_before l.instrs l.at l.front ≡ spec.mark_before l.instrs l.at l.at)

abbrev pub decreases-loop-front : goal.decreases-loop-front
decreases-loop-front l = l.front
