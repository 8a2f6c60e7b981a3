use Rattle.std.proofs.Common.{◌≡◌, ◌≤◌, ◌*◌, ◌-◌, ◌^◌, take}
use Rattle.crew.specs.Counts.{total}
use Rattle.crew.proofs.tally.total_turns.Given as goal

abbrev pub invariant-loop-job : goal.invariant-loop-job
invariant-loop-job g l = (l.sum ≡ total g.J.Job.turns (take l.job-index l.jobs)) × (l.sum ≤ l.job-index * (2 ^ 64 - 1))
