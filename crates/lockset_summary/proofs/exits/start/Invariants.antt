use Rattle.std.proofs.Common.{◌≡◌, map, take}
use Rattle.facts.specs.Locks.{topmost}
use Rattle.lockset_summary.proofs.exits.start.Given as goal

abbrev pub invariant-loop-top : goal.invariant-loop-top
invariant-loop-top l = l.exits ≡ map topmost (take l.top-index l.tops)
