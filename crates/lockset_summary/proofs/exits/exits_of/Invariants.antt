use Rattle.std.proofs.Common.{◌≡◌, take}
use Rattle.facts.specs.Summaries.{exits_of}
use Rattle.lockset_summary.specs.Exits.{AreSmall}
use Rattle.lockset_summary.proofs.exits.exits_of.Given as goal

abbrev pub invariant-loop-k : goal.invariant-loop-k
invariant-loop-k l = (l.exits ≡ exits_of (take l.k l.points)) × AreSmall l.exits
