use Rattle.std.proofs.Common.{◌≡◌, ◌++◌, drop}
use Rattle.facts.proofs.sets.push_all.Given as goal

-- what is added and the rest make the whole
abbrev pub invariant-loop-other : goal.invariant-loop-other
invariant-loop-other g l = l.merged ++ drop l.other-index l.others ≡ l.fn.merged ++ l.others
