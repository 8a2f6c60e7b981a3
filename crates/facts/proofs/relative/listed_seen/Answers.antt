use Rattle.std.proofs.Common.{◌-◌, arith, sym}
use Rattle.facts.proofs.SeenPaths.{listed_unknown}
use Rattle.facts.proofs.relative.listed_seen.Goals as goal

pub returns-in_default : goal.returns-in_default
returns-in_default c = sym (listed_unknown c.args.actuals.now c.args.paths.now (c.loop-left.left - 1) _ c.substitute.result (omega arith) c.substitute.ensures c.in_default.is)
