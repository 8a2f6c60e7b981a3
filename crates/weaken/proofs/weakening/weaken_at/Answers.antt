use Rattle.std.proofs.Common.{◌∙◌}
use Rattle.weaken.proofs.Chosen.{weakened-is}
use Rattle.weaken.proofs.weakening.weaken_at.Goals as goal

pub returns : goal.returns
returns c = weakened-is c.args.code.now c.args.points.now c.args._pairs.now c.args.ranges.now c.args.rows.now c.args.locked.now c.in_ok-functions.functions c.in_ok-sites.sites c.in_ok-globals.globals c.in_ok-global_kinds.global_kinds c.in_ok-global_bases.global_bases c.in_ok-locks.locks c.requires.places c.in_ok-functions.ensures (c.in_ok-sites.ensures ∙ c.as_slice.ensures) c.in_ok-globals.ensures c.in_ok-global_kinds.ensures c.in_ok-global_bases.ensures c.in_ok-locks.ensures
