use Rattle.std.proofs.Common.{◌≡◌, sym, subst, arith, length}
use Rattle.race_pairs.specs.Groups.{AreGroups}
use Rattle.race_pairs.proofs.Parts.{no_groups}
use Rattle.race_pairs.proofs.grouping.groups.Goals as goal

pub loop-from-init : goal.loop-from-init
loop-from-init c = record {
  bound = omega arith;
  made = subst (AreGroups c.args.summaries.now c.args.touches.now 0) (sym c.new-all.ensures.items) (no_groups c.args.summaries.now c.args.touches.now);
}

pub returns : goal.returns
returns c = let e : c.loop-from.from ≡ length c.args.touches.now = omega (arith, c.loop-from.invariant.bound) in subst (λ n. AreGroups c.args.summaries.now c.args.touches.now n c.loop-from.all.items) e c.loop-from.invariant.made
