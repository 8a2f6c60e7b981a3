use Rattle.std.proofs.Common.{arith, ap, ◌∙◌, Some, take}
use Rattle.weaken.proofs.Nexts.{here}
use Rattle.weaken.proofs.Parts.{part_next, ascending_parts}
use Rattle.weaken.proofs.stretches.parts_of.Goals as goal

pub loop-access-preserved : goal.loop-access-preserved
loop-access-preserved c = record {
  long = c.grow.ensures.len ∙ c.loop-access.invariant.long;
  each = λ k lt. c.in_ok-grow.ensures.each k _ (c.loop-access.invariant.each k lt) ∙ ap Some (part_next k c.args.accesses.now c.loop-access.access-index c.access-item.result (here c.args.accesses.now c.loop-access.access-index c.access-item.result (omega arith) c.access-item.is));
}

pub grow-requires : goal.grow-requires
grow-requires c = ascending_parts c.loop-access.parts.items (take c.loop-access.access-index c.args.accesses.now) c.args.count c.loop-access.invariant.long c.loop-access.invariant.each
