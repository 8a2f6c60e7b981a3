use Rattle.points_to.proofs.Adding.{one, ok_both}
use Rattle.points_to.proofs.Spots.{node_fits}
use Rattle.points_to.proofs.filling.put.Goals as goal

pub add-requires : goal.add-requires
add-requires c = node_fits c.args.code.now c.args.sets.now c.args.node c.spot_of.result.block c.spot_of.result.at c.requires.wide c.requires.node c.spot_of.ensures.block c.spot_of.ensures.at

pub returns : goal.returns
returns c = ok_both c.add.result _ _ _ _ (λ a i s f. one c.args.code.now c.args.node c.spot_of.result.block c.spot_of.result.at c.args.p c.args.sets.now c.add.new.self a c.spot_of.ensures.block c.spot_of.ensures.at c.requires.node c.add.ensures.widths i c.add.ensures.from s f c.requires.fine) c.add.ensures.in_it c.add.ensures.same c.add.ensures.falls
