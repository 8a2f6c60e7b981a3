use Rattle.points_to.proofs.Places.{element_there}
use Rattle.points_to.proofs.globals.push_sites.Goals as goal

pub push_object-requires : goal.push_object-requires
push_object-requires c = element_there c.args.code.now.sites c.as_slice-sites.result.now c.loop-k.k c.index-sites-k.result c.as_slice-sites.ensures c.index-sites-k.is c.loop-k-test.true c.requires.elements
