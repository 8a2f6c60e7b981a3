use Rattle.region_stripes.proofs.Wants.{whole_wants}
use Rattle.region_stripes.proofs.single.law_whole_wants.Goals as goal

pub returns : goal.returns
returns c = whole_wants
