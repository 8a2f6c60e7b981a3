use Rattle.open_regions.proofs.Ends.{open_stripes}
use Rattle.open_regions.proofs.laws.law_open_stripes.Goals as goal

pub returns : goal.returns
returns c = open_stripes
