use Rattle.snapshot_reached.proofs.Threads.{its_regions_fit}
use Rattle.snapshot_reached.proofs.laws.law_regions_fit.Goals as goal

pub returns : goal.returns
returns c = λ a setup state t told is limits reached at. its_regions_fit a is setup limits state reached t told at
