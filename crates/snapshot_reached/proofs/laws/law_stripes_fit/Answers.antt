use Rattle.snapshot_reached.proofs.Threads.{its_stripes_fit}
use Rattle.snapshot_reached.proofs.laws.law_stripes_fit.Goals as goal

pub returns : goal.returns
returns c = λ code setup state t told runnable limits reached at. its_stripes_fit code setup runnable limits state reached t told at
