use Rattle.snapshot_reached.proofs.Heads.{heads_fit}
use Rattle.snapshot_reached.proofs.laws.law_heads_fit.Goals as goal

pub returns : goal.returns
returns c = λ code setup state t told valid limits reached at entered small. heads_fit code valid setup limits state reached t told at entered (record { small = small })
