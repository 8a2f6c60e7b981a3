use Rattle.access_cells.proofs.Meeting.{conflict_meets}
use Rattle.access_cells.proofs.Settled.{code_sets, points_at_rest}
use Rattle.access_cells.proofs.laws.law_conflict_cells.Goals as goal

pub returns : goal.returns
returns c = λ code setup state t u told other valid fit limits reached ne at there h.
    let x = code_sets code setup valid fit limits state reached in
    let p = points_at_rest code setup valid fit limits state reached in
    conflict_meets code setup x state reached p.0 p.1 t u ne told other at there h
