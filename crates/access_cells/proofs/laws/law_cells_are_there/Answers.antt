use Rattle.access_cells.proofs.Allowed.{refused_none}
use Rattle.access_cells.proofs.Found.{cell_there, object_there}
use Rattle.access_cells.proofs.Settled.{code_sets, points_at_rest}
use Rattle.access_cells.proofs.laws.law_cells_are_there.Goals as goal

pub returns-clause-cells : goal.returns-clause-cells
returns-clause-cells c = λ code setup state t cell store told valid fit limits reached at e.
    let x = code_sets code setup valid fit limits state reached in
    let p = points_at_rest code setup valid fit limits state reached in
    cell_there code setup x state reached p.0 p.1 t told at cell store e

pub returns-clause-objects : goal.returns-clause-objects
returns-clause-objects c = λ code setup state t operation object told valid fit limits reached at e.
    let x = code_sets code setup valid fit limits state reached in
    let p = points_at_rest code setup valid fit limits state reached in
    object_there code setup x state reached p.0 p.1 t told at operation object e

pub returns-clause-refused : goal.returns-clause-refused
returns-clause-refused c = λ code setup state t told valid fit limits reached at e.
    let x = code_sets code setup valid fit limits state reached in
    let p = points_at_rest code setup valid fit limits state reached in
    refused_none code setup x state reached p.0 p.1 t told at e
