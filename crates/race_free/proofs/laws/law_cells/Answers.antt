use Rattle.lock_sound.proofs.Running.{weakened_constants_fit, weakened_is_valid}
use Rattle.access_cells.proofs.Allowed.{refused_none}
use Rattle.access_cells.proofs.Found.{cell_there, object_there}
use Rattle.access_cells.proofs.Settled.{code_sets, points_at_rest}
use Rattle.race_free.proofs.laws.law_cells.Goals as goal

pub returns-clause-cells : goal.returns-clause-cells
returns-clause-cells c = λ a setup state t cell store told h limits reached at e.
    let sets = code_sets a.weak setup (weakened_is_valid a h) (weakened_constants_fit a h) limits state reached in
    let rest = points_at_rest a.weak setup (weakened_is_valid a h) (weakened_constants_fit a h) limits state reached in
    cell_there a.weak setup sets state reached rest.0 rest.1 t told at cell store e

pub returns-clause-objects : goal.returns-clause-objects
returns-clause-objects c = λ a setup state t operation object told h limits reached at e.
    let sets = code_sets a.weak setup (weakened_is_valid a h) (weakened_constants_fit a h) limits state reached in
    let rest = points_at_rest a.weak setup (weakened_is_valid a h) (weakened_constants_fit a h) limits state reached in
    object_there a.weak setup sets state reached rest.0 rest.1 t told at operation object e

pub returns-clause-refused : goal.returns-clause-refused
returns-clause-refused c = λ a setup h limits state t told reached at e.
    let sets = code_sets a.weak setup (weakened_is_valid a h) (weakened_constants_fit a h) limits state reached in
    let rest = points_at_rest a.weak setup (weakened_is_valid a h) (weakened_constants_fit a h) limits state reached in
    refused_none a.weak setup sets state reached rest.0 rest.1 t told at e
