use Rattle.std.proofs.Common.{inl, inr, ⊎_elim}
use Rattle.access_cells.proofs.Found.{names, low}
use Rattle.access_cells.proofs.Settled.{code_sets, points_at_rest}
use Rattle.access_cells.proofs.laws.law_access_cells.Goals as goal

pub returns : goal.returns
returns c = λ code setup state valid fit limits reached.
    let x = code_sets code setup valid fit limits state reached in
    let p = points_at_rest code setup valid fit limits state reached in
    (p.0, p.1, λ t cell store told at e. ⊎_elim (λ h. inl (low code setup x state reached p.0 p.1 t told at cell store h)) (λ a. inr a) (names code setup x state reached p.0 p.1 t told at cell store e))
