use Rattle.std.proofs.Common.{sym}
use Rattle.access_cells.proofs.Found.{first_loads}
use Rattle.access_cells.proofs.Settled.{code_sets, points_at_rest}
use Rattle.access_cells.proofs.laws.law_hand_offs_apart.Goals as goal

pub returns : goal.returns
returns c = λ code setup state t u cell first second told other valid fit limits reached ne at there e i low.
    let x = code_sets code setup valid fit limits state reached in
    let p = points_at_rest code setup valid fit limits state reached in (
      first_loads code setup x state reached p.0 p.1 t u ne told other at there cell first second e i low,
      first_loads code setup x state reached p.0 p.1 u t (λ q. ne (sym q)) other told there at cell second first i e low,
    )
