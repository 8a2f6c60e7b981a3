use Rattle.points_to_sound.proofs.Mains.{main_is}
use Rattle.points_to_sound.proofs.Named.{load_named, store_named}
use Rattle.points_to_sound.proofs.StartPoints.{sets, always_points}
use Rattle.points_to_sound.proofs.laws.law_cells.Goals as goal

pub returns-clause-load : goal.returns-clause-load
returns-clause-load c = λ code setup state t into through cell told valid fit limits reached at runs is e.
    let p = always_points code setup valid fit limits (main_is code valid) state reached in
    let n = load_named code setup (sets code setup valid fit limits (main_is code valid)) state reached p.0 p.1 t told at into through cell runs is e in
    (n.within, n.objects, n.reaches)

pub returns-clause-store : goal.returns-clause-store
returns-clause-store c = λ code setup state t from through cell value told valid fit limits reached at runs is e.
    let p = always_points code setup valid fit limits (main_is code valid) state reached in
    let n = store_named code setup (sets code setup valid fit limits (main_is code valid)) state reached p.0 p.1 t told at through from cell value runs is e in
    (n.within, n.objects, n.reaches)
