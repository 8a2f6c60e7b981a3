use Rattle.points_to_sound.proofs.Mains.{main_is}
use Rattle.points_to_sound.proofs.StartPoints.{always_points}
use Rattle.points_to_sound.proofs.laws.law_points_well.Goals as goal

pub returns : goal.returns
returns c = λ code setup state valid fit limits reached. always_points code setup valid fit limits (main_is code valid) state reached
