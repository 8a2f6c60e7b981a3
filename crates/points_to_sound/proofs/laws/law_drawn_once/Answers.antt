use Rattle.points_to_sound.proofs.HandedOver.{hands_over}
use Rattle.points_to_sound.proofs.laws.law_drawn_once.Goals as goal

pub returns : goal.returns
returns c = λ code setup state run limits reached. hands_over code setup run limits state reached
