use Rattle.checkpoint.proofs.Fit.{can_resume}
use Rattle.checkpoint.proofs.laws.law_can_resume.Goals as goal

pub returns : goal.returns
returns c code s es k st runnable limits h = can_resume code s runnable limits es k st h
