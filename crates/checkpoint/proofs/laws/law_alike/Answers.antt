use Rattle.std.proofs.Common.{take}
use Rattle.checkpoint.proofs.Standing.{goes_alike}
use Rattle.checkpoint.proofs.laws.law_alike.Goals as goal

pub returns : goal.returns
returns c code s es more k st runnable limits h = goes_alike code s k st runnable limits (take k es) h.walked h.words more
