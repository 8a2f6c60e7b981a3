use Rattle.std.proofs.Common.{take}
use Rattle.snapshots.specs.Snapshots.{resumed_state, snapshot_of}
use Rattle.checkpoint.proofs.Rest.{rest_is}
use Rattle.checkpoint.proofs.Standing.{goes_alike}
use Rattle.checkpoint.proofs.laws.law_rest.Goals as goal

pub returns : goal.returns
returns c code s es k st f g whole rest runnable limits h w v = rest_is code s k es st (resumed_state code s (snapshot_of code s k st)) h.within h.walked (goes_alike code s k st runnable limits (take k es) h.walked h.words) f g whole rest w v
