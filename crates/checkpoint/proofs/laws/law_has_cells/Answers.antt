use Rattle.std.proofs.Common.{take, drop}
use Rattle.snapshots.specs.Snapshots.{resumed_state, snapshot_of}
use Rattle.checkpoint.proofs.Aside.{walk_reached}
use Rattle.checkpoint.proofs.Cells.{lacks_none}
use Rattle.checkpoint.proofs.Standing.{goes_beside, printed_before, is_between}
use Rattle.checkpoint.proofs.laws.law_has_cells.Goals as goal

pub returns : goal.returns
returns c code s es k st runnable limits has h =
    lacks_none code s (printed_before code s k st (is_between code s k st runnable limits (take k es) h.walked h.words) h.words) has st (resumed_state code s (snapshot_of code s k st)) (drop k es)
    (walk_reached code s (take k es) st h.walked)
    (goes_beside code s k st runnable limits (take k es) h.walked h.words)
