use Rattle.race_pairs.proofs.Cells.{exclude_by}
use Rattle.race_pairs.proofs.meeting.exclude.Goals as goal

pub returns-else-share_lock : goal.returns-else-share_lock
returns-else-share_lock c = exclude_by c.args.group.now c.args.other.now _ _ _ _ c.share_lock.result c.share_lock-else-share_lock.result c.as_slice.ensures c.as_slice-2.ensures c.as_slice-else-share_lock.ensures c.as_slice-else-share_lock-2.ensures c.share_lock.ensures c.if-share_lock.false c.share_lock-else-share_lock.ensures
