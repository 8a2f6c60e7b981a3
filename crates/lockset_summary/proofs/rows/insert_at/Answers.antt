use Rattle.lockset_summary.proofs.Insertion.{puts}
use Rattle.lockset_summary.proofs.rows.insert_at.Goals as goal

pub returns : goal.returns
returns c = puts c.args.row.now c.insert.new.self c.args.access c.args.place c.len-length.result c.requires.ascends c.requires.place c.in_ok-insert.ensures.ok c.len-length.ensures c.len-length.type_inv
