use Rattle.lockset_summary.proofs.Knowing.{put_by}
use Rattle.lockset_summary.proofs.universe.put.Goals as goal

pub returns : goal.returns
returns c = put_by c.args._code.now c.args.rows.now.items c.args.f c.args.path c.index_mut.result.now c.add.new.row c.add.result c.requires.within c.index_mut.ensures.value c.requires.knows c.add.ensures.value c.add.ensures.same c.add.ensures.longer
