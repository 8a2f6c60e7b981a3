use Rattle.std.proofs.Common.{refl}
use Rattle.std.proofs.lemmas.Option.{slice_get_read}
use Rattle.lockset_summary.proofs.Making.{put_by}
use Rattle.lockset_summary.proofs.guarded.put.Goals as goal

pub insert-requires : goal.insert-requires
insert-requires c = c.requires.sound.ascending c.args.f c.index_mut.result.now (slice_get_read c.args.rows.now.items _ c.args.f c.index_mut.result.now refl c.requires.within c.index_mut.ensures.value)

pub returns : goal.returns
returns c = put_by c.args._code.now c.args._points.now c.args.rows.now.items c.args.f c.args.access c.index_mut.result.now c.insert.new.row c.insert.result c.requires.within c.index_mut.ensures.value c.requires.makes c.insert.ensures
