use Rattle.std.proofs.Common.{◌∙◌}
use Rattle.std.proofs.lemmas.Result.{err_from_is_err_and}
use Rattle.job_outcomes.proofs.Putting.{put_more, put_failed, partly_put}
use Rattle.job_outcomes.proofs.finishing.put_all.Goals as goal

pub returns-in_err-keep-clause-failed : goal.returns-in_err-keep-clause-failed
returns-in_err-keep-clause-failed g c = λ e.
    let p = err_from_is_err_and c.from_residual.result c.from_residual.ensures.1 in
    put_failed c.args.puts.now c.loop-put.put-index c.put-item.result c.name.result.now _ (g.S.Shelf.files c.loop-put.shelf) _ c.loop-put-test.true c.put-item.is c.name.ensures c.loop-put.invariant.made (c.keep.ensures.failed (cc (e, p.1, p.2, c.in_err-keep.was)))

pub returns-in_err-keep-clause-memory : goal.returns-in_err-keep-clause-memory
returns-in_err-keep-clause-memory g c = λ e.
    let p = err_from_is_err_and c.from_residual.result c.from_residual.ensures.1 in
    partly_put c.args.puts.now c.loop-put.put-index _ (g.S.Shelf.files c.loop-put.shelf) _ c.loop-put.invariant.made (c.keep.ensures.memory (cc (e, p.1, p.2, c.in_err-keep.was)))

pub loop-put-preserved : goal.loop-put-preserved
loop-put-preserved g c = record {
  made = put_more c.args.puts.now c.loop-put.put-index c.put-item.result c.name.result.now _ _ (g.S.Shelf.files c.loop-put.shelf) _ c.loop-put-test.true c.put-item.is c.name.ensures (c.as_slice.ensures ∙ c.content.ensures) c.loop-put.invariant.made c.in_ok-keep.ensures.ok;
  faults = c.in_ok-keep.ensures.faults ∙ c.loop-put.invariant.faults;
  sound = λ sound. c.keep.ensures.sound (c.loop-put.invariant.sound sound);
}

pub returns-in_err-keep-clause-sound : goal.returns-in_err-keep-clause-sound
returns-in_err-keep-clause-sound g c = λ sound. c.keep.ensures.sound (c.loop-put.invariant.sound sound)

pub returns-in_err-keep-clause-kept : goal.returns-in_err-keep-clause-kept
returns-in_err-keep-clause-kept g c = λ sound e.
    let p = err_from_is_err_and c.from_residual.result c.from_residual.ensures.1 in
    c.keep.ensures.kept (c.loop-put.invariant.sound sound) (cc (e, p.1, p.2, c.in_err-keep.was))

pub returns-clause-sound : goal.returns-clause-sound
returns-clause-sound g c = c.loop-put.invariant.sound
