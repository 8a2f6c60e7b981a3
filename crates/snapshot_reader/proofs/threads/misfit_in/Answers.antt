use Rattle.std.proofs.Common.{◌++◌, List, None, Some, length, sym, ap, subst, ◌∙◌, arith}
use Rattle.snapshots.specs.Conditions.{frames_judged, head_fits, regions_judged, stripes_judged, thread_judged}
use Rattle.snapshot_reader.specs.Misfits.{Misfits}
use Rattle.snapshot_reader.proofs.Counts.{frames_count}
use Rattle.snapshot_reader.proofs.Judging.{misfits_back, misfits_front}
use Rattle.snapshot_reader.proofs.PartMisfits.{after_head, if_ok_more}
use Rattle.thread_interpreter.specs.declared.part.FramePart.{FramePart}
use Rattle.snapshot_reader.proofs.threads.misfit_in.Goals as goal

pub returns-in-Some : goal.returns-in-Some
returns-in-Some c =
    let code = c.args.code.now in
    let s = c.args.setup.now in
    let d = c.args.thread.now in
    let tail = stripes_judged code s d.regions None d.stripes ++ regions_judged code d.frames d.stripes None d.regions in
    let at = c.line_after-frames_at.result in
    let here = subst (λ (fs : List FramePart). Misfits (frames_judged code s None fs) at (Some c.in-Some.line)) c.as_slice-frames.ensures c.in-Some.ensures in
    after_head (head_fits code s c.args.number d.head) (frames_judged code s None d.frames ++ tail) c.args.first at (Some c.in-Some.line) (sym c.head_fits.ensures ∙ c.if-not-head_fits.false) c.line_after-frames_at.ensures
    (misfits_front (frames_judged code s None d.frames) tail at c.in-Some.line here)

pub returns : goal.returns
returns c =
    let code = c.args.code.now in
    let s = c.args.setup.now in
    let d = c.args.thread.now in
    let tail = stripes_judged code s d.regions None d.stripes ++ regions_judged code d.frames d.stripes None d.regions in
    let at = c.line_after-frames_at.result in
    let next = c.line_after-stripes_at.result in
    let fits = subst (λ (fs : List FramePart). Misfits (frames_judged code s None fs) at None) c.as_slice-frames.ensures c.in_default.ensures in
    let count = frames_count code s None d.frames in
    let size = ap length c.as_slice-frames.ensures in
    if_ok_more c.misfit_lock.result (Misfits tail next) (Misfits (thread_judged code s c.args.number d) c.args.first)
    (λ o h. after_head (head_fits code s c.args.number d.head) (frames_judged code s None d.frames ++ tail) c.args.first at o (sym c.head_fits.ensures ∙ c.if-not-head_fits.false) c.line_after-frames_at.ensures
    (misfits_back (frames_judged code s None d.frames) tail at next o (let n = c.line_after-stripes_at.ensures in omega arith) fits h))
    c.misfit_lock.ensures
