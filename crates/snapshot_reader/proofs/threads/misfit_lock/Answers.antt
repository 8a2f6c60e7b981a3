use Rattle.std.proofs.Common.{ℕ, ◌+◌, ◌++◌, List, None, Some, length, sym, ap, subst, ◌∙◌}
use Rattle.std.specs.List.{AllByRecursion}
use Rattle.order_log.specs.Reading.{shown}
use Rattle.snapshots.specs.Conditions.{regions_judged, stripes_judged}
use Rattle.thread_interpreter.specs.declared.part.FramePart.{FramePart}
use Rattle.thread_interpreter.specs.declared.part.RegionPart.{RegionPart}
use Rattle.thread_interpreter.specs.declared.part.StripePart.{StripePart}
use Rattle.snapshot_reader.specs.Misfits.{Misfits}
use Rattle.snapshot_reader.specs.Tallies.{IsIn}
use Rattle.snapshot_reader.proofs.Counts.{stripes_count}
use Rattle.snapshot_reader.proofs.Judging.{misfits_back, misfits_front}
use Rattle.snapshot_reader.proofs.PartMisfits.{if_ok_more, judged_by, listed_by, stripes_inside}
use Rattle.snapshot_reader.proofs.threads.misfit_lock.Goals as goal

pub returns-in-Some : goal.returns-in-Some
returns-in-Some c =
    let code = c.args.code.now in
    let s = c.args.setup.now in
    let d = c.args.thread.now in
    misfits_front (stripes_judged code s d.regions None d.stripes) (regions_judged code d.frames d.stripes None d.regions) c.args.first c.in-Some.line
    (judged_by code s c.len-locks.result c.as_slice-regions.result.now d.regions c.as_slice-stripes.result.now d.stripes c.in_ok-counts.counts c.as_slice.result.now c.args.first (Some c.in-Some.line)
    c.len-locks.ensures c.as_slice-regions.ensures c.as_slice-stripes.ensures c.as_slice.ensures c.in_ok-counts.ensures c.in-Some.ensures)

pub listed-requires-clause-inside : goal.listed-requires-clause-inside
listed-requires-clause-inside c =
    let code = c.args.code.now in
    let s = c.args.setup.now in
    let d = c.args.thread.now in
    let fit = judged_by code s c.len-locks.result c.as_slice-regions.result.now d.regions c.as_slice-stripes.result.now d.stripes c.in_ok-counts.counts c.as_slice.result.now c.args.first None
    c.len-locks.ensures c.as_slice-regions.ensures c.as_slice-stripes.ensures c.as_slice.ensures c.in_ok-counts.ensures c.in_default.ensures in
    subst (λ (n : ℕ). AllByRecursion (λ (x : StripePart). IsIn n (x.lock, x.stripe)) c.as_slice-stripes.result.now) (sym c.len-locks.ensures)
    (subst (λ (xs : List StripePart). AllByRecursion (λ (x : StripePart). IsIn (length code.locks) (x.lock, x.stripe)) xs) (sym c.as_slice-stripes.ensures) (stripes_inside code s d.regions None d.stripes fit))

pub returns : goal.returns
returns c =
    let code = c.args.code.now in
    let s = c.args.setup.now in
    let d = c.args.thread.now in
    let stripes = stripes_judged code s d.regions None d.stripes in
    let regions = regions_judged code d.frames d.stripes None d.regions in
    let at = c.line_after-at.result in
    let fit = judged_by code s c.len-locks.result c.as_slice-regions.result.now d.regions c.as_slice-stripes.result.now d.stripes c.in_ok-counts.counts c.as_slice.result.now c.args.first None
    c.len-locks.ensures c.as_slice-regions.ensures c.as_slice-stripes.ensures c.as_slice.ensures c.in_ok-counts.ensures c.in_default.ensures in
    let listed = listed_by (length code.locks) c.len-locks.result c.as_slice-stripes.result.now d.stripes c.in_ok-places.places c.as_slice-3.result.now c.len-locks.ensures c.as_slice-stripes.ensures c.as_slice-3.ensures c.in_ok-places.ensures in
    let here = c.line_after-at.ensures ∙ ap (λ (xs : List StripePart). shown (c.args.first + length xs)) c.as_slice-stripes.ensures ∙ ap (λ (n : ℕ). shown (c.args.first + n)) (sym (stripes_count code s d.regions None d.stripes)) in
    if_ok_more c.misfit_region.result (Misfits (regions_judged code c.as_slice-2.result.now d.stripes None c.as_slice-regions.result.now) at) (Misfits (stripes ++ regions) c.args.first)
    (λ o h. misfits_back stripes regions c.args.first at o here fit
    (subst (λ (rs : List RegionPart). Misfits (regions_judged code d.frames d.stripes None rs) at o) c.as_slice-regions.ensures
    (subst (λ (fs : List FramePart). Misfits (regions_judged code fs d.stripes None c.as_slice-regions.result.now) at o) c.as_slice-2.ensures h)))
    (c.misfit_region.ensures d.stripes listed)
