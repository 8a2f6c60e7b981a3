use Rattle.std.proofs.Common.{ℕ, ◌+◌, List, None, Some, length, ap, subst, ◌∙◌}
use Rattle.std.proofs.lemmas.Bool.{le-leb, lt-leb}
use Rattle.order_log.specs.Reading.{shown}
use Rattle.sync_objects.specs.declared.object.ObjId.{ObjId}
use Rattle.snapshots.specs.Conditions.{cells_judged, judgements, objects_judged, threads_judged}
use Rattle.snapshots.specs.declared.draft.DraftThread.{DraftThread}
use Rattle.snapshot_reader.specs.Misfits.{Misfits}
use Rattle.snapshot_reader.proofs.DraftMisfits.{at_misfit, cell_misfit, object_misfit, threads_misfit}
use Rattle.snapshot_reader.proofs.PartMisfits.{if_ok_more}
use Rattle.snapshot_reader.proofs.judge.misfit_line.Goals as goal

pub returns-then-draft-entries : goal.returns-then-draft-entries
returns-then-draft-entries c = at_misfit c.args.code.now c.args.setup.now c.args.entries c.args.draft.now (lt-leb _ _ c.if-draft-entries.true)

pub returns-in-Some : goal.returns-in-Some
returns-in-Some c =
    let code = c.args.code.now in
    let s = c.args.setup.now in
    cell_misfit code s c.args.entries c.args.draft.now c.in-Some.line (le-leb _ _ c.if-draft-entries.false)
    (subst (λ (cs : List (ℕ × ℕ)). Misfits (cells_judged code s None cs) 4 (Some c.in-Some.line)) c.as_slice.ensures c.in-Some.ensures)

pub returns-in-Some-misfit_object : goal.returns-in-Some-misfit_object
returns-in-Some-misfit_object c =
    let code = c.args.code.now in
    let s = c.args.setup.now in
    let at = c.line_after-objects_at.result in
    object_misfit code s c.args.entries c.args.draft.now at c.in-Some-misfit_object.line (le-leb _ _ c.if-draft-entries.false)
    (subst (λ (cs : List (ℕ × ℕ)). Misfits (cells_judged code s None cs) 4 None) c.as_slice.ensures c.in_default.ensures)
    (c.line_after-objects_at.ensures ∙ ap (λ (k : ℕ). shown (5 + k)) c.len.ensures)
    (subst (λ (os : List (ObjId × ℕ × ℕ)). Misfits (objects_judged code s None os) at (Some c.in-Some-misfit_object.line)) c.as_slice-objects.ensures c.in-Some-misfit_object.ensures)

pub returns : goal.returns
returns c =
    let code = c.args.code.now in
    let s = c.args.setup.now in
    let d = c.args.draft.now in
    let at = c.line_after-objects_at.result in
    let next = c.line_after-threads_at.result in
    if_ok_more c.misfit_thread.result (Misfits (threads_judged code s 0 c.as_slice-2.result.now) next) (Misfits (judgements code s c.args.entries d) 1)
    (λ o h. threads_misfit code s c.args.entries d at next o (le-leb _ _ c.if-draft-entries.false)
    (subst (λ (cs : List (ℕ × ℕ)). Misfits (cells_judged code s None cs) 4 None) c.as_slice.ensures c.in_default.ensures)
    (c.line_after-objects_at.ensures ∙ ap (λ (k : ℕ). shown (5 + k)) c.len.ensures)
    (subst (λ (os : List (ObjId × ℕ × ℕ)). Misfits (objects_judged code s None os) at None) c.as_slice-objects.ensures c.in_default-misfit_object.ensures)
    (c.line_after-threads_at.ensures ∙ ap (λ (os : List (ObjId × ℕ × ℕ)). shown (at + length os)) c.as_slice-objects.ensures)
    (subst (λ (ds : List DraftThread). Misfits (threads_judged code s 0 ds) next o) c.as_slice-2.ensures h))
    c.misfit_thread.ensures
