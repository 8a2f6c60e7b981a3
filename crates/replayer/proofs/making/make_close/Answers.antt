use Rattle.std.proofs.Common.{◌≡◌, not, ◌&&◌, sym, ap, subst, ◌∙◌}
use Rattle.std.proofs.lemmas.Bool.{true≢false}
use Rattle.flow_code.specs.Next.{has_begun, has_ended}
use Rattle.shared_cells.specs.Seats.{view_of}
use Rattle.sync_objects.specs.declared.object.ObjId.TheVariants as object
use Rattle.sync_objects.specs.declared.operation.Op.TheVariants as op
use Rattle.replayer.specs.Steps.{Sees}
use Rattle.replayer.specs.declared.sight.Sight.TheVariants as sight
use Rattle.replayer.proofs.Attempts.{is_barred, look_carries, waits}
use Rattle.replayer.proofs.Seated.{no_close, closes, phase_here, limits_here, looked_set, tried}
use Rattle.replayer.proofs.making.make_close.Goals as goal

pub returns-then-not-is_at : goal.returns-then-not-is_at
returns-then-not-is_at c = no_close _ _ _ _ c.requires.set c.requires.count c.requires.label (λ may at. true≢false (sym (c.is_at.ensures.1 (at ∙ ap object.Slot (sym c.requires.set.own))) ∙ c.if-not-is_at.true))

pub returns-then-has_begun : goal.returns-then-has_begun
returns-then-has_begun c = no_close _ _ _ _ c.requires.set c.requires.count c.requires.label (λ may at.
    let run = c.args.run.now in
    true≢false (sym may ∙ ap (λ p. not (has_begun p) && not (has_ended p)) (phase_here _ _ _ _ c.requires.set c.requires.count) ∙ ap (λ b. not b && not (has_ended run.flow.kept.thread.phase)) (sym c.has_begun.ensures ∙ c.if-has_begun.true)))

pub returns-in-Barred : goal.returns-in-Barred
returns-in-Barred c =
    let old = c.args.seat.now in
    let slot : c.args.next.entry.obj ≡ object.Slot (view_of old).from = c.is_at.ensures.0 c.if-not-is_at.false ∙ ap object.Slot c.requires.set.own in
    let sees = subst (λ t. Sees old c.look_at.new.seat op.Close (object.Slot t) c.args.next.number sight.Barred) c.requires.set.own c.in-Barred.ensures.sees in
    is_barred c.args.cells.now old c.look_at.new.seat c.args.run.now c.args.next op.Close (object.Slot (view_of old).from) sees c.look_at.ensures.seat c.requires.set.carrying (limits_here _ _ _ _ c.requires.set c.requires.limits)
    (closes _ _ _ _ c.requires.set c.requires.count c.requires.label c.requires.name slot (sym c.has_begun.ensures ∙ c.if-has_begun.false))

pub returns-in-Open : goal.returns-in-Open
returns-in-Open c =
    let old = c.args.seat.now in
    let mid = c.look_at.new.seat in
    let x = c.args.next in
    let set = looked_set _ _ _ _ c.requires.set mid op.Close (object.Slot x.entry.thread) x.number c.look_at.result c.look_at.ensures.sees c.look_at.ensures.seat in
    let slot : x.entry.obj ≡ object.Slot (view_of mid).from = c.is_at.ensures.0 c.if-not-is_at.false ∙ ap object.Slot set.own in
    let sees = subst (λ t. Sees old mid op.Close (object.Slot t) x.number c.look_at.result) set.own c.look_at.ensures.sees in
    tried _ _ _ _ c.requires.set mid c.close_slot.new.seat c.close_slot.new.run op.Close (object.Slot (view_of mid).from) c.look_at.result c.close_slot.result c.came_to.result sees
    (closes _ _ _ _ set c.requires.count c.requires.label c.requires.name slot (sym c.has_begun.ensures ∙ c.if-has_begun.false))
    c.close_slot.ensures.carrying c.close_slot.ensures.came c.came_to.ensures

pub close_slot-requires-clause-carrying : goal.close_slot-requires-clause-carrying
close_slot-requires-clause-carrying c = look_carries c.args.seat.now c.look_at.new.seat op.Close (object.Slot c.args.next.entry.thread) c.args.next.number c.look_at.result c.look_at.ensures.sees c.args.cells.now c.args.run.now c.look_at.ensures.seat c.requires.set.carrying

pub returns-in-Elsewhere : goal.returns-in-Elsewhere
returns-in-Elsewhere c = waits c.args.cells.now c.args.seat.now c.look_at.new.seat c.args.run.now c.args.next op.Close (object.Slot c.args.next.entry.thread) c.look_at.result c.look_at.ensures.sees c.look_at.ensures.seat c.requires.set.carrying
