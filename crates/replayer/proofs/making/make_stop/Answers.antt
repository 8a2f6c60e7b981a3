use Rattle.std.proofs.Common.{not, ◌&&◌, sym, ap, ◌∙◌}
use Rattle.std.proofs.lemmas.Bool.{true≢false}
use Rattle.flow_code.specs.Next.{has_begun, has_ended}
use Rattle.sync_objects.specs.declared.object.ObjId.TheVariants as object
use Rattle.sync_objects.specs.declared.operation.Op.TheVariants as op
use Rattle.replayer.proofs.Attempts.{is_barred, look_carries, waits}
use Rattle.replayer.proofs.Seated.{no_stop, stops, phase_here, limits_here, looked_set, tried}
use Rattle.replayer.proofs.making.make_stop.Goals as goal

pub returns-then-not-is_at : goal.returns-then-not-is_at
returns-then-not-is_at c = no_stop _ _ _ _ c.requires.set c.requires.count c.requires.label (λ may at. true≢false (sym (c.is_at.ensures.1 at) ∙ c.if-not-is_at.true))

pub returns-then-not-has_begun : goal.returns-then-not-has_begun
returns-then-not-has_begun c = no_stop _ _ _ _ c.requires.set c.requires.count c.requires.label (λ may at.
    let run = c.args.run.now in
    true≢false (sym may ∙ ap (λ p. has_begun p && not (has_ended p)) (phase_here _ _ _ _ c.requires.set c.requires.count) ∙ ap (λ b. b && not (has_ended run.flow.kept.thread.phase)) (sym c.has_begun.ensures ∙ c.if-not-has_begun.true)))

pub returns-in-Barred : goal.returns-in-Barred
returns-in-Barred c =
    is_barred c.args.cells.now c.args.seat.now c.look_at.new.seat c.args.run.now c.args.next op.Stop object.Halt c.in-Barred.ensures.sees c.look_at.ensures.seat c.requires.set.carrying (limits_here _ _ _ _ c.requires.set c.requires.limits)
    (stops _ _ _ _ c.requires.set c.requires.count c.requires.label c.requires.name (c.is_at.ensures.0 c.if-not-is_at.false) (sym c.has_begun.ensures ∙ c.if-not-has_begun.false))

pub returns-in-Open : goal.returns-in-Open
returns-in-Open c =
    let mid = c.look_at.new.seat in
    let x = c.args.next in
    let set = looked_set _ _ _ _ c.requires.set mid op.Stop object.Halt x.number c.look_at.result c.look_at.ensures.sees c.look_at.ensures.seat in
    tried _ _ _ _ c.requires.set mid c.stop.new.seat c.stop.new.run op.Stop object.Halt c.look_at.result c.stop.result c.came_to.result c.look_at.ensures.sees
    (stops _ _ _ _ set c.requires.count c.requires.label c.requires.name (c.is_at.ensures.0 c.if-not-is_at.false) (sym c.has_begun.ensures ∙ c.if-not-has_begun.false))
    c.stop.ensures.carrying c.stop.ensures.came c.came_to.ensures

pub stop-requires-clause-carrying : goal.stop-requires-clause-carrying
stop-requires-clause-carrying c = look_carries c.args.seat.now c.look_at.new.seat op.Stop object.Halt c.args.next.number c.look_at.result c.look_at.ensures.sees c.args.cells.now c.args.run.now c.look_at.ensures.seat c.requires.set.carrying

pub returns-in-Elsewhere : goal.returns-in-Elsewhere
returns-in-Elsewhere c = waits c.args.cells.now c.args.seat.now c.look_at.new.seat c.args.run.now c.args.next op.Stop object.Halt c.look_at.result c.look_at.ensures.sees c.look_at.ensures.seat c.requires.set.carrying
