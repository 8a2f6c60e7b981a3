use Rattle.std.proofs.Common.{◌≡◌, true, false, sym, ◌∙◌}
use Rattle.std.proofs.lemmas.Bool.{true≢false}
use Rattle.core_run.specs.Words.{has_object}
use Rattle.sync_objects.specs.declared.object.ObjId.TheVariants as object
use Rattle.sync_objects.specs.declared.operation.Op.TheVariants as op
use Rattle.replayer.proofs.Attempts.{is_barred, look_carries, waits}
use Rattle.replayer.proofs.Seated.{no_revoke, may_here, has_here, revokes, limits_here, looked_set, tried, has_read}
use Rattle.replayer.proofs.making.make_revoke.Goals as goal

pub returns-then-not-may_revoke : goal.returns-then-not-may_revoke
returns-then-not-may_revoke c = no_revoke _ _ _ _ c.requires.set c.requires.count c.args.lock c.args.stripe c.requires.label (λ may has.
    true≢false (sym may ∙ may_here _ _ _ _ c.requires.set c.requires.count c.args.lock c.args.stripe ∙ sym c.may_revoke.ensures ∙ c.if-not-may_revoke.true))

pub returns-then-not-has_object : goal.returns-then-not-has_object
returns-then-not-has_object c = no_revoke _ _ _ _ c.requires.set c.requires.count c.args.lock c.args.stripe c.requires.label (λ may has.
    let obj = object.Weak c.args.lock c.args.stripe in
    let none : has_object c.args.cells.now.code c.args.cells.now.setup obj ≡ false = has_read c.args.cells.now c.code.result.now c.setup.result.now obj false c.has_object.result c.code.ensures c.setup.ensures c.has_object.ensures c.if-not-has_object.true in
    true≢false (sym has ∙ has_here _ _ _ _ c.requires.set obj false none))

pub returns-in-Barred : goal.returns-in-Barred
returns-in-Barred c =
    let obj = object.Weak c.args.lock c.args.stripe in
    let has : has_object c.args.cells.now.code c.args.cells.now.setup obj ≡ true = has_read c.args.cells.now c.code.result.now c.setup.result.now obj true c.has_object.result c.code.ensures c.setup.ensures c.has_object.ensures c.if-not-has_object.false in
    is_barred c.args.cells.now c.args.seat.now c.look_at.new.seat c.args.run.now c.args.next op.Revoke obj c.in-Barred.ensures.sees c.look_at.ensures.seat c.requires.set.carrying (limits_here _ _ _ _ c.requires.set c.requires.limits)
    (revokes _ _ _ _ c.requires.set c.requires.count c.args.lock c.args.stripe c.requires.label c.requires.name c.requires.object has (sym c.may_revoke.ensures ∙ c.if-not-may_revoke.false))

pub returns-in-Open : goal.returns-in-Open
returns-in-Open c =
    let mid = c.look_at.new.seat in
    let x = c.args.next in
    let obj = object.Weak c.args.lock c.args.stripe in
    let has : has_object c.args.cells.now.code c.args.cells.now.setup obj ≡ true = has_read c.args.cells.now c.code.result.now c.setup.result.now obj true c.has_object.result c.code.ensures c.setup.ensures c.has_object.ensures c.if-not-has_object.false in
    let set = looked_set _ _ _ _ c.requires.set mid op.Revoke obj x.number c.look_at.result c.look_at.ensures.sees c.look_at.ensures.seat in
    tried _ _ _ _ c.requires.set mid c.give_up.new.seat c.give_up.new.run op.Revoke obj c.look_at.result c.give_up.result c.came_to.result c.look_at.ensures.sees
    (revokes _ _ _ _ set c.requires.count c.args.lock c.args.stripe c.requires.label c.requires.name c.requires.object has (sym c.may_revoke.ensures ∙ c.if-not-may_revoke.false))
    c.give_up.ensures.carrying c.give_up.ensures.came c.came_to.ensures

pub give_up-requires-clause-carrying : goal.give_up-requires-clause-carrying
give_up-requires-clause-carrying c = look_carries c.args.seat.now c.look_at.new.seat op.Revoke (object.Weak c.args.lock c.args.stripe) c.args.next.number c.look_at.result c.look_at.ensures.sees c.args.cells.now c.args.run.now c.look_at.ensures.seat c.requires.set.carrying

pub returns-in-Elsewhere : goal.returns-in-Elsewhere
returns-in-Elsewhere c = waits c.args.cells.now c.args.seat.now c.look_at.new.seat c.args.run.now c.args.next op.Revoke (object.Weak c.args.lock c.args.stripe) c.look_at.result c.look_at.ensures.sees c.look_at.ensures.seat c.requires.set.carrying
