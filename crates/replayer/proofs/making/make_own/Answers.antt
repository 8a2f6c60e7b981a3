use Rattle.std.proofs.Common.{◌≡◌, true, false, sym, subst, ◌∙◌}
use Rattle.std.proofs.lemmas.Bool.{true≢false}
use Rattle.sync_objects.specs.Names.{name_of}
use Rattle.core_run.specs.Words.{has_object}
use Rattle.replayer.proofs.Attempts.{is_barred, look_carries, waits}
use Rattle.replayer.proofs.Seated.{mismatch, operates, operates_range, operates_fits, limits_here, looked_set, tried, has_read}
use Rattle.replayer.proofs.making.make_own.Goals as goal

pub returns-in_default : goal.returns-in_default
returns-in_default c = mismatch _ _ _ _ c.requires.set c.requires.count c.next_action.result (sym c.next_action.ensures) c.requires.label (λ o obj e has op_is obj_is. c.in_default.not-Operate o obj e)

pub returns-then-not-has_name : goal.returns-then-not-has_name
returns-then-not-has_name c = mismatch _ _ _ _ c.requires.set c.requires.count c.next_action.result (sym c.next_action.ensures) c.requires.label (λ o obj e has op_is obj_is.
    let same : o ≡ c.in-Operate.op = cc in
    let named : name_of c.in-Operate.op ≡ c.args.next.entry.op = subst (λ z. name_of z ≡ c.args.next.entry.op) same op_is in
    true≢false (sym (c.has_name.ensures.1 named) ∙ c.if-not-has_name.true))

pub returns-then-not-is_at : goal.returns-then-not-is_at
returns-then-not-is_at c = mismatch _ _ _ _ c.requires.set c.requires.count c.next_action.result (sym c.next_action.ensures) c.requires.label (λ o obj e has op_is obj_is.
    let same : obj ≡ c.in-Operate.obj = cc in
    true≢false (sym (c.is_at.ensures.1 (sym obj_is ∙ same)) ∙ c.if-not-is_at.true))

pub returns-then-not-has_object : goal.returns-then-not-has_object
returns-then-not-has_object c = mismatch _ _ _ _ c.requires.set c.requires.count c.next_action.result (sym c.next_action.ensures) c.requires.label (λ o obj e has op_is obj_is.
    let same : obj ≡ c.in-Operate.obj = cc in
    let none : has_object c.args.cells.now.code c.args.cells.now.setup c.in-Operate.obj ≡ false = has_read c.args.cells.now c.code.result.now c.setup.result.now c.in-Operate.obj false c.has_object.result c.code.ensures c.setup.ensures c.has_object.ensures c.if-not-has_object.true in
    true≢false (sym (subst (λ z. has_object c.args.cells.now.code c.args.cells.now.setup z ≡ true) same has) ∙ none))

pub look_at-requires-clause-range : goal.look_at-requires-clause-range
look_at-requires-clause-range c = operates_range _ _ _ _ c.requires.set c.requires.runnable c.requires.limits c.in-Operate.op c.in-Operate.obj (sym c.next_action.ensures ∙ c.in-Operate.is)

pub look_at-requires-clause-fits : goal.look_at-requires-clause-fits
look_at-requires-clause-fits c = operates_fits _ _ _ _ c.requires.set c.requires.runnable c.in-Operate.op c.in-Operate.obj (sym c.next_action.ensures ∙ c.in-Operate.is)

pub returns-in-Barred : goal.returns-in-Barred
returns-in-Barred c =
    let old = c.args.seat.now in
    let run = c.args.run.now in
    let x = c.args.next in
    let o = c.in-Operate.op in
    let obj = c.in-Operate.obj in
    let has : has_object c.args.cells.now.code c.args.cells.now.setup obj ≡ true = has_read c.args.cells.now c.code.result.now c.setup.result.now obj true c.has_object.result c.code.ensures c.setup.ensures c.has_object.ensures c.if-not-has_object.false in
    is_barred c.args.cells.now old c.look_at.new.seat run x o obj c.in-Barred.ensures.sees c.look_at.ensures.seat c.requires.set.carrying (limits_here _ _ _ _ c.requires.set c.requires.limits)
    (operates _ _ _ _ c.requires.set c.requires.count c.requires.runnable o obj (sym c.next_action.ensures ∙ c.in-Operate.is) has c.requires.label (c.has_name.ensures.0 c.if-not-has_name.false) (sym (c.is_at.ensures.0 c.if-not-is_at.false)))

pub returns-in-Open : goal.returns-in-Open
returns-in-Open c =
    let mid = c.look_at.new.seat in
    let x = c.args.next in
    let o = c.in-Operate.op in
    let obj = c.in-Operate.obj in
    let has : has_object c.args.cells.now.code c.args.cells.now.setup obj ≡ true = has_read c.args.cells.now c.code.result.now c.setup.result.now obj true c.has_object.result c.code.ensures c.setup.ensures c.has_object.ensures c.if-not-has_object.false in
    let set = looked_set _ _ _ _ c.requires.set mid o obj x.number c.look_at.result c.look_at.ensures.sees c.look_at.ensures.seat in
    tried _ _ _ _ c.requires.set mid c.operate.new.seat c.operate.new.run o obj c.look_at.result c.operate.result c.came_to.result c.look_at.ensures.sees
    (operates _ _ _ _ set c.requires.count c.requires.runnable o obj (sym c.next_action.ensures ∙ c.in-Operate.is) has c.requires.label (c.has_name.ensures.0 c.if-not-has_name.false) (sym (c.is_at.ensures.0 c.if-not-is_at.false)))
    c.operate.ensures.carrying c.operate.ensures.came c.came_to.ensures

pub operate-requires-clause-carrying : goal.operate-requires-clause-carrying
operate-requires-clause-carrying c = look_carries c.args.seat.now c.look_at.new.seat c.in-Operate.op c.in-Operate.obj c.args.next.number c.look_at.result c.look_at.ensures.sees c.args.cells.now c.args.run.now c.look_at.ensures.seat c.requires.set.carrying

pub returns-in-Elsewhere : goal.returns-in-Elsewhere
returns-in-Elsewhere c = waits c.args.cells.now c.args.seat.now c.look_at.new.seat c.args.run.now c.args.next c.in-Operate.op c.in-Operate.obj c.look_at.result c.look_at.ensures.sees c.look_at.ensures.seat c.requires.set.carrying
