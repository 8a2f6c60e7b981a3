use Rattle.std.proofs.Common.{◌≡◌, ◌<◌, arith, ap, refl, subst, sym, ◌∙◌}
use mathlib.Core.Option.{none}
use Rattle.core_run.specs.Words.{cells_of, place_of}
use Rattle.shared_cells.specs.Plays.{LooksAt}
use Rattle.shared_cells.specs.Views.{looked}
use Rattle.shared_cells.specs.Words.{objects_end, spot_of}
use Rattle.shared_cells.proofs.Keeping.{length-first_words}
use Rattle.shared_cells.proofs.Calls.{called, place_is, object_is, spot_there, on_table, at_spot_of, sits_as}
use Rattle.shared_cells.proofs.Allowed.{look_allowed, object_place}
use Rattle.shared_cells.proofs.cells.Cells.look.Goals as goal

pub spot-requires : goal.spot-requires
spot-requires c =
    let shared = c.self.inside.table.shared in
    let seat = c.args.seat.now in
    let me = seat.seat.me in
    let v = me.0 in
    let k = called _ shared.key shared.table_id _ _ _ _ _ seat.seat.table_id me seat.thread c.self.view_is c.self.invariant.0 c.requires.seat in
    let p = place_of (cells_of v.code v.setup) c.args.obj in
    let same : p ≡ c.place_of.result = place_is _ shared.key shared.table_id _ _ _ _ _ seat.seat.table_id me seat.thread c.self.view_is c.self.invariant.0 c.requires.seat c.args.obj c.place_of.result c.place_of.ensures in
    let place = object_place v.code v.setup c.args.obj k.limits (object_is _ shared.key shared.table_id seat.seat.table_id me k c.args.obj c.requires.object) in
    let high = place.1 in
    let words = length-first_words c.args.self.now.code c.args.self.now.setup in
    let inside : c.place_of.result < objects_end v.code v.setup = subst (λ z. z < objects_end v.code v.setup) same high in
    let here : c.place_of.result < objects_end c.args.self.now.code c.args.self.now.setup = subst (λ z. c.place_of.result < objects_end c.args.self.now.code z) k.setup_is (subst (λ z. c.place_of.result < objects_end z v.setup) k.code_is inside) in
    omega (arith, here, words)

pub load-requires : goal.load-requires
load-requires c =
    let shared = c.self.inside.table.shared in
    let seat = c.args.seat.now in
    let me = seat.seat.me in
    let v = me.0 in
    let k = called _ shared.key shared.table_id _ _ _ _ _ seat.seat.table_id me seat.thread c.self.view_is c.self.invariant.0 c.requires.seat in
    let p = place_of (cells_of v.code v.setup) c.args.obj in
    let same : p ≡ c.place_of.result = place_is _ shared.key shared.table_id _ _ _ _ _ seat.seat.table_id me seat.thread c.self.view_is c.self.invariant.0 c.requires.seat c.args.obj c.place_of.result c.place_of.ensures in
    let place = object_place v.code v.setup c.args.obj k.limits (object_is _ shared.key shared.table_id seat.seat.table_id me k c.args.obj c.requires.object) in
    let high = place.1 in
    let words = length-first_words v.code v.setup in
    let spot = spot_there _ shared.key shared.table_id seat.seat.table_id me k p c.spot.result (omega (arith, high, words)) (c.spot.ensures ∙ ap (λ z. spot_of c.args.self.now.code c.args.self.now.setup z) (sym same)) in (
      k.table_is,
      on_table _ shared.key shared.table_id seat.seat.table_id me k shared.table_id.slots seat.seat.id p c.spot.result spot,
      at_spot_of _ shared.key shared.table_id seat.seat.table_id me k shared.table_id.slots seat.seat.id p c.spot.result spot 0 0 none (λ w. w) LooksAt
          (look_allowed v me.1 shared.table_id.slots seat.seat.id k.alone k.runnable k.limits p),
    )

pub returns-clause-seat : goal.returns-clause-seat
returns-clause-seat c =
    let shared = c.self.inside.table.shared in
    let seat = c.args.seat.now in
    let me = seat.seat.me in
    let v = me.0 in
    let k = called _ shared.key shared.table_id _ _ _ _ _ seat.seat.table_id me seat.thread c.self.view_is c.self.invariant.0 c.requires.seat in
    let p = place_of (cells_of v.code v.setup) c.args.obj in
    let same : p ≡ c.place_of.result = place_is _ shared.key shared.table_id _ _ _ _ _ seat.seat.table_id me seat.thread c.self.view_is c.self.invariant.0 c.requires.seat c.args.obj c.place_of.result c.place_of.ensures in
    let place = object_place v.code v.setup c.args.obj k.limits (object_is _ shared.key shared.table_id seat.seat.table_id me k c.args.obj c.requires.object) in
    let high = place.1 in
    let words = length-first_words v.code v.setup in
    let spot = spot_there _ shared.key shared.table_id seat.seat.table_id me k p c.spot.result (omega (arith, high, words)) (c.spot.ensures ∙ ap (λ z. spot_of c.args.self.now.code c.args.self.now.setup z) (sym same)) in
    let told = c.load.ensures.2 p spot in
    sits_as _ seat.seat.table_id c.load.new.seat.table_id me c.load.new.seat.me seat.thread c.requires.seat c.load.ensures.0 told.slots (looked v p c.load.result) told.view refl refl refl k.alone

pub returns-clause-view : goal.returns-clause-view
returns-clause-view c =
    let shared = c.self.inside.table.shared in
    let seat = c.args.seat.now in
    let me = seat.seat.me in
    let v = me.0 in
    let k = called _ shared.key shared.table_id _ _ _ _ _ seat.seat.table_id me seat.thread c.self.view_is c.self.invariant.0 c.requires.seat in
    let p = place_of (cells_of v.code v.setup) c.args.obj in
    let same : p ≡ c.place_of.result = place_is _ shared.key shared.table_id _ _ _ _ _ seat.seat.table_id me seat.thread c.self.view_is c.self.invariant.0 c.requires.seat c.args.obj c.place_of.result c.place_of.ensures in
    let place = object_place v.code v.setup c.args.obj k.limits (object_is _ shared.key shared.table_id seat.seat.table_id me k c.args.obj c.requires.object) in
    let high = place.1 in
    let words = length-first_words v.code v.setup in
    let spot = spot_there _ shared.key shared.table_id seat.seat.table_id me k p c.spot.result (omega (arith, high, words)) (c.spot.ensures ∙ ap (λ z. spot_of c.args.self.now.code c.args.self.now.setup z) (sym same)) in
    (c.load.ensures.2 p spot).view

pub returns-clause-found : goal.returns-clause-found
returns-clause-found c =
    let shared = c.self.inside.table.shared in
    let seat = c.args.seat.now in
    let me = seat.seat.me in
    let v = me.0 in
    let k = called _ shared.key shared.table_id _ _ _ _ _ seat.seat.table_id me seat.thread c.self.view_is c.self.invariant.0 c.requires.seat in
    let p = place_of (cells_of v.code v.setup) c.args.obj in
    let same : p ≡ c.place_of.result = place_is _ shared.key shared.table_id _ _ _ _ _ seat.seat.table_id me seat.thread c.self.view_is c.self.invariant.0 c.requires.seat c.args.obj c.place_of.result c.place_of.ensures in
    let place = object_place v.code v.setup c.args.obj k.limits (object_is _ shared.key shared.table_id seat.seat.table_id me k c.args.obj c.requires.object) in
    let high = place.1 in
    let words = length-first_words v.code v.setup in
    let spot = spot_there _ shared.key shared.table_id seat.seat.table_id me k p c.spot.result (omega (arith, high, words)) (c.spot.ensures ∙ ap (λ z. spot_of c.args.self.now.code c.args.self.now.setup z) (sym same)) in
    (c.load.ensures.2 p spot).state place.0 place.1

pub returns-clause-later : goal.returns-clause-later
returns-clause-later c =
    let shared = c.self.inside.table.shared in
    let seat = c.args.seat.now in
    let me = seat.seat.me in
    let v = me.0 in
    let k = called _ shared.key shared.table_id _ _ _ _ _ seat.seat.table_id me seat.thread c.self.view_is c.self.invariant.0 c.requires.seat in
    let p = place_of (cells_of v.code v.setup) c.args.obj in
    let same : p ≡ c.place_of.result = place_is _ shared.key shared.table_id _ _ _ _ _ seat.seat.table_id me seat.thread c.self.view_is c.self.invariant.0 c.requires.seat c.args.obj c.place_of.result c.place_of.ensures in
    let place = object_place v.code v.setup c.args.obj k.limits (object_is _ shared.key shared.table_id seat.seat.table_id me k c.args.obj c.requires.object) in
    let high = place.1 in
    let words = length-first_words v.code v.setup in
    let spot = spot_there _ shared.key shared.table_id seat.seat.table_id me k p c.spot.result (omega (arith, high, words)) (c.spot.ensures ∙ ap (λ z. spot_of c.args.self.now.code c.args.self.now.setup z) (sym same)) in
    (c.load.ensures.2 p spot).later place.0 place.1
