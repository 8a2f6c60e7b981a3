use Rattle.std.proofs.Common.{arith, ap, refl, ◌∙◌}
use mathlib.Core.Option.{none}
use Rattle.shared_cells.specs.Views.{looked}
use Rattle.shared_cells.specs.Words.{memory_place}
use Rattle.shared_cells.specs.Plays.{IsSpotOf, LooksAt}
use Rattle.shared_cells.proofs.Keeping.{length-first_words}
use Rattle.shared_cells.proofs.Calls.{called, memory_is, on_table, at_spot_of, sits_as}
use Rattle.shared_cells.proofs.Allowed.{look_allowed}
use Rattle.shared_cells.proofs.cells.Cells.lacks_memory.Goals as goal

pub load-requires : goal.load-requires
load-requires c =
    let shared = c.self.inside.table.shared in
    let seat = c.args.seat.now in
    let me = seat.seat.me in
    let v = me.0 in
    let k = called _ shared.key shared.table_id _ _ _ _ _ seat.seat.table_id me seat.thread c.self.view_is c.self.invariant.0 c.requires.seat in
    let p = memory_place v.code v.setup in
    let q = c.self.inside.memory in
    let words = length-first_words v.code v.setup in
    let spot : IsSpotOf v p q = (omega (arith, words), memory_is _ shared.key shared.table_id _ _ _ _ _ seat.seat.table_id me seat.thread c.self.view_is c.self.invariant.0 c.requires.seat) in (
      k.table_is,
      on_table _ shared.key shared.table_id seat.seat.table_id me k shared.table_id.slots seat.seat.id p q spot,
      at_spot_of _ shared.key shared.table_id seat.seat.table_id me k shared.table_id.slots seat.seat.id p q spot 0 0 none (λ w. w) LooksAt
          (look_allowed v me.1 shared.table_id.slots seat.seat.id k.alone k.runnable k.limits p),
    )

pub returns-clause-seat : goal.returns-clause-seat
returns-clause-seat c =
    let shared = c.self.inside.table.shared in
    let seat = c.args.seat.now in
    let me = seat.seat.me in
    let v = me.0 in
    let k = called _ shared.key shared.table_id _ _ _ _ _ seat.seat.table_id me seat.thread c.self.view_is c.self.invariant.0 c.requires.seat in
    let p = memory_place v.code v.setup in
    let q = c.self.inside.memory in
    let words = length-first_words v.code v.setup in
    let spot : IsSpotOf v p q = (omega (arith, words), memory_is _ shared.key shared.table_id _ _ _ _ _ seat.seat.table_id me seat.thread c.self.view_is c.self.invariant.0 c.requires.seat) in
    let told = c.load.ensures.2 p spot in
    sits_as _ seat.seat.table_id c.load.new.seat.table_id me c.load.new.seat.me seat.thread c.requires.seat c.load.ensures.0 told.slots (looked v p c.load.result) told.view refl refl refl k.alone

pub returns-clause-tells : goal.returns-clause-tells
returns-clause-tells c =
    let shared = c.self.inside.table.shared in
    let seat = c.args.seat.now in
    let me = seat.seat.me in
    let v = me.0 in
    let k = called _ shared.key shared.table_id _ _ _ _ _ seat.seat.table_id me seat.thread c.self.view_is c.self.invariant.0 c.requires.seat in
    let p = memory_place v.code v.setup in
    let q = c.self.inside.memory in
    let words = length-first_words v.code v.setup in
    let spot : IsSpotOf v p q = (omega (arith, words), memory_is _ shared.key shared.table_id _ _ _ _ _ seat.seat.table_id me seat.thread c.self.view_is c.self.invariant.0 c.requires.seat) in
    let told = c.load.ensures.2 p spot in
    record {
      value = c.load.result;
      view = told.view ∙ ap (λ z. looked v (memory_place z v.setup) c.load.result) k.code_is ∙ ap (λ z. looked v (memory_place c.args.self.now.code z) c.load.result) k.setup_is;
      is = refl;
      marks = refl;
    }
