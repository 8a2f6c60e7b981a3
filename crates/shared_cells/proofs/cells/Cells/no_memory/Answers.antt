use Rattle.std.proofs.Common.{arith, ap, refl, ◌∙◌}
use mathlib.Core.Option.{none}
use Rattle.shared_cells.specs.Views.{looked}
use Rattle.shared_cells.specs.Words.{memory_place}
use Rattle.shared_cells.specs.Plays.{IsSpotOf, PutsAt}
use Rattle.shared_cells.proofs.Keeping.{length-first_words}
use Rattle.shared_cells.proofs.Calls.{called, memory_is, on_table, at_spot_of, sits_as}
use Rattle.shared_cells.proofs.Allowed.{put_allowed}
use Rattle.shared_cells.proofs.cells.Cells.no_memory.Goals as goal

pub store-requires : goal.store-requires
store-requires c =
    let shared = c.self.inside.table.shared in
    let seat = c.args.seat.now in
    let me = seat.seat.me in
    let v = me.0 in
    let k = called _ shared.key shared.table_id _ _ _ _ _ seat.seat.table_id me seat.thread c.self.view_is c.self.invariant.0 c.requires.seat in
    let p = memory_place v.code v.setup in
    let q = c.self.inside.memory in
    let words = length-first_words v.code v.setup in
    let spot : IsSpotOf v p q = (omega (arith, words), memory_is _ shared.key shared.table_id _ _ _ _ _ seat.seat.table_id me seat.thread c.self.view_is c.self.invariant.0 c.requires.seat) in (
      k.table_is,
      on_table _ shared.key shared.table_id seat.seat.table_id me k shared.table_id.slots seat.seat.id p q spot,
      at_spot_of _ shared.key shared.table_id seat.seat.table_id me k shared.table_id.slots seat.seat.id p q spot 1 0 none (λ _. 1) (λ place m _ after. PutsAt 1 place m 1 after)
          (put_allowed v me.1 shared.table_id.slots seat.seat.id k.alone k.runnable k.limits p 1 (omega arith) (λ e. absurd (omega (arith, e))) (omega arith)),
    )

pub returns-clause-seat : goal.returns-clause-seat
returns-clause-seat c =
    let shared = c.self.inside.table.shared in
    let seat = c.args.seat.now in
    let me = seat.seat.me in
    let v = me.0 in
    let k = called _ shared.key shared.table_id _ _ _ _ _ seat.seat.table_id me seat.thread c.self.view_is c.self.invariant.0 c.requires.seat in
    let p = memory_place v.code v.setup in
    let q = c.self.inside.memory in
    let words = length-first_words v.code v.setup in
    let spot : IsSpotOf v p q = (omega (arith, words), memory_is _ shared.key shared.table_id _ _ _ _ _ seat.seat.table_id me seat.thread c.self.view_is c.self.invariant.0 c.requires.seat) in
    let told = c.store.ensures.2 p spot in
    sits_as _ seat.seat.table_id c.store.new.seat.table_id me c.store.new.seat.me seat.thread c.requires.seat c.store.ensures.0 told.slots (looked v p 1) told.view refl refl refl k.alone

pub returns-clause-view : goal.returns-clause-view
returns-clause-view c =
    let shared = c.self.inside.table.shared in
    let seat = c.args.seat.now in
    let me = seat.seat.me in
    let v = me.0 in
    let k = called _ shared.key shared.table_id _ _ _ _ _ seat.seat.table_id me seat.thread c.self.view_is c.self.invariant.0 c.requires.seat in
    let p = memory_place v.code v.setup in
    let q = c.self.inside.memory in
    let words = length-first_words v.code v.setup in
    let spot : IsSpotOf v p q = (omega (arith, words), memory_is _ shared.key shared.table_id _ _ _ _ _ seat.seat.table_id me seat.thread c.self.view_is c.self.invariant.0 c.requires.seat) in
    (c.store.ensures.2 p spot).view ∙ ap (λ z. looked v (memory_place z v.setup) 1) k.code_is ∙ ap (λ z. looked v (memory_place c.args.self.now.code z) 1) k.setup_is
