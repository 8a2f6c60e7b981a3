use Rattle.std.proofs.Common.{◌≡◌, ◌+◌, ◌*◌, ◌<◌, ap, arith, subst, sym, ◌∙◌, length}
use mathlib.Core.Option.{none}
use Rattle.atomic_table.specs.Table.{step}
use Rattle.shared_cells.specs.Words.{objects_end, first_words}
use Rattle.shared_cells.specs.Plays.{Stays}
use Rattle.shared_cells.proofs.Keeping.{length-first_words}
use Rattle.shared_cells.proofs.Calls.{called, spot_there, on_table, at_spot}
use Rattle.shared_cells.proofs.Allowed.{stay_allowed}
use Rattle.shared_cells.proofs.cells.Cells.want.Goals as goal

pub peek-requires : goal.peek-requires
peek-requires c =
    let shared = c.self.inside.table.shared in
    let seat = c.args.seat.now in
    let me = seat.seat.me in
    let v = me.0 in
    let k = called _ shared.key shared.table_id _ _ _ _ _ seat.seat.table_id me seat.thread c.self.view_is c.self.invariant.0 c.requires.seat in
    let b = c.args.self.now in
    let p = objects_end b.code b.setup + 8 * c.args.lock + c.args.stripe in
    let q = c.want_spot-place.result in
    let words = length-first_words b.code b.setup in
    let inside : p < length (first_words b.code b.setup) = omega (arith, words, c.requires.lock, c.requires.stripe) in
    let spot = spot_there _ shared.key shared.table_id seat.seat.table_id me k p q (subst (λ z. p < length (first_words v.code z)) (sym k.setup_is) (subst (λ z. p < length (first_words z b.setup)) (sym k.code_is) inside)) c.want_spot-place.ensures in
    on_table _ shared.key shared.table_id seat.seat.table_id me k shared.table_id.slots seat.seat.id p q spot

pub store-requires : goal.store-requires
store-requires c =
    let shared = c.self.inside.table.shared in
    let seat = c.args.seat.now in
    let me = seat.seat.me in
    let v = me.0 in
    let k = called _ shared.key shared.table_id _ _ _ _ _ seat.seat.table_id me seat.thread c.self.view_is c.self.invariant.0 c.requires.seat in
    let b = c.args.self.now in
    let p = objects_end b.code b.setup + 8 * c.args.lock + c.args.stripe in
    let q = c.want_spot-place.result in
    let words = length-first_words b.code b.setup in
    let inside : p < length (first_words b.code b.setup) = omega (arith, words, c.requires.lock, c.requires.stripe) in
    let spot = spot_there _ shared.key shared.table_id seat.seat.table_id me k p q (subst (λ z. p < length (first_words v.code z)) (sym k.setup_is) (subst (λ z. p < length (first_words z b.setup)) (sym k.code_is) inside)) c.want_spot-place.ensures in
    let x = c.from-word.result in
    let slots = shared.table_id.slots in
    let low : c.args.lock < length v.code.locks = subst (λ z. c.args.lock < length z.locks) (sym k.code_is) c.requires.lock in
    let same : objects_end v.code v.setup ≡ objects_end b.code b.setup = ap (λ z. objects_end z v.setup) k.code_is ∙ ap (objects_end b.code) k.setup_is in (
      k.table_is,
      on_table _ shared.key shared.table_id seat.seat.table_id me k slots seat.seat.id p q spot,
      at_spot _ shared.key shared.table_id seat.seat.table_id me k slots seat.seat.id p q spot (λ _. x) (λ _ after. Stays (step slots p x 0 none) me x after) (λ _ after. Stays (step slots q x 0 none) me x after)
          (λ found after tells. record { slots = tells.slots; view = tells.view })
          (stay_allowed v me.1 slots seat.seat.id k.alone k.runnable k.limits p x (omega (arith, same)) (λ e. absurd (omega (arith, same, e, c.requires.stripe, low))) (omega (arith, same, low, c.requires.stripe))),
    )
