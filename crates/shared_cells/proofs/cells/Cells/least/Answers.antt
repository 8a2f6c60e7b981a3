use Rattle.std.proofs.Common.{arith, min}
use mathlib.Core.Option.{none}
use Rattle.atomic_table.specs.Table.{step}
use Rattle.shared_cells.specs.Words.{departure_place}
use Rattle.shared_cells.specs.Plays.{IsSpotOf, Lowers}
use Rattle.shared_cells.proofs.Keeping.{length-first_words}
use Rattle.shared_cells.proofs.Calls.{called, departure_is, on_table, at_spot}
use Rattle.shared_cells.proofs.Allowed.{lower_allowed}
use Rattle.shared_cells.proofs.cells.Cells.least.Goals as goal

pub fetch_min-requires : goal.fetch_min-requires
fetch_min-requires c =
    let shared = c.self.inside.table.shared in
    let seat = c.args.seat.now in
    let me = seat.seat.me in
    let v = me.0 in
    let k = called _ shared.key shared.table_id _ _ _ _ _ seat.seat.table_id me seat.thread c.self.view_is c.self.invariant.0 c.requires.seat in
    let p = departure_place v.code v.setup in
    let q = c.self.inside.departure in
    let words = length-first_words v.code v.setup in
    let spot : IsSpotOf v p q = (omega (arith, words), departure_is _ shared.key shared.table_id _ _ _ _ _ seat.seat.table_id me seat.thread c.self.view_is c.self.invariant.0 c.requires.seat) in
    let x = c.from.result in
    let slots = shared.table_id.slots in (
      k.table_is,
      on_table _ shared.key shared.table_id seat.seat.table_id me k slots seat.seat.id p q spot,
      at_spot _ shared.key shared.table_id seat.seat.table_id me k slots seat.seat.id p q spot (λ w. min w x) (λ found after. Lowers (step slots p x 0 none) me found after) (λ found after. Lowers (step slots q x 0 none) me found after)
          (λ found after tells. record { slots = tells.slots; view = tells.view; below = tells.below; low = tells.low })
          (lower_allowed v me.1 slots seat.seat.id k.alone k.runnable k.limits x),
    )
