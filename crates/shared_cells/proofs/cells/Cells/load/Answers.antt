use Rattle.std.proofs.Common.{◌<◌, arith, refl, sym, subst}
use mathlib.Core.Option.{none}
use Rattle.core_run.specs.Words.{cells_of}
use Rattle.shared_cells.specs.Threads.{loaded}
use Rattle.shared_cells.specs.Plays.{LoadsAt}
use Rattle.shared_cells.proofs.Keeping.{length-first_words}
use Rattle.shared_cells.proofs.Allowed.{load_allowed, cell_within}
use Rattle.shared_cells.proofs.Calls.{called, spot_there, on_table, at_spot_of, sits_as}
use Rattle.shared_cells.proofs.cells.Cells.load.Goals as goal

pub load-requires : goal.load-requires
load-requires c =
    let shared = c.self.inside.table.shared in
    let seat = c.args.seat.now in
    let me = seat.seat.me in
    let v = me.0 in
    let k = called _ shared.key shared.table_id _ _ _ _ _ seat.seat.table_id me seat.thread c.self.view_is c.self.invariant.0 c.requires.seat in
    let cell : c.args.cell < cells_of v.code v.setup = subst (λ z. c.args.cell < cells_of v.code z) (sym k.setup_is) (subst (λ z. c.args.cell < cells_of z c.args.self.now.setup) (sym k.code_is) c.requires.cell) in
    let inside = cell_within v.code v.setup c.args.cell cell in
    let words = length-first_words v.code v.setup in
    let spot = spot_there _ shared.key shared.table_id seat.seat.table_id me k c.args.cell c.cell_spot.result (omega (arith, inside, words)) c.cell_spot.ensures in (
      k.table_is,
      on_table _ shared.key shared.table_id seat.seat.table_id me k shared.table_id.slots seat.seat.id c.args.cell c.cell_spot.result spot,
      at_spot_of _ shared.key shared.table_id seat.seat.table_id me k shared.table_id.slots seat.seat.id c.args.cell c.cell_spot.result spot 0 0 none (λ w. w) LoadsAt
          (load_allowed v me.1 shared.table_id.slots seat.seat.id k.alone k.runnable k.limits c.args.cell seat.marks c.requires.next cell),
    )

pub returns-clause-view : goal.returns-clause-view
returns-clause-view c =
    let shared = c.self.inside.table.shared in
    let seat = c.args.seat.now in
    let me = seat.seat.me in
    let v = me.0 in
    let k = called _ shared.key shared.table_id _ _ _ _ _ seat.seat.table_id me seat.thread c.self.view_is c.self.invariant.0 c.requires.seat in
    let cell : c.args.cell < cells_of v.code v.setup = subst (λ z. c.args.cell < cells_of v.code z) (sym k.setup_is) (subst (λ z. c.args.cell < cells_of z c.args.self.now.setup) (sym k.code_is) c.requires.cell) in
    let inside = cell_within v.code v.setup c.args.cell cell in
    let words = length-first_words v.code v.setup in
    let spot = spot_there _ shared.key shared.table_id seat.seat.table_id me k c.args.cell c.cell_spot.result (omega (arith, inside, words)) c.cell_spot.ensures in
    (c.load.ensures.2 c.args.cell spot).view seat.marks c.requires.next

pub returns-clause-reached : goal.returns-clause-reached
returns-clause-reached c =
    let shared = c.self.inside.table.shared in
    let seat = c.args.seat.now in
    let me = seat.seat.me in
    let v = me.0 in
    let k = called _ shared.key shared.table_id _ _ _ _ _ seat.seat.table_id me seat.thread c.self.view_is c.self.invariant.0 c.requires.seat in
    let cell : c.args.cell < cells_of v.code v.setup = subst (λ z. c.args.cell < cells_of v.code z) (sym k.setup_is) (subst (λ z. c.args.cell < cells_of z c.args.self.now.setup) (sym k.code_is) c.requires.cell) in
    let inside = cell_within v.code v.setup c.args.cell cell in
    let words = length-first_words v.code v.setup in
    let spot = spot_there _ shared.key shared.table_id seat.seat.table_id me k c.args.cell c.cell_spot.result (omega (arith, inside, words)) c.cell_spot.ensures in
    (c.load.ensures.2 c.args.cell spot).reached

pub returns-clause-seat : goal.returns-clause-seat
returns-clause-seat c =
    let shared = c.self.inside.table.shared in
    let seat = c.args.seat.now in
    let me = seat.seat.me in
    let v = me.0 in
    let k = called _ shared.key shared.table_id _ _ _ _ _ seat.seat.table_id me seat.thread c.self.view_is c.self.invariant.0 c.requires.seat in
    let cell : c.args.cell < cells_of v.code v.setup = subst (λ z. c.args.cell < cells_of v.code z) (sym k.setup_is) (subst (λ z. c.args.cell < cells_of z c.args.self.now.setup) (sym k.code_is) c.requires.cell) in
    let inside = cell_within v.code v.setup c.args.cell cell in
    let words = length-first_words v.code v.setup in
    let spot = spot_there _ shared.key shared.table_id seat.seat.table_id me k c.args.cell c.cell_spot.result (omega (arith, inside, words)) c.cell_spot.ensures in
    let told = c.load.ensures.2 c.args.cell spot in
    sits_as _ seat.seat.table_id c.load.new.seat.table_id me c.load.new.seat.me seat.thread c.requires.seat c.load.ensures.0 told.slots (loaded v seat.marks c.args.cell c.load.result) (told.view seat.marks c.requires.next) refl refl refl refl
