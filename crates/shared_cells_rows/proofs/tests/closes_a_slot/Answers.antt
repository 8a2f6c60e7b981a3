use Rattle.std.proofs.Common.{◌≡◌, [], ◌∷◌, ap, sym, subst, refl, ◌∙◌, arith, length, Some, length-append}
use Rattle.std.specs.Prelude.{slice_get}
use Rattle.sync_objects.specs.Setup.{SetupView}
use Rattle.sync_objects.specs.declared.object.ObjId.TheVariants as object
use Rattle.sync_objects.specs.declared.operation.Op.TheVariants as op
use Rattle.rr_base.proofs.Lists.{slice_get-append_at}
use Rattle.shared_cells.specs.Threads.{IsDueIn}
use Rattle.shared_cells.specs.Seats.{view_of, start_view}
use Rattle.shared_cells_rows.proofs.tests.closes_a_slot.Goals as goal

pub attempt-done-requires-clause-seat : goal.attempt-done-requires-clause-seat
attempt-done-requires-clause-seat g c =
    let front = c.pop.new.self.items in
    let seat = c.in-Some.seat in
    (c.in_ok-cells.ensures.seats.each (length front) seat (ap (λ xs. slice_get xs (length front)) c.in-Some.ensures.items ∙ slice_get-append_at front seat [] (length front) refl)).0

pub attempt-done-requires-clause-due : goal.attempt-done-requires-clause-due
attempt-done-requires-clause-due g c =
    let front = c.pop.new.self.items in
    let seat = c.in-Some.seat in
    let code = c.in_ok-code.code in
    let s = c.new-setup.result in
    let two : length c.in_ok-cells.seats.items ≡ 2 = c.in_ok-cells.ensures.seats.count ∙ ap (λ (z : SetupView). z.slots) c.in_ok-cells.ensures.setup ∙ ap (λ (z : SetupView). z.slots) c.new-setup.ensures in
    let last = ap length c.in-Some.ensures.items ∙ length-append front (seat ∷ []) in
    let one : length front ≡ 1 = omega (arith, two, last) in
    let there : slice_get c.in_ok-cells.seats.items 1 ≡ Some seat = ap (λ xs. slice_get xs 1) c.in-Some.ensures.items ∙ slice_get-append_at front seat [] 1 one in
    let start = c.in_ok-cells.ensures.start 1 seat there in
    let due : IsDueIn (start_view code s 1) 0 op.Close (object.Slot 1) = record { marks = tt; due = (refl, refl) } in
    subst (λ n. IsDueIn (view_of seat) n op.Close (object.Slot 1)) (sym start.2) (subst (λ v. IsDueIn v 0 op.Close (object.Slot 1)) (sym start.0) due)
