use Rattle.std.proofs.Common.{[], refl, ap, ◌∙◌, length}
use Rattle.std.specs.Prelude.{slice_get}
use Rattle.rr_base.proofs.Lists.{slice_get-append_at}
use Rattle.shared_cells_rows.proofs.tests.tells_of_other_words.Goals as goal

pub wanted-requires-clause-seat : goal.wanted-requires-clause-seat
wanted-requires-clause-seat g c =
    let front = c.pop.new.self.items in
    let seat = c.in-Some.seat in
    (c.in_ok-cells.ensures.seats.each (length front) seat (ap (λ xs. slice_get xs (length front)) c.in-Some.ensures.items ∙ slice_get-append_at front seat [] (length front) refl)).0
