use Rattle.std.proofs.Common.{refl, sym, subst, ◌∙◌}
use Rattle.shared_cells.specs.Seats.{Tells}
use Rattle.weak_turns.specs.Finding.{behind, unwanted, wanted}
use Rattle.weak_turns.specs.Turns.{want_place}
use Rattle.weak_turns.proofs.revokes.earlier_wanted.Goals as goal

pub returns-then-not-comes_before-clause-chosen : goal.returns-then-not-comes_before-clause-chosen
returns-then-not-comes_before-clause-chosen c = behind (sym c.comes_before.ensures ∙ c.if-not-comes_before.true) refl

pub returns-then-wanted-clause-chosen : goal.returns-then-wanted-clause-chosen
returns-then-wanted-clause-chosen c = wanted (sym c.comes_before.ensures ∙ c.if-not-comes_before.false) (subst (Tells c.args.seat.now c.wanted.new.seat (want_place c.args.cells.now c.args.place.lock c.args.place.stripe)) c.if-wanted.true c.wanted.ensures.tells)

pub returns-else-wanted-clause-chosen : goal.returns-else-wanted-clause-chosen
returns-else-wanted-clause-chosen c = unwanted (subst (Tells c.args.seat.now c.wanted.new.seat (want_place c.args.cells.now c.args.place.lock c.args.place.stripe)) c.if-wanted.false c.wanted.ensures.tells)
