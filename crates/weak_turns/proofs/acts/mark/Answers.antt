use Rattle.std.proofs.Common.{◌≡◌, ◌+◌, suc, subst, arith}
use Rattle.shared_cells.specs.Seats.{view_of}
use Rattle.weak_turns.specs.Shown.{Carries}
use Rattle.weak_turns.proofs.Moving.{marks, marks_fit}
use Rattle.weak_turns.proofs.acts.mark.Goals as goal

pub prove-unreachable-requires : goal.prove-unreachable-requires
prove-unreachable-requires c =
    let old = c.args.seat.now in
    let fits = marks_fit (view_of old) old.marks c.args.run.now c.requires.carrying.carries c.take_answer.new.self c.take_answer.ensures.same c.requires.settled c.requires.next c.take_answer.ensures.told in
    let counts = c.count.ensures in
    let over = c.if-prove.true in
    omega (arith, fits, counts, over)

pub returns-clause-carrying : goal.returns-clause-carrying
returns-clause-carrying c =
    let old = c.args.seat.now in
    let v = view_of old in
    let q = c.take_answer.new.self in
    let one : suc old.marks ≡ old.marks + 1 = omega arith in
    record {
      seat_of = c.requires.carrying.seat_of;
      carries = subst (λ k. Carries v k q) one (marks v old.marks c.args.run.now c.requires.carrying.carries q c.take_answer.ensures.same c.requires.settled c.requires.next c.take_answer.ensures.told c.take_answer.ensures.reads);
    }
