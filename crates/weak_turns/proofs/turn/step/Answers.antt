use Rattle.std.proofs.Common.{sym, ap, ◌∙◌, arith}
use Rattle.flow_code.specs.Next.{has_begun}
use Rattle.flow_code.proofs.Runnable.{valid_runnable}
use Rattle.shared_cells.specs.Seats.{view_of}
use Rattle.weak_turns.proofs.Causes.{end_begun, finished, revoked, acted}
use Rattle.weak_turns.proofs.Moving.{are_alike}
use Rattle.weak_turns.proofs.Noting.{carrying_on}
use Rattle.weak_turns.proofs.Showing.{same_phase}
use Rattle.weak_turns.proofs.turn.step.Goals as goal

pub end_due-requires-clause-begun : goal.end_due-requires-clause-begun
end_due-requires-clause-begun c =
    let old = c.args.seat.now in
    c.has_begun.ensures ∙ ap has_begun (sym (same_phase (view_of old) old.marks c.args.run.now c.requires.carrying.carries))

pub finish-requires-clause-begun : goal.finish-requires-clause-begun
finish-requires-clause-begun c =
    let old = c.args.seat.now in
    ap has_begun (sym (same_phase (view_of old) old.marks c.args.run.now c.requires.carrying.carries)) ∙ end_begun c.args.cells.now old c.end_due.new.seat c.in-Some.end c.in-Some.ensures.finds

pub finish-requires-clause-carrying : goal.finish-requires-clause-carrying
finish-requires-clause-carrying c =
    let f = c.in-Some.ensures.finds in
    carrying_on c.args.cells.now c.args.seat.now c.end_due.new.seat c.args.run.now f.fresh f.meets c.in-Some.ensures.seat c.requires.carrying

pub returns-in-Some-clause-steps : goal.returns-in-Some-clause-steps
returns-in-Some-clause-steps c = finished c.args.cells.now c.args.seat.now c.end_due.new.seat c.args.since.now c.args.budget c.args.turn c.finish.new.seat c.in-Some.end c.finish.result c.in-Some.ensures.finds c.finish.ensures.tried

pub revoke_due-requires-clause-alike : goal.revoke_due-requires-clause-alike
revoke_due-requires-clause-alike c =
    let b = c.end_due.new.seat in
    let f = c.in-None.ensures.finds in
    are_alike (view_of b) b.marks c.args.run.now (carrying_on c.args.cells.now c.args.seat.now b c.args.run.now f.fresh f.meets c.in-None.ensures.seat c.requires.carrying).carries c.requires.settled c.requires.open

pub give_up-came-requires-clause-carrying : goal.give_up-came-requires-clause-carrying
give_up-came-requires-clause-carrying c =
    let b = c.end_due.new.seat in
    let f = c.in-None.ensures.finds in
    let g = c.in-Some-revoke_due.ensures.finds in
    carrying_on c.args.cells.now b c.revoke_due.new.seat c.args.run.now g.fresh g.meets c.in-Some-revoke_due.ensures.seat (carrying_on c.args.cells.now c.args.seat.now b c.args.run.now f.fresh f.meets c.in-None.ensures.seat c.requires.carrying)

pub give_up-came-requires-clause-runnable : goal.give_up-came-requires-clause-runnable
give_up-came-requires-clause-runnable c = valid_runnable c.args.cells.now.code c.requires.valid

pub give_up-came-requires-clause-held : goal.give_up-came-requires-clause-held
give_up-came-requires-clause-held c =
    let b = c.end_due.new.seat in
    let f = c.in-None.ensures.finds in
    let alike = are_alike (view_of b) b.marks c.args.run.now (carrying_on c.args.cells.now c.args.seat.now b c.args.run.now f.fresh f.meets c.in-None.ensures.seat c.requires.carrying).carries c.requires.settled c.requires.open in
    let place = c.in-Some-revoke_due.place in
    alike.stripes place.lock place.stripe ∙ c.in-Some-revoke_due.ensures.finds.is.held.held

pub give_up-came-requires-clause-entries : goal.give_up-came-requires-clause-entries
give_up-came-requires-clause-entries c =
    let b = c.end_due.new.seat in
    let f = c.in-None.ensures.finds in
    let alike = are_alike (view_of b) b.marks c.args.run.now (carrying_on c.args.cells.now c.args.seat.now b c.args.run.now f.fresh f.meets c.in-None.ensures.seat c.requires.carrying).carries c.requires.settled c.requires.open in
    let few = c.in-Some-revoke_due.ensures.finds.is.few_entries in
    let same = alike.entries in
    omega (arith, few, same)

pub give_up-came-requires-clause-revokes : goal.give_up-came-requires-clause-revokes
give_up-came-requires-clause-revokes c =
    let b = c.end_due.new.seat in
    let f = c.in-None.ensures.finds in
    let alike = are_alike (view_of b) b.marks c.args.run.now (carrying_on c.args.cells.now c.args.seat.now b c.args.run.now f.fresh f.meets c.in-None.ensures.seat c.requires.carrying).carries c.requires.settled c.requires.open in
    let few = c.in-Some-revoke_due.ensures.finds.is.few_revokes in
    let same = alike.revokes in
    omega (arith, few, same)

pub returns-in-Some-revoke_due-clause-steps : goal.returns-in-Some-revoke_due-clause-steps
returns-in-Some-revoke_due-clause-steps c = revoked c.args.cells.now c.args.seat.now c.end_due.new.seat c.args.since.now c.args.budget c.args.turn c.in-None.ensures.finds c.revoke_due.new.seat c.give_up-came.new.seat c.in-Some-revoke_due.place c.give_up-came.result c.in-Some-revoke_due.ensures.finds c.give_up-came.ensures.came

pub act-requires-clause-carrying : goal.act-requires-clause-carrying
act-requires-clause-carrying c =
    let b = c.end_due.new.seat in
    let f = c.in-None.ensures.finds in
    let g = c.in-None-revoke_due.ensures.finds in
    carrying_on c.args.cells.now b c.revoke_due.new.seat c.args.run.now g.fresh g.meets c.in-None-revoke_due.ensures.seat (carrying_on c.args.cells.now c.args.seat.now b c.args.run.now f.fresh f.meets c.in-None.ensures.seat c.requires.carrying)

pub returns-in-None-revoke_due-clause-steps : goal.returns-in-None-revoke_due-clause-steps
returns-in-None-revoke_due-clause-steps c = acted c.args.cells.now c.args.seat.now c.end_due.new.seat c.args.since.now c.args.budget c.args.turn c.in-None.ensures.finds c.revoke_due.new.seat c.act.new.seat c.act.new.since c.act.result c.in-None-revoke_due.ensures.finds c.act.ensures.act
