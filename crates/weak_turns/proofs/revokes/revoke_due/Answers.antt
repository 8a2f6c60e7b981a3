use Rattle.std.proofs.Common.{◌≡◌, ◌+◌, ◌<◌, ℕ, false, List, [], ◌∷◌, ◌++◌, take, length, get_or, Some, None, sym, subst, ◌∙◌, ap, add-one, arith}
use Rattle.std.proofs.Math.Seq.{take-suc}
use Rattle.std.proofs.lemmas.List.{take_all}
use Rattle.flow_code.specs.declared.thread.Stripe.{Stripe}
use Rattle.weak_turns.specs.Finding.{HasSearched, HeldIs}
use Rattle.weak_turns.proofs.Searching.{chosen, found, passed_over}
use Rattle.weak_turns.proofs.revokes.revoke_due.Goals as goal

abbrev absent : Stripe
absent = record { lock = 0; stripe = 0; owed = false }

one_more : (xs : List Stripe) (k : ℕ) → k < length xs → take k xs ++ get_or xs k absent ∷ [] ≡ take (k + 1) xs
one_more xs k h = sym (ap (λ n. take n xs) (add-one k) ∙ take-suc xs k absent h)

pub loop-item-preserved-in_default : goal.loop-item-preserved-in_default
loop-item-preserved-in_default c =
    let xs = c.stripes-item-items.result.now in
    let k = c.loop-item.item-index in
    let cells = c.args.cells.now in
    record {
      seat = c.loop-item.invariant.seat;
      searched = subst (λ ys. HasSearched cells c.args.seat.now c.loop-item.seat c.args.since.now c.args.budget c.args.turn ys c.loop-item.due) (one_more xs k c.loop-item-test.true)
          (passed_over cells c.args.seat.now c.args.since.now c.args.budget c.args.turn c.requires.stripes (take k xs) c.loop-item.due c.loop-item.seat c.loop-item.invariant.searched (get_or xs k absent)
          (subst (HeldIs (get_or xs k absent) c.args.since.now c.args.budget c.args.turn) c.in_default.is c.held_long.ensures));
    }

pub loop-item-preserved : goal.loop-item-preserved
loop-item-preserved c =
    let xs = c.stripes-item-items.result.now in
    let k = c.loop-item.item-index in
    let cells = c.args.cells.now in
    record {
      seat = c.earlier_wanted-due.ensures.seat;
      searched = subst (λ ys. HasSearched cells c.args.seat.now c.earlier_wanted-due.new.seat c.args.since.now c.args.budget c.args.turn ys c.earlier_wanted-due.result) (one_more xs k c.loop-item-test.true)
          (chosen cells c.args.seat.now c.args.since.now c.args.budget c.args.turn c.requires.stripes (take k xs) c.loop-item.due c.earlier_wanted-due.result c.loop-item.seat c.earlier_wanted-due.new.seat c.loop-item.invariant.searched (get_or xs k absent) c.in-Some.place
          (subst (HeldIs (get_or xs k absent) c.args.since.now c.args.budget c.args.turn) c.in-Some.is c.held_long.ensures) c.earlier_wanted-due.ensures.chosen);
    }

pub returns-clause-finds : goal.returns-clause-finds
returns-clause-finds c =
    let xs = c.stripes-item-items.result.now in
    let cells = c.args.cells.now in
    let entries = c.requires.alike.entries in
    let revokes = c.requires.alike.revokes in
    let few_entries = c.entries.ensures in
    let few_revokes = c.revokes.ensures in
    let below_entries = c.if-entries-ge-MOST_ENTRIES.false in
    let below_revokes = c.if-revokes-ge-MOST_REVOKES.false in
    found cells c.args.seat.now c.args.since.now c.args.budget c.args.turn c.requires.stripes c.args.run.now c.requires.alike c.loop-item.due c.loop-item.seat
    (subst (λ ys. HasSearched cells c.args.seat.now c.loop-item.seat c.args.since.now c.args.budget c.args.turn ys c.loop-item.due) (take_all c.loop-item.item-index xs c.loop-item-test.false ∙ c.stripes-item-items.ensures) c.loop-item.invariant.searched)
    (omega arith) (omega arith)
