use Rattle.std.proofs.Common.{◌≡◌, length, sym, ap, ◌∙◌, arith, rules, true}
use Rattle.std.specs.Vec.Iter.{into_iter_items}
use Rattle.thread_step.specs.Steps.{Stepping}
use Rattle.run_walk.specs.Remains.{remains_in}
use Rattle.weak_turns.specs.Carrying.{run_has_ended}
use Rattle.recorder.proofs.Dealing.{takes_more, all_taken}
use Rattle.recorder.proofs.threads.parts_of.Goals as goal

pub loop-carrier-preserved : goal.loop-carrier-preserved
loop-carrier-preserved c =
    let carrier = c.in-Some.carrier in
    let parts = c.into_parts-seat in
    let items = ap length c.in-Some.ensures.steps.0 in
    let counts = c.in-Some.ensures.steps.1 in
    let long = c.loop-carrier.invariant.long in
    let ended : run_has_ended parts.result.1 ≡ true = search rules in
    record {
      taken = takes_more c.args.carriers.items c.loop-carrier.seats.items c.push.new.self.items c.loop-carrier.lists c.push-in-loop-carrier.new.self c.loop-carrier.remains.items c.push-in-loop-carrier-2.new.self.items _ _ carrier parts.result.0 c.into_remains-list.result.0 c.into_remains-list.result.1 c.loop-carrier.invariant.taken c.in-Some.ensures.steps.0
          c.in_ok-push.ensures.items c.in_ok-push-2.ensures.ok c.in_ok-push-3.ensures.items parts.ensures.seat
          (c.into_remains-list.ensures.entries ∙ ap (λ (z : Stepping). z.entries) parts.ensures.run)
          (c.into_remains-list.ensures.remains ∙ ap remains_in parts.ensures.run) parts.ensures.sound (sym (ap run_has_ended parts.ensures.run) ∙ ended);
      long = omega (arith, items, counts, long);
    }

pub returns : goal.returns
returns c = all_taken c.args.carriers.items c.loop-carrier.seats.items c.loop-carrier.lists c.loop-carrier.remains.items (into_iter_items c.loop-carrier.carrier-iterator) (sym c.loop-carrier.invariant.long ∙ c.in-None.ensures.steps.0) c.loop-carrier.invariant.taken
