use Rattle.std.proofs.Common.{◌≡◌, ◌+◌, subst, arith}
use Rattle.crew.specs.Schedule.{Reached}
use Rattle.crew.proofs.Reaching.{goes_to, spends, spent}
use Rattle.crew.proofs.play.Play.round.Goals as goal

pub loop-at-preserved : goal.loop-at-preserved
loop-at-preserved g c =
    let was = c.loop-at.invariant in let at = c.loop-at.at in let count = c.len-at-end.ensures in let chance = c.if-not-chance.ensures in
    record {
      reached = λ number start k is from.
          let here : number (k + at) ≡ at = is at (omega arith) in
          let next : (k + at) + 1 ≡ k + (at + 1) = omega arith in
          subst (λ n. Reached g.J.Job number start n c.chance.new.self) next
          (goes_to g.J.Job number start (k + at) at c.loop-at.self c.chance.new.self (was.reached number start k is from) here chance);
      spends = spends g.J.Job c.args.self.now at c.loop-at.self c.chance.new.self was.spends chance;
    }

pub returns-clause-spends : goal.returns-clause-spends
returns-clause-spends g c _ =
    let count = c.len-at-end.ensures in
    spent g.J.Job c.args.self.now c.loop-at.at c.loop-at.self (omega arith) c.loop-at.invariant.spends
