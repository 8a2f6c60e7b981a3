use Rattle.std.proofs.Common.{◌≡◌, true, false, rules}
use Rattle.flow_code.specs.Next.{has_ended}
use Rattle.replayer.proofs.Follows.{ended_departs, rested_carrying, rested_lives}
use Rattle.replayer.proofs.trying.step.Goals as goal

pub returns-then-is_some-clause-comes : goal.returns-then-is_some-clause-comes
returns-then-is_some-clause-comes c =
    let over : has_ended c.args.run.now.flow.kept.thread.phase ≡ true = search rules in
    ended_departs c.args.cells.now c.args.seat.now c.args.run.now c.args.next c.requires.carrying c.requires.in_step over

pub follow-requires-clause-set : goal.follow-requires-clause-set
follow-requires-clause-set c =
    let lives : has_ended c.args.run.now.flow.kept.thread.phase ≡ false = search rules in
    let rests = c.prepare.ensures.rests in
    record {
      carrying = rested_carrying c.args.cells.now c.args.seat.now c.args.run.now c.prepare.new.run c.requires.carrying rests lives;
      rests = c.in_ok-prepare.ensures.settled;
      ready = c.in_ok-prepare.ensures.ready;
      lives = rested_lives c.args.cells.now c.args.seat.now c.args.run.now c.prepare.new.run c.requires.carrying rests lives;
      own = c.requires.own;
    }
