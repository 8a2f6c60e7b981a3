use Rattle.std.proofs.Common.{arith}
use Rattle.seen_pairs.proofs.Sets.{beside_at, beside_past}
use Rattle.seen_pairs.proofs.noting.note_beside.Goals as goal

pub loop-at-init : goal.loop-at-init
loop-at-init c = record { noted = λ new h. h }

pub loop-at-preserved : goal.loop-at-preserved
loop-at-preserved c = record { noted = λ new h. c.loop-at.invariant.noted new (beside_at c.loop-at.pairs.keys c.insert.new.self.keys new c.args.function c.loop-at.at c.args.stack.now (omega (arith, c.loop-at-test.true)) c.in_ok-insert.ensures.keys h) }

pub returns : goal.returns
returns c = c.loop-at.invariant.noted c.loop-at.pairs.keys (beside_past c.loop-at.pairs.keys c.args.function c.loop-at.at c.args.stack.now (omega (arith, c.loop-at-test.false)))
