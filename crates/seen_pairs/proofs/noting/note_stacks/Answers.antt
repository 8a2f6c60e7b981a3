use Rattle.std.proofs.Common.{arith}
use Rattle.seen_pairs.proofs.Sets.{across_at, across_past}
use Rattle.seen_pairs.proofs.noting.note_stacks.Goals as goal

pub loop-at-init : goal.loop-at-init
loop-at-init c = record { noted = λ new h. h }

pub loop-at-preserved : goal.loop-at-preserved
loop-at-preserved c = record { noted = λ new h. c.loop-at.invariant.noted new (across_at c.loop-at.pairs.keys c.note_beside.new.pairs.keys new c.loop-at.at c.args.mine.now c.args.other.now (omega (arith, c.loop-at-test.true)) c.in_ok-note_beside.ensures h) }

pub returns : goal.returns
returns c = c.loop-at.invariant.noted c.loop-at.pairs.keys (across_past c.loop-at.pairs.keys c.loop-at.at c.args.mine.now c.args.other.now (omega (arith, c.loop-at-test.false)))
