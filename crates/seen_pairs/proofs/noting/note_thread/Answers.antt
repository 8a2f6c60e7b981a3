use Rattle.std.proofs.Common.{Some, sym, ap, ◌∙◌, arith}
use Rattle.std.specs.Prelude.{◌==◌}
use Rattle.seen_pairs.proofs.Sets.{later_all, later_more, later_none}
use Rattle.seen_pairs.proofs.noting.note_thread.Goals as goal

pub loop-at-init : goal.loop-at-init
loop-at-init c = record { noted = λ new h. later_all c.args.pairs.now.keys new c.args.mine.now c.args.stacks.now c.args.thread h }

pub loop-at-preserved : goal.loop-at-preserved
loop-at-preserved c = record {
  noted = λ new h. c.loop-at.invariant.noted new
      (later_more c.loop-at.pairs.keys c.note_other.new.pairs.keys new c.args.mine.now c.as_slice.result.now c.args.stacks.now c.args.thread c.loop-at.at (c.loop-at.at == c.from-own.result)
      (ap (λ n. c.loop-at.at == n) c.from-own.ensures) (c.at-other.ensures ∙ ap Some (sym c.as_slice.ensures)) c.in_ok-note_other.ensures h);
}

pub returns : goal.returns
returns c = c.loop-at.invariant.noted c.loop-at.pairs.keys (later_none c.loop-at.pairs.keys c.args.mine.now c.args.stacks.now c.args.thread c.loop-at.at (omega (arith, c.len.ensures, c.loop-at-test.false)))
