use Rattle.std.proofs.Common.{◌+◌, ◌∙◌, sym, arith}
use Rattle.std.specs.Prelude.{slice_index_or}
use Rattle.loop_bounds.proofs.Entered.{entered, not_entered}
use Rattle.loop_bounds.proofs.ways.is_entered_at.Goals as goal

pub returns-then-comes_in : goal.returns-then-comes_in
returns-then-comes_in c =
    let t = c.loop-target.target in
    let ways = c.args.ways.now in
    sym (not_entered c.args.instrs.now c.args.from c.args.to t (slice_index_or ways.firsts.items t 0) (slice_index_or ways.ends.items t 0) (omega arith) c.loop-target.invariant.within (c.requires.ways.firsts t c.args.from (omega (arith, c.loop-target.invariant.within, c.requires.to)) (omega (arith, c.loop-target.invariant.within, c.requires.to))) (c.requires.ways.ends t (c.args.to + 1) (omega (arith, c.loop-target.invariant.within, c.requires.to))) (sym c.comes_in.ensures ∙ c.if-comes_in.true))

pub returns : goal.returns
returns c = sym (entered c.args.instrs.now c.args.from c.args.to c.loop-target.target (omega arith) c.loop-target.invariant.apart)
