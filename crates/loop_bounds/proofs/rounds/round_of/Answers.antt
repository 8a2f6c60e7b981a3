use Rattle.std.proofs.Common.{◌≡◌, ◌-◌, None, refl, sym, ◌∙◌, arith, false}
use Rattle.std.specs.Prelude.{slice_index_or}
use Rattle.weak_lock_facts.specs.Ranges.{begins_round}
use Rattle.loop_bounds.specs.Tables.{following}
use Rattle.loop_bounds.proofs.Innermost.{next_front, search_on}
use Rattle.loop_bounds.proofs.rounds.round_of.Goals as goal

pub following-front-requires : goal.following-front-requires
following-front-requires c =
    let mark = c.loop-front.front - 1 in
    let h = next_front c.args.instrs.now c.args.rounds.now c.args.at mark (following (slice_index_or c.args.rounds.now mark None)) c.requires.rounds c.requires.so_far (omega arith) refl in
    omega (arith, h, c.ranges.at.fits)

pub loop-front-smaller : goal.loop-front-smaller
loop-front-smaller c =
    let mark = c.loop-front.front - 1 in
    let h = next_front c.args.instrs.now c.args.rounds.now c.args.at mark c.following-front.result c.requires.rounds c.requires.so_far (omega arith) c.following-front.ensures in
    omega (arith, h)

pub loop-front-preserved : goal.loop-front-preserved
loop-front-preserved c =
    let is = c.args.instrs.now in
    let mark = c.loop-front.front - 1 in
    let h = next_front is c.args.rounds.now c.args.at mark c.following-front.result c.requires.rounds c.requires.so_far (omega arith) c.following-front.ensures in
    let none : begins_round is c.args.at mark ≡ false = sym c.begins_round.ensures ∙ c.if-begins_round.false in
    (omega (arith, h), search_on is c.args.rounds.now c.args.at c.loop-front.front mark c.following-front.result c.requires.rounds c.requires.so_far (omega arith) c.loop-front.invariant.0 none c.following-front.ensures ∙ c.loop-front.invariant.1)
