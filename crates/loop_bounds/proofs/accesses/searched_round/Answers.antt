use Rattle.std.proofs.Common.{◌<◌, pos, sym, ◌∙◌, arith, length}
use Rattle.std.specs.Prelude.{slice_index_or}
use Rattle.std.proofs.lemmas.Option.{slice_get-get_or}
use Rattle.flow_code.specs.declared.code.LoopInfo.{LoopInfo}
use Rattle.flow_code.specs.declared.region.Bound.TheVariants as bound
use Rattle.loop_bounds.proofs.Innermost.{round_at, round_found, round_passed}
use Rattle.loop_bounds.proofs.accesses.searched_round.Goals as goal

-- what the list is read with past its end
abbrev none : LoopInfo
none = record { at = 0; first = 0; last = 0; counter = 0; bound = bound.Number (pos 0); step = pos 0 }

pub returns-then-is_innermost : goal.returns-then-is_innermost
returns-then-is_innermost c =
    let is = c.args.instrs.now in
    let ls = c.args.loops.now in
    let n = c.loop-counted.counted-index in
    let lt : n < length ls = omega arith in
    let there = slice_get-get_or ls n none lt in
    let round = round_at is c.args.rounds.now c.args.at c.requires.rounds (omega (arith, c.requires.length, c.requires.at)) in
    sym (round_found is c.args.at ls n (slice_index_or ls n none) there (sym (c.is_innermost.ensures is round) ∙ c.if-is_innermost.true) (c.requires.calm n (slice_index_or ls n none) there)) ∙ c.loop-counted.invariant

pub loop-counted-preserved : goal.loop-counted-preserved
loop-counted-preserved c =
    let is = c.args.instrs.now in
    let ls = c.args.loops.now in
    let n = c.loop-counted.counted-index in
    let lt : n < length ls = omega arith in
    let there = slice_get-get_or ls n none lt in
    let round = round_at is c.args.rounds.now c.args.at c.requires.rounds (omega (arith, c.requires.length, c.requires.at)) in
    round_passed is c.args.at ls n (slice_index_or ls n none) there (sym (c.is_innermost.ensures is round) ∙ c.if-is_innermost.false) ∙ c.loop-counted.invariant
