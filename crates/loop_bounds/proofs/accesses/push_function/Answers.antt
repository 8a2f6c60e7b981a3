use Rattle.std.proofs.Common.{◌≡◌, ◌++◌, ℤ, List, Option, subst, sym, ap, ◌∙◌}
use Rattle.std.specs.Prelude.{OnOk}
use Rattle.flow_code.specs.declared.act.Instr.{Instr}
use Rattle.flow_code.specs.declared.code.LoopInfo.{LoopInfo}
use Rattle.facts.specs.Blocks.{AreAmounts}
use Rattle.weak_lock_facts.specs.declared.range.Range.{Range}
use Rattle.weak_lock_facts.specs.Loops.{counted_of}
use Rattle.weak_lock_facts.specs.Ranges.{ranges_in}
use Rattle.loop_bounds.specs.Tables.{AreCalm, calm_loops}
use Rattle.loop_bounds.proofs.Innermost.{calm_all, ranges_calm}
use Rattle.loop_bounds.proofs.accesses.push_function.Goals as goal

pub push_ranges-requires-clause-calm : goal.push_ranges-requires-clause-calm
push_ranges-requires-clause-calm c =
    let f = c.args.function.now in
    let same : c.as_slice-loops.result.now ≡ calm_loops f.instrs (counted_of f) = c.as_slice-loops.ensures.value ∙ c.in_ok-calm.ensures ∙ ap (λ (z : List Instr). calm_loops z c.as_slice.result.now) c.as_slice-instrs.ensures ∙ ap (calm_loops f.instrs) (c.as_slice.ensures ∙ c.in_ok-counted.ensures) in
    subst (AreCalm f.instrs) (sym same) (calm_all f.instrs (counted_of f))

pub push_ranges-requires-clause-amounts : goal.push_ranges-requires-clause-amounts
push_ranges-requires-clause-amounts c =
    let f = c.args.function.now in
    let amounts = c.in_ok-amounts.amounts.items in
    let all : AreAmounts f.instrs amounts = subst (λ (z : List Instr). AreAmounts z amounts) c.as_slice-instrs.ensures c.in_ok-amounts.ensures.each in
    subst (λ (z : List (Option ℤ)). AreAmounts f.instrs z) (sym c.as_slice-5.ensures.value) all

pub returns : goal.returns
returns c =
    let f = c.args.function.now in
    let same : c.as_slice-loops.result.now ≡ calm_loops f.instrs (counted_of f) = c.as_slice-loops.ensures.value ∙ c.in_ok-calm.ensures ∙ ap (λ (z : List Instr). calm_loops z c.as_slice.result.now) c.as_slice-instrs.ensures ∙ ap (calm_loops f.instrs) (c.as_slice.ensures ∙ c.in_ok-counted.ensures) in
    subst (λ (z : List Range). OnOk c.push_ranges.result (c.push_ranges.new.out ≡ c.args.out.now ++ z))
    (ap (λ (z : List LoopInfo). ranges_in c.args.code.now c.args.points.now c.args.number f.instrs z 0 f.instrs) same ∙ ranges_calm c.args.code.now c.args.points.now c.args.number f.instrs (counted_of f) 0 f.instrs)
    c.push_ranges.ensures
