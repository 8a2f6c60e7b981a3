use Rattle.std.proofs.Common.{◌≡◌, ◌<◌, ap, arith, subst, ◌∙◌, Some}
use Rattle.std.specs.Prelude.{slice_get}
use Rattle.facts.specs.Summaries.{exits_of}
use Rattle.lockset_summary.specs.Exits.{AreEachGreatest, weights}
use Rattle.lockset_summary.proofs.Falling.{start_falling, next_falling, nearing}
use Rattle.lockset_summary.proofs.Nearing.{falls, done, ready, same_is}
use Rattle.lockset_summary.proofs.exits.all_points.Goals as goal

pub lower_all-requires-clause-falling : goal.lower_all-requires-clause-falling
lower_all-requires-clause-falling c = start_falling c.args.code.now c.args.tops.now c.requires.tops c.in_ok-exits.exits c.in_ok-exits.ensures

pub flow_all-requires-clause-exits : goal.flow_all-requires-clause-exits
flow_all-requires-clause-exits c g e at = c.in_ok-lower_all.ensures.falling.from.known g e (subst (λ z. slice_get z g ≡ Some e) c.as_slice.ensures at)

pub loop-alloc-init : goal.loop-alloc-init
loop-alloc-init c = nearing c.args.code.now c.args.tops.now c.requires.tops c.lower_all.new.exits c.in_ok-points.points c.in_ok-lower_all.ensures.falling (subst (λ z. AreEachGreatest c.args.code.now c.args.tops.now z c.in_ok-points.points) c.as_slice.ensures c.in_ok-points.ensures)

pub lower_all-requires-in-loop-alloc-clause-falling : goal.lower_all-requires-in-loop-alloc-clause-falling
lower_all-requires-in-loop-alloc-clause-falling c = next_falling c.args.code.now c.args.tops.now c.requires.tops c.loop-alloc.exits c.in_ok-exits-2.exits c.loop-alloc.points c.loop-alloc.invariant (c.in_ok-exits-2.ensures.value ∙ ap exits_of c.as_slice-in-loop-alloc-3.ensures) c.in_ok-exits-2.ensures.small

pub flow_all-requires-in-loop-alloc-clause-exits : goal.flow_all-requires-in-loop-alloc-clause-exits
flow_all-requires-in-loop-alloc-clause-exits c g e at = c.in_ok-lower_all-2.ensures.falling.from.known g e (subst (λ z. slice_get z g ≡ Some e) c.as_slice-in-loop-alloc-4.ensures at)

pub loop-alloc-smaller : goal.loop-alloc-smaller
loop-alloc-smaller c =
    let less : weights c.in_ok-exits-2.exits < weights c.loop-alloc.exits = falls c.args.code.now c.args.tops.now c.requires.tops c.loop-alloc.exits c.in_ok-exits-2.exits c.loop-alloc.points c.loop-alloc.invariant (c.in_ok-exits-2.ensures.value ∙ ap exits_of c.as_slice-in-loop-alloc-3.ensures) c.in_ok-exits-2.ensures.small (same_is c.loop-alloc.exits c.as_slice-in-loop-alloc.result.now c.loop-alloc.points c.as_slice-in-loop-alloc-2.result.now c.are_exits.result _ c.as_slice-in-loop-alloc.ensures c.as_slice-in-loop-alloc-2.ensures c.are_exits.ensures c.loop-alloc-test.true) in
    omega (arith, less, c.in_ok-lower_all-2.ensures.lower)

pub loop-alloc-preserved : goal.loop-alloc-preserved
loop-alloc-preserved c = nearing c.args.code.now c.args.tops.now c.requires.tops c.lower_all-in-loop-alloc.new.exits c.in_ok-points-2.points c.in_ok-lower_all-2.ensures.falling (subst (λ z. AreEachGreatest c.args.code.now c.args.tops.now z c.in_ok-points-2.points) c.as_slice-in-loop-alloc-4.ensures c.in_ok-points-2.ensures)

pub returns-clause-greatest : goal.returns-clause-greatest
returns-clause-greatest c = done c.args.code.now c.args.tops.now c.requires.tops c.loop-alloc.exits c.loop-alloc.points c.loop-alloc.invariant (same_is c.loop-alloc.exits c.as_slice-in-loop-alloc.result.now c.loop-alloc.points c.as_slice-in-loop-alloc-2.result.now c.are_exits.result _ c.as_slice-in-loop-alloc.ensures c.as_slice-in-loop-alloc-2.ensures c.are_exits.ensures c.loop-alloc-test.false)

pub returns-clause-ready : goal.returns-clause-ready
returns-clause-ready c = ready c.args.code.now c.args.tops.now c.requires.tops c.loop-alloc.exits c.loop-alloc.points c.loop-alloc.invariant.from c.loop-alloc.invariant.each
