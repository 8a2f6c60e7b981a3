use Rattle.std.proofs.Common.{◌∙◌, ◌<◌, ◌≡◌, subst, arith}
use Rattle.core_run.specs.Shown.{OwnStep}
use Rattle.core_run.proofs.Leaving.{leaves_less, leaves_refused, leaves_outside, leaves_none}
use Rattle.core_run.proofs.walker.own_steps_in.Goals as goal

pub returns-in-Refused-clause-steps : goal.returns-in-Refused-clause-steps
returns-in-Refused-clause-steps c = λ st shown.
    let l = c.loop-left.invariant.leaves st shown in
    let some : 0 < c.loop-left.left = omega (arith, c.loop-left-test.true) in
    let stuck = subst (OwnStep c.args.code.now c.args.setup.now c.args.formula.now c.args.thread l.next c.own_step_in.new.flows.items c.own_step_in.new.words.items c.own_step_in.new.reads.items) c.in-Refused.is (c.in_ok-end.ensures.step l.next l.shown) in
    leaves_refused c.args.code.now c.args.setup.now c.args.formula.now c.args.count c.args.thread st c.loop-left.left c.loop-left.flows.items c.loop-left.words.items c.loop-left.reads.items some l stuck

pub returns-in-Outside-clause-steps : goal.returns-in-Outside-clause-steps
returns-in-Outside-clause-steps c = λ st shown.
    let l = c.loop-left.invariant.leaves st shown in
    let some : 0 < c.loop-left.left = omega (arith, c.loop-left-test.true) in
    let stuck = subst (OwnStep c.args.code.now c.args.setup.now c.args.formula.now c.args.thread l.next c.own_step_in.new.flows.items c.own_step_in.new.words.items c.own_step_in.new.reads.items) c.in-Outside.is (c.in_ok-end.ensures.step l.next l.shown) in
    leaves_outside c.args.code.now c.args.setup.now c.args.formula.now c.args.count c.args.thread st c.loop-left.left c.loop-left.flows.items c.loop-left.words.items c.loop-left.reads.items some l stuck

pub returns-clause-steps : goal.returns-clause-steps
returns-clause-steps c = λ st shown.
    let none : c.loop-left.left ≡ 0 = omega (arith, c.loop-left-test.false) in
    leaves_none c.args.code.now c.args.setup.now c.args.formula.now c.args.count c.args.thread st c.loop-left.left c.loop-left.flows.items c.loop-left.words.items c.loop-left.reads.items none (c.loop-left.invariant.leaves st shown)

pub loop-left-preserved : goal.loop-left-preserved
loop-left-preserved c =
    let some : 0 < c.loop-left.left = omega (arith, c.loop-left-test.true) in
    let inv = c.loop-left.invariant in
    record {
      all = c.own_step_in.ensures.all;
      flows = c.own_step_in.ensures.flows ∙ inv.flows;
      reads = c.own_step_in.ensures.reads ∙ inv.reads;
      keeps = record { len = c.own_step_in.ensures.keeps.len ∙ inv.keeps.len; objects = λ i far. c.own_step_in.ensures.keeps.objects i far ∙ inv.keeps.objects i far };
      leaves = λ st shown.
          let l = inv.leaves st shown in
          let goes = subst (OwnStep c.args.code.now c.args.setup.now c.args.formula.now c.args.thread l.next c.own_step_in.new.flows.items c.own_step_in.new.words.items c.own_step_in.new.reads.items) c.in-Made.is (c.in_ok-end.ensures.step l.next l.shown) in
          leaves_less c.args.code.now c.args.setup.now c.args.formula.now c.args.count c.args.thread st c.loop-left.left c.own_step_in.new.flows.items c.own_step_in.new.words.items c.own_step_in.new.reads.items c.loop-left.flows.items c.loop-left.words.items c.loop-left.reads.items some l goes;
    }
