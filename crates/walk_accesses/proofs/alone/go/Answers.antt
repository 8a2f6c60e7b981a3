use Rattle.std.proofs.Common.{◌≡◌, suc, ◌-◌, subst, ◌∙◌, arith}
use Rattle.walk_accesses.specs.Steps.{Steps}
use Rattle.walk_accesses.proofs.OwnSteps.{Between, between_next, between_end}
use Rattle.walk_accesses.proofs.alone.go.Goals as goal

pub loop-left-preserved : goal.loop-left-preserved
loop-left-preserved c =
    let inv = c.loop-left.invariant in
    let flow = c.args.flow.now in
    let next : c.loop-left.left ≡ suc (c.loop-left.left - 1) = omega (arith, c.loop-left-test.true) in
    let step = subst (λ s. Steps flow.code s c.args.thread c.loop-left.flow.kept.thread c.step.new.flow.kept.thread c.loop-left.words.items c.step.new.words.items c.in_ok-step.field-0) inv.setup
    (subst (λ code. Steps code c.loop-left.flow.setup c.args.thread c.loop-left.flow.kept.thread c.step.new.flow.kept.thread c.loop-left.words.items c.step.new.words.items c.in_ok-step.field-0) inv.code c.in_ok-step.ensures.step) in
    record {
      code = c.step.ensures.code ∙ inv.code;
      setup = c.step.ensures.setup ∙ inv.setup;
      number = c.step.ensures.number ∙ inv.number;
      between = λ st st1 i h.
          between_next flow.code flow.setup c.args.thread (c.loop-left.left - 1) st1 c.loop-left.flow.kept.thread c.step.new.flow.kept.thread c.loop-left.words.items c.step.new.words.items c.in_ok-step.field-0
          (subst (λ k. Between flow.code flow.setup k c.args.thread st1 c.loop-left.flow.kept.thread c.loop-left.words.items) next (inv.between st st1 i h)) step;
    }

pub returns-clause-goes : goal.returns-clause-goes
returns-clause-goes c = λ st st1 i h.
    let flow = c.args.flow.now in
    let none : c.loop-left.left ≡ 0 = omega (arith, c.loop-left-test.false) in
    between_end flow.code flow.setup c.args.thread c.args.count st st1 c.loop-left.flow.kept.thread c.loop-left.words.items h
    (subst (λ k. Between flow.code flow.setup k c.args.thread st1 c.loop-left.flow.kept.thread c.loop-left.words.items) none (c.loop-left.invariant.between st st1 i h))
