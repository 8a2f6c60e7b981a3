use Rattle.std.proofs.Common.{◌≡◌, ◌-◌, subst, sym, ap, ◌∙◌, arith}
use Rattle.std.proofs.lemmas.Result.{IfOk-weaker}
use Rattle.core_run.specs.Machine.{machine}
use Rattle.run_theory.specs.Walk.{alone}
use Rattle.walk_accesses.specs.Steps.{FindsAt, GoesTo, Looks, Steps}
use Rattle.walk_accesses.proofs.OwnSteps.{look}
use Rattle.walk_accesses.proofs.alone.access_ahead.Goals as goal

pub returns : goal.returns
returns c =
    let flow = c.args.flow.now in
    let n = c.args.count - flow.kept.thread.count in
    let count : c.count-2.result ≡ flow.kept.thread.count = c.count-2.ensures in
    IfOk-weaker c.step.result _ (FindsAt c.args.count flow c.args.words.now.items)
    (λ made step.
    let step_here = subst (λ s. Steps flow.code s c.args.thread c.go.new.flow.kept.thread c.step.new.flow.kept.thread c.go.new.words.items c.step.new.words.items made) c.go.ensures.setup
    (subst (λ code. Steps code c.go.new.flow.setup c.args.thread c.go.new.flow.kept.thread c.step.new.flow.kept.thread c.go.new.words.items c.step.new.words.items made) c.go.ensures.code step) in
    record {
      past = λ lt. absurd (omega (arith, lt, c.if-count.false, c.count.ensures));
      ahead = λ le. subst (λ t. Looks flow.code flow.setup n t flow.kept.thread c.args.words.now.items made) (sym c.requires.number)
          (λ st st1 i h. look flow.code flow.setup c.args.thread n st c.go.new.flow.kept.thread c.step.new.flow.kept.thread c.go.new.words.items c.step.new.words.items made
          (subst (λ k. GoesTo flow.code flow.setup (c.args.count - k) c.args.thread st c.go.new.flow.kept.thread c.go.new.words.items) count
          (c.in_ok-go.ensures.goes st st1 i (ap (λ k. alone (machine flow.code flow.setup) (c.args.count - k) c.args.thread st) count ∙ h))) step_here);
    })
    c.step.ensures.step
