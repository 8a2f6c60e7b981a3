use Rattle.std.proofs.Common.{◌≡◌, ◌<◌, rules, to_z, of_z, FitsSigned, ap, ◌∙◌, subst}
use Rattle.std.proofs.lemmas.Int.{to_z-of_z}
use mir.Syntax.{w64}
use Rattle.word_semantics.specs.declared.event.Action.TheVariants as action
use Rattle.flow_code.specs.Next.{after_due, stepped, action_at}
use Rattle.flow_code.specs.Settle.{weight, settled}
use Rattle.flow_code.proofs.Settle.{weight_taken, settled_taken}
use Rattle.thread_interpreter.specs.Flows.{Running}
use Rattle.thread_interpreter.proofs.FlowFacts.{fits_step, sound_next, next_is}
use Rattle.thread_interpreter.proofs.flow.Flow.take_answer.Goals as goal

pub step-requires-clause-fits : goal.step-requires-clause-fits
step-requires-clause-fits c = fits_step _ _ _ _ _ _ c.self.invariant c.due-due.ensures

pub invariant_of-self : goal.invariant_of-self
invariant_of-self c = sound_next _ _ _ _ _ _ _ c.self.invariant c.due-due.ensures c.step.ensures

pub returns-clause-thread : goal.returns-clause-thread
returns-clause-thread c =
    let fits : FitsSigned w64 c.args.answer = search rules in
    let same : to_z w64 (of_z w64 c.args.answer) ≡ c.args.answer = to_z-of_z w64 c.args.answer fits in
    let steps : c.step.new.self.thread ≡ after_due c.self.inside.code.now c.self.inside.setup.now c.self.inside.thread c.self.inside.state.thread c.due-due.result c.args.answer = c.step.ensures ∙ ap (after_due c.self.inside.code.now c.self.inside.setup.now c.self.inside.thread c.self.inside.state.thread c.due-due.result) same in
    subst (λ (r : Running). c.step.new.self.thread ≡ stepped r.code r.setup r.number r.kept.thread c.args.answer) c.self.view_is (next_is c.self.inside.code.now c.self.inside.setup.now c.self.inside.thread c.self.inside.state.thread _ c.due-due.result c.args.answer c.due-due.ensures steps)

pub returns-clause-falls : goal.returns-clause-falls
returns-clause-falls c =
    let code = c.self.inside.code.now in
    let setup = c.self.inside.setup.now in
    let t = c.self.inside.thread in
    let th = c.self.inside.state.thread in
    let q = c.step.new.self.thread in
    let a = to_z w64 (of_z w64 c.args.answer) in
    subst (λ (r : Running). action_at r.code r.setup r.number r.kept.thread ≡ action.Quiet → weight code setup t q < weight r.code r.setup r.number r.kept.thread) c.self.view_is
    (λ h. weight_taken code setup t th q a c.self.invariant.runnable (next_is code setup t th q c.due-due.result a c.due-due.ensures c.step.ensures) h)

pub returns-clause-same : goal.returns-clause-same
returns-clause-same c =
    let code = c.self.inside.code.now in
    let setup = c.self.inside.setup.now in
    let t = c.self.inside.thread in
    let th = c.self.inside.state.thread in
    let q = c.step.new.self.thread in
    let a = to_z w64 (of_z w64 c.args.answer) in
    subst (λ (r : Running). action_at r.code r.setup r.number r.kept.thread ≡ action.Quiet → settled code setup t q ≡ settled r.code r.setup r.number r.kept.thread) c.self.view_is
    (λ h. settled_taken code setup t th q a c.self.invariant.runnable (next_is code setup t th q c.due-due.result a c.due-due.ensures c.step.ensures) h)
