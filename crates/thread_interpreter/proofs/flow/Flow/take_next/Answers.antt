use Rattle.std.proofs.Common.{◌≡◌, rules, sym, to_z, of_z, FitsSigned, ap, ◌∙◌, subst}
use Rattle.std.proofs.lemmas.Int.{to_z-of_z}
use mir.Syntax.{w64}
use Rattle.flow_code.specs.Next.{due_of, after_due, stepped}
use Rattle.thread_interpreter.specs.Flows.{Running}
use Rattle.thread_interpreter.proofs.FlowFacts.{fits_step, sound_next, next_is}
use Rattle.thread_interpreter.proofs.flow.Flow.take_next.Goals as goal

pub step-requires-clause-fits : goal.step-requires-clause-fits
step-requires-clause-fits c =
    let due : c.due_of-due.result ≡ due_of c.self.inside.code.now c.self.inside.setup.now c.self.inside.thread c.self.inside.state.thread = subst (λ (r : Running). c.due_of-due.result ≡ due_of r.code r.setup r.number r.kept.thread) (sym c.self.view_is) c.due_of-due.ensures in
    fits_step _ _ _ _ _ _ c.self.invariant due

pub invariant_of-self : goal.invariant_of-self
invariant_of-self c =
    let due : c.due_of-due.result ≡ due_of c.self.inside.code.now c.self.inside.setup.now c.self.inside.thread c.self.inside.state.thread = subst (λ (r : Running). c.due_of-due.result ≡ due_of r.code r.setup r.number r.kept.thread) (sym c.self.view_is) c.due_of-due.ensures in
    sound_next _ _ _ _ _ _ _ c.self.invariant due c.step.ensures

pub returns-clause-thread : goal.returns-clause-thread
returns-clause-thread c =
    let fits : FitsSigned w64 c.args.answer = search rules in
    let same : to_z w64 (of_z w64 c.args.answer) ≡ c.args.answer = to_z-of_z w64 c.args.answer fits in
    let due : c.due_of-due.result ≡ due_of c.self.inside.code.now c.self.inside.setup.now c.self.inside.thread c.self.inside.state.thread = subst (λ (r : Running). c.due_of-due.result ≡ due_of r.code r.setup r.number r.kept.thread) (sym c.self.view_is) c.due_of-due.ensures in
    let steps : c.step.new.self.thread ≡ after_due c.self.inside.code.now c.self.inside.setup.now c.self.inside.thread c.self.inside.state.thread c.due_of-due.result c.args.answer = c.step.ensures ∙ ap (after_due c.self.inside.code.now c.self.inside.setup.now c.self.inside.thread c.self.inside.state.thread c.due_of-due.result) same in
    subst (λ (r : Running). c.step.new.self.thread ≡ stepped r.code r.setup r.number r.kept.thread c.args.answer) c.self.view_is (next_is c.self.inside.code.now c.self.inside.setup.now c.self.inside.thread c.self.inside.state.thread _ c.due_of-due.result c.args.answer due steps)
