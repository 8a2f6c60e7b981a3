use Rattle.std.proofs.Common.{rules, ◌≡◌, Some, refl, sym, subst}
use Rattle.std.specs.Prelude.{IfSome}
use Rattle.flow_code.specs.declared.thread.Phase.TheVariants as phase
use Rattle.flow_code.specs.Next.{action_of}
use Rattle.flow_code.specs.Threads.{instr_at}
use Rattle.thread_interpreter.proofs.FlowFacts.{due_free}
use Rattle.thread_interpreter.proofs.state.ThreadState.next_event.Goals as goal

pub returns-in-Some : goal.returns-in-Some
returns-in-Some c =
    let code = c.args.code.now in
    let setup = c.args.setup.now in
    let th = c.args.self.now.thread in
    let i = c.in-Some.instr.now in
    let runs : th.phase ≡ phase.Running = search rules in
    let at : instr_at code th.top ≡ Some i = sym c.in-Some.ensures.value in
    λ t. subst (λ d. IfSome c.event_of.result (λ a. a ≡ action_of d)) (due_free code setup t th i (c.if-not-is_free.ensures.limit refl) (c.if-not-is_free.ensures.entries refl) (c.if-not-is_free.ensures.owed refl) runs at)
    (c.event_of.ensures setup t)
