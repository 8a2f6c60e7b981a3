use Rattle.std.proofs.Common.{◌≡◌, subst}
use Rattle.flow_code.specs.Next.{action_at}
use Rattle.thread_interpreter.specs.Flows.{Running}
use Rattle.thread_interpreter.proofs.FlowFacts.{known_next}
use Rattle.thread_interpreter.proofs.flow.Flow.next_action.Goals as goal

pub returns-in-Some : goal.returns-in-Some
returns-in-Some c =
    let t = c.self.inside.thread in
    subst (λ (r : Running). c.in-Some.next ≡ action_at r.code r.setup r.number r.kept.thread) c.self.view_is
    (known_next _ _ t _ _ (c.in-Some.ensures t))
