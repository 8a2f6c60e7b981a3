use Rattle.std.proofs.Common.{sym, ◌∙◌}
use Rattle.flow_code.proofs.Settle.{settled_end}
use Rattle.thread_interpreter.proofs.flow.Flow.settle_to_next.Goals as goal

pub returns-in_default-clause-thread : goal.returns-in_default-clause-thread
returns-in_default-clause-thread c =
    let now = c.pass_alone.new.self in
    sym (settled_end now.code now.setup now.number now.kept.thread (λ e. c.in_default.not-Quiet (c.next_action.ensures ∙ e))) ∙ (c.pass_alone.ensures.same ∙ c.loop-self.invariant.same)
