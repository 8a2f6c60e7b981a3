use Rattle.std.proofs.Common.{◌≡◌, ◌≤◌, subst}
use Rattle.flow_code.specs.Settle.{weight, settled}
use Rattle.thread_interpreter.specs.Flows.{Running}
use Rattle.thread_interpreter.proofs.flow.Flow.pass_alone.Goals as goal

pub invariant_of-self : goal.invariant_of-self
invariant_of-self c = c.pass_alone.ensures.sound _ c.self.invariant

pub returns-clause-same : goal.returns-clause-same
returns-clause-same c =
    let code = c.self.inside.code.now in
    let setup = c.self.inside.setup.now in
    let t = c.self.inside.thread in
    let q = c.pass_alone.new.self.thread in
    subst (λ (r : Running). settled code setup t q ≡ settled r.code r.setup r.number r.kept.thread) c.self.view_is
    (c.pass_alone.ensures.same c.self.invariant.runnable t)

pub returns-clause-falls : goal.returns-clause-falls
returns-clause-falls c =
    let code = c.self.inside.code.now in
    let setup = c.self.inside.setup.now in
    let t = c.self.inside.thread in
    let q = c.pass_alone.new.self.thread in
    subst (λ (r : Running). weight code setup t q ≤ weight r.code r.setup r.number r.kept.thread) c.self.view_is
    (c.pass_alone.ensures.falls c.self.invariant.runnable t)
