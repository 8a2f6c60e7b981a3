use Rattle.std.proofs.Common.{◌≡◌, get_or, subst, ap, ◌∙◌}
use Rattle.std.specs.Prelude.{IfOk}
use Rattle.std.proofs.lemmas.Option.{get_or_from_slice_get}
use Rattle.thread_interpreter.specs.Flows.{Running}
use Rattle.walk_accesses.specs.Steps.{FindsAt}
use Rattle.walk_accesses.proofs.at_count.access_of.Goals as goal

pub returns : goal.returns
returns c = λ r at.
    let flow = c.index_mut-flow.result.now in
    let is : flow ≡ r = c.index_mut-flow.ensures.value ∙ ap (λ k. get_or c.args.flows.now.items k flow) c.from-2.ensures ∙ get_or_from_slice_get c.args.flows.now.items c.args.thread r flow at in
    subst (λ (z : Running). IfOk c.access_ahead.result (FindsAt c.args.count z c.args.words.now.items)) is c.access_ahead.ensures
