use Rattle.std.proofs.Common.{◌≡◌, sym, subst, true}
use Rattle.facts.specs.Locks.{held_are_sized}
use Rattle.lockset_flow.proofs.Within.{flows_within}
use Rattle.lockset_summary.proofs.Nearing.{exits_sized, top_sized}
use Rattle.lockset_summary.proofs.exits.flow_at.Goals as goal

pub flow_function-requires-clause-flows : goal.flow_function-requires-clause-flows
flow_function-requires-clause-flows c = flows_within c.args.code.now c.args.f c.at-function.result.now c.requires.valid c.at-function.ensures

pub flow_function-requires-clause-top : goal.flow_function-requires-clause-top
flow_function-requires-clause-top c = subst (λ z. held_are_sized z ≡ true) (sym c.as_slice.ensures) (top_sized c.args.code.now c.args.tops.now c.args.f c.top_at-top.result.now c.requires.tops c.top_at-top.ensures)

pub flow_function-requires-clause-exits : goal.flow_function-requires-clause-exits
flow_function-requires-clause-exits c = exits_sized c.args.code.now c.args.exits.now c.requires.exits
