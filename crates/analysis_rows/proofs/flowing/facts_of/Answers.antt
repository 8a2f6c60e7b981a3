use Rattle.std.proofs.Common.{◌≡◌, ◌∙◌, sym, Some}
use Rattle.std.specs.Prelude.{slice_get}
use Rattle.lockset_flow.proofs.Within.{flows_within}
use Rattle.analysis_rows.proofs.flowing.facts_of.Goals as goal

pub flow_function-requires-clause-flows : goal.flow_function-requires-clause-flows
flow_function-requires-clause-flows c =
    let at : slice_get c.args.code.now.functions 0 ≡ Some c.in-Some.function.now = sym c.in-Some.ensures.value in
    flows_within c.args.code.now 0 c.in-Some.function.now (sym c.is_valid.ensures.value ∙ c.if-not-is_valid.false) at
