use Rattle.std.proofs.Common.{sym, ◌∙◌}
use Rattle.flow_code.proofs.Runnable.{valid_runnable}
use Rattle.flow_code.proofs.valid.is_valid.Goals as goal

pub returns-then-constants_fit-clause-runnable : goal.returns-then-constants_fit-clause-runnable
returns-then-constants_fit-clause-runnable c = λ h. valid_runnable c.args.code.now (sym c.conditions_hold-holds.ensures ∙ h)
