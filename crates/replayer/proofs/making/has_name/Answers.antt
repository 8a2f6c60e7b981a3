use Rattle.std.proofs.Common.{sym, ◌∙◌, rules}
use denote.Enum.Bare.{same_true, true_same}
use Rattle.sync_objects.specs.contracts.operation.OpName.{the_type}
use Rattle.replayer.proofs.making.has_name.Goals as goal

pub returns : goal.returns
returns c = (
  λ t. sym c.name.ensures ∙ same_true the_type (search rules) _ _ (sym c.eq.ensures ∙ t),
  λ e. c.eq.ensures ∙ true_same the_type _ _ (c.name.ensures ∙ e),
)
