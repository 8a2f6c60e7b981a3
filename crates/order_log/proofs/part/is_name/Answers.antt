use Rattle.std.proofs.Common.{sym, ◌∙◌}
use Rattle.order_log.proofs.Parts.{is_name-true, IsName-is_name}
use Rattle.order_log.proofs.part.is_name.Goals as goal

pub returns : goal.returns
returns c = (λ e. is_name-true c.args.text.now (sym c.spells_name.ensures ∙ e), λ h. c.spells_name.ensures ∙ IsName-is_name c.args.text.now h)
