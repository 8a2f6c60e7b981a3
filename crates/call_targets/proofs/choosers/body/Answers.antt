use Rattle.std.proofs.Common.{◌∙◌, ap}
use Rattle.core_tree.specs.Core.{block, listed_statements}
use Rattle.core_tree.proofs.Views.{stmts_of_row-list}
use Rattle.call_targets.proofs.choosers.body.Goals as goal

pub returns : goal.returns
returns c = ap block (stmts_of_row-list c.in_ok-choices.choices ∙ ap listed_statements c.in_ok-choices.ensures)
