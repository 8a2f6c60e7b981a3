use Rattle.std.proofs.Common.{◌∙◌, ap}
use Rattle.core_tree.specs.Core.{call, listed}
use Rattle.core_tree.proofs.Views.{exps_of_row-list}
use Rattle.call_targets.proofs.choosers.target_called.Goals as goal

pub returns : goal.returns
returns c = ap (λ es. call c.args.target es c.args.pointer.now.gives_pointer c.args.pointer.now.at) (exps_of_row-list c.in_ok-arguments.field-0 ∙ ap listed c.in_ok-arguments.ensures)
