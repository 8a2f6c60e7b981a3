use Rattle.std.proofs.Common.{◌≡◌, IfOk, ap, subst}
use Rattle.core_tree.specs.Core as core
use Rattle.core_tree.specs.View.{exp_of}
use Rattle.core_tree.proofs.Views.{exps_of_row-list}
use Rattle.c_operators.proofs.make.call.Goals as goal

pub returns : goal.returns
returns c =
    subst (λ (x : core.Exp). IfOk c.boxed.result (λ v. exp_of v.value ≡ x))
    (ap (λ es. core.call c.args.function es c.args.gives_pointer c.args.at) (exps_of_row-list c.args.arguments))
    c.boxed.ensures
