use Rattle.std.proofs.Common.{◌≡◌, IfOk, ap, ◌∙◌, subst}
use Rattle.core_tree.specs.declared.value.Change.{Change}
use Rattle.core_tree.specs.View.{exp_of}
use Rattle.c_operators.specs.Denoted.{operand_in}
use Rattle.c_operators.specs.Operators as spec
use Rattle.c_operators.specs.Views.{denoted_of, part_of, source_in}
use Rattle.c_operators.proofs.operators.changed.Goals as goal

pub returns : goal.returns
returns c =
    let s = source_in c.args.source.now in
    let change : c.change_of-change.result ≡ spec.change_of s (operand_in (part_of c.args.place)) c.args.op = c.change_of-change.ensures ∙ ap (λ o. spec.change_of s o c.args.op) c.operand.ensures in
    subst (λ (x : Change). IfOk c.changed_by.result (λ v. exp_of v.value ≡ spec.changed_by x (denoted_of c.args.place.denoted) (exp_of c.args.by.value) c.args.gives_old c.args.at)) change c.changed_by.ensures
