use Rattle.std.proofs.Common.{◌≡◌, IfOk, false, refl, ap, ◌∙◌, subst}
use Rattle.c_tree.specs.declared.expr.AssignOp.{AssignOp}
use Rattle.c_tree.specs.declared.expr.AssignOp.TheVariants as assign_op
use Rattle.rr_base.specs.declared.position.Position.{Position}
use Rattle.core_tree.specs.Core as core
use Rattle.core_tree.specs.View.{exp_of}
use Rattle.c_operators.specs.Denoted.{Part, value_in}
use Rattle.c_operators.specs.Context.{Source}
use Rattle.c_operators.specs.Operators as spec
use Rattle.c_operators.specs.Views.{part_of, source_in}
use Rattle.c_operators.proofs.operators.assigned.Goals as goal

-- each operator but `=` changes what the object holds
assigned_other : (s : Source) (o : AssignOp) (a b : Part) (at : Position) → (o ≡ assign_op.Assign → ⊥) →
    spec.changed_in s (spec.changing_operator o) a (value_in b) false at ≡ spec.assigned_in s o a b at
assigned_other s assign_op.Assign a b at other = absurd (other refl)
assigned_other s _ a b at other = refl

pub returns-in_ok-by-in_default : goal.returns-in_ok-by-in_default
returns-in_ok-by-in_default c =
    let s = source_in c.args.source.now in
    let a = part_of c.args.left in
    let b = part_of c.args.right in
    let same : spec.changed_in s c.changing_operator.result a (exp_of c.in_ok-by-in_default.by.value) false c.args.at ≡ spec.assigned_in s c.args.op a b c.args.at =
    ap (λ o. spec.changed_in s o a (exp_of c.in_ok-by-in_default.by.value) false c.args.at) c.changing_operator.ensures
    ∙ ap (λ e. spec.changed_in s (spec.changing_operator c.args.op) a e false c.args.at) c.in_ok-by-in_default.ensures
    ∙ assigned_other s c.args.op a b c.args.at c.in_default.not-Assign in
    subst (λ (x : core.Exp). IfOk c.changed.result (λ v. exp_of v.value ≡ x)) same c.changed.ensures
