use Rattle.std.proofs.Common.{◌≡◌, IfOk, subst}
use Rattle.c_tree.specs.View as tree
use Rattle.core_tree.specs.View.{exp_of}
use Rattle.c_operators.specs.Context.{Context}
use Rattle.c_values.specs.Expressions.{value_of}
use Rattle.c_statements.proofs.statement.value_at.Goals as goal

pub returns : goal.returns
returns c = subst (λ (x : Context). IfOk c.value.result (λ v. exp_of v.value ≡ value_of x (tree.exp_of c.args.e.now))) c.context.ensures c.value.ensures
