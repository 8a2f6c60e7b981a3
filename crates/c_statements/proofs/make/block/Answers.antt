use Rattle.std.proofs.Common.{◌≡◌, IfOk, ap, subst}
use Rattle.core_tree.specs.Core as core
use Rattle.core_tree.specs.View.{stmt_of}
use Rattle.core_tree.proofs.Views.{stmts_of_row-list}
use Rattle.c_statements.proofs.make.block.Goals as goal

pub returns : goal.returns
returns c =
    subst (λ (x : core.Statement). IfOk c.placed.result (λ s. stmt_of s.value ≡ x))
    (ap core.block (stmts_of_row-list c.args.inner))
    c.placed.ensures
