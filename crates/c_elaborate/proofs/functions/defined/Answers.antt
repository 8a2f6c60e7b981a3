use Rattle.std.proofs.Common.{◌≡◌, IfOk, map, subst}
use Rattle.c_tree.specs.Tree.{listed_parts}
use Rattle.c_tree.specs.View.{formal_of, part_of}
use Rattle.c_programs.specs.Declarators.{after_params}
use Rattle.c_names.specs.Table.{known_of}
use Rattle.core_tree.specs.Core as core
use Rattle.core_tree.specs.View.{function_of, stmt_of}
use Rattle.c_operators.specs.Views.{frame_in, source_in}
use Rattle.c_elaborate.proofs.Defined.{defined_made}
use Rattle.c_elaborate.proofs.functions.defined.Goals as goal

pub returns-clause-function : goal.returns-clause-function
returns-clause-function c =
    subst (λ (z : core.Function). IfOk c.function_by.result (λ f. function_of f ≡ z))
    (defined_made (source_in c.args.source.now) (after_params (known_of c.args.table.now) (map formal_of c.args.params.now)) c.args.first c.args.name.now c.args.gives (map formal_of c.args.params.now) (listed_parts (map part_of c.args.parts.now))
    c.args.formals.now c.args.locals.now (frame_in c.in_ok-frame.frame) (stmt_of c.in_ok-body.body.value)
    c.in_ok-frame.ensures c.in_ok-body.ensures.body)
    c.function_by.ensures
