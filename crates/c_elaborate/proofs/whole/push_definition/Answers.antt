use Rattle.std.proofs.Common.{map, ap, ◌∙◌}
use Rattle.c_tree.specs.Tree.{listed_parts, defined}
use Rattle.rr_base.specs.Positions.{position_at}
use Rattle.c_tree.specs.View.{formal_of, part_of}
use Rattle.c_programs.specs.Declarators.{after_params}
use Rattle.c_types.specs.Scopes.{Known, closed}
use Rattle.c_programs.specs.Statements.{after_parts}
use Rattle.c_names.specs.Table.{known_of}
use Rattle.c_programs.proofs.Within.{closed_body}
use Rattle.c_elaborate.specs.Functions.{definition}
use Rattle.c_operators.specs.Views.{source_in}
use Rattle.c_elaborate.proofs.Made.{definition_pushed}
use Rattle.c_elaborate.proofs.whole.push_definition.Goals as goal

pub returns-clause-known : goal.returns-clause-known
returns-clause-known c =
    let parts = listed_parts (map part_of c.args.parts.now) in
    c.close.ensures
    ∙ ap closed c.in_ok-function.ensures.known
    ∙ ap (λ k. closed (after_parts (after_params k (map formal_of c.args.params.now)) parts)) c.in_ok-open.ensures
    ∙ closed_body (known_of c.args.table.now) (map formal_of c.args.params.now) (defined parts (position_at 0 0))

pub returns-clause-out : goal.returns-clause-out
returns-clause-out c =
    definition_pushed _ _ _
    (λ (k : Known). definition (source_in c.args.source.now) c.args.marks.now.numbers k c.args.next.now c.args.name.now c.args.gives (map formal_of c.args.params.now) (listed_parts (map part_of c.args.parts.now)))
    _ _ c.in_ok-push.ensures.ok c.in_ok-function.ensures.function c.in_ok-open.ensures
