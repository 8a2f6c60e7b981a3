use Rattle.std.proofs.Common.{map, ap, ◌∙◌}
use Rattle.c_tree.specs.Tree.{listed_parts, defined}
use Rattle.rr_base.specs.Positions.{position_at}
use Rattle.c_tree.specs.View.{formal_of, part_of}
use Rattle.c_types.specs.Scopes.{closed}
use Rattle.c_programs.specs.Declarators.{after_params}
use Rattle.c_programs.specs.Statements.{after_parts}
use Rattle.c_names.specs.Table.{known_of}
use Rattle.c_programs.proofs.Within.{closed_body}
use Rattle.c_spots.proofs.program_spots.push_definition.Goals as goal

pub returns-clause-known : goal.returns-clause-known
returns-clause-known c =
    let parts = listed_parts (map part_of c.args.parts.now) in
    c.close.ensures
    ∙ ap closed c.in_ok-push_parts.ensures.known
    ∙ ap (λ k. closed (after_parts k parts)) c.in_ok-push_formals.ensures.known
    ∙ ap (λ k. closed (after_parts (after_params k (map formal_of c.args.params.now)) parts)) c.in_ok-open.ensures
    ∙ closed_body (known_of c.args.table.now) (map formal_of c.args.params.now) (defined parts (position_at 0 0))
