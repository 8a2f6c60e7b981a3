use Rattle.std.proofs.Common.{ap, ◌∙◌}
use Rattle.c_tree.specs.View.{formals_of, code_of}
use Rattle.c_types.specs.Scopes.{closed}
use Rattle.c_names.specs.Sources.{listed_params}
use Rattle.c_programs.specs.Declarators.{after_params}
use Rattle.c_programs.specs.Programs.{after_body}
use Rattle.c_names.specs.Table.{known_of}
use Rattle.c_programs.proofs.Within.{closed_body}
use Rattle.c_programs.proofs.functions.note_inside.Goals as goal

-- what stands in the scope is forgotten
pub returns-clause-known : goal.returns-clause-known
returns-clause-known c =
    let ps = listed_params (formals_of c.args.params.now) in
    let code = code_of c.args.body.now in
    c.close.ensures
    ∙ ap closed c.in_ok-note_body.ensures.known
    ∙ ap (λ k. closed (after_body k code)) c.in_ok-note_params.ensures.known
    ∙ ap (λ k. closed (after_body (after_params k ps) code)) c.in_ok-open.ensures
    ∙ closed_body (known_of c.args.table.now) ps code
