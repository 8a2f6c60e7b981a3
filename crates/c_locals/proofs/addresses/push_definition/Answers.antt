use Rattle.c_locals.proofs.Numbering.{definition_numbers}
use Rattle.c_locals.proofs.addresses.push_definition.Goals as goal

pub returns-clause-next : goal.returns-clause-next
returns-clause-next c =
    definition_numbers _ _ _ _ _ _ _ c.in_ok-table.ensures c.in_ok-number_formals.ensures c.in_ok-push_parts.ensures.known c.next.ensures
