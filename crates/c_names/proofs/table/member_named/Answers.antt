use Rattle.std.proofs.Common.{ap, ◌∙◌, Some, Option}
use Rattle.std.specs.Option.{option_map}
use Rattle.c_types.specs.declared.types.ObjectType.{ObjectType}
use Rattle.c_names.proofs.Tables.{lookup_shown}
use Rattle.c_names.proofs.table.member_named.Goals as goal

pub returns-in-Some : goal.returns-in-Some
returns-in-Some c = ap Some c.borrowed.ensures ∙ ap (option_map (λ (t : Option ObjectType). t)) c.in-Some.ensures.value ∙ lookup_shown (λ t. t) c.args.members.now.entries c.args.name.now

pub returns-in-None : goal.returns-in-None
returns-in-None c = ap (option_map (λ (t : Option ObjectType). t)) c.in-None.ensures.value ∙ lookup_shown (λ t. t) c.args.members.now.entries c.args.name.now
