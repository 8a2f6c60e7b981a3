use Rattle.std.proofs.Common.{ap, ◌∙◌}
use Rattle.std.specs.Option.{option_map}
use Rattle.c_names.specs.Table.{meaning_of}
use Rattle.c_names.proofs.Tables.{lookup_shown}
use Rattle.c_names.proofs.table.found_in.Goals as goal

pub returns-in-Some : goal.returns-in-Some
returns-in-Some c = c.meaning.ensures ∙ ap (option_map meaning_of) c.in-Some.ensures.value ∙ lookup_shown meaning_of c.args.scope.now.entries c.args.name.now

pub returns-in-None : goal.returns-in-None
returns-in-None c = ap (option_map meaning_of) c.in-None.ensures.value ∙ lookup_shown meaning_of c.args.scope.now.entries c.args.name.now
