use Rattle.std.proofs.Common.{ap, ◌∙◌}
use Rattle.snapshot_lines.specs.Fields.{fields_left}
use Rattle.snapshot_lines.proofs.Blanks.{takes_front, takes_last}
use Rattle.snapshot_lines.proofs.fields.Fields.take.Goals as goal

pub returns-in-Some : goal.returns-in-Some
returns-in-Some c = ap fields_left c.in_ok-text.was ∙ takes_front c.in_ok-text.text.now c.in-Some.field.now c.in-Some.rest.now c.in-Some.ensures

pub returns-in-None : goal.returns-in-None
returns-in-None c = ap fields_left c.in_ok-text.was ∙ takes_last c.in_ok-text.text.now c.in-None.ensures
