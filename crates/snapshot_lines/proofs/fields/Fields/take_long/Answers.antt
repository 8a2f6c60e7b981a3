use Rattle.snapshot_lines.specs.Fields.{fields_left}
use Rattle.snapshot_lines.proofs.Blanks.{number_taken}
use Rattle.snapshot_lines.proofs.fields.Fields.take_long.Goals as goal

pub returns : goal.returns
returns c = number_taken (fields_left c.args.self.now.rest) (fields_left c.take.new.self.rest) c.in_ok-take.field-0.now c.number.result c.in_ok-take.ensures c.number.ensures
