use Rattle.snapshot_lines.specs.Fields.{fields_left}
use Rattle.snapshot_lines.proofs.Blanks.{value_taken}
use Rattle.snapshot_lines.proofs.fields.Fields.take_value.Goals as goal

pub returns : goal.returns
returns c = value_taken (fields_left c.args.self.now.rest) (fields_left c.take.new.self.rest) c.in_ok-take.field-0.now c.value_in.result c.in_ok-take.ensures c.value_in.ensures
