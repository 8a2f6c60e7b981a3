use Rattle.snapshot_lines.specs.Fields.{fields_left}
use Rattle.snapshot_lines.proofs.Lines.{pair_taken}
use Rattle.snapshot_lines.proofs.line.take_pair.Goals as goal

pub returns : goal.returns
returns c = pair_taken (fields_left c.args.fields.now.rest) (fields_left c.take.new.self.rest) c.in_ok-take.field-0.now c.pair_in.result c.in_ok-take.ensures c.pair_in.ensures
