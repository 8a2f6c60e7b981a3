use Rattle.snapshot_lines.specs.Fields.{fields_left}
use Rattle.snapshot_lines.proofs.Phases.{begun_none, begun_some}
use Rattle.snapshot_lines.proofs.head.begun.Goals as goal

pub returns-in_err-function : goal.returns-in_err-function
returns-in_err-function c = begun_none (fields_left c.args.rest.rest) (fields_left c.take_u32.new.self.rest) c.from_residual.result c.from_residual.ensures c.in_err-function.ensures

pub returns : goal.returns
returns c = begun_some (fields_left c.args.rest.rest) (fields_left c.take_u32.new.self.rest) c.in_ok-function.function c.lone.result c.in_ok-function.ensures c.lone.ensures
