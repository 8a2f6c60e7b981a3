use Rattle.snapshot_lines.specs.Fields.{fields_left}
use Rattle.snapshot_lines.proofs.Phases.{trapped_lineless, trapped_none, trapped_some}
use Rattle.snapshot_lines.proofs.head.trapped.Goals as goal

pub returns-in_err-kind : goal.returns-in_err-kind
returns-in_err-kind c = trapped_none (fields_left c.args.rest.rest) (fields_left c.take_u8.new.self.rest) c.from_residual.result c.from_residual.ensures c.in_err-kind.ensures

pub returns-in_err-line : goal.returns-in_err-line
returns-in_err-line c =
    trapped_lineless (fields_left c.args.rest.rest) (fields_left c.take_u8.new.self.rest) (fields_left c.take_long.new.self.rest) c.in_ok-kind.kind c.from_residual-in_err-line.result c.from_residual-in_err-line.ensures
    c.in_ok-kind.ensures c.in_err-line.ensures

pub returns : goal.returns
returns c =
    trapped_some (fields_left c.args.rest.rest) (fields_left c.take_u8.new.self.rest) (fields_left c.take_long.new.self.rest) c.in_ok-kind.kind c.in_ok-line.line c.lone.result c.in_ok-kind.ensures c.in_ok-line.ensures c.lone.ensures
