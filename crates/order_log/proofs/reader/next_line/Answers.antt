use Rattle.std.proofs.Common.{sym}
use Rattle.order_log.proofs.Cutting.{next_line_none, next_line_some}
use Rattle.order_log.proofs.reader.next_line.Goals as goal

pub returns-in_default : goal.returns-in_default
returns-in_default c = next_line_none c.args.reader.now.line c.args.reader.now.bytes.now (sym c.in_default.ensures)

pub returns : goal.returns
returns c =
    next_line_some c.args.reader.now.line c.saturating_add-reader.result c.args.reader.now.bytes.now c.in-Some.line.now c.in-Some.rest.now c.in-Some.ensures c.saturating_add-reader.ensures
