use Rattle.std.proofs.Common.{arith}
use Rattle.std.proofs.lemmas.Result.{err_from_is_err_and}
use Rattle.snapshot_grammar.specs.Parts.{left}
use Rattle.snapshot_grammar.proofs.OneLine.{counted_error, counted_reads}
use Rattle.snapshot_grammar.proofs.lined.read_counted.Goals as goal

pub returns-in_err-count : goal.returns-in_err-count
returns-in_err-count g c =
    let p = err_from_is_err_and c.from_residual.result c.from_residual.ensures.1 in
    rw (p.1, p.2)
    (counted_error g.row.T.Denot g.T.Lined.stands g.T.Lined.line g.T.Lined.clip c.args.word.now g.T.Lined.some g.met.T.Lined.some_stands (left c.args.reader.now) (left c.read_number.new.reader) (left c.read_number.new.reader) c.in_err-count.field-0.0 (omega arith)
    c.in_err-count.ensures)

pub returns : goal.returns
returns g c =
    let h = c.in_ok-count.ensures in
    counted_reads g.row.T.Denot g.T.Lined.stands g.T.Lined.line g.T.Lined.clip c.args.word.now (left c.args.reader.now) (left c.read_number.new.reader) (left c.read_lines.new.reader) c.in_ok-count.count h c.read_lines.result (c.read_lines.ensures h.item h.value)
