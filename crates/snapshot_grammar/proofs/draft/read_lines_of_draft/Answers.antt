use Rattle.std.proofs.Common.{arith}
use Rattle.std.proofs.lemmas.Result.{err_from_is_err_and}
use Rattle.snapshot_grammar.specs.Parts.{left}
use Rattle.snapshot_grammar.proofs.Whole.{cells_error, draft_read, objects_error, opening_error, threads_error}
use Rattle.snapshot_grammar.proofs.draft.read_lines_of_draft.Goals as goal

pub returns-in_err-at : goal.returns-in_err-at
returns-in_err-at c =
    let p = err_from_is_err_and c.from_residual.result c.from_residual.ensures.1 in
    rw (p.1, p.2) (opening_error c.args.slots (left c.args.reader.now) (left c.read_opening.new.reader) (left c.read_opening.new.reader) c.in_err-at.field-0.0 (omega arith) c.in_err-at.ensures)

pub returns-in_err-cells : goal.returns-in_err-cells
returns-in_err-cells c =
    let p = err_from_is_err_and c.from_residual-in_err-cells.result c.from_residual-in_err-cells.ensures.1 in
    rw (p.1, p.2) (cells_error c.args.slots (left c.args.reader.now) (left c.read_opening.new.reader) c.in_ok-at.at c.in_ok-at.ensures (left c.read_counted.new.reader) (left c.read_counted.new.reader) c.in_err-cells.field-0.0 c.in_err-cells.ensures)

pub returns-in_err-objects : goal.returns-in_err-objects
returns-in_err-objects c =
    let p = err_from_is_err_and c.from_residual-in_err-objects.result c.from_residual-in_err-objects.ensures.1 in
    rw (p.1, p.2)
    (objects_error c.args.slots (left c.args.reader.now) (left c.read_opening.new.reader) c.in_ok-at.at c.in_ok-at.ensures (left c.read_counted.new.reader) c.in_ok-cells.cells c.in_ok-cells.ensures (left c.read_counted-2.new.reader) (left c.read_counted-2.new.reader) c.in_err-objects.field-0.0 c.in_err-objects.ensures)

pub returns-in_err-threads : goal.returns-in_err-threads
returns-in_err-threads c =
    let p = err_from_is_err_and c.from_residual-in_err-threads.result c.from_residual-in_err-threads.ensures.1 in
    rw (p.1, p.2)
    (threads_error c.args.slots (left c.args.reader.now) (left c.read_opening.new.reader) c.in_ok-at.at c.in_ok-at.ensures (left c.read_counted.new.reader) c.in_ok-cells.cells c.in_ok-cells.ensures (left c.read_counted-2.new.reader) c.in_ok-objects.objects c.in_ok-objects.ensures
    (left c.read_threads.new.reader) (left c.read_threads.new.reader) c.in_err-threads.field-0.0 c.in_err-threads.ensures)

pub returns : goal.returns
returns c =
    draft_read c.args.slots (left c.args.reader.now) (left c.read_opening.new.reader) c.in_ok-at.at c.in_ok-at.ensures (left c.read_counted.new.reader) c.in_ok-cells.cells c.in_ok-cells.ensures (left c.read_counted-2.new.reader) c.in_ok-objects.objects c.in_ok-objects.ensures
    (left c.read_threads.new.reader) c.min-at.result c.in_ok-threads.threads (omega arith) c.in_ok-threads.ensures
