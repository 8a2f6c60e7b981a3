use Rattle.std.proofs.Common.{◌≡◌, ◌<◌, [], length, refl, ap, arith}
use Rattle.std.proofs.lemmas.Bool.Decides.{nat_tests}
use Rattle.std.proofs.lemmas.Grind.{common_steps}
use Rattle.std.proofs.lemmas.Result.{err_from_is_err_and}
use Rattle.order_log.specs.Reading.{lines_of}
use Rattle.order_log.specs.Recogniser.{unfinished_of}
use Rattle.snapshot_grammar.specs.Parts.{left}
use Rattle.snapshot_grammar.proofs.Faults.{draft_is, empty_of, fault_reads, more_left, some_of}
use Rattle.snapshot_grammar.proofs.draft.read_draft.Goals as goal

pub returns-in_err-draft : goal.returns-in_err-draft
returns-in_err-draft c =
    let p = err_from_is_err_and c.from_residual.result c.from_residual.ensures.1 in
    rw (p.1, p.2) (fault_reads c.args.slots c.args.bytes.now (left c.read_lines_of_draft.new.reader) c.in_err-draft.field-0.0 c.in_err-draft.ensures)

pub returns-then-not-is_empty : goal.returns-then-not-is_empty
returns-then-not-is_empty c =
    let some : 0 < length c.read_lines_of_draft.new.reader.bytes.now = first_of (omega arith, grind (arith, nat_tests), grind (arith, common_steps)) in
    more_left c.args.slots c.args.bytes.now c.read_lines_of_draft.new.reader.line c.read_lines_of_draft.new.reader.bytes.now c.in_ok-draft.draft c.read_lines_of_draft.new.reader.line c.in_ok-draft.ensures
    (some_of c.read_lines_of_draft.new.reader.bytes.now some) refl

pub returns : goal.returns
returns c =
    let none : length c.read_lines_of_draft.new.reader.bytes.now ≡ 0 = first_of (omega arith, grind (arith, nat_tests), grind (arith, common_steps)) in
    let over : c.read_lines_of_draft.new.reader.bytes.now ≡ [] = empty_of c.read_lines_of_draft.new.reader.bytes.now none in
    draft_is c.args.slots c.args.bytes.now (left c.read_lines_of_draft.new.reader) c.in_ok-draft.draft c.in_ok-draft.ensures (ap lines_of over) (ap unfinished_of over)
