use Rattle.std.proofs.Common.{ap, arith}
use Rattle.std.proofs.lemmas.Result.{err_from_is_err_and}
use Rattle.snapshots.specs.declared.draft.Head.{Head}
use Rattle.snapshot_grammar.specs.Parts.{left}
use Rattle.snapshot_grammar.proofs.Threads.{frames_error, head_error, regions_error, stripes_error, thread_read}
use Rattle.snapshot_grammar.proofs.draft.read_thread.Goals as goal

pub returns-in_err-head : goal.returns-in_err-head
returns-in_err-head c =
    let p = err_from_is_err_and c.from_residual.result c.from_residual.ensures.1 in
    rw (p.1, p.2) (head_error (left c.args.reader.now) (left c.read_line.new.reader) (left c.read_line.new.reader) c.in_err-head.field-0.0 (omega arith) c.in_err-head.ensures)

pub returns-in_err-frames : goal.returns-in_err-frames
returns-in_err-frames c =
    let p = err_from_is_err_and c.from_residual-in_err-frames.result c.from_residual-in_err-frames.ensures.1 in
    let h = c.in_ok-head.ensures in
    rw (p.1, p.2)
    (frames_error (left c.args.reader.now) (left c.read_line.new.reader) c.in_ok-head.head h (left c.read_lines.new.reader) (left c.read_lines.new.reader) c.in_err-frames.field-0.0
    (c.in_err-frames.ensures h.item.frames (ap (λ (z : Head). z.frames) h.value)))

pub returns-in_err-stripes : goal.returns-in_err-stripes
returns-in_err-stripes c =
    let p = err_from_is_err_and c.from_residual-in_err-stripes.result c.from_residual-in_err-stripes.ensures.1 in
    let h = c.in_ok-head.ensures in
    let f = c.in_ok-frames.ensures h.item.frames (ap (λ (z : Head). z.frames) h.value) in
    rw (p.1, p.2)
    (stripes_error (left c.args.reader.now) (left c.read_line.new.reader) c.in_ok-head.head h (left c.read_lines.new.reader) c.in_ok-frames.frames f (left c.read_lines-2.new.reader) (left c.read_lines-2.new.reader) c.in_err-stripes.field-0.0
    (c.in_err-stripes.ensures h.item.stripes (ap (λ (z : Head). z.stripes) h.value)))

pub returns-in_err-regions : goal.returns-in_err-regions
returns-in_err-regions c =
    let p = err_from_is_err_and c.from_residual-in_err-regions.result c.from_residual-in_err-regions.ensures.1 in
    let h = c.in_ok-head.ensures in
    let f = c.in_ok-frames.ensures h.item.frames (ap (λ (z : Head). z.frames) h.value) in
    let x = c.in_ok-stripes.ensures h.item.stripes (ap (λ (z : Head). z.stripes) h.value) in
    rw (p.1, p.2)
    (regions_error (left c.args.reader.now) (left c.read_line.new.reader) c.in_ok-head.head h (left c.read_lines.new.reader) c.in_ok-frames.frames f (left c.read_lines-2.new.reader) c.in_ok-stripes.stripes x
    (left c.read_lines-3.new.reader) (left c.read_lines-3.new.reader) c.in_err-regions.field-0.0 (c.in_err-regions.ensures h.item.regions (ap (λ (z : Head). z.regions) h.value)))

pub returns : goal.returns
returns c =
    let h = c.in_ok-head.ensures in
    let f = c.in_ok-frames.ensures h.item.frames (ap (λ (z : Head). z.frames) h.value) in
    let x = c.in_ok-stripes.ensures h.item.stripes (ap (λ (z : Head). z.stripes) h.value) in
    let r = c.in_ok-regions.ensures h.item.regions (ap (λ (z : Head). z.regions) h.value) in
    thread_read (left c.args.reader.now) (left c.read_line.new.reader) c.in_ok-head.head h (left c.read_lines.new.reader) c.in_ok-frames.frames f (left c.read_lines-2.new.reader) c.in_ok-stripes.stripes x (left c.read_lines-3.new.reader) c.in_ok-regions.regions r
