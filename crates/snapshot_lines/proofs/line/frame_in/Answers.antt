use Rattle.std.specs.Prelude.{Option}
use Rattle.std.proofs.lemmas.Result.{IfOk-weaker}
use Rattle.thread_interpreter.specs.declared.part.FramePart.{FramePart}
use Rattle.snapshot_lines.specs.Fields.{fields_left}
use Rattle.snapshots.specs.Text.{frame_line}
use Rattle.snapshot_lines.specs.Lines.{ReadsAs, IsFrame, clipped_frame, IsFrameWith}
use Rattle.snapshot_lines.proofs.Lines.{frame_reads, no_frame_line}
use Rattle.snapshot_lines.proofs.line.frame_in.Goals as goal

pub returns-in-None : goal.returns-in-None
returns-in-None c = no_frame_line c.args.line.now (fields_left c.of-fields.result.rest) (fields_left c.frame_start.new.fields.rest) c.of-fields.ensures c.in-None.ensures

pub returns-in-Some : goal.returns-in-Some
returns-in-Some c =
    IfOk-weaker c.frame_with.result (IsFrameWith c.in-Some.start (fields_left c.frame_start.new.fields.rest)) (ReadsAs IsFrame frame_line clipped_frame c.args.line.now)
    (λ (o : Option FramePart). frame_reads c.args.line.now (fields_left c.of-fields.result.rest) (fields_left c.frame_start.new.fields.rest) c.in-Some.start o c.of-fields.ensures c.in-Some.ensures)
    c.frame_with.ensures
