use Rattle.std.specs.Prelude.{Option}
use Rattle.std.proofs.lemmas.Result.{IfOk-weaker}
use Rattle.thread_interpreter.specs.declared.part.RegionPart.{RegionPart}
use Rattle.snapshot_lines.specs.Fields.{fields_left}
use Rattle.snapshots.specs.Text.{region_line}
use Rattle.snapshot_lines.specs.Lines.{ReadsAs, IsAny, clipped_region, IsRegionWith}
use Rattle.snapshot_lines.proofs.Lines.{region_reads, no_region_line}
use Rattle.snapshot_lines.proofs.line.region_in.Goals as goal

pub returns-in-None : goal.returns-in-None
returns-in-None c = no_region_line c.args.line.now (fields_left c.of-fields.result.rest) (fields_left c.region_start.new.fields.rest) c.of-fields.ensures c.in-None.ensures

pub returns-in-Some : goal.returns-in-Some
returns-in-Some c =
    IfOk-weaker c.region_with.result (IsRegionWith c.in-Some.start (fields_left c.region_start.new.fields.rest)) (ReadsAs IsAny region_line clipped_region c.args.line.now)
    (λ (o : Option RegionPart). region_reads c.args.line.now (fields_left c.of-fields.result.rest) (fields_left c.region_start.new.fields.rest) c.in-Some.start o c.of-fields.ensures c.in-Some.ensures)
    c.region_with.ensures
