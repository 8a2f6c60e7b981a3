use Rattle.std.proofs.Common.{◌≡◌, ◌+◌, ◌*◌, List, None, length}
use Rattle.snapshots.specs.Conditions.{regions_judged}
use Rattle.thread_interpreter.specs.declared.part.StripePart.{StripePart}
use Rattle.snapshot_reader.specs.Misfits.{Judging}
use Rattle.snapshot_reader.specs.Tallies.{AreBelow, AreListed}
use Rattle.snapshot_reader.proofs.regions.misfit_region.Given as goal

abbrev pub invariant-loop-rest : goal.invariant-loop-rest
invariant-loop-rest l = record {
  judging : (stripes : List StripePart) → AreListed (length l.code.locks) stripes l.listed → Judging (regions_judged l.code l.frames stripes None l.regions) (regions_judged l.code l.frames stripes l.before l.rest) l.first l.line;
  whole : length l.marks.items ≡ 8 * length l.code.locks;
  fresh : AreBelow l.mark l.marks.items;
  numbered : l.mark + length l.rest ≡ length l.regions + 1;
}

abbrev pub decreases-loop-rest : goal.decreases-loop-rest
decreases-loop-rest l = length l.rest
