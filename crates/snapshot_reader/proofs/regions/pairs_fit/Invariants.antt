use Rattle.std.proofs.Common.{◌≡◌, ◌+◌, ◌*◌, List, length}
use Rattle.std.specs.Prelude.{◌&&◌}
use Rattle.std.specs.List.{list_all}
use Rattle.snapshots.specs.Conditions.{all_differ, is_among}
use Rattle.thread_interpreter.specs.declared.part.StripePart.{StripePart}
use Rattle.snapshot_reader.specs.Tallies.{AreBelow, AreListed}
use Rattle.snapshot_reader.proofs.Tallying.{is_free}
use Rattle.snapshot_reader.proofs.regions.pairs_fit.Given as goal

-- those that are left differ from each other and from those that are marked
abbrev pub invariant-loop-rest : goal.invariant-loop-rest
invariant-loop-rest l = record {
  marks : length l.marks ≡ 8 * l.locks;
  used : AreBelow (l.mark + 1) l.marks;
  fits : (stripes : List StripePart) → AreListed l.locks stripes l.listed
      → (all_differ l.pairs && list_all (is_among stripes) l.pairs) ≡ ((all_differ l.rest && list_all (is_among stripes) l.rest) && list_all (is_free l.mark l.marks) l.rest);
}

abbrev pub decreases-loop-rest : goal.decreases-loop-rest
decreases-loop-rest l = length l.rest
