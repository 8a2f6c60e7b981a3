use Rattle.std.proofs.Common.{◌≡◌, ℕ, List, ◌++◌, map, length}
use Rattle.snapshots.specs.Text.{pair_text}
use Rattle.snapshot_lines.specs.Fields.{fields_left}
use Rattle.snapshot_lines.specs.Lines.{clipped_pair}
use Rattle.snapshot_lines.proofs.line.pairs.Given as goal

abbrev pub invariant-loop-fields : goal.invariant-loop-fields
invariant-loop-fields l = (ps : List (ℕ × ℕ)) × (l.found ≡ map clipped_pair ps) × (fields_left l.fn.rest.rest ≡ map pair_text ps ++ fields_left l.fields.rest)

abbrev pub decreases-loop-fields : goal.decreases-loop-fields
decreases-loop-fields l = length (fields_left l.fields.rest)
