use Rattle.std.proofs.Common.{◌≡◌, ◌++◌, ◌<◌, ◌^◌, map, length}
use Rattle.std.specs.List.{AllByRecursion}
use Rattle.reads_text.specs.Text.{value_text}
use Rattle.snapshot_lines.specs.Fields.{fields_left}
use Rattle.snapshot_lines.proofs.line.values.Given as goal

abbrev pub invariant-loop-fields : goal.invariant-loop-fields
invariant-loop-fields l = record { small : AllByRecursion (λ w. w < 2 ^ 64) l.found; so_far : fields_left l.fn.rest.rest ≡ map value_text l.found ++ fields_left l.fields.rest }

abbrev pub decreases-loop-fields : goal.decreases-loop-fields
decreases-loop-fields l = length (fields_left l.fields.rest)
