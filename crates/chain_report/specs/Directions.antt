-- For private clauses: whether some entry after the one point comes before some entry that is before the other.
use Rattle.std.specs.Prelude.{◌||◌, Bool, false, if◌then◌else◌, List, [], ◌∷◌, Some}
use Rattle.sync_objects.specs.declared.entry.Entry.{Entry}
use Rattle.chain_report.specs.Chains.{is_after, is_before}
use Rattle.chain_report.specs.declared.point.Point.{Point}

-- one of the entries is before the point
abbrev pub has_before : Point → List Entry → Bool
has_before to [] = false
has_before to (e ∷ es) = is_before to (Some e) || has_before to es

-- one that is before the second point comes behind the first of those after the first point: without that no chain leads there
abbrev pub may_lead : Point → Point → List Entry → Bool
may_lead from to [] = false
may_lead from to (e ∷ es) = if is_after from (Some e) then has_before to es else may_lead from to es
