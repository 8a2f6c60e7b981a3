-- The entries of each run of weakened code are within the limits of a log.
use Rattle.std.proofs.Common.{◌≡◌, List, Some, refl, sym, subst}
use Rattle.std.specs.List.{AllByRecursion}
use Rattle.sync_objects.specs.Setup.{SetupView, IsWithinLimits}
use Rattle.sync_objects.specs.Names.{Fits}
use Rattle.sync_objects.specs.declared.entry.Entry.{Entry}
use Rattle.sync_objects.specs.declared.entry.Noted.{Noted}
use Rattle.flow_code.specs.declared.code.Code.{Code}
use Rattle.core_run.specs.Histories.{run_of, list_of, lists_of, entries_in}
use Rattle.core_run.specs.Machine.{Told}
use Rattle.core_run.proofs.WholeRuns.{written_is_merge}
use Rattle.lock_sound.specs.Weakened.{Analysed, IsAnalysed}
use Rattle.lock_sound.proofs.Running.{weakened_runs, weakened_is_valid}
use Rattle.order_log.specs.Log.{AreWithin}
use Rattle.run_theory.specs.Labels.{Label}
use Rattle.run_theory.specs.Merge.{IsMerge, written_merge}
use Rattle.run_theory.specs.Steps.{State}
use Rattle.weak_lock_facts.specs.Ranges.{ranges_of}
use Rattle.guard_paths.proofs.Ends.{nothing_left}
use Rattle.log_limits.proofs.Leaving.{EndsEmpty}
use Rattle.log_limits.proofs.Within.{merge_is_within, revoked_early}

ends_empty : (a : Analysed) (s : SetupView) → IsAnalysed a → EndsEmpty a.weak s
ends_empty a s h =
    subst (λ (c : Code). EndsEmpty c s) (sym h.weak)
    (λ t th value reached running below at. (nothing_left a.plain a.points a.pairs (ranges_of a.plain a.points) a.profile a.grains.rows h.valid h.without_locks h.apart h.closed refl h.grains s t th value reached running below at).0)

pub each_merge_is_within : (a : Analysed) (setup : SetupView) (labels : List Label) (end : State Told) (merged : List Noted) → IsAnalysed a → IsWithinLimits setup → run_of a.weak setup labels ≡ Some end → IsMerge (list_of end) merged → AreWithin setup (entries_in merged) × AllByRecursion (λ (e : Entry). Fits e.op e.obj) (entries_in merged)
each_merge_is_within a setup labels end merged h limits runs m =
    merge_is_within a.weak setup (weakened_is_valid a h) limits (revoked_early a.weak setup (weakened_runs a h) limits (ends_empty a setup h)) labels end merged runs m

pub log_is_within : (a : Analysed) (setup : SetupView) (labels : List Label) (end : State Told) → IsAnalysed a → IsWithinLimits setup → run_of a.weak setup labels ≡ Some end → AreWithin setup (entries_in (written_merge (lists_of end))) × AllByRecursion (λ (e : Entry). Fits e.op e.obj) (entries_in (written_merge (lists_of end)))
log_is_within a setup labels end h limits runs =
    each_merge_is_within a setup labels end (written_merge (lists_of end)) h limits runs (written_is_merge a.weak setup (weakened_runs a h) limits labels end runs)
