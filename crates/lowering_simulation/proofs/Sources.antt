-- Each run of the code of a sound core tree is a run of the source.
use Rattle.std.proofs.Common.{◌≡◌, List, Some, refl, subst}
use Rattle.sync_objects.specs.Setup.{SetupView, IsWithinLimits}
use Rattle.flow_code.proofs.Runnable.{valid_runnable}
use Rattle.core_tree.specs.Core.{Program}
use Rattle.call_targets.specs.Resolved.{resolved}
use Rattle.call_targets.proofs.Sounds.{resolved_sound}
use Rattle.flow_lower.specs.Lowered.{lowered}
use Rattle.core_tree.specs.Sound.{IsSound}
use Rattle.lower_sound.proofs.Valid.{valid}
use Rattle.core_run.specs.Histories.{run_of}
use Rattle.core_run.specs.Machine.{Told, start_state}
use Rattle.run_theory.specs.Labels.{Label}
use Rattle.run_theory.specs.Steps.{State}
use Rattle.core_run.specs.Walks.{walk_of, out_of}
use Rattle.sync_objects.specs.declared.entry.Entry.{Entry}
use Rattle.lowering_simulation.specs.RunEvents.{events_of_run}
use Rattle.lowering_simulation.specs.WalkEvents.{labels_of_walk, events_of_walk}
use Rattle.lowering_simulation.proofs.Printing.{walk_prints}
use Rattle.lowering_simulation.proofs.WalkRuns.{walk_is_run}
use Rattle.lowering_simulation.specs.SourceRuns.{IsSourceRun, IsBeforeEntry, bytes_of}
use Rattle.lowering_simulation.proofs.Arrives.{MakesRun}
use Rattle.lowering_simulation.proofs.NoStripes.{all_kept}
use Rattle.lowering_simulation.proofs.Starts.{making, starts_run}
use Rattle.lowering_simulation.proofs.StartWorlds.{made_run}

pub source_run : (p : Program) (s : SetupView) (labels : List Label) (end : State Told) → IsSound p → IsWithinLimits s → run_of (lowered (resolved p)) s labels ≡ Some end → IsSourceRun p s IsBeforeEntry (events_of_run (lowered (resolved p)) s labels)
source_run p s labels end sound limits h =
    let code = lowered (resolved p) in
    let runnable = valid_runnable code (valid (resolved p) (resolved_sound p sound) refl) in
    subst (IsSourceRun p s IsBeforeEntry) (all_kept code s refl labels (start_state code s) end h)
    (made_run p s code refl refl sound.cell_kinds limits runnable IsBeforeEntry (MakesRun code s runnable) (making (resolved p) s runnable) (starts_run p s sound runnable limits) labels end h)

pub walk_events : (p : Program) (s : SetupView) (es : List Entry) (end : State Told) → IsSound p → IsWithinLimits s → walk_of (lowered (resolved p)) s es (start_state (lowered (resolved p)) s) ≡ Some end
    → IsSourceRun p s IsBeforeEntry (events_of_walk (lowered (resolved p)) s es) × (out_of (lowered (resolved p)) s es (start_state (lowered (resolved p)) s) ≡ bytes_of (events_of_walk (lowered (resolved p)) s es))
walk_events p s es end sound limits h =
    let code = lowered (resolved p) in
    (source_run p s (labels_of_walk code s es) end sound limits (walk_is_run code s es end h), walk_prints code s es end h)
