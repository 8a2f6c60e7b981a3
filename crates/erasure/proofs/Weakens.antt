-- Each run of weakened code is a run of the source.
use Rattle.std.proofs.Common.{◌≡◌, ℕ, true, List, Some, refl, sym, ap, ◌∙◌, length}
use Rattle.sync_objects.specs.Setup.{SetupView, IsWithinLimits}
use Rattle.sync_objects.specs.declared.entry.Entry.{Entry}
use Rattle.flow_code.specs.declared.code.Code.{Code}
use Rattle.flow_code.specs.Settle.{IsRunnable}
use Rattle.flow_code.specs.Threads.{objects_in}
use Rattle.flow_code.specs.Valid.{is_valid}
use Rattle.flow_code.proofs.Runnable.{valid_runnable}
use Rattle.facts.specs.declared.pair.Pair.{Pair}
use Rattle.facts.specs.PointsTo.{Tables}
use Rattle.weak_lock_facts.specs.declared.grain.Grained.{Grained}
use Rattle.weak_lock_facts.specs.declared.range.Range.{Range}
use Rattle.weak_code.specs.Stripped.{strip}
use Rattle.weak_code.specs.Weakened.{weakened}
use Rattle.weak_code.proofs.Stripping.{strip-weakened}
use Rattle.core_tree.specs.Core.{Program}
use Rattle.core_tree.specs.Meaning as meaning
use Rattle.call_targets.specs.Resolved.{resolved}
use Rattle.call_targets.proofs.Sounds.{resolved_sound}
use Rattle.flow_lower.specs.Lowered.{lowered}
use Rattle.core_tree.specs.Sound.{IsSound}
use Rattle.lower_sound.specs.Follows.{Follows}
use Rattle.lower_sound.proofs.Valid.{valid}
use Rattle.core_run.specs.Histories.{run_of}
use Rattle.core_run.specs.Machine.{Told, start_state}
use Rattle.thread_interpreter.specs.Starts.{start_thread}
use Rattle.core_run.specs.Walks.{walk_of, out_of}
use Rattle.run_theory.specs.Labels.{Label}
use Rattle.run_theory.specs.Steps.{State}
use Rattle.lowering_simulation.specs.SourceRuns.{IsSourceRun, bytes_of}
use Rattle.lowering_simulation.proofs.Proper.{HasEvents, run_proper}
use Rattle.lowering_simulation.proofs.Starts.{follows_source}
use Rattle.erasure.specs.Erased.{erased_events, erased_walk, IsAnywhere}
use Rattle.erasure.proofs.Bare.{HasObjects}
use Rattle.erasure.proofs.Fronts.{weakened_objects}
use Rattle.erasure.proofs.LowerFronts.{loops_are_after, lowered_plain}
use Rattle.erasure.proofs.Printing.{erased_prints}
use Rattle.erasure.proofs.Starts.{erased_run, erased_walk_run}
use Rattle.erasure.proofs.ValidFronts.{valid_objects}
use Rattle.erasure.proofs.WeakRuns.{weakened_runnable}

-- the threads of the source's code
lowered_starts : (p : Program) (s : SetupView) → IsSound p → IsWithinLimits s → (t : ℕ) → HasEvents (meaning.run_of p s t) × Follows (lowered (resolved p)) s t (meaning.run_of p s t) (start_thread (lowered (resolved p)) s t)
lowered_starts p s sound limits t = (run_proper p s t, follows_source p s sound limits t)

-- ---- a valid code that is another without its weak locks

module _ (p : Program) (w plain : Code) (s : SetupView) (limits : IsWithinLimits s) (fine : is_valid w ≡ true) (strips : strip w ≡ plain) (globals_are : plain.globals ≡ p.globals) (kinds_are : plain.global_kinds ≡ p.global_kinds) (each_kind : length p.global_kinds ≡ length p.globals) (follows : (t : ℕ) → Follows plain s t (meaning.run_of p s t) (start_thread plain s t)) where
  pub followed_run : (labels : List Label) (end : State Told) → run_of w s labels ≡ Some end → IsSourceRun p s IsAnywhere (erased_events w s labels)
  followed_run labels end h = erased_run p w plain s strips globals_are kinds_are each_kind (valid_objects w fine) (valid_runnable w fine) limits (λ t. (run_proper p s t, follows t)) labels end h

  pub followed_walk : (es : List Entry) (end : State Told) → walk_of w s es (start_state w s) ≡ Some end → IsSourceRun p s IsAnywhere (erased_walk w s es) × (out_of w s es (start_state w s) ≡ bytes_of (erased_walk w s es))
  followed_walk es end h = (erased_walk_run p w plain s strips globals_are kinds_are each_kind (valid_objects w fine) (valid_runnable w fine) limits (λ t. (run_proper p s t, follows t)) es end h, erased_prints w s (valid_runnable w fine) es end h)

pub stripped_run : (p : Program) (w : Code) (s : SetupView) (labels : List Label) (end : State Told) → IsSound p → IsWithinLimits s → is_valid w ≡ true → strip w ≡ lowered (resolved p) → run_of w s labels ≡ Some end → IsSourceRun p s IsAnywhere (erased_events w s labels)
stripped_run p w s labels end sound limits fine strips h = followed_run p w (lowered (resolved p)) s limits fine strips refl refl sound.cell_kinds (λ t. (lowered_starts p s sound limits t).1) labels end h

pub stripped_walk : (p : Program) (w : Code) (s : SetupView) (es : List Entry) (end : State Told) → IsSound p → IsWithinLimits s → is_valid w ≡ true → strip w ≡ lowered (resolved p) → walk_of w s es (start_state w s) ≡ Some end → IsSourceRun p s IsAnywhere (erased_walk w s es) × (out_of w s es (start_state w s) ≡ bytes_of (erased_walk w s es))
stripped_walk p w s es end sound limits fine strips h = followed_walk p w (lowered (resolved p)) s limits fine strips refl refl sound.cell_kinds (λ t. (lowered_starts p s sound limits t).1) es end h

-- ---- weakened code

module _ (p : Program) (t : Tables) (vs : List Pair) (rs : List Range) (rows : List Grained) (sound : IsSound p) where
  strips : strip (weakened (lowered (resolved p)) t vs rs rows) ≡ lowered (resolved p)
  strips = strip-weakened (lowered (resolved p)) t vs rs rows (valid (resolved p) (resolved_sound p sound) refl) (lowered_plain (resolved p))

  objects : HasObjects (weakened (lowered (resolved p)) t vs rs rows)
  objects f = ap (λ c. objects_in c f) strips ∙ sym (weakened_objects (lowered (resolved p)) t vs rs rows (loops_are_after (resolved p)) f)

  runnable : IsRunnable (weakened (lowered (resolved p)) t vs rs rows)
  runnable = weakened_runnable (lowered (resolved p)) t vs rs rows (valid_runnable (lowered (resolved p)) (valid (resolved p) (resolved_sound p sound) refl))

  pub weakened_run : (s : SetupView) (labels : List Label) (end : State Told) → IsWithinLimits s → run_of (weakened (lowered (resolved p)) t vs rs rows) s labels ≡ Some end → IsSourceRun p s IsAnywhere (erased_events (weakened (lowered (resolved p)) t vs rs rows) s labels)
  weakened_run s labels end limits h = erased_run p (weakened (lowered (resolved p)) t vs rs rows) (lowered (resolved p)) s strips refl refl sound.cell_kinds objects runnable limits (lowered_starts p s sound limits) labels end h

  pub weakened_walk : (s : SetupView) (es : List Entry) (end : State Told) → IsWithinLimits s → walk_of (weakened (lowered (resolved p)) t vs rs rows) s es (start_state (weakened (lowered (resolved p)) t vs rs rows) s) ≡ Some end →
      IsSourceRun p s IsAnywhere (erased_walk (weakened (lowered (resolved p)) t vs rs rows) s es) × (out_of (weakened (lowered (resolved p)) t vs rs rows) s es (start_state (weakened (lowered (resolved p)) t vs rs rows) s) ≡ bytes_of (erased_walk (weakened (lowered (resolved p)) t vs rs rows) s es))
  weakened_walk s es end limits h = (erased_walk_run p (weakened (lowered (resolved p)) t vs rs rows) (lowered (resolved p)) s strips refl refl sound.cell_kinds objects runnable limits (lowered_starts p s sound limits) es end h, erased_prints (weakened (lowered (resolved p)) t vs rs rows) s runnable es end h)
