-- The threads of a source's code begin where those of the source do.
use Rattle.std.proofs.Common.{◌≡◌, ℕ, zero, suc, ◌+◌, cond, not, nat_lt, List, [], ◌∷◌, length, map, Some, None, refl, sym, ap, subst, ◌∙◌}
use Rattle.std.specs.Prelude.{slice_get, unwrap_or}
use Rattle.std.specs.List.{position_or_len}
use Rattle.std.proofs.lemmas.List.{length-map}
use Rattle.sync_objects.specs.Setup.{SetupView, IsWithinLimits}
use Rattle.flow_code.specs.declared.thread.Phase.TheVariants as phase
use Rattle.flow_code.specs.Threads.{is_main_in}
use Rattle.flow_code.specs.Settle.{IsRunnable}
use Rattle.core_tree.specs.Core.{Function, Program}
use Rattle.core_tree.specs.Meaning as meaning
use Rattle.flow_lower.specs.Lowered.{lowered, function_code}
use Rattle.call_targets.specs.Resolved.{resolved}
use Rattle.call_targets.proofs.Places.{main_stays}
use Rattle.call_targets.proofs.Runs.{same_runs}
use Rattle.call_targets.proofs.Sounds.{resolved_sound}
use Rattle.core_tree.specs.Sound.{IsSound}
use Rattle.lower_sound.specs.Follows.{Follows, IsAtStart}
use Rattle.lower_sound.proofs.SoundWithin.{sound_within}
use Rattle.lower_sound.proofs.Threads.{follows}
use Rattle.core_run.specs.Machine.{Told, start_state}
use Rattle.thread_interpreter.specs.Starts.{start_thread}
use Rattle.thread_interpreter.specs.Starts as flow_starts
use Rattle.core_run.proofs.ThreadRanges.{start_thread_is}
use Rattle.lowering_simulation.specs.SourceRuns.{IsBeforeEntry}
use Rattle.lowering_simulation.proofs.Arrives.{MakesRun, arrives_at}
use Rattle.lowering_simulation.proofs.Makings.{IsMaking}
use Rattle.lowering_simulation.proofs.NoStripes.{no_lock}
use Rattle.lowering_simulation.proofs.Proper.{run_proper}

same_place : (fs : List Function) → position_or_len (λ f. is_main_in (Some f)) (map function_code fs) ≡ position_or_len meaning.is_main fs
same_place [] = refl
same_place (f ∷ fs) = ap (λ n. cond (not (meaning.is_main f)) (1 + n) 0) (same_place fs)

-- the code's `main` has the number of the tree's
same_main : (p : Program) → flow_starts.main_of (lowered p) ≡ meaning.main_of p
same_main p =
    let at = position_or_len meaning.is_main p.functions in
    ap (λ n. unwrap_or (cond (nat_lt n (length (map function_code p.functions))) (Some n) None) 0) (same_place p.functions)
    ∙ ap (λ m. unwrap_or (cond (nat_lt at m) (Some at) None) 0) (length-map p.functions function_code)

tree_start : (p : Program) (s : SetupView) (t : ℕ) → IsAtStart p s t (start_thread (lowered p) s t)
tree_start p s zero = record { phase = ap phase.Begun (same_main p); count = refl; arena = refl; printed = refl; below = refl; stripes = refl }
tree_start p s (suc k) = record { phase = refl; count = refl; arena = refl; printed = refl; below = refl; stripes = refl }

module _ (p : Program) (s : SetupView) where
  at_start : (t : ℕ) → IsAtStart p s t (start_thread (lowered (resolved p)) s t)
  at_start zero = record { phase = ap phase.Begun (same_main (resolved p) ∙ main_stays p); count = refl; arena = refl; printed = refl; below = refl; stripes = refl }
  at_start (suc k) = record { phase = refl; count = refl; arena = refl; printed = refl; below = refl; stripes = refl }

  pub starts : (t : ℕ) (told : Told) → slice_get (start_state (lowered (resolved p)) s).threads t ≡ Some told → IsAtStart p s t told.thread
  starts t told e = subst (λ (z : Told). IsAtStart p s t z.thread) (sym (start_thread_is (lowered (resolved p)) s t told e)) (at_start t)

  -- the threads of the code make the runs of the source's threads
  pub follows_source : IsSound p → IsWithinLimits s → (t : ℕ) → Follows (lowered (resolved p)) s t (meaning.run_of p s t) (start_thread (lowered (resolved p)) s t)
  follows_source sound limits t =
      subst (λ r. Follows (lowered (resolved p)) s t r (start_thread (lowered (resolved p)) s t)) (same_runs p s t)
      (follows (resolved p) s t (start_thread (lowered (resolved p)) s t) (sound_within (resolved p) (resolved_sound p sound)) refl limits.some_event (tree_start (resolved p) s t))

  -- each thread has its whole run before it
  pub starts_run : IsSound p → (runnable : IsRunnable (lowered (resolved p))) → IsWithinLimits s → (t : ℕ) → MakesRun (lowered (resolved p)) s runnable t (meaning.run_of p s t) (start_thread (lowered (resolved p)) s t)
  starts_run sound runnable limits t = (run_proper p s t, follows_source sound limits t)

-- what the threads of a code make; it has no stripe that could be revoked
pub making : (p : Program) (s : SetupView) (runnable : IsRunnable (lowered p)) → IsMaking (lowered p) s IsBeforeEntry (MakesRun (lowered p) s runnable)
making p s runnable = record {
  arrives = λ t r th h. arrives_at (lowered p) s runnable t r th h;
  revoked = λ t r th lock stripe has may h. absurd (no_lock (lowered p) s refl lock stripe has);
}
