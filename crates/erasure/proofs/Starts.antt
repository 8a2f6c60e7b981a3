-- The threads of a code with weak locks begin where they begin without them.
use Rattle.std.proofs.Common.{◌≡◌, ℕ, zero, suc, ◌+◌, cond, not, nat_lt, List, [], ◌∷◌, length, map, Some, None, refl, sym, ap, subst, ◌∙◌, pos, arith}
use Rattle.std.specs.Prelude.{unwrap_or}
use Rattle.std.specs.List.{position_or_len}
use Rattle.std.proofs.lemmas.List.{length-map}
use Rattle.sync_objects.specs.Setup.{SetupView, IsWithinLimits}
use Rattle.flow_code.specs.declared.code.Code.{Code}
use Rattle.flow_code.specs.declared.code.Function.{Function}
use Rattle.flow_code.specs.declared.thread.Phase.{Phase}
use Rattle.flow_code.specs.declared.thread.Phase.TheVariants as phase
use Rattle.flow_code.specs.Settle.{IsRunnable}
use Rattle.flow_code.specs.Threads.{Thread, is_main_in}
use Rattle.weak_code.specs.Stripped.{strip_function, strip}
use Rattle.weak_code.proofs.Stripping.{plain_zero}
use Rattle.core_tree.specs.Core.{Program}
use Rattle.core_tree.specs.Meaning as meaning
use Rattle.lower_sound.specs.Follows.{Follows}
use Rattle.core_run.specs.Histories.{run_of}
use Rattle.core_run.specs.Machine.{Told, start_state}
use Rattle.thread_interpreter.specs.Starts.{start_thread, main_of}
use Rattle.core_run.specs.Walks.{walk_of}
use Rattle.run_theory.specs.Labels.{Label}
use Rattle.run_theory.specs.Steps.{State}
use Rattle.sync_objects.specs.declared.entry.Entry.{Entry}
use Rattle.lowering_simulation.specs.SourceRuns.{IsSourceRun}
use Rattle.lowering_simulation.specs.WalkEvents.{labels_of_walk}
use Rattle.lowering_simulation.proofs.Proper.{HasEvents}
use Rattle.lowering_simulation.proofs.StartWorlds.{made_run}
use Rattle.lowering_simulation.proofs.WalkRuns.{walk_is_run}
use Rattle.erasure.specs.Erased.{erased_events, erased_walk, IsAnywhere}
use Rattle.erasure.proofs.Arrives.{making}
use Rattle.erasure.proofs.Bare.{instrs_of, frame_with, bare, HasObjects}
use Rattle.erasure.proofs.Makes.{Makes}
use Rattle.erasure.proofs.Placed.{IsPlaced}

same_place : (fns : List Function) → position_or_len (λ f. is_main_in (Some f)) (map strip_function fns) ≡ position_or_len (λ f. is_main_in (Some f)) fns
same_place [] = refl
same_place (f ∷ fns) = ap (λ n. cond (not (is_main_in (Some f))) (1 + n) 0) (same_place fns)

-- `main` has the same number
same_main : (w : Code) → main_of (strip w) ≡ main_of w
same_main w =
    let at = position_or_len (λ (f : Function). is_main_in (Some f)) w.functions in
    ap (λ n. unwrap_or (cond (nat_lt n (length (map strip_function w.functions))) (Some n) None) 0) (same_place w.functions)
    ∙ ap (λ m. unwrap_or (cond (nat_lt at m) (Some at) None) 0) (length-map w.functions strip_function)

module _ (w : Code) (s : SetupView) where
  starts_with : Thread → Phase → ℕ → Thread
  starts_with th p k = record th { phase = p; top = frame_with 0 k 0 (pos 0) []; entries = 0 }

  pub same_start : (t : ℕ) → start_thread (strip w) s t ≡ bare w 0 (start_thread w s t)
  unfolding starts_with
  same_start zero =
      ap (λ n. starts_with (start_thread w s 0) (phase.Begun n) 0) (same_main w)
      ∙ ap (λ k. starts_with (start_thread w s 0) (phase.Begun (main_of w)) k) (sym (plain_zero (instrs_of w 0)))
  same_start (suc t) = ap (λ k. starts_with (start_thread w s (suc t)) phase.Fresh k) (sym (plain_zero (instrs_of w 0)))

  pub starts_placed : (t : ℕ) → IsPlaced w (start_thread w s t)
  starts_placed t = record { fresh = λ e. (refl, refl); callers = λ k f e. cc }

module _ (p : Program) (w plain : Code) (s : SetupView) (strips : strip w ≡ plain) (globals_are : plain.globals ≡ p.globals) (kinds_are : plain.global_kinds ≡ p.global_kinds) (each_kind : length p.global_kinds ≡ length p.globals) where
  module _ (objects : HasObjects w) (runnable : IsRunnable w) (limits : IsWithinLimits s) (starts : (t : ℕ) → HasEvents (meaning.run_of p s t) × Follows plain s t (meaning.run_of p s t) (start_thread plain s t)) where
    starts_makes : (t : ℕ) → Makes w objects s t (meaning.run_of p s t) (start_thread w s t)
    starts_makes t =
        let made = starts t in
        record {
          entries = 0;
          few = omega arith;
          placed = starts_placed w s t;
          begins = λ f. refl;
          has = made.0;
          follows = subst (Follows (strip w) s t (meaning.run_of p s t)) (same_start w s t) (subst (λ (c : Code). Follows c s t (meaning.run_of p s t) (start_thread c s t)) (sym strips) made.1);
        }

    -- Where the threads of a code make the source's runs, each run of a code that is this one without its weak locks is a run of
    -- the source, but for its operations on stripes.
    pub erased_run : (labels : List Label) (end : State Told) → run_of w s labels ≡ Some end → IsSourceRun p s IsAnywhere (erased_events w s labels)
    erased_run labels end h =
        made_run p s w (ap (λ (c : Code). c.globals) strips ∙ globals_are) (ap (λ (c : Code). c.global_kinds) strips ∙ kinds_are) each_kind limits runnable IsAnywhere (Makes w objects s) (making w objects s limits runnable) starts_makes labels end h

    -- and so is each walk
    pub erased_walk_run : (es : List Entry) (end : State Told) → walk_of w s es (start_state w s) ≡ Some end → IsSourceRun p s IsAnywhere (erased_walk w s es)
    erased_walk_run es end h = erased_run (labels_of_walk w s es) end (walk_is_run w s es end h)
