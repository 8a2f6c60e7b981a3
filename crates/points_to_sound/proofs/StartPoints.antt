-- In each state of a valid code all pointers point where the analysis says.
use Rattle.std.proofs.Common.{◌≡◌, ℕ, zero, suc, ◌+◌, ◌*◌, ◌<◌, ◌≤◌, true, List, [], length, Some, sym, ap, subst, arith, inl}
use Rattle.std.specs.Prelude.{slice_get}
use Rattle.std.proofs.lemmas.Option.{slice_get_within}
use Rattle.rr_base.specs.Words.{site_of}
use Rattle.sync_objects.specs.Setup.{SetupView, IsWithinLimits}
use Rattle.word_semantics.specs.Cells.{result_cell}
use Rattle.flow_code.specs.Constants.{constants_fit}
use Rattle.flow_code.specs.declared.code.Code.{Code}
use Rattle.flow_code.specs.declared.thread.Phase.TheVariants as phase
use Rattle.flow_code.specs.Threads.{is_main}
use Rattle.flow_code.specs.Valid.{is_valid}
use Rattle.flow_code.proofs.Runnable.{valid_runnable}
use Rattle.core_run.specs.Histories.{IsReachable}
use Rattle.core_run.specs.Machine.{Told, start_state}
use Rattle.thread_interpreter.specs.Starts.{main_of, start_thread, start_phase}
use Rattle.core_run.specs.Words.{start_words}
use Rattle.core_run.proofs.ThreadRanges.{start_thread_is}
use Rattle.run_theory.specs.Steps.{State}
use Rattle.facts.specs.declared.constraint.Node.TheVariants.{Ended}
use Rattle.points_to_sound.specs.Creations.{Creation, creation}
use Rattle.points_to_sound.specs.Objects.{Object, IsLeft}
use Rattle.points_to_sound.specs.Pointing.{IsGood, nowhere, GoodThread, GoodResults}
use Rattle.points_to_sound.specs.States.{marks_of, PointsWell}
use Rattle.points_to_sound.proofs.Globals.{address_good}
use Rattle.points_to_sound.proofs.Layouts.{arena_inside}
use Rattle.points_to_sound.proofs.Moved.{map_long}
use Rattle.points_to_sound.proofs.Pointed.{points_well}
use Rattle.points_to_sound.proofs.Settling.{Sets}
use Rattle.points_to_sound.proofs.Start.{mark_is, laid_at_start, cells_at_start}
use Rattle.points_to_sound.proofs.StartCells.{StartsWith, with_zero, with_global, starts_with}
use Rattle.core_run.proofs.Reached.{start_length}
use Rattle.points_to_sound.proofs.HandedOver.{not_started_at_start}

module _ (code : Code) (s : SetupView) (valid : is_valid code ≡ true) (fit : constants_fit code ≡ true) (limits : IsWithinLimits s) (main : is_main code (main_of code) ≡ true) where
  pub sets : Sets code s
  sets = record { valid = valid; constants = fit; limits = limits; addresses = λ made. address_good code valid s limits.few_slots made }

  within : (t mark : ℕ) → slice_get (marks_of (start_state code s).threads) t ≡ Some mark → t < s.slots
  within t mark e = let w = slice_get_within (marks_of (start_state code s).threads) t mark e in let n = map_long (λ (told : Told). told.thread.arena) (start_state code s).threads in let m = start_length code s 0 s.slots in omega arith

  fresh : (c w : ℕ) → IsLeft code s (marks_of (start_state code s).threads) c → slice_get (start_words code s) c ≡ Some w → w ≡ 0
  fresh c w h e =
      let to = h.to in
      let lt = within h.thread h.mark h.is in
      let high = mark_is code s valid limits h.thread h.mark h.is in
      let from = h.from in
      by (omega arith) (starts_with code s valid c w (arena_inside s.slots (2 * s.slots + length code.globals) s.cells h.thread c lt (omega arith)) e)
    where
      by : 2 * s.slots + length code.globals ≤ c → StartsWith code s c w → w ≡ 0
      by le (with_zero z) = z
      by le (with_global i at f) = let few = slice_get_within code.globals i f.word f.is_word in absurd (omega arith)

  results : GoodResults code s [] (start_words code s)
  results k w lt e = by (starts_with code s valid (result_cell k) w (omega arith) e)
    where
      by : StartsWith code s (result_cell k) w → IsGood code s [] Ended w
      by (with_zero z) = nowhere (ap site_of z)
      by (with_global i at f) = absurd (omega arith)

  good_thread : (t : ℕ) → GoodThread code s [] (start_thread code s t)
  good_thread zero = inl main
  good_thread (suc t) = tt

  none_fresh : {P : Type 0} (t : ℕ) (x : Creation) → creation code (start_thread code s t) ≡ Some x → P
  none_fresh zero x e = cc
  none_fresh (suc t) x e = cc

  never_begun : {P : Type 0} (t f : ℕ) → 0 < t → start_phase code t ≡ phase.Begun f → P
  never_begun zero f lt e = absurd (omega arith)
  never_begun (suc t) f lt e = cc

  start_points : PointsWell code s [] (start_state code s)
  start_points = record {
    laid = laid_at_start code s valid limits fresh;
    cells = cells_at_start code s valid limits;
    results = results;
    threads = λ t told at. subst (λ (z : Told). GoodThread code s [] z.thread) (sym (start_thread_is code s t told at)) (good_thread t);
    handed = λ t w told x at c handed e. none_fresh t x (subst (λ (z : Told). creation code z.thread ≡ Some x) (start_thread_is code s t told at) c);
    ready = λ k f lt e. absurd (not_started_at_start code s (valid_runnable code valid) limits k f lt e);
    arrived = λ t f w told some at p e. never_begun t f some (subst (λ (z : Told). z.thread.phase ≡ phase.Begun f) (start_thread_is code s t told at) p);
  }

  -- in each state that is reached, with the objects that threads have made
  pub always_points : (st : State Told) → IsReachable code s st → (made : List Object) × PointsWell code s made st
  always_points st reached = points_well code s sets start_points st reached
