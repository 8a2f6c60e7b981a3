-- A run of a machine whose threads make the runs of a source is a run of the source, but for its operations on stripes.
use Rattle.std.proofs.Common.{◌≡◌, ℕ, Bool, true, false, if◌then◌else◌, nat_eq, List, [], ◌∷◌, ◌++◌, length, Option, Some, None, refl, sym, ap, subst, ◌∙◌, length-set, arith}
use Rattle.std.specs.Prelude.{slice_get, slice_set, option_and_then}
use Rattle.std.proofs.lemmas.Bool.{true≢false, eqb-true}
use Rattle.std.proofs.lemmas.Option.{same_Some, slice_get_within}
use Rattle.rr_base.proofs.Lists.{slice_get-set_other, slice_get-set_same}
use Rattle.sync_objects.specs.Setup.{SetupView, IsWithinLimits}
use Rattle.flow_code.specs.declared.code.Code.{Code}
use Rattle.flow_code.specs.Threads.{Thread}
use Rattle.flow_code.specs.Settle.{IsRunnable}
use Rattle.core_tree.specs.Core.{Program}
use Rattle.core_tree.specs.Runs.{Run}
use Rattle.core_run.specs.Words.{cells_of}
use Rattle.core_run.specs.Machine.{Told, machine}
use Rattle.run_theory.specs.Labels.{Label, label_thread}
use Rattle.run_theory.specs.Steps.{State, stepped, run}
use Rattle.run_theory.proofs.Swap.{steps_of}
use Rattle.lowering_simulation.specs.RunEvents.{transition_of, transition_at, transitions_on, transitions_from, without_stripes}
use Rattle.lowering_simulation.specs.SourceRuns.{Progress, World, ThreadTransition, after, standing_after, cell_count, IsRunFrom}
use Rattle.lowering_simulation.proofs.Labels.{IsDone, of_source, of_stripe, label_step}
use Rattle.lowering_simulation.proofs.Makings.{IsMaking, IsProgress}
use Rattle.lowering_simulation.proofs.Worlds.{Shows}

module _ (p : Program) (s : SetupView) (code : Code) (same_cells : cells_of code s ≡ cell_count p s) (limits : IsWithinLimits s) (runnable : IsRunnable code) (MayFill : Run → Type 0) (Makes : ℕ → Run → Thread → Type 0) (making : IsMaking code s MayFill Makes) where
  -- the machine's state is the source's world
  pub record Matches (st : State Told) (w : World) : Type 0 where
    pub words : Shows p s code same_cells limits st.words w
    pub count : length st.threads ≡ s.slots
    pub threads : (t : ℕ) (told : Told) → slice_get st.threads t ≡ Some told → IsProgress code s MayFill Makes t (w.threads t) told.thread

  eq_is : (m n : ℕ) → m ≡ n → nat_eq m n ≡ true
  eq_is m n same = grind (arith, same)

  -- one thread has moved
  moved : (threads : List Told) (w : ℕ → Progress) (t : ℕ) (before q : Told) (x : Progress) → slice_get threads t ≡ Some before → IsProgress code s MayFill Makes t x q.thread → ((u : ℕ) (told : Told) → slice_get threads u ≡ Some told → IsProgress code s MayFill Makes u (w u) told.thread) →
      (u : ℕ) (told : Told) (b : Bool) → nat_eq u t ≡ b → slice_get (slice_set threads t q) u ≡ Some told → IsProgress code s MayFill Makes u (if b then x else w u) told.thread
  moved threads w t before q x at stands others u told true e h =
      let same : u ≡ t = eqb-true u t e in
      let is : q ≡ told = same_Some q told (sym (slice_get-set_same threads t q before at) ∙ ap (slice_get (slice_set threads t q)) (sym same) ∙ h) in
      subst (λ n. IsProgress code s MayFill Makes n x told.thread) (sym same) (subst (λ (z : Told). IsProgress code s MayFill Makes t x z.thread) is stands)
  moved threads w t before q x at stands others u told false e h = others u told (sym (slice_get-set_other threads t u q (λ same. true≢false (sym (eq_is u t same) ∙ e))) ∙ h)

  -- and stands where it stood
  stayed : (threads : List Told) (w : ℕ → Progress) (t : ℕ) (before q : Told) → slice_get threads t ≡ Some before → IsProgress code s MayFill Makes t (w t) q.thread → ((u : ℕ) (told : Told) → slice_get threads u ≡ Some told → IsProgress code s MayFill Makes u (w u) told.thread) →
      (u : ℕ) (told : Told) (b : Bool) → nat_eq u t ≡ b → slice_get (slice_set threads t q) u ≡ Some told → IsProgress code s MayFill Makes u (w u) told.thread
  stayed threads w t before q at stands others u told true e h =
      let same : u ≡ t = eqb-true u t e in
      subst (λ n. IsProgress code s MayFill Makes u (w n) told.thread) (sym same) (moved threads w t before q (w t) at stands others u told true e h)
  stayed threads w t before q at stands others u told false e h = moved threads w t before q (w t) at stands others u told false e h

  abbrev transition_in : State Told → Label → Told → ThreadTransition
  transition_in st l told = record { thread = label_thread l; transition = transition_of code s st.words l told.thread }

  abbrev Goes : World → List ThreadTransition → Type 0
  Goes w ds = IsRunFrom p s MayFill w (without_stripes ds)

  module _ (st st1 : State Told) (l : Label) (w : World) (m : Matches st w) (e : stepped (machine code s) st l ≡ Some st1) (ds : List ThreadTransition) (more : (w1 : World) → Matches st1 w1 → IsRunFrom p s MayFill w1 (without_stripes ds)) where
    one_step : (before q : Told) (words : List ℕ) → slice_get st.threads (label_thread l) ≡ Some before → st1.words ≡ words → st1.threads ≡ slice_set st.threads (label_thread l) q →
        IsDone p s code same_cells limits runnable MayFill Makes making (label_thread l) (w.threads (label_thread l)) w words q.thread (transition_of code s st.words l before.thread) → IsRunFrom p s MayFill w (without_stripes (transition_in st l before ∷ ds))
    one_step before q words stands words_are threads_are (of_source source may shows thread) =
        let t = label_thread l in
        let d = transition_in st l before in
        let few = slice_get_within st.threads t before stands in
        let count = m.count in
        let m1 : Matches st1 (after w d) = record {
          words = subst (λ ws. Shows p s code same_cells limits ws (after w d)) (sym words_are) (record { cells = shows.cells; objects = shows.objects });
          count = ap length threads_are ∙ length-set st.threads t q ∙ m.count;
          threads = λ u told is. moved st.threads w.threads t before q (standing_after (w.threads t) d.transition) stands thread m.threads u told (nat_eq u t) refl (ap (λ ths. slice_get ths u) (sym threads_are) ∙ is);
        } in
        subst (λ b. IsRunFrom p s MayFill w (if b then without_stripes ds else d ∷ without_stripes ds)) (sym source) (omega arith, may, more (after w d) m1)
    one_step before q words stands words_are threads_are (of_stripe stripe shows thread) =
        let t = label_thread l in
        let d = transition_in st l before in
        let m1 : Matches st1 w = record {
          words = subst (λ ws. Shows p s code same_cells limits ws w) (sym words_are) shows;
          count = ap length threads_are ∙ length-set st.threads t q ∙ m.count;
          threads = λ u told is. stayed st.threads w.threads t before q stands thread m.threads u told (nat_eq u t) refl (ap (λ ths. slice_get ths u) (sym threads_are) ∙ is);
        } in
        subst (λ b. IsRunFrom p s MayFill w (if b then without_stripes ds else d ∷ without_stripes ds)) (sym stripe) (more w m1)

    step : IsRunFrom p s MayFill w (without_stripes (transition_at code s st.words l (slice_get st.threads (label_thread l)) ++ ds))
    step =
        let x = steps_of (machine code s) st l st1 e in
        let t = label_thread l in
        let i = label_step p s code same_cells limits runnable MayFill Makes making l st.words x.words w x.before x.after (w.threads t) m.words (m.threads t x.before x.stands) x.leaves in
        subst (λ o. IsRunFrom p s MayFill w (without_stripes (transition_at code s st.words l o ++ ds))) (sym x.stands)
        (one_step x.before x.after x.words x.stands (ap (λ (z : State Told). z.words) x.to) (ap (λ (z : State Told). z.threads) x.to) i)

  pub simulates : (ls : List Label) (st end : State Told) (w : World) → Matches st w → run (machine code s) ls st ≡ Some end → IsRunFrom p s MayFill w (without_stripes (transitions_from code s ls st))
  simulates [] st end w m h = tt
  simulates (l ∷ ls) st end w m h = by (stepped (machine code s) st l) refl h (λ st1 w1 m1 h1. simulates ls st1 end w1 m1 h1)
    where
      by : (o : Option (State Told)) → stepped (machine code s) st l ≡ o → option_and_then (run (machine code s) ls) o ≡ Some end →
          ((st1 : State Told) (w1 : World) → Matches st1 w1 → run (machine code s) ls st1 ≡ Some end → IsRunFrom p s MayFill w1 (without_stripes (transitions_from code s ls st1))) →
          IsRunFrom p s MayFill w (without_stripes (transition_at code s st.words l (slice_get st.threads (label_thread l)) ++ transitions_on code s (transitions_from code s ls) o))
      by None e h more = cc
      by (Some st1) e h more = step st st1 l w m e (transitions_from code s ls st1) (λ w1 m1. more st1 w1 m1 h)
