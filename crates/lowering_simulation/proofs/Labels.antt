-- Each label of the machine is a transition that the source allows, or an operation on a stripe.
use Rattle.std.proofs.Common.{◌≡◌, ℕ, ◌⊎◌, inl, inr, Bool, true, false, not, List, [], refl, sym, ap, subst, ◌∙◌}
use Rattle.std.proofs.lemmas.Bool.{true≢false, and_parts, not-true}
use Rattle.sync_objects.specs.Setup.{SetupView, IsWithinLimits}
use Rattle.sync_objects.specs.declared.object.ObjId.TheVariants as object
use Rattle.sync_objects.specs.declared.operation.Op.TheVariants as op
use Rattle.flow_code.specs.declared.code.Code.{Code}
use Rattle.flow_code.specs.Threads.{Thread}
use Rattle.flow_code.specs.Next.{has_begun, has_ended, gave_up, stopped, slot_closed}
use Rattle.flow_code.specs.Settle.{settled, IsRunnable}
use Rattle.flow_code.proofs.Counts.{settled_keeps_all, ended_action}
use Rattle.core_tree.specs.Core.{Program}
use Rattle.core_tree.specs.Runs.{Run, Event}
use Rattle.core_run.specs.Words.{cells_of}
use Rattle.core_run.specs.Machine.{Told, operation, action_effect, may_revoke, may_stop, may_close, effect_of, machine}
use Rattle.core_run.proofs.Lawful.{effect_go, effect_revoke, effect_stop, effect_close}
use Rattle.run_theory.specs.Labels.{Label, Go, Revoke, Stop, Close, label_thread}
use Rattle.run_theory.specs.Steps.{Effect, Leaves, outcome}
use Rattle.lowering_simulation.specs.RunEvents.{transition_of, is_of_stripe}
use Rattle.lowering_simulation.specs.SourceRuns.{Transition, own, stops, closes, Progress, waits, goes, over, World, words_after, standing_after, cell_count, MayDo}
use Rattle.lowering_simulation.proofs.Makings.{IsMaking, IsProgress}
use Rattle.lowering_simulation.proofs.Outcomes.{Operated, operated_inv, allowed_inv}
use Rattle.lowering_simulation.proofs.OwnSteps.{IsStep, IsPassed, own_step, allows, shows_after, shows_passed}
use Rattle.lowering_simulation.proofs.Worlds.{Shows}

module _ (p : Program) (s : SetupView) (code : Code) (same_cells : cells_of code s ≡ cell_count p s) (limits : IsWithinLimits s) (runnable : IsRunnable code) (MayFill : Run → Type 0) (Makes : ℕ → Run → Thread → Type 0) (making : IsMaking code s MayFill Makes) where
  -- the transition may be done, and the words and the thread are those after it; or it is an operation on a stripe, and nothing of the
  -- source has changed
  pub data IsDone (t : ℕ) (x : Progress) (w : World) (after : List ℕ) (q : Thread) (d : Transition) : Type 0 where
    of_source : is_of_stripe d ≡ false → MayDo p s MayFill w t x d → Shows p s code same_cells limits after (words_after w t d) → IsProgress code s MayFill Makes t (standing_after x d) q → IsDone t x w after q d
    of_stripe : is_of_stripe d ≡ true → Shows p s code same_cells limits after w → IsProgress code s MayFill Makes t x q → IsDone t x w after q d

  module _ (t : ℕ) (words after : List ℕ) (w : World) (told q : Told) (shows : Shows p s code same_cells limits words w) where
    abbrev Done : Progress → Transition → Type 0
    Done x d = IsDone t x w after q.thread d

    abbrev Stands : Progress → Thread → Type 0
    Stands = IsProgress code s MayFill Makes t

    abbrev Came : Effect Told → Type 0
    Came e = outcome (machine code s) words e ≡ Leaves after q

    -- the thread after its quiet steps
    abbrev rest : Thread
    rest = settled code s t told.thread

    same_phase : rest.phase ≡ told.thread.phase
    same_phase = (settled_keeps_all code s t told.thread).phase

    same_life : (b : Bool) → has_ended told.thread.phase ≡ b → has_ended rest.phase ≡ b
    same_life b e = ap has_ended same_phase ∙ e

    -- ---- its own step

    abbrev Went : Run → Event → Type 0
    Went r e = IsStep p s code same_cells limits runnable MayFill Makes t r w after q.thread e ⊎ IsPassed p s code same_cells limits runnable MayFill Makes t r w after rest q.thread e

    went_waiting : (r : Run) (e : Event) → Stands (waits r) told.thread → Went r e → Done (waits r) (own e)
    went_waiting r e stands (inl i) = of_source i.of_source i.next i.shows i.stands
    went_waiting r e stands (inr i) = of_stripe i.of_stripe i.shows (ap has_begun (i.phase ∙ same_phase) ∙ stands.0, ap has_ended (i.phase ∙ same_phase) ∙ stands.1, i.makes)

    went_going : (r : Run) (e : Event) → Stands (goes r) told.thread → Went r e → Done (goes r) (own e)
    went_going r e stands (inl i) = of_source i.of_source i.next i.shows i.stands
    went_going r e stands (inr i) = of_stripe i.of_stripe i.shows (ap has_begun (i.phase ∙ same_phase) ∙ stands.0, ap has_ended (i.phase ∙ same_phase) ∙ stands.1, i.makes)

    go_step : (x : Progress) → Stands x told.thread → Came (effect_of code s (Go t) told) → Done x (transition_of code s words (Go t) told.thread)
    go_step (waits r) stands out =
        went_waiting r _ stands (own_step p s code same_cells limits runnable MayFill Makes t words after w rest told q shows r (same_life false stands.1) (making.arrives t r told.thread stands.2) (subst Came (effect_go code s t told) out))
    go_step (goes r) stands out =
        went_going r _ stands (own_step p s code same_cells limits runnable MayFill Makes t words after w rest told q shows r (same_life false stands.1) (making.arrives t r told.thread stands.2) (subst Came (effect_go code s t told) out))
    go_step over stands out =
        let none = subst Came (effect_go code s t told ∙ ap (action_effect code s t told rest) (ended_action code s t rest (same_life true stands))) out in
        cc

    -- ---- what is done to it by others

    stop_step : (x : Progress) → Stands x told.thread → Came (effect_of code s (Stop t) told) → Done x stops
    stop_step x stands out = by x stands (and_parts (has_begun told.thread.phase) (not (has_ended told.thread.phase)) may.0)
      where
        may : (may_stop told.thread ≡ true) × Came (operation code s t told op.Stop object.Halt [] (λ answer. stopped told.thread))
        may = allowed_inv code s words after (may_stop told.thread) _ q (subst Came (effect_stop code s t told) out)

        i : Operated code s words after t op.Stop object.Halt (λ answer. stopped told.thread) q.thread
        i = operated_inv code s words after t told q op.Stop object.Halt [] (λ answer. stopped told.thread) may.1

        by : (x : Progress) → Stands x told.thread → (has_begun told.thread.phase ≡ true) × (not (has_ended told.thread.phase) ≡ true) → Done x stops
        by (waits r) stands both = absurd (true≢false (sym both.0 ∙ stands.0))
        by (goes r) stands both =
            of_source refl (i.answer, allows p s code same_cells limits words after w t op.Stop object.Halt _ _ i (λ z. z) shows)
            (shows_after p s code same_cells limits words after w t op.Stop object.Halt _ _ i (λ z. z) shows)
            (ap (λ (z : Thread). has_ended z.phase) i.thread_is)
        by over stands both = absurd (true≢false (sym stands ∙ not-true (has_ended told.thread.phase) both.1))

    close_step : (x : Progress) → Stands x told.thread → Came (effect_of code s (Close t) told) → Done x closes
    close_step x stands out = by x stands (and_parts (not (has_begun told.thread.phase)) (not (has_ended told.thread.phase)) may.0)
      where
        may : (may_close told.thread ≡ true) × Came (operation code s t told op.Close (object.Slot t) [] (λ answer. slot_closed told.thread))
        may = allowed_inv code s words after (may_close told.thread) _ q (subst Came (effect_close code s t told) out)

        i : Operated code s words after t op.Close (object.Slot t) (λ answer. slot_closed told.thread) q.thread
        i = operated_inv code s words after t told q op.Close (object.Slot t) [] (λ answer. slot_closed told.thread) may.1

        by : (x : Progress) → Stands x told.thread → (not (has_begun told.thread.phase) ≡ true) × (not (has_ended told.thread.phase) ≡ true) → Done x closes
        by (waits r) stands both =
            of_source refl (i.answer, allows p s code same_cells limits words after w t op.Close (object.Slot t) _ _ i (λ z. z) shows)
            (shows_after p s code same_cells limits words after w t op.Close (object.Slot t) _ _ i (λ z. z) shows)
            (ap (λ (z : Thread). has_ended z.phase) i.thread_is)
        by (goes r) stands both = absurd (true≢false (sym stands.0 ∙ not-true (has_begun told.thread.phase) both.0))
        by over stands both = absurd (true≢false (sym stands ∙ not-true (has_ended told.thread.phase) both.1))

    -- a revoke is an operation on a stripe
    revoke_step : (lock stripe : ℕ) (x : Progress) → Stands x told.thread → Came (effect_of code s (Revoke t lock stripe) told) → Done x (transition_of code s words (Revoke t lock stripe) told.thread)
    revoke_step lock stripe x stands out =
        of_stripe refl (shows_passed p s code same_cells limits words after w t op.Revoke (object.Weak lock stripe) _ _ i tt shows) (subst (Stands x) (sym i.thread_is) (by x stands))
      where
        may : (may_revoke told.thread lock stripe ≡ true) × Came (operation code s t told op.Revoke (object.Weak lock stripe) [] (λ answer. gave_up told.thread lock stripe))
        may = allowed_inv code s words after (may_revoke told.thread lock stripe) _ q (subst Came (effect_revoke code s t lock stripe told) out)

        i : Operated code s words after t op.Revoke (object.Weak lock stripe) (λ answer. gave_up told.thread lock stripe) q.thread
        i = operated_inv code s words after t told q op.Revoke (object.Weak lock stripe) [] (λ answer. gave_up told.thread lock stripe) may.1

        by : (x : Progress) → Stands x told.thread → Stands x (gave_up told.thread lock stripe)
        by (waits r) stands = (stands.0, stands.1, making.revoked t r told.thread lock stripe i.has may.0 stands.2)
        by (goes r) stands = (stands.0, stands.1, making.revoked t r told.thread lock stripe i.has may.0 stands.2)
        by over stands = stands

  pub label_step : (l : Label) (words after : List ℕ) (w : World) (told q : Told) (x : Progress) → Shows p s code same_cells limits words w → IsProgress code s MayFill Makes (label_thread l) x told.thread → outcome (machine code s) words (effect_of code s l told) ≡ Leaves after q →
      IsDone (label_thread l) x w after q.thread (transition_of code s words l told.thread)
  label_step (Go t) words after w told q x shows stands out = go_step t words after w told q shows x stands out
  label_step (Revoke t lock stripe) words after w told q x shows stands out = revoke_step t words after w told q shows lock stripe x stands out
  label_step (Stop t) words after w told q x shows stands out = stop_step t words after w told q shows x stands out
  label_step (Close t) words after w told q x shows stands out = close_step t words after w told q shows x stands out
