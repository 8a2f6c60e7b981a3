-- Events that the start or the join of a thread orders.
use Rattle.std.proofs.Common.{◌≡◌, ◌≢◌, ⊎_elim, ℕ, ◌<◌, true, List, [], Option, Some, refl, sym, ap, subst, ◌∙◌, ℤ, pos, arith}
use Rattle.std.proofs.lemmas.Bool.{lt-ltb}
use Rattle.std.proofs.lemmas.Option.{same_Some, slice_get_within}
use Rattle.sync_objects.specs.Setup.{SetupView, IsWithinLimits}
use Rattle.sync_objects.specs.declared.entry.Noted.{Noted}
use Rattle.sync_objects.specs.declared.object.ObjId.TheVariants as object
use Rattle.sync_objects.specs.declared.operation.OpName.TheVariants as name
use Rattle.flow_code.specs.declared.code.Code.{Code}
use Rattle.flow_code.specs.Settle.{IsRunnable}
use Rattle.core_run.specs.Words.{has_object}
use Rattle.core_run.specs.Machine.{machine, start_state}
use Rattle.core_run.proofs.Reached.{kept}
use Rattle.run_theory.specs.Labels.{Label, label_thread}
use Rattle.run_theory.specs.Laws.{NoAccess}
use Rattle.run_theory.specs.Ordered.{Event, Did, event_thread, event_access, event_of, event_at, Ordered, last, PassesTo}
use Rattle.lock_ownership.specs.HandOffs.{IsOnSlot, IsStarted, IsNoOpening, HasEnded}
use Rattle.lock_ownership.proofs.HandOvers.{started_before, not_first, ended_before}
use Rattle.lock_ownership.proofs.Stepping.{IsNoOperation, IsAccessStep, IsOperationStep, HasStepped, has_stepped, event_is_own}
use Rattle.lock_ownership.proofs.Turns.{Place, place_at}

module _ (code : Code) (s : SetupView) (run : IsRunnable code) (limits : IsWithinLimits s) (labels : List Label) where
  abbrev events : ℕ → Option Event
  events = event_at (machine code s) labels (start_state code s)

  place : (c : ℕ) (x : Event) → events c ≡ Some x → Place code s labels (start_state code s) c x
  place c x e = place_at code s labels (start_state code s) c x ([], refl) e

  -- the slot of a thread that makes an event is there
  own_slot : (c : ℕ) (x : Event) → Place code s labels (start_state code s) c x → has_object code s (object.Slot (event_thread x)) ≡ true
  own_slot c x p =
      let h = has_stepped code s p.before p.after p.label p.steps in
      let within = slice_get_within p.before.threads (label_thread p.label) h.before h.stands in
      let slots = (kept code s run limits p.before p.reached).threads in
      subst (λ u. has_object code s (object.Slot u) ≡ true) (sym (event_is_own code s p.before p.after p.label h x p.event)) (lt-ltb (label_thread p.label) s.slots (omega arith))

  -- and so is a slot on which an operation is made
  used_slot : (c t k : ℕ) (x : Noted) (word : ℕ) (f : ℤ) → Place code s labels (start_state code s) c (Did t x word f) → x.entry.obj ≡ object.Slot k → has_object code s (object.Slot k) ≡ true
  used_slot c t k x word f p on = ⊎_elim (λ a. absurd (by_access a)) by_operation h.kind
    where
      h : HasStepped code s p.before p.label p.after
      h = has_stepped code s p.before p.after p.label p.steps

      by_access : IsAccessStep code s p.before.words p.after.words (event_of (machine code s) p.before p.label) p.label h.before.thread h.after.thread → ⊥
      by_access a = subst IsNoOperation (same_Some a.what (Did t x word f) (sym a.happens ∙ p.event)) a.no_operation

      same_noted : (u v : ℕ) (y z : Noted) (d b : ℕ) (g w : ℤ) → Some (Did u y d g) ≡ Some (Did v z b w) → y ≡ z
      same_noted u v y z d b g w e = cc

      by_operation : IsOperationStep code s p.before.words p.after.words (event_of (machine code s) p.before p.label) p.label h.before.thread h.after.thread → has_object code s (object.Slot k) ≡ true
      by_operation y = subst (λ o. has_object code s o ≡ true) (sym y.on ∙ ap (λ (z : Noted). z.entry.obj) (same_noted (label_thread p.label) t y.noted x y.old word y.answer f (sym y.happens ∙ p.event)) ∙ on) y.has

  -- a thread has begun before its other events, and was started before that
  pub is_started : (j : ℕ) (x : Event) → events j ≡ Some x → event_thread x ≢ 0 → IsNoOpening x → IsStarted events (event_thread x) j
  is_started j x e ne goes_on = let p = place j x e in started_before code s run limits labels (event_thread x) (own_slot j x p) ne j x goes_on refl p

  -- a thread has ended before it is joined
  pub has_ended : (k t b : ℕ) (joins : IsOnSlot events name.Join t k b) → joins.answer ≡ pos 0 → HasEnded events k t b joins
  has_ended k t b joins zero_is =
      let p = place b (Did t joins.noted joins.word joins.answer) joins.happens in
      ended_before code s run limits labels k (used_slot b t k joins.noted joins.word joins.answer p joins.on) t b joins zero_is p

  starter_is : (a b t u : ℕ) (x y : Noted) (v w : ℕ) (f g : ℤ) → a ≡ b → events a ≡ Some (Did t x v f) → events b ≡ Some (Did u y w g) → u ≡ t
  starter_is a b t u x y v w f g same e h = let two : Some (Did t x v f) ≡ Some (Did u y w g) = sym e ∙ ap events same ∙ h in cc

  -- what the starter made before the start, and what the thread makes after its begin
  pub ordered_by_start : (t k i a j : ℕ) (x y : Event) → IsOnSlot events name.Start t k a → events i ≡ Some x → event_thread x ≡ t → i < a → events j ≡ Some y → event_thread y ≡ k → IsNoOpening y → Ordered events i j
  ordered_by_start t k i a j x y starts at_i of_t lt at_j of_k goes_on =
      let p = place a (Did t starts.noted starts.word starts.answer) starts.happens in
      let ne = not_first code s run limits labels k (used_slot a t k starts.noted starts.word starts.answer p starts.on) a t starts p in
      let z = subst (λ n. IsStarted events n j) of_k (is_started j y at_j (λ e. ne (sym of_k ∙ e)) goes_on) in
      let same : a ≡ z.a = z.only a t starts in
      let who : z.starter ≡ t = starter_is a z.a t z.starter starts.noted z.starts.noted starts.word z.starts.word starts.answer z.starts.answer same starts.happens z.starts.happens in
      last z.b (Did k z.begins.noted z.begins.word z.begins.answer) y
      (record {
        start = x;
        start_is = at_i;
        a = z.a;
        after = omega arith;
        first = z.starts.noted;
        first_before = z.starts.word;
        first_answer = z.starts.answer;
        first_is = z.starts.happens ∙ ap (λ u. Some (Did u z.starts.noted z.starts.word z.starts.answer)) (who ∙ sym of_t);
        taker = k;
        second = z.begins.noted;
        before = z.begins.word;
        answer = z.begins.answer;
        second_is = z.begins.happens;
        passes = subst (λ u. PassesTo u z.starts.noted z.starts.word z.begins.noted z.begins.answer) (who ∙ sym of_t) z.passes;
      })
      z.before z.begins.happens at_j (sym of_k)

  -- what the thread accesses, and what its joiner makes after the join
  pub ordered_by_join : (t k i b j : ℕ) (x y : Event) → (joins : IsOnSlot events name.Join t k b) → joins.answer ≡ pos 0 → events i ≡ Some x → event_thread x ≡ k → event_access x ≢ NoAccess → b < j → events j ≡ Some y → event_thread y ≡ t → Ordered events i j
  ordered_by_join t k i b j x y joins zero_is at_i of_k access lt at_j of_t =
      let z = has_ended k t b joins zero_is in
      last b (Did t joins.noted joins.word joins.answer) y
      (record {
        start = x;
        start_is = at_i;
        a = z.a;
        after = z.last i x at_i of_k access;
        first = z.ends.noted;
        first_before = z.ends.word;
        first_answer = z.ends.answer;
        first_is = z.ends.happens ∙ ap (λ u. Some (Did u z.ends.noted z.ends.word z.ends.answer)) (sym of_k);
        taker = t;
        second = joins.noted;
        before = joins.word;
        answer = joins.answer;
        second_is = joins.happens;
        passes = subst (λ u. PassesTo u z.ends.noted z.ends.word joins.noted joins.answer) (sym of_k) z.passes;
      })
      lt joins.happens at_j (sym of_t)
