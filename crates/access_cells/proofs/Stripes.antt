-- The machine has each stripe that a thread owes, and so the stripe of each operation that comes next.
use Rattle.std.proofs.Common.{◌≡◌, ℕ, ◌<◌, ◌==◌, ◌&&◌, not, nat_lt, ◌⊎◌, inl, inr, ⊎_elim, Bool, true, false, if◌then◌else◌, [], Some, None, refl, sym, ap, subst, ◌∙◌, ℤ, pos, arith, eqb-true}
use Rattle.std.specs.Prelude.{slice_get}
use Rattle.std.proofs.lemmas.Bool.{true≢false, and_parts}
use Rattle.sync_objects.specs.Setup.{SetupView, IsWithinLimits}
use Rattle.sync_objects.specs.Names.{name_of, is_weak}
use Rattle.sync_objects.specs.declared.object.ObjId.{ObjId}
use Rattle.sync_objects.specs.declared.object.ObjId.TheVariants as object
use Rattle.sync_objects.specs.declared.operation.Op.{Op}
use Rattle.sync_objects.specs.declared.operation.Op.TheVariants as op
use Rattle.word_semantics.specs.declared.event.Due.TheVariants as due
use Rattle.word_semantics.specs.Limits.{most_entries, most_revokes}
use Rattle.word_semantics.proofs.Calls.{is_retake}
use Rattle.flow_code.specs.declared.code.Code.{Code}
use Rattle.flow_code.specs.Next.{holds, first_owed, due_of, phase_due, has_ended, gave_up, stepped as thread_stepped}
use Rattle.flow_code.specs.Settle.{settled, IsRunnable}
use Rattle.flow_code.specs.Threads.{Thread}
use Rattle.flow_code.proofs.Goings.{thread_goes}
use Rattle.core_run.specs.Histories.{IsReachable}
use Rattle.core_run.specs.Machine.{Told, machine, start_state, may_revoke}
use Rattle.core_run.specs.Words.{has_object}
use Rattle.core_run.proofs.ThreadRanges.{start_thread_is}
use Rattle.run_theory.specs.Labels.{Label, label_thread}
use Rattle.run_theory.specs.Ordered.{event_of}
use Rattle.run_theory.specs.Steps.{State}
use Rattle.run_theory.proofs.Kept.{kept_along, reaches_step}
use Rattle.lock_ownership.proofs.DueSteps.{Retakes, operate_from, stepped_steps, settled_settles}
use Rattle.lock_ownership.proofs.Holds.{numbered, holds_small, lost_standing}
use Rattle.lock_ownership.proofs.Moves.{ByOperation, elsewhere, gains, loses, Moves}
use Rattle.lock_ownership.proofs.Regions.{Agree}
use Rattle.lock_ownership.proofs.Standings.{standing, is_held, is_owed, owed_is}
use Rattle.lock_ownership.proofs.Stepping.{Makes, by_itself, by_revoke, by_stop, by_close, IsOperationStep, StepKind, HasStepped, has_stepped}
use Rattle.lock_ownership.proofs.StripeLaws.{stripes_hold}
use Rattle.lock_ownership.proofs.StripeStates.{held_at, StripesHold}
use Rattle.points_to_sound.proofs.Layouts.{set_got}
use Rattle.access_cells.proofs.Owing.{step_fewer, settled_fewer}

-- the machine has the stripes that the threads owe
pub record AreOwedThere (code : Code) (s : SetupView) (st : State Told) : Type 0 where
  pub each : (t lock k : ℕ) (told : Told) → slice_get st.threads t ≡ Some told → k < 8 → is_owed (standing told.thread.stripes (numbered lock k)) ≡ true → has_object code s (object.Weak lock k) ≡ true

module _ (code : Code) (s : SetupView) (run : IsRunnable code) (limits : IsWithinLimits s) where
  module _ (st st1 : State Told) (l : Label) (reached : IsReachable code s st) (h : HasStepped code s st l st1) (before : AreOwedThere code s st) where
    abbrev t : ℕ
    t = label_thread l

    abbrev z : Thread
    z = settled code s t h.before.thread

    agree : Agree h.before.thread.stripes h.before.thread.regions
    agree = (stripes_hold code s run limits st reached).agree t h.before h.stands

    -- what the thread owes after the step
    abbrev Owes : ℕ → ℕ → Thread → Type 0
    Owes lock k q = is_owed (standing q.stripes (numbered lock k)) ≡ true

    was : (lock k : ℕ) → k < 8 → Owes lock k h.before.thread → has_object code s (object.Weak lock k) ≡ true
    was lock k small e = before.each t lock k h.before h.stands small e

    by_step : (answer : ℤ) (q : Thread) → q ≡ thread_stepped code s t z answer → (lock k : ℕ) → k < 8 → Owes lock k q → has_object code s (object.Weak lock k) ≡ true
    by_step answer q after lock k small e =
        was lock k small
        (settled_fewer code s t h.before.thread agree (numbered lock k)
        (step_fewer code s t z answer ((settled_settles code s t h.before.thread).agrees agree).sorted (numbered lock k) (subst (Owes lock k) after e)))

    revoke_holds : (lock stripe : ℕ) → may_revoke h.before.thread lock stripe ≡ true → holds h.before.thread.stripes lock stripe ≡ true
    revoke_holds lock stripe e =
        let th = h.before.thread in
        let a = and_parts (not (has_ended th.phase) && holds th.stripes lock stripe && nat_lt th.entries most_entries) (nat_lt th.revokes most_revokes) e in
        let b = and_parts (not (has_ended th.phase) && holds th.stripes lock stripe) (nat_lt th.entries most_entries) a.0 in
        (and_parts (not (has_ended th.phase)) (holds th.stripes lock stripe) b.0).1

    -- a stripe that is revoked is there
    by_loss : (lock stripe : ℕ) → has_object code s (object.Weak lock stripe) ≡ true → holds h.before.thread.stripes lock stripe ≡ true → (m k : ℕ) → k < 8 → Owes m k (gave_up h.before.thread lock stripe) → has_object code s (object.Weak m k) ≡ true
    by_loss lock stripe has held m k small e =
        by (numbered lock stripe == numbered m k) refl (sym (ap is_owed (lost_standing (numbered m k) h.before.thread.stripes lock stripe low agree.sorted held)) ∙ e)
      where
        low : stripe < 8
        low = holds_small 0 lock stripe h.before.thread.stripes agree.sorted held

        by : (b : Bool) → (numbered lock stripe == numbered m k) ≡ b → is_owed (if b then Some true else standing h.before.thread.stripes (numbered m k)) ≡ true → has_object code s (object.Weak m k) ≡ true
        by true q o =
            let same = eqb-true (numbered lock stripe) (numbered m k) q in
            let below = low in
            let lock_is : lock ≡ m = omega arith in
            let stripe_is : stripe ≡ k = omega arith in
            subst (λ n. has_object code s (object.Weak n k) ≡ true) lock_is (subst (λ n. has_object code s (object.Weak lock n) ≡ true) stripe_is has)
        by false q o = was m k small o

    own_there : (lock k : ℕ) → k < 8 → Owes lock k h.after.thread → has_object code s (object.Weak lock k) ≡ true
    own_there lock k small e = by_kind h.kind
      where
        by_makes : (x : IsOperationStep code s st.words st1.words (event_of (machine code s) st l) l h.before.thread h.after.thread) → Makes code s l h.before.thread x.op x.obj x.answer h.after.thread → has_object code s (object.Weak lock k) ≡ true
        by_makes x (by_itself c) = by_step x.answer h.after.thread c.after lock k small e
        by_makes x (by_revoke m stripe may o on after) = by_loss m stripe (ap (has_object code s) (sym on) ∙ x.has) (revoke_holds m stripe may) lock k small (subst (Owes lock k) after e)
        by_makes x (by_stop may o on after) = was lock k small (subst (Owes lock k) after e)
        by_makes x (by_close may o on after) = was lock k small (subst (Owes lock k) after e)

        by_kind : StepKind code s st.words st1.words (event_of (machine code s) st l) l h.before.thread h.after.thread → has_object code s (object.Weak lock k) ≡ true
        by_kind (inl x) = by_step x.answer h.after.thread x.comes.after lock k small e
        by_kind (inr x) = by_makes x x.makes

    owed_after : AreOwedThere code s st1
    owed_after = record {
      each = λ u lock k told at small e. ⊎_elim
          (λ o. before.each u lock k told o.1 small e)
          (λ o. own_there lock k small (subst (λ (q : Told). Owes lock k q.thread) (sym o.1) e))
          (set_got st.threads t u h.after told (subst (λ ths. slice_get ths u ≡ Some told) h.threads at));
    }

  -- ---- all states

  owed_at_start : AreOwedThere code s (start_state code s)
  owed_at_start = record { each = λ t lock k told at small e. let n = subst (λ (q : Told). is_owed (standing q.thread.stripes (numbered lock k)) ≡ true) (start_thread_is code s t told at) e in absurd (true≢false (sym n)) }

  record Held (st : State Told) : Type 0 where
    reached : IsReachable code s st
    owed : AreOwedThere code s st

  owed_there : (st : State Told) → IsReachable code s st → AreOwedThere code s st
  owed_there st reached =
      (kept_along (machine code s) Held
      (λ a b l h e. record { reached = reaches_step (machine code s) (start_state code s) a b l h.reached e; owed = owed_after a b l h.reached (has_stepped code s a b l e) h.owed })
      reached.0 (start_state code s) st reached.1 (record { reached = ([], refl); owed = owed_at_start })).owed

  -- ---- the stripe of the next operation

  module _ (st : State Told) (reached : IsReachable code s st) (t : ℕ) (told : Told) (at : slice_get st.threads t ≡ Some told) where
    abbrev y : Thread
    y = settled code s t told.thread

    hold : StripesHold code s st
    hold = stripes_hold code s run limits st reached

    agree_then : Agree told.thread.stripes told.thread.regions
    agree_then = hold.agree t told at

    agree_now : Agree y.stripes y.regions
    agree_now = (settled_settles code s t told.thread).agrees agree_then

    same_stripe : (l j lock k : ℕ) → object.Weak lock k ≡ object.Weak l j → has_object code s (object.Weak l j) ≡ true → has_object code s (object.Weak lock k) ≡ true
    same_stripe l j lock k e has = ap (has_object code s) e ∙ has

    -- a stripe that is let go was held
    let_go : (l j : ℕ) → j < 8 → is_held (standing y.stripes (numbered l j)) ≡ true → has_object code s (object.Weak l j) ≡ true
    let_go l j small e = hold.known t l j small (ap (held_at (numbered l j)) at ∙ sym ((settled_settles code s t told.thread).alike agree_then (numbered l j)) ∙ e)

    -- one that is taken again was owed
    taken_again : (o : Op) (obj : ObjId) → Retakes y.stripes o obj → has_object code s obj ≡ true
    taken_again o obj r =
        let w = owed_is 0 y.stripes r.stripe agree_now.sorted r.owed in
        ap (has_object code s) r.on ∙ (owed_there st reached).each t r.stripe.lock r.stripe.stripe told at w.1 (settled_fewer code s t told.thread agree_then (numbered r.stripe.lock r.stripe.stripe) (ap is_owed w.0))

    by_moves : (q : Thread) (o : Op) (lock k : ℕ) → due_of code s t y ≡ due.Operate o (object.Weak lock k) → ByOperation y.stripes q.stripes o (object.Weak lock k) → (phase_due code s t y y.phase ≡ due.Operate op.Take (object.Weak lock k) → has_object code s (object.Weak lock k) ≡ true) → has_object code s (object.Weak lock k) ≡ true
    by_moves q o lock k d (elsewhere e f) take = absurd (true≢false e)
    by_moves q o lock k d (loses l j small on lets g) take = same_stripe l j lock k on (let_go l j small g.before)
    by_moves q o lock k d (gains l j small on gets g) take = ⊎_elim (λ p. by_gets p gets) (λ r. taken_again o (object.Weak lock k) r) (operate_from code s t y o (object.Weak lock k) d)
      where
        by_gets : (phase_due code s t y y.phase ≡ due.Operate o (object.Weak lock k)) × (is_weak (name_of o) ≡ true → first_owed y.stripes ≡ None) → (o ≡ op.Take) ⊎ (o ≡ op.Retake) → has_object code s (object.Weak lock k) ≡ true
        by_gets p (inl e) = take (p.0 ∙ ap (λ z. due.Operate z (object.Weak lock k)) e)
        by_gets p (inr e) = absurd (true≢false (sym (ap (λ z. is_retake (name_of z)) e) ∙ (thread_goes code s t y (due.Operate o (object.Weak lock k)) (pos 0) p.0).0.first))

    pub stripe_there : (o : Op) (lock k : ℕ) → due_of code s t y ≡ due.Operate o (object.Weak lock k) → (phase_due code s t y y.phase ≡ due.Operate op.Take (object.Weak lock k) → has_object code s (object.Weak lock k) ≡ true) → has_object code s (object.Weak lock k) ≡ true
    stripe_there o lock k d take =
        by_moves (thread_stepped code s t y (pos 0)) o lock k d (subst (Moves y.stripes (thread_stepped code s t y (pos 0)).stripes) d ((stepped_steps code s t y (pos 0)).moves agree_now)) take
