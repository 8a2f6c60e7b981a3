-- What holds of the stripes of each state that can be reached.
use Rattle.std.proofs.Common.{◌≡◌, ℕ, ◌<◌, ◌≤◌, ◌&&◌, ◌||◌, nat_lt, ⊎_elim, Bool, true, false, List, [], Option, Some, None, refl, sym, ap, subst, ◌∙◌, arith}
use Rattle.std.specs.Prelude.{slice_get}
use Rattle.std.proofs.lemmas.Bool.{cases_Bool, true≢false, lt-ltb, ltb-true, ltb-false, and_parts}
use Rattle.sync_objects.specs.Setup.{SetupView, IsWithinLimits}
use Rattle.sync_objects.specs.States.{is_held_by}
use Rattle.sync_objects.specs.declared.object.ObjId.TheVariants as object
use Rattle.sync_objects.proofs.Starts.{starts-Weak}
use Rattle.flow_code.specs.declared.code.Code.{Code}
use Rattle.flow_code.specs.declared.thread.Stripe.{Stripe}
use Rattle.flow_code.specs.Holding.{nesting}
use Rattle.flow_code.specs.Threads.{Thread}
use Rattle.flow_code.specs.Next.{holds}
use Rattle.flow_code.specs.Settle.{settled, IsRunnable}
use Rattle.core_run.specs.Histories.{IsReachable}
use Rattle.core_run.specs.Words.{has_object}
use Rattle.core_run.specs.Machine.{Told, machine, start_state}
use Rattle.core_run.proofs.ThreadRanges.{start_thread_is}
use Rattle.run_theory.specs.Ordered.{IsHeldBy}
use Rattle.run_theory.specs.Steps.{State}
use Rattle.run_theory.proofs.Kept.{kept_along, reaches_step}
use Rattle.lock_ownership.specs.Holders.{names, holds_in, holds_stripe}
use Rattle.lock_ownership.specs.ThreadStripes.{AreSorted, owes_stripe, HasItsStripes}
use Rattle.lock_ownership.proofs.Standings.{standing, is_held, is_owed, is_there}
use Rattle.lock_ownership.proofs.Holds.{numbered, holds_is, owes_is, holds_small}
use Rattle.lock_ownership.proofs.Regions.{Agree, open_at}
use Rattle.lock_ownership.proofs.DueSteps.{settled_settles}
use Rattle.lock_ownership.proofs.Stepping.{has_stepped}
use Rattle.lock_ownership.proofs.MutexHolders.{start_free}
use Rattle.lock_ownership.proofs.LockMoves.{stripe, held_by_word}
use Rattle.lock_ownership.proofs.StripeStates.{held_at, StripesHold, stripes_after}

-- ---- one thread

in_words : (o : Option Bool) → (is_held o || is_owed o) ≡ is_there o
in_words None = refl
in_words (Some true) = refl
in_words (Some false) = refl

counted : (b : Bool) (n : ℕ) → (b ≡ true → 0 < n) → (b ≡ false → n ≡ 0) → b ≡ nat_lt 0 n
counted true n f g = sym (lt-ltb 0 n (f refl))
counted false n f g = sym (ap (nat_lt 0) (g refl))

no_ninth : (xs : List Stripe) (lock k : ℕ) → AreSorted xs → 8 ≤ k → holds xs lock k ≡ false
no_ninth xs lock k h le = ⊎_elim (λ e. let small = holds_small 0 lock k xs h e in absurd (omega arith)) (λ e. e) (cases_Bool (holds xs lock k))

not_owed : (o : Option Bool) → is_held o ≡ true → is_owed o ≡ false
not_owed None e = refl
not_owed (Some true) e = absurd (true≢false (sym e))
not_owed (Some false) e = refl

apart : (xs : List Stripe) (lock k : ℕ) → AreSorted xs → (holds xs lock k && owes_stripe xs lock k) ≡ false
apart xs lock k h = by (holds xs lock k) refl
  where
    by : (b : Bool) → holds xs lock k ≡ b → (b && owes_stripe xs lock k) ≡ false
    by true e = let small = holds_small 0 lock k xs h e in owes_is 0 lock k xs small h ∙ not_owed (standing xs (numbered lock k)) (sym (holds_is 0 lock k xs small h) ∙ e)
    by false e = refl

pub has_its : (th : Thread) → Agree th.stripes th.regions → HasItsStripes th
has_its th h = record {
  sorted = h.sorted;
  open_regions = λ i r e. open_at th.regions i r h.opened e;
  nested = λ lock k small.
      ap (λ b. b || owes_stripe th.stripes lock k) (holds_is 0 lock k th.stripes small h.sorted)
      ∙ ap (λ b. is_held (standing th.stripes (numbered lock k)) || b) (owes_is 0 lock k th.stripes small h.sorted)
      ∙ in_words (standing th.stripes (numbered lock k))
      ∙ counted (is_there (standing th.stripes (numbered lock k))) (nesting th.regions (numbered lock k)) (h.listed (numbered lock k)) (h.only (numbered lock k));
  not_both = λ lock k. apart th.stripes lock k h.sorted;
}

-- quiet steps let no stripe go and get none
pub settled_holds : (code : Code) (s : SetupView) (t : ℕ) (th : Thread) (lock k : ℕ) → Agree th.stripes th.regions → holds (settled code s t th).stripes lock k ≡ holds th.stripes lock k
settled_holds code s t th lock k h = by (nat_lt k 8) refl
  where
    after : Agree (settled code s t th).stripes (settled code s t th).regions
    after = (settled_settles code s t th).agrees h

    by : (b : Bool) → nat_lt k 8 ≡ b → holds (settled code s t th).stripes lock k ≡ holds th.stripes lock k
    by true e =
        let small = ltb-true k 8 e in
        holds_is 0 lock k (settled code s t th).stripes small after.sorted ∙ (settled_settles code s t th).alike h (numbered lock k) ∙ sym (holds_is 0 lock k th.stripes small h.sorted)
    by false e = let large = ltb-false k 8 e in no_ninth (settled code s t th).stripes lock k after.sorted large ∙ sym (no_ninth th.stripes lock k h.sorted large)

-- ---- all states

module _ (code : Code) (s : SetupView) (run_ok : IsRunnable code) (limits : IsWithinLimits s) where
  none_at_start : (t n : ℕ) → held_at n (slice_get (start_state code s).threads t) ≡ false
  none_at_start t n = by (slice_get (start_state code s).threads t) refl
    where
      by : (o : Option Told) → slice_get (start_state code s).threads t ≡ o → held_at n o ≡ false
      by None e = refl
      by (Some told) e = ap (λ (z : Told). is_held (standing z.thread.stripes n)) (start_thread_is code s t told e)

  stripes_at_start : StripesHold code s (start_state code s)
  stripes_at_start = record {
    agree = λ t told e. subst (λ (z : Told). Agree z.thread.stripes z.thread.regions) (sym (start_thread_is code s t told e)) (record { sorted = tt; opened = tt; listed = λ n l. absurd (true≢false (sym l)); only = λ n l. refl });
    named = λ lock k t has. ap (is_held_by t) (start_free code s (object.Weak lock k) limits has (starts-Weak lock k)) ∙ sym (none_at_start t (numbered lock k));
    known = λ t lock k small e. absurd (true≢false (sym e ∙ none_at_start t (numbered lock k)));
  }

  -- a state that is reached, with what holds of it
  record Held (st : State Told) : Type 0 where
    reached : IsReachable code s st
    stripes : StripesHold code s st

  pub stripes_hold : (st : State Told) → IsReachable code s st → StripesHold code s st
  stripes_hold st reached =
      (kept_along (machine code s) Held
      (λ a b l h e. record { reached = reaches_step (machine code s) (start_state code s) a b l h.reached e; stripes = stripes_after code s run_ok limits a b l h.reached (has_stepped code s a b l e) h.stripes })
      reached.0 (start_state code s) st reached.1 (record { reached = ([], refl); stripes = stripes_at_start })).stripes

  -- what the thread's list says, by numbers
  list_is : (st : State Told) (lock k t : ℕ) → k < 8 → StripesHold code s st → holds_stripe lock k t st ≡ held_at (numbered lock k) (slice_get st.threads t)
  list_is st lock k t small h = by (slice_get st.threads t) refl
    where
      by : (o : Option Told) → slice_get st.threads t ≡ o → holds_in lock k o ≡ held_at (numbered lock k) o
      by None e = refl
      by (Some told) e = holds_is 0 lock k told.thread.stripes small (h.agree t told e).sorted

  small_of : (lock k : ℕ) → has_object code s (object.Weak lock k) ≡ true → k < 8
  small_of lock k has = ltb-true k 8 (and_parts _ (nat_lt k 8) has).1

  -- a stripe's word names a thread exactly where the thread's list holds it
  pub named_is : (st : State Told) (lock k t : ℕ) → IsReachable code s st → has_object code s (object.Weak lock k) ≡ true → names code s (object.Weak lock k) t st ≡ holds_stripe lock k t st
  named_is st lock k t reached has = let h = stripes_hold st reached in h.named lock k t has ∙ sym (list_is st lock k t (small_of lock k has) h)

  -- no thread holds a stripe that isn't there
  pub known_is : (st : State Told) (lock k t : ℕ) → IsReachable code s st → holds_stripe lock k t st ≡ true → has_object code s (object.Weak lock k) ≡ true
  known_is st lock k t reached e =
      let h = stripes_hold st reached in
      let small = small_in (slice_get st.threads t) refl e h in
      h.known t lock k small (sym (list_is st lock k t small h) ∙ e)
    where
      small_in : (o : Option Told) → slice_get st.threads t ≡ o → holds_in lock k o ≡ true → StripesHold code s st → k < 8
      small_in None f g h = cc
      small_in (Some told) f g h = holds_small 0 lock k told.thread.stripes (h.agree t told f).sorted g

  module _ (lock k : ℕ) (has : has_object code s (object.Weak lock k) ≡ true) where
    by_word : IsHeldBy (machine code s) (object.Weak lock k) (λ mode. names code s (object.Weak lock k)) (start_state code s)
    by_word = held_by_word code s run_ok limits (object.Weak lock k) (stripe lock k) has

    -- the lists of threads tell who holds a stripe, as the law of order by a lock asks
    pub held_by_list : IsHeldBy (machine code s) (object.Weak lock k) (λ mode. holds_stripe lock k) (start_state code s)
    held_by_list = record {
      known = has;
      one = λ a b st t u reached apart f g. by_word.one a b st t u reached apart (named_is st lock k t reached has ∙ f) (named_is st lock k u reached has ∙ g);
      released = λ mode st st1 l t reached e was isnt. by_word.released mode st st1 l t reached e (named_is st lock k t reached has ∙ was) (named_is st1 lock k t (reaches_step (machine code s) (start_state code s) st st1 l reached e) has ∙ isnt);
      acquired = λ mode st st1 l t reached e wasnt now. by_word.acquired mode st st1 l t reached e (named_is st lock k t reached has ∙ wasnt) (named_is st1 lock k t (reaches_step (machine code s) (start_state code s) st st1 l reached e) has ∙ now);
    }
