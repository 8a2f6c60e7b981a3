-- In each state that is reached a stripe's word names its holder, and each thread's stripes are those of its open regions.
use Rattle.std.proofs.Common.{◌≡◌, ◌≢◌, ℕ, ◌<◌, nat_lt, inl, inr, ⊎_elim, Bool, true, false, if◌then◌else◌, List, length, Option, Some, None, refl, sym, ap, subst, ◌∙◌, ℤ, arith, eq-eqb, ne_eqb}
use Rattle.std.specs.Prelude.{slice_get}
use Rattle.std.proofs.lemmas.Bool.{cases_eq, true≢false, and_parts, ltb-true}
use Rattle.std.proofs.lemmas.Option.{same_Some}
use Rattle.rr_base.proofs.Lists.{slice_get-set_other, slice_get-set_same}
use Rattle.sync_objects.specs.Setup.{SetupView, IsWithinLimits}
use Rattle.sync_objects.specs.States.{LockState, is_held_by}
use Rattle.sync_objects.specs.Names.{name_of, kind_of}
use Rattle.sync_objects.specs.Packing.{lock_of, shown}
use Rattle.sync_objects.specs.Table.{Moves as RowMoves, first_row, rows}
use Rattle.sync_objects.specs.Words.{state_of}
use Rattle.sync_objects.specs.declared.object.ObjId.{ObjId}
use Rattle.sync_objects.specs.declared.object.ObjId.TheVariants as object
use Rattle.sync_objects.specs.declared.operation.Op.{Op}
use Rattle.sync_objects.specs.declared.operation.OpName.{OpName}
use Rattle.flow_code.specs.declared.code.Code.{Code}
use Rattle.flow_code.specs.declared.thread.Stripe.{Stripe}
use Rattle.flow_code.specs.Settle.{IsRunnable}
use Rattle.core_run.specs.Histories.{IsReachable}
use Rattle.core_run.specs.Words.{has_object}
use Rattle.core_run.specs.Machine.{Told, machine}
use Rattle.run_theory.specs.Labels.{Label, label_thread}
use Rattle.run_theory.specs.Ordered.{event_of}
use Rattle.run_theory.specs.Steps.{State}
use Rattle.run_theory.proofs.SameEntries.{object_cases}
use Rattle.lock_ownership.specs.Holders.{word_of_object, holder, names}
use Rattle.lock_ownership.proofs.Standings.{standing, is_held}
use Rattle.lock_ownership.proofs.Holds.{numbered}
use Rattle.lock_ownership.proofs.Regions.{Agree}
use Rattle.lock_ownership.proofs.PlainDues.{is_stripe}
use Rattle.lock_ownership.proofs.Moves.{ByOperation, elsewhere, gains, loses}
use Rattle.lock_ownership.proofs.StripeSteps.{access_moves, operation_moves, gets_row, lets_row}
use Rattle.lock_ownership.proofs.Stepping.{IsAccessStep, IsOperationStep, HasStepped}
use Rattle.lock_ownership.proofs.ObjectSteps.{LeavesAlone, ObjectStep, object_step, alone_by_access, elsewhere as other_object, row_here}
use Rattle.lock_ownership.proofs.LockMoves.{LockMove, acquires, releases, stays, stripe, lock_moves}

-- the thread, if there is one, holds the stripe with this number
abbrev pub held_at : ℕ → Option Told → Bool
held_at n None = false
held_at n (Some told) = is_held (standing told.thread.stripes n)

module _ (code : Code) (s : SetupView) where
  pub record StripesHold (st : State Told) : Type 0 where
    pub agree : (t : ℕ) (told : Told) → slice_get st.threads t ≡ Some told → Agree told.thread.stripes told.thread.regions
    pub named : (lock k t : ℕ) → has_object code s (object.Weak lock k) ≡ true → names code s (object.Weak lock k) t st ≡ held_at (numbered lock k) (slice_get st.threads t)
    pub known : (t lock k : ℕ) → k < 8 → held_at (numbered lock k) (slice_get st.threads t) ≡ true → has_object code s (object.Weak lock k) ≡ true

  -- who else is named stays the same
  other_named : (o : ObjId) (n : OpName) (t u : ℕ) (answer : ℤ) (before after : LockState) → t ≢ u → LockMove o n t answer before after → is_held_by u after ≡ is_held_by u before
  other_named o n t u answer before after ne (acquires a b c) = ap (is_held_by u) c ∙ ne_eqb t u ne ∙ sym (ap (is_held_by u) b)
  other_named o n t u answer before after ne (releases a b c) = ap (is_held_by u) c ∙ sym (ne_eqb t u ne) ∙ sym (ap (is_held_by u) b)
  other_named o n t u answer before after ne (stays e) = ap (is_held_by u) e

  -- a stripe of an object that is there is one of eight
  small_of : (lock k : ℕ) → has_object code s (object.Weak lock k) ≡ true → k < 8
  small_of lock k has = ltb-true k 8 (and_parts (nat_lt lock (length code.locks)) (nat_lt k 8) has).1

  -- where an operation is on another object, the stripe stays as it was
  unmoved : (xs ys : List Stripe) (o : Op) (obj : ObjId) (lock k : ℕ) → k < 8 → obj ≢ object.Weak lock k → ByOperation xs ys o obj → is_held (standing ys (numbered lock k)) ≡ is_held (standing xs (numbered lock k))
  unmoved xs ys o obj lock k small ne (elsewhere e h) = h (numbered lock k)
  unmoved xs ys o obj lock k small ne (gains l j low on gets g) =
      g.after (numbered lock k) ∙ ap (λ b. if b then true else is_held (standing xs (numbered lock k))) (ne_eqb (numbered l j) (numbered lock k) (apart l j low on))
    where
      apart : (l j : ℕ) → j < 8 → obj ≡ object.Weak l j → numbered l j ≢ numbered lock k
      apart l j low on e = let a : l ≡ lock = omega arith in let b : j ≡ k = omega arith in ne (on ∙ ap (λ z. object.Weak z j) a ∙ ap (object.Weak lock) b)
  unmoved xs ys o obj lock k small ne (loses l j low on lets g) =
      g.after (numbered lock k) ∙ ap (λ b. if b then false else is_held (standing xs (numbered lock k))) (ne_eqb (numbered l j) (numbered lock k) (apart l j low on))
    where
      apart : (l j : ℕ) → j < 8 → obj ≡ object.Weak l j → numbered l j ≢ numbered lock k
      apart l j low on e = let a : l ≡ lock = omega arith in let b : j ≡ k = omega arith in ne (on ∙ ap (λ z. object.Weak z j) a ∙ ap (object.Weak lock) b)

  module _ (run : IsRunnable code) (limits : IsWithinLimits s) (st st1 : State Told) (l : Label) (reached : IsReachable code s st) (h : HasStepped code s st l st1) (before : StripesHold st) where
    was : Agree h.before.thread.stripes h.before.thread.regions
    was = before.agree (label_thread l) h.before h.stands

    -- the label's thread after the step
    own_agrees : Agree h.after.thread.stripes h.after.thread.regions
    own_agrees =
        ⊎_elim
        (λ (a : IsAccessStep code s st.words st1.words (event_of (machine code s) st l) l h.before.thread h.after.thread). (access_moves code s l h.before.thread h.after.thread was a.action a.answer a.is_access a.comes).agrees)
        (λ (x : IsOperationStep code s st.words st1.words (event_of (machine code s) st l) l h.before.thread h.after.thread). (operation_moves code s l h.before.thread h.after.thread was x.op x.obj x.answer x.makes).agrees)
        h.kind

    there : slice_get st1.threads (label_thread l) ≡ Some h.after
    there = ap (λ ths. slice_get ths (label_thread l)) h.threads ∙ slice_get-set_same st.threads (label_thread l) h.after h.before h.stands

    others : (u : ℕ) → u ≢ label_thread l → slice_get st1.threads u ≡ slice_get st.threads u
    others u ne = ap (λ ths. slice_get ths u) h.threads ∙ slice_get-set_other st.threads (label_thread l) u h.after ne

    agree_after : (t : ℕ) (told : Told) → slice_get st1.threads t ≡ Some told → Agree told.thread.stripes told.thread.regions
    agree_after t told e =
        ⊎_elim
        (λ same. subst (λ (z : Told). Agree z.thread.stripes z.thread.regions) (same_Some h.after told (sym there ∙ ap (slice_get st1.threads) (sym same) ∙ e)) own_agrees)
        (λ ne. before.agree t told (sym (others t ne) ∙ e))
        (cases_eq t (label_thread l))

    -- ---- one stripe

    module _ (lock k : ℕ) (has : has_object code s (object.Weak lock k) ≡ true) where
      was_named : names code s (object.Weak lock k) (label_thread l) st ≡ is_held (standing h.before.thread.stripes (numbered lock k))
      was_named = before.named lock k (label_thread l) has ∙ ap (held_at (numbered lock k)) h.stands

      kept_name : LeavesAlone code s (object.Weak lock k) st l st1 → (t : ℕ) → names code s (object.Weak lock k) t st1 ≡ names code s (object.Weak lock k) t st
      kept_name a t = ap (λ w. is_held_by t (lock_of (state_of w))) a.same

      abbrev word_then : ℕ
      word_then = word_of_object code s (object.Weak lock k) st

      abbrev word_now : ℕ
      word_now = word_of_object code s (object.Weak lock k) st1

      by_on : (p : Op) (answer : ℤ) (o : ObjId) → first_row (rows p (label_thread l)) (shown (kind_of (name_of p)) word_then) ≡ RowMoves (shown (kind_of (name_of p)) word_now) answer → o ≡ object.Weak lock k → ByOperation h.before.thread.stripes h.after.thread.stripes p o → names code s (object.Weak lock k) (label_thread l) st1 ≡ is_held (standing h.after.thread.stripes (numbered lock k))
      by_on p answer o row is (elsewhere e f) = absurd (true≢false (sym (ap is_stripe is) ∙ e))
      by_on p answer o row is (gains m j low on gets g) =
          let r = gets_row p (label_thread l) answer word_then word_now gets row in
          let same : numbered m j ≡ numbered lock k = same_number (sym on ∙ is) in
          ap (is_held_by (label_thread l)) r.1 ∙ eq-eqb (label_thread l) (label_thread l) refl ∙ sym (g.after (numbered lock k) ∙ ap (λ b. if b then true else is_held (standing h.before.thread.stripes (numbered lock k))) (eq-eqb (numbered m j) (numbered lock k) same))
        where
          same_number : {m j : ℕ} → object.Weak m j ≡ object.Weak lock k → numbered m j ≡ numbered lock k
          same_number {m} {j} e = let a : m ≡ lock = cc in let b : j ≡ k = cc in omega arith
      by_on p answer o row is (loses m j low on lets g) =
          let r = lets_row p (label_thread l) answer word_then word_now lets row in
          let same : numbered m j ≡ numbered lock k = same_number (sym on ∙ is) in
          ap (is_held_by (label_thread l)) r.1 ∙ sym (g.after (numbered lock k) ∙ ap (λ b. if b then false else is_held (standing h.before.thread.stripes (numbered lock k))) (eq-eqb (numbered m j) (numbered lock k) same))
        where
          same_number : {m j : ℕ} → object.Weak m j ≡ object.Weak lock k → numbered m j ≡ numbered lock k
          same_number {m} {j} e = let a : m ≡ lock = cc in let b : j ≡ k = cc in omega arith

      own_named : names code s (object.Weak lock k) (label_thread l) st1 ≡ is_held (standing h.after.thread.stripes (numbered lock k))
      own_named = ⊎_elim by_access by_operation h.kind
        where
          by_access : IsAccessStep code s st.words st1.words (event_of (machine code s) st l) l h.before.thread h.after.thread → names code s (object.Weak lock k) (label_thread l) st1 ≡ is_held (standing h.after.thread.stripes (numbered lock k))
          by_access a =
              kept_name (alone_by_access code s (object.Weak lock k) run limits has st st1 l reached h a) (label_thread l) ∙ was_named
              ∙ sym ((access_moves code s l h.before.thread h.after.thread was a.action a.answer a.is_access a.comes).alike (numbered lock k))

          by_operation : IsOperationStep code s st.words st1.words (event_of (machine code s) st l) l h.before.thread h.after.thread → names code s (object.Weak lock k) (label_thread l) st1 ≡ is_held (standing h.after.thread.stripes (numbered lock k))
          by_operation x =
              let m = (operation_moves code s l h.before.thread h.after.thread was x.op x.obj x.answer x.makes).moves in
              ⊎_elim
              (λ e. by_on x.op x.answer x.obj (row_here code s (object.Weak lock k) run limits has st st1 l reached h x e) e m)
              (λ ne. kept_name (other_object code s (object.Weak lock k) run limits has st st1 l reached h x ne) (label_thread l) ∙ was_named
              ∙ sym (unmoved h.before.thread.stripes h.after.thread.stripes x.op x.obj lock k (small_of lock k has) ne m))
              (object_cases x.obj (object.Weak lock k))

      other_kept : (t : ℕ) → label_thread l ≢ t → ObjectStep code s (object.Weak lock k) st l st1 → names code s (object.Weak lock k) t st1 ≡ names code s (object.Weak lock k) t st
      other_kept t ne (inl a) = kept_name a t
      other_kept t ne (inr x) = other_named (object.Weak lock k) x.noted.entry.op (label_thread l) t x.answer (holder code s (object.Weak lock k) st) (holder code s (object.Weak lock k) st1) ne (lock_moves code s (object.Weak lock k) (stripe lock k) st st1 l x)

      named_after : (t : ℕ) → names code s (object.Weak lock k) t st1 ≡ held_at (numbered lock k) (slice_get st1.threads t)
      named_after t =
          ⊎_elim
          (λ same. ap (λ u. names code s (object.Weak lock k) u st1) same ∙ own_named ∙ sym (ap (λ u. held_at (numbered lock k) (slice_get st1.threads u)) same ∙ ap (held_at (numbered lock k)) there))
          (λ ne. other_kept t (λ e. ne (sym e)) (object_step code s (object.Weak lock k) run limits has st st1 l reached h) ∙ before.named lock k t has ∙ sym (ap (held_at (numbered lock k)) (others t ne)))
          (cases_eq t (label_thread l))

    -- ---- no stripe is held that isn't there

    known_by : (lock k : ℕ) → k < 8 → (o : Op) (obj : ObjId) → has_object code s obj ≡ true → ByOperation h.before.thread.stripes h.after.thread.stripes o obj → is_held (standing h.after.thread.stripes (numbered lock k)) ≡ true → has_object code s (object.Weak lock k) ≡ true
    known_by lock k small o obj has m held =
        ⊎_elim
        (λ e. subst (λ z. has_object code s z ≡ true) e has)
        (λ ne. before.known (label_thread l) lock k small (ap (held_at (numbered lock k)) h.stands ∙ sym (unmoved h.before.thread.stripes h.after.thread.stripes o obj lock k small ne m) ∙ held))
        (object_cases obj (object.Weak lock k))

    own_known : (lock k : ℕ) → k < 8 → is_held (standing h.after.thread.stripes (numbered lock k)) ≡ true → has_object code s (object.Weak lock k) ≡ true
    own_known lock k small held =
        ⊎_elim
        (λ (a : IsAccessStep code s st.words st1.words (event_of (machine code s) st l) l h.before.thread h.after.thread). before.known (label_thread l) lock k small (ap (held_at (numbered lock k)) h.stands ∙ sym ((access_moves code s l h.before.thread h.after.thread was a.action a.answer a.is_access a.comes).alike (numbered lock k)) ∙ held))
        (λ (x : IsOperationStep code s st.words st1.words (event_of (machine code s) st l) l h.before.thread h.after.thread). known_by lock k small x.op x.obj x.has (operation_moves code s l h.before.thread h.after.thread was x.op x.obj x.answer x.makes).moves held)
        h.kind

    pub stripes_after : StripesHold st1
    stripes_after = record {
      agree = agree_after;
      named = λ lock k t has. named_after lock k has t;
      known = λ t lock k small held. ⊎_elim
          (λ same. own_known lock k small (sym (ap (λ u. held_at (numbered lock k) (slice_get st1.threads u)) same ∙ ap (held_at (numbered lock k)) there) ∙ held))
          (λ ne. before.known t lock k small (sym (ap (held_at (numbered lock k)) (others t ne)) ∙ held))
          (cases_eq t (label_thread l));
    }
