-- Each step of a thread, and what others do to it: its stripes stay those of its open regions; and how those move that it holds.
use Rattle.std.proofs.Common.{◌≡◌, ℕ, ◌==◌, nat_le, ◌⊎◌, inl, inr, ⊎_elim, Bool, true, false, if◌then◌else◌, List, Option, Some, None, refl, sym, ap, subst, ◌∙◌, ℤ, pos, eqb-true}
use Rattle.std.proofs.lemmas.Bool.{true≢false}
use Rattle.sync_objects.specs.Setup.{SetupView}
use Rattle.sync_objects.specs.Names.{name_of, is_ending, is_weak}
use Rattle.sync_objects.specs.declared.object.ObjId.{ObjId}
use Rattle.sync_objects.specs.declared.object.ObjId.TheVariants as object
use Rattle.sync_objects.specs.declared.operation.Op.{Op}
use Rattle.sync_objects.specs.declared.operation.Op.TheVariants as op
use Rattle.rr_base.specs.declared.trap.Trap.TheVariants as trap
use Rattle.word_semantics.specs.declared.event.Due.{Due}
use Rattle.word_semantics.specs.declared.event.Due.TheVariants as due
use Rattle.word_semantics.specs.Limits.{is_free_of_limit, most_entries}
use Rattle.flow_code.specs.declared.code.Code.{Code}
use Rattle.flow_code.specs.declared.thread.Stripe.{Stripe}
use Rattle.flow_code.specs.Holding.{number_of_stripe}
use Rattle.flow_code.specs.Threads.{Thread}
use Rattle.flow_code.specs.Next.{phase_due, first_owed, retake, limited, owing, listed, due_of, phase_after, repaid, lost, holds, counted, one_more, after_due, gave_up, stopped, slot_closed, stepped}
use Rattle.flow_code.specs.Settle.{settled}
use Rattle.flow_code.proofs.Counts.{stepped_is, operate_after}
use Rattle.flow_code.proofs.Dues.{quiet_by_code, access_by_code}
use Rattle.flow_code.proofs.Goings.{thread_goes}
use Rattle.flow_code.proofs.Settle.{settled_keeps}
use Rattle.lock_ownership.specs.ThreadStripes.{AreSorted}
use Rattle.lock_ownership.proofs.Standings.{standing, is_held, is_there, repaid_sorted, repaid_standing, owed_is}
use Rattle.lock_ownership.proofs.Holds.{numbered, holds_is, holds_small, lost_sorted, lost_standing}
use Rattle.lock_ownership.proofs.Regions.{Agree}
use Rattle.lock_ownership.proofs.Moves.{HoldsAlike, gains, loses, gain, loss}
use Rattle.lock_ownership.proofs.ThreadSteps.{Steps, same_steps}
use Rattle.lock_ownership.proofs.ActSteps.{Pays, phase_steps}

-- ---- where an operation comes from

listed_from : (full : Bool) (d : Due) (o : Op) (obj : ObjId) → listed full d ≡ due.Operate o obj → d ≡ due.Operate o obj
listed_from false d o obj e = e
listed_from true due.Nothing o obj e = e
listed_from true due.Quiet o obj e = e
listed_from true (due.Load c) o obj e = e
listed_from true (due.Store c w) o obj e = e
listed_from true due.Mark o obj e = e
listed_from true (due.Operate p q) o obj e = by (is_ending (name_of p)) e
  where
    by : (b : Bool) → (if b then due.Operate p q else due.Trap trap.LogFull) ≡ due.Operate o obj → due.Operate p q ≡ due.Operate o obj
    by true r = r
    by false r = cc
listed_from true (due.Trap kind) o obj e = e

limited_from : (over : Bool) (d : Due) (o : Op) (obj : ObjId) → limited over d ≡ due.Operate o obj → d ≡ due.Operate o obj
limited_from false d o obj e = e
limited_from true due.Nothing o obj e = e
limited_from true due.Quiet o obj e = e
limited_from true (due.Load c) o obj e = cc
limited_from true (due.Store c w) o obj e = cc
limited_from true due.Mark o obj e = cc
limited_from true (due.Operate p q) o obj e = by (is_free_of_limit p) e
  where
    by : (b : Bool) → (if b then due.Operate p q else due.Trap trap.Limit) ≡ due.Operate o obj → due.Operate p q ≡ due.Operate o obj
    by true r = r
    by false r = cc
limited_from true (due.Trap kind) o obj e = e

-- the operation takes the first owed stripe again
pub record Retakes (xs : List Stripe) (o : Op) (obj : ObjId) : Type 0 where
  pub stripe : Stripe
  pub owed : first_owed xs ≡ Some stripe
  pub operation : o ≡ op.Retake
  pub on : obj ≡ object.Weak stripe.lock stripe.stripe

-- where one is due by the code alone and it is on a stripe, nothing is owed
abbrev Comes : List Stripe → Due → Op → ObjId → Type 0
Comes xs d o obj = (d ≡ due.Operate o obj) × (is_weak (name_of o) ≡ true → first_owed xs ≡ None) ⊎ Retakes xs o obj

owing_from : (xs : List Stripe) (first : Option Stripe) (d : Due) (o : Op) (obj : ObjId) → first_owed xs ≡ first → owing first d ≡ due.Operate o obj → Comes xs d o obj
owing_from xs None d o obj f e = inl (e, λ w. f)
owing_from xs (Some x) due.Nothing o obj f e = cc
owing_from xs (Some x) due.Quiet o obj f e = cc
owing_from xs (Some x) (due.Load c) o obj f e = inr (record { stripe = x; owed = f; operation = cc; on = cc })
owing_from xs (Some x) (due.Store c w) o obj f e = inr (record { stripe = x; owed = f; operation = cc; on = cc })
owing_from xs (Some x) due.Mark o obj f e = inr (record { stripe = x; owed = f; operation = cc; on = cc })
owing_from xs (Some x) (due.Operate p q) o obj f e = by (is_weak (name_of p)) refl e
  where
    by : (b : Bool) → is_weak (name_of p) ≡ b → (if b then retake x else due.Operate p q) ≡ due.Operate o obj → Comes xs (due.Operate p q) o obj
    by true w r = inr (record { stripe = x; owed = f; operation = cc; on = cc })
    by false w r = let same : p ≡ o = cc in inl (r, λ v. absurd (true≢false (sym v ∙ ap (λ z. is_weak (name_of z)) (sym same) ∙ w)))
owing_from xs (Some x) (due.Trap kind) o obj f e = cc

pub operate_from : (code : Code) (s : SetupView) (t : ℕ) (th : Thread) (o : Op) (obj : ObjId) → due_of code s t th ≡ due.Operate o obj → Comes th.stripes (phase_due code s t th th.phase) o obj
operate_from code s t th o obj e =
    ⊎_elim
    (λ p. inl (limited_from (nat_le s.limit th.count) (phase_due code s t th th.phase) o obj p.0, p.1))
    (λ r. inr r)
    (owing_from th.stripes (first_owed th.stripes) (limited (nat_le s.limit th.count) (phase_due code s t th th.phase)) o obj refl
    (listed_from (nat_le most_entries th.entries) (owing (first_owed th.stripes) (limited (nat_le s.limit th.count) (phase_due code s t th th.phase))) o obj e))

-- ---- a stripe is taken again, or lost

marked_there : (b o : Bool) (w : Option Bool) → (b ≡ true → is_there w ≡ true) → is_there (if b then Some o else w) ≡ is_there w
marked_there true o w h = sym (h refl)
marked_there false o w h = refl

-- the same stripes are there
there_agrees : (th : Thread) (ys : List Stripe) → AreSorted ys → ((n : ℕ) → is_there (standing ys n) ≡ is_there (standing th.stripes n)) → Agree th.stripes th.regions → Agree ys th.regions
there_agrees th ys s e h = record { sorted = s; opened = h.opened; listed = λ n l. h.listed n (sym (e n) ∙ l); only = λ n l. h.only n (sym (e n) ∙ l) }

retake_steps : (th : Thread) (o : Op) (obj : ObjId) → Retakes th.stripes o obj → Steps th (counted op.Retake (record th { stripes = repaid th.stripes })) (due.Operate o obj)
retake_steps th o obj r = record {
  agrees = λ h. there_agrees th (repaid th.stripes) (repaid_sorted th.stripes h.sorted)
      (λ n. ap is_there (repaid_standing n th.stripes r.stripe h.sorted r.owed)
      ∙ marked_there (number_of_stripe r.stripe == n) false (standing th.stripes n) (λ q. subst (λ k. is_there (standing th.stripes k) ≡ true) (eqb-true (number_of_stripe r.stripe) n q) (ap is_there (owed_is 0 th.stripes r.stripe h.sorted r.owed).0))) h;
  moves = λ h. let was = owed_is 0 th.stripes r.stripe h.sorted r.owed in
      gains r.stripe.lock r.stripe.stripe was.1 r.on (inr r.operation)
      (gain th.stripes (repaid th.stripes) (numbered r.stripe.lock r.stripe.stripe) (ap is_held was.0) (λ n. repaid_standing n th.stripes r.stripe h.sorted r.owed));
}

held_there : (w : Option Bool) → is_held w ≡ true → is_there w ≡ true
held_there None e = cc
held_there (Some b) e = refl

-- a stripe that is held is owed from now on
pub revoked_steps : (th : Thread) (lock stripe : ℕ) → holds th.stripes lock stripe ≡ true → Steps th (gave_up th lock stripe) (due.Operate op.Revoke (object.Weak lock stripe))
revoked_steps th lock stripe e = record {
  agrees = λ h. let small = holds_small 0 lock stripe th.stripes h.sorted e in let was = sym (holds_is 0 lock stripe th.stripes small h.sorted) ∙ e in
      there_agrees th (lost th.stripes lock stripe) (lost_sorted th.stripes lock stripe h.sorted)
      (λ n. ap is_there (lost_standing n th.stripes lock stripe small h.sorted e)
      ∙ marked_there (numbered lock stripe == n) true (standing th.stripes n) (λ q. subst (λ k. is_there (standing th.stripes k) ≡ true) (eqb-true (numbered lock stripe) n q) (held_there (standing th.stripes (numbered lock stripe)) was))) h;
  moves = λ h. let small = holds_small 0 lock stripe th.stripes h.sorted e in
      loses lock stripe small refl (inr refl)
      (loss (Some true) th.stripes (lost th.stripes lock stripe) (numbered lock stripe) refl (sym (holds_is 0 lock stripe th.stripes small h.sorted) ∙ e) (λ n. lost_standing n th.stripes lock stripe small h.sorted e));
}

pub stopped_steps : (th : Thread) → Steps th (stopped th) (due.Operate op.Stop object.Halt)
stopped_steps th = same_steps 0 th (stopped th) _ (record { stripes = refl; regions = refl }) (refl, tt)

pub shut_steps : (th : Thread) (t : ℕ) → Steps th (slot_closed th) (due.Operate op.Close (object.Slot t))
shut_steps th t = same_steps t th (slot_closed th) _ (record { stripes = refl; regions = refl }) (refl, tt)

-- ---- a thread's own step

module _ (code : Code) (s : SetupView) (t : ℕ) (th : Thread) (answer : ℤ) where
  -- by the code alone
  code_steps : (d : Due) → phase_due code s t th th.phase ≡ d → Pays th d → Steps th (phase_after code s t th th.phase answer) d
  code_steps d e pays = subst (Steps th (phase_after code s t th th.phase answer)) e (phase_steps code s t th th.phase answer (subst (Pays th) (sym e) pays))

  counts_up : (d : Due) (q : Thread) → Steps th q d → Steps th (one_more q) d
  counts_up d q h = record { agrees = h.agrees; moves = h.moves }

  counts_on : (o : Op) (d : Due) (q : Thread) → Steps th q d → Steps th (counted o q) d
  counts_on o d q h = record { agrees = h.agrees; moves = h.moves }

  operate_steps : (o : Op) (obj : ObjId) → Comes th.stripes (phase_due code s t th th.phase) o obj → Steps th (after_due code s t th (due.Operate o obj) answer) (due.Operate o obj)
  operate_steps o obj (inl p) =
      let first = (thread_goes code s t th (due.Operate o obj) answer p.0).0.first in
      subst (λ q. Steps th q (due.Operate o obj)) (sym (operate_after code s t th o obj answer first))
      (counts_on o (due.Operate o obj) (phase_after code s t th th.phase answer)
      (code_steps (due.Operate o obj) p.0 (λ u obj2 e w. p.1 (subst (λ z. is_weak (name_of z) ≡ true) (let same : o ≡ u = cc in sym same) w))))
  operate_steps o obj (inr r) = subst (λ z. Steps th (after_due code s t th (due.Operate z obj) answer) (due.Operate o obj)) (sym r.operation) (retake_steps th o obj r)

  due_steps : (d : Due) → due_of code s t th ≡ d → Steps th (after_due code s t th d answer) d
  due_steps due.Nothing e = same_steps t th th due.Nothing (record { stripes = refl; regions = refl }) tt
  due_steps due.Quiet e = code_steps due.Quiet (quiet_by_code code s t th e) (λ o obj f w. cc)
  due_steps (due.Load c) e = counts_up (due.Load c) _ (code_steps (due.Load c) (access_by_code code s t th (due.Load c) tt e).0 (λ o obj f w. cc))
  due_steps (due.Store c v) e = counts_up (due.Store c v) _ (code_steps (due.Store c v) (access_by_code code s t th (due.Store c v) tt e).0 (λ o obj f w. cc))
  due_steps due.Mark e = counts_up due.Mark _ (code_steps due.Mark (access_by_code code s t th due.Mark tt e).0 (λ o obj f w. cc))
  due_steps (due.Operate o obj) e = operate_steps o obj (operate_from code s t th o obj e)
  due_steps (due.Trap kind) e = same_steps t th _ (due.Trap kind) (record { stripes = refl; regions = refl }) tt

  pub stepped_steps : Steps th (stepped code s t th answer) (due_of code s t th)
  stepped_steps = subst (λ q. Steps th q (due_of code s t th)) (sym (stepped_is code s t th (due_of code s t th) answer refl)) (due_steps (due_of code s t th) refl)

-- ---- quiet steps

-- what holds of a thread after quiet steps
pub record Settles (th q : Thread) : Type 0 where
  pub agrees : Agree th.stripes th.regions → Agree q.stripes q.regions
  pub alike : Agree th.stripes th.regions → HoldsAlike th.stripes q.stripes

pub settled_settles : (code : Code) (s : SetupView) (t : ℕ) (th : Thread) → Settles th (settled code s t th)
settled_settles code s t th =
    settled_keeps code s t (Settles th)
    (λ q e h. let k = subst (Steps q (stepped code s t q (pos 0))) e (stepped_steps code s t q (pos 0)) in
    record { agrees = λ a. k.agrees (h.agrees a); alike = λ a n. k.moves (h.agrees a) n ∙ h.alike a n })
    th (record { agrees = λ a. a; alike = λ a n. refl })
