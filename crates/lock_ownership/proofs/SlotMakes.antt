-- What is made of a thread that hasn't begun, of one that has ended, and of its own slot.
use Rattle.std.proofs.Common.{◌≡◌, ℕ, ◌&&◌, not, nat_lt, ◌⊎◌, inl, inr, true, refl, sym, ap, subst, ◌∙◌, ℤ}
use Rattle.std.proofs.lemmas.Bool.{true≢false, and_parts}
use Rattle.sync_objects.specs.Setup.{SetupView, IsWithinLimits}
use Rattle.sync_objects.specs.Names.{name_of}
use Rattle.sync_objects.specs.declared.object.ObjId.{ObjId}
use Rattle.sync_objects.specs.declared.object.ObjId.TheVariants as object
use Rattle.sync_objects.specs.declared.operation.Op.{Op}
use Rattle.sync_objects.specs.declared.operation.Op.TheVariants as op
use Rattle.word_semantics.specs.declared.event.Action.{Action}
use Rattle.word_semantics.specs.declared.event.Action.TheVariants as action
use Rattle.word_semantics.specs.declared.event.Due.TheVariants as due
use Rattle.word_semantics.specs.Limits.{most_entries, most_revokes}
use Rattle.word_semantics.proofs.Calls.{is_from_outside}
use Rattle.flow_code.specs.declared.code.Code.{Code}
use Rattle.flow_code.specs.declared.thread.Phase.TheVariants as phase
use Rattle.flow_code.specs.Threads.{Thread}
use Rattle.flow_code.specs.Next.{holds, action_at, has_ended, has_begun}
use Rattle.flow_code.specs.Settle.{settled, IsRunnable}
use Rattle.flow_code.proofs.Asked.{own_action}
use Rattle.flow_code.proofs.Counts.{IsAccessAction, ended_due, ended_action}
use Rattle.flow_code.proofs.Settle.{settled_none}
use Rattle.core_run.specs.Machine.{may_revoke, may_stop}
use Rattle.thread_interpreter.specs.Starts.{start_thread}
use Rattle.core_run.proofs.ThreadRanges.{revoke_lives, stop_lives, close_lives}
use Rattle.run_theory.specs.Labels.{Label, label_thread}
use Rattle.lock_ownership.proofs.PlainDues.{OfSlot}
use Rattle.lock_ownership.proofs.SlotThreads.{action_own, start_action, IsOver, calm_over, over_access, over_operation, over_revoke, end_over}
use Rattle.lock_ownership.proofs.Stepping.{ComesTo, Makes, by_itself, by_revoke, by_stop, by_close}

-- two actions that come next are the same
same_op : (a : Action) (o p : Op) (x y : ObjId) → a ≡ action.Operate o x → a ≡ action.Operate p y → (p ≡ o) × (y ≡ x)
same_op a o p x y e f = let same : action.Operate o x ≡ action.Operate p y = sym e ∙ f in (cc, cc)

module _ (code : Code) (s : SetupView) (l : Label) (th q : Thread) where
  abbrev me : ℕ
  me = label_thread l

  -- ---- before its begin

  -- a thread that hasn't begun, as it was at the start
  pub record IsFresh : Type 0 where
    pub same : th ≡ start_thread code s me
    pub phase : th.phase ≡ phase.Fresh

  fresh_phase : IsFresh → (start_thread code s me).phase ≡ phase.Fresh
  fresh_phase h = subst (λ (z : Thread). z.phase ≡ phase.Fresh) h.same h.phase

  fresh_action : IsWithinLimits s → IsFresh → action_at code s me (settled code s me th) ≡ action.Operate op.Begin (object.Slot me)
  fresh_action limits h = subst (λ z. action_at code s me (settled code s me z) ≡ action.Operate op.Begin (object.Slot me)) (sym h.same) (start_action code s limits me (fresh_phase h))

  pub fresh_access : IsWithinLimits s → IsFresh → (a : Action) (answer : ℤ) → IsAccessAction a → ComesTo code s l th a answer q → ⊥
  fresh_access limits h a answer is c = subst IsAccessAction (sym c.comes ∙ fresh_action limits h) is

  no_stripe : (lock stripe : ℕ) → IsFresh → may_revoke th lock stripe ≡ true → ⊥
  no_stripe lock stripe h e =
      let a = and_parts (not (has_ended th.phase) && holds th.stripes lock stripe && nat_lt th.entries most_entries) (nat_lt th.revokes most_revokes) e in
      let b = and_parts (not (has_ended th.phase) && holds th.stripes lock stripe) (nat_lt th.entries most_entries) a.0 in
      let held = (and_parts (not (has_ended th.phase)) (holds th.stripes lock stripe) b.0).1 in
      true≢false (sym held ∙ ap (λ (z : Thread). holds z.stripes lock stripe) h.same)

  no_stop : IsFresh → may_stop th ≡ true → ⊥
  no_stop h e = true≢false (sym (and_parts (has_begun th.phase) (not (has_ended th.phase)) e).0 ∙ ap has_begun h.phase)

  -- it begins or is closed, and that alone
  pub fresh_makes : IsWithinLimits s → IsFresh → (o : Op) (obj : ObjId) (answer : ℤ) → Makes code s l th o obj answer q → ((o ≡ op.Begin) ⊎ (o ≡ op.Close)) × (obj ≡ object.Slot me)
  fresh_makes limits h o obj answer (by_itself c) = let same = same_op (action_at code s me (settled code s me th)) op.Begin o (object.Slot me) obj (fresh_action limits h) c.comes in (inl same.0, same.1)
  fresh_makes limits h o obj answer (by_revoke lock stripe may e f after) = absurd (no_stripe lock stripe h may)
  fresh_makes limits h o obj answer (by_stop may e f after) = absurd (no_stop h may)
  fresh_makes limits h o obj answer (by_close may e f after) = (inr e, f)

  -- ---- after its end

  ended_calm : has_ended th.phase ≡ true → settled code s me th ≡ th
  ended_calm e = settled_none code s me th (λ f. let same : due.Nothing ≡ due.Quiet = sym (ended_due code s me th e) ∙ f in cc)

  ended_comes : has_ended th.phase ≡ true → action_at code s me (settled code s me th) ≡ action.Ended
  ended_comes e = ap (action_at code s me) (ended_calm e) ∙ ended_action code s me th e

  pub ended_access : has_ended th.phase ≡ true → (a : Action) (answer : ℤ) → IsAccessAction a → ComesTo code s l th a answer q → ⊥
  ended_access e a answer is c = subst IsAccessAction (sym c.comes ∙ ended_comes e) is

  -- nothing is made of it
  pub ended_makes : has_ended th.phase ≡ true → (o : Op) (obj : ObjId) (answer : ℤ) → Makes code s l th o obj answer q → ⊥
  ended_makes e o obj answer (by_itself c) = let same : action.Ended ≡ action.Operate o obj = sym (ended_comes e) ∙ c.comes in cc
  ended_makes e o obj answer (by_revoke lock stripe may f g after) = true≢false (sym e ∙ revoke_lives th lock stripe may)
  ended_makes e o obj answer (by_stop may f g after) = true≢false (sym e ∙ stop_lives th may)
  ended_makes e o obj answer (by_close may f g after) = true≢false (sym e ∙ close_lives th may)

  -- ---- after the end of its slot

  pub gone_access : IsOver code s me th → (a : Action) (answer : ℤ) → IsAccessAction a → ComesTo code s l th a answer q → ⊥
  gone_access h a answer is c = over_access code s me (settled code s me th) a is c.comes (calm_over code s me th h)

  pub gone_makes : IsOver code s me th → (o : Op) (obj : ObjId) (answer : ℤ) → Makes code s l th o obj answer q → IsOver code s me q
  gone_makes h o obj answer (by_itself c) = subst (IsOver code s me) (sym c.after) (over_operation code s me (settled code s me th) o obj answer c.comes (calm_over code s me th h))
  gone_makes h o obj answer (by_revoke lock stripe may f g after) = subst (IsOver code s me) (sym after) (over_revoke code s me th lock stripe h)
  gone_makes h o obj answer (by_stop may f g after) = subst (IsOver code s me) (sym after) (inr refl)
  gone_makes h o obj answer (by_close may f g after) = subst (IsOver code s me) (sym after) (inr refl)

  -- ---- its own slot

  pub end_makes : (o : Op) (obj : ObjId) (answer : ℤ) → o ≡ op.End → Makes code s l th o obj answer q → IsOver code s me q
  end_makes o obj answer e (by_itself c) = subst (IsOver code s me) (sym c.after) (end_over code s me (settled code s me th) obj answer (c.comes ∙ ap (λ z. action.Operate z obj) e))
  end_makes o obj answer e (by_revoke lock stripe may f g after) = cc
  end_makes o obj answer e (by_stop may f g after) = cc
  end_makes o obj answer e (by_close may f g after) = cc

  own_no_close : IsRunnable code → (o : Op) (obj : ObjId) (answer : ℤ) → o ≡ op.Close → ComesTo code s l th (action.Operate o obj) answer q → ⊥
  own_no_close run o obj answer e c = true≢false (sym (ap (λ z. is_from_outside (name_of z)) e) ∙ (own_action code s me (settled code s me th) o obj run c.comes).own)

  pub close_makes : IsRunnable code → (o : Op) (obj : ObjId) (answer : ℤ) → o ≡ op.Close → Makes code s l th o obj answer q → has_ended q.phase ≡ true
  close_makes run o obj answer e (by_itself c) = absurd (own_no_close run o obj answer e c)
  close_makes run o obj answer e (by_revoke lock stripe may f g after) = cc
  close_makes run o obj answer e (by_stop may f g after) = cc
  close_makes run o obj answer e (by_close may f g after) = ap (λ (z : Thread). has_ended z.phase) after

  -- no thread begins, ends or closes the slot of another
  pub own_makes : IsRunnable code → (o : Op) (obj : ObjId) (answer : ℤ) → (o ≡ op.Begin) ⊎ ((o ≡ op.End) ⊎ (o ≡ op.Close)) → Makes code s l th o obj answer q → obj ≡ object.Slot me
  own_makes run o obj answer (inl e) (by_itself c) = subst (λ z. OfSlot me z obj) e (action_own code s me (settled code s me th) o obj c.comes)
  own_makes run o obj answer (inr (inl e)) (by_itself c) = subst (λ z. OfSlot me z obj) e (action_own code s me (settled code s me th) o obj c.comes)
  own_makes run o obj answer (inr (inr e)) (by_itself c) = absurd (own_no_close run o obj answer e c)
  own_makes run o obj answer e (by_revoke lock stripe may f g after) = absurd (no_revoke o e f)
    where
      no_revoke : (p : Op) → (p ≡ op.Begin) ⊎ ((p ≡ op.End) ⊎ (p ≡ op.Close)) → p ≡ op.Revoke → ⊥
      no_revoke p (inl h) k = cc
      no_revoke p (inr (inl h)) k = cc
      no_revoke p (inr (inr h)) k = cc
  own_makes run o obj answer e (by_stop may f g after) = absurd (no_stop_op o e f)
    where
      no_stop_op : (p : Op) → (p ≡ op.Begin) ⊎ ((p ≡ op.End) ⊎ (p ≡ op.Close)) → p ≡ op.Stop → ⊥
      no_stop_op p (inl h) k = cc
      no_stop_op p (inr (inl h)) k = cc
      no_stop_op p (inr (inr h)) k = cc
  own_makes run o obj answer e (by_close may f g after) = g
