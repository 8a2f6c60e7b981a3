-- One step and the life of one thread: what its begin, its start and its end are made by.
use Rattle.std.proofs.Common.{◌≡◌, ◌≢◌, ℕ, ◌⊎◌, inl, inr, ⊎_elim, Bool, true, false, Some, refl, sym, ap, subst, ◌∙◌, ℤ, pos}
use Rattle.std.proofs.lemmas.Bool.{true≢false}
use Rattle.std.proofs.lemmas.Option.{same_Some}
use Rattle.sync_objects.specs.Setup.{SetupView, IsWithinLimits}
use Rattle.sync_objects.specs.Names.{name_of}
use Rattle.sync_objects.specs.States.{SlotState, Idle, Closed, Begun, Ended, Joined, Shut, Started}
use Rattle.sync_objects.specs.Table.{misuse}
use Rattle.sync_objects.specs.declared.entry.Noted.{Noted}
use Rattle.sync_objects.specs.declared.object.ObjId.TheVariants as object
use Rattle.sync_objects.specs.declared.operation.Op.{Op}
use Rattle.sync_objects.specs.declared.operation.Op.TheVariants as op
use Rattle.sync_objects.specs.declared.operation.OpName.{OpName}
use Rattle.sync_objects.specs.declared.operation.OpName.TheVariants as name
use Rattle.flow_code.specs.declared.code.Code.{Code}
use Rattle.flow_code.specs.Settle.{IsRunnable}
use Rattle.core_run.specs.Histories.{IsReachable}
use Rattle.core_run.specs.Words.{has_object}
use Rattle.core_run.specs.Machine.{Told, machine}
use Rattle.run_theory.specs.Labels.{Label, label_thread}
use Rattle.run_theory.specs.Laws.{NoAccess}
use Rattle.run_theory.specs.Ordered.{Event, Did, event_access, event_of}
use Rattle.run_theory.specs.Steps.{State, stepped}
use Rattle.lock_ownership.proofs.SlotMoves.{life, SlotMove, starts, shuts, begins, ends, joins, misses, closes, waits, is_shut, was_started, has_run, is_over, is_used}
use Rattle.lock_ownership.proofs.SlotMakes.{IsFresh, fresh_access, fresh_makes, ended_access, ended_makes, gone_access, own_makes}
use Rattle.lock_ownership.proofs.SlotStates.{IsAlive, life_moves, life_kept, alive}
use Rattle.lock_ownership.specs.Holders.{word_of_object}
use Rattle.lock_ownership.proofs.Stepping.{IsAccessStep, IsOperationStep, HasStepped, has_stepped}
use Rattle.lock_ownership.proofs.ObjectSteps.{LeavesAlone, OperatesOn, ObjectStep, object_step}

-- a life waits, or is shut, or has begun
pub life_cases : (x : SlotState) → (waits x ≡ true) ⊎ ((is_shut x ≡ true) ⊎ (has_run x ≡ true))
life_cases Idle = inl refl
life_cases (Started f) = inl refl
life_cases Closed = inr (inl refl)
life_cases Shut = inr (inl refl)
life_cases Begun = inr (inr refl)
life_cases Ended = inr (inr refl)
life_cases Joined = inr (inr refl)

differs : (p : SlotState → Bool) (x y : SlotState) (b : Bool) → x ≡ y → p y ≡ b → p x ≡ b
differs p x y b e f = ap p e ∙ f

clash : (p : SlotState → Bool) (x y : SlotState) → x ≡ y → p y ≡ true → p x ≡ false → ⊥
clash p x y e f g = true≢false (sym (differs p x y true e f) ∙ g)

counter : (p : SlotState → Bool) (x y : SlotState) → x ≡ y → p y ≡ false → p x ≡ true → ⊥
counter p x y e f g = true≢false (sym g ∙ differs p x y false e f)

module _ (code : Code) (s : SetupView) (run : IsRunnable code) (limits : IsWithinLimits s) (k : ℕ) (has : has_object code s (object.Slot k) ≡ true) (st st1 : State Told) (l : Label) (reached : IsReachable code s st) (e : stepped (machine code s) st l ≡ Some st1) where
  abbrev old : SlotState
  old = life code s k st

  abbrev new : SlotState
  new = life code s k st1

  step : HasStepped code s st l st1
  step = has_stepped code s st st1 l e

  pub on_slot : ObjectStep code s (object.Slot k) st l st1
  on_slot = object_step code s (object.Slot k) run limits has st st1 l reached step

  -- what once holds of a life stays so
  pub stays : (p : SlotState → Bool) → ((o : Op) (answer : ℤ) (a b : SlotState) → SlotMove o answer a b → p a ≡ true → p b ≡ true) → p old ≡ true → p new ≡ true
  stays p keeps h = by on_slot
    where
      by : ObjectStep code s (object.Slot k) st l st1 → p new ≡ true
      by (inl a) = ap p (life_kept code s k st st1 l a) ∙ h
      by (inr x) = keeps x.operation x.answer old new (life_moves code s k st st1 l x) h

  -- an operation on the slot that happens here, of this name
  pub record Happens (o : OpName) (t : ℕ) : Type 0 where
    pub noted : Noted
    pub word : ℕ
    pub answer : ℤ
    pub happens : event_of (machine code s) st l ≡ Some (Did t noted word answer)
    pub named : noted.entry.op ≡ o
    pub on : noted.entry.obj ≡ object.Slot k

  happens_here : (x : OperatesOn code s (object.Slot k) st l st1) (o : Op) → x.operation ≡ o → Happens (name_of o) (label_thread l)
  happens_here x o is = record { noted = x.noted; word = word_of_object code s (object.Slot k) st; answer = x.answer; happens = x.happens; named = x.named ∙ ap name_of is; on = x.on }

  own_thread : (x : OperatesOn code s (object.Slot k) st l st1) → (x.operation ≡ op.Begin) ⊎ ((x.operation ≡ op.End) ⊎ (x.operation ≡ op.Close)) → label_thread l ≡ k
  own_thread x is = let same : object.Slot k ≡ object.Slot (label_thread l) = own_makes code s l x.before.thread x.after.thread run x.operation (object.Slot k) x.answer is x.makes in cc

  -- ---- where a life begins, is started, ends

  pub begins_here : has_run old ≡ false → has_run new ≡ true → Happens name.Begin k × (was_started old ≡ true) × (is_shut old ≡ false)
  begins_here was now = by on_slot
    where
      with_thread : (t : ℕ) → t ≡ k → Happens name.Begin t → Happens name.Begin k
      with_thread t same h = subst (Happens name.Begin) same h

      by_move : (x : OperatesOn code s (object.Slot k) st l st1) → SlotMove x.operation x.answer old new → Happens name.Begin k × (was_started old ≡ true) × (is_shut old ≡ false)
      by_move x (starts f is a b) = absurd (counter has_run new (Started f) b refl now)
      by_move x (shuts f is a b) = absurd (counter has_run new Shut b refl now)
      by_move x (begins f is a b) = (with_thread (label_thread l) (own_thread x (inl is)) (happens_here x op.Begin is), ap was_started a, ap is_shut a)
      by_move x (ends is a b) = absurd (clash has_run old Begun a refl was)
      by_move x (joins is a b) = absurd (clash has_run old Ended a refl was)
      by_move x (misses is a b) = absurd (true≢false (sym now ∙ ap has_run b ∙ was))
      by_move x (closes is a b) = absurd (counter has_run new Closed b refl now)

      by : ObjectStep code s (object.Slot k) st l st1 → Happens name.Begin k × (was_started old ≡ true) × (is_shut old ≡ false)
      by (inl a) = absurd (true≢false (sym now ∙ ap has_run (life_kept code s k st st1 l a) ∙ was))
      by (inr x) = by_move x (life_moves code s k st st1 l x)

  pub starts_here : was_started old ≡ false → was_started new ≡ true → Happens name.Start (label_thread l) × (is_used old ≡ false)
  starts_here was now = by on_slot
    where
      by_move : (x : OperatesOn code s (object.Slot k) st l st1) → SlotMove x.operation x.answer old new → Happens name.Start (label_thread l) × (is_used old ≡ false)
      by_move x (starts f is a b) = (happens_here x (op.Start f) is, ap is_used a)
      by_move x (shuts f is a b) = absurd (counter was_started new Shut b refl now)
      by_move x (begins f is a b) = absurd (clash was_started old (Started f) a refl was)
      by_move x (ends is a b) = absurd (clash was_started old Begun a refl was)
      by_move x (joins is a b) = absurd (clash was_started old Ended a refl was)
      by_move x (misses is a b) = absurd (true≢false (sym now ∙ ap was_started b ∙ was))
      by_move x (closes is a b) = absurd (counter was_started new Closed b refl now)

      by : ObjectStep code s (object.Slot k) st l st1 → Happens name.Start (label_thread l) × (is_used old ≡ false)
      by (inl a) = absurd (true≢false (sym now ∙ ap was_started (life_kept code s k st st1 l a) ∙ was))
      by (inr x) = by_move x (life_moves code s k st st1 l x)

  pub ends_here : is_over old ≡ false → is_over new ≡ true → Happens name.End k
  ends_here was now = by on_slot
    where
      with_thread : (t : ℕ) → t ≡ k → Happens name.End t → Happens name.End k
      with_thread t same h = subst (Happens name.End) same h

      by_move : (x : OperatesOn code s (object.Slot k) st l st1) → SlotMove x.operation x.answer old new → Happens name.End k
      by_move x (starts f is a b) = absurd (counter is_over new (Started f) b refl now)
      by_move x (shuts f is a b) = absurd (counter is_over new Shut b refl now)
      by_move x (begins f is a b) = absurd (counter is_over new Begun b refl now)
      by_move x (ends is a b) = with_thread (label_thread l) (own_thread x (inr (inl is))) (happens_here x op.End is)
      by_move x (joins is a b) = absurd (clash is_over old Ended a refl was)
      by_move x (misses is a b) = absurd (true≢false (sym now ∙ ap is_over b ∙ was))
      by_move x (closes is a b) = absurd (counter is_over new Closed b refl now)

      by : ObjectStep code s (object.Slot k) st l st1 → Happens name.End k
      by (inl a) = absurd (true≢false (sym now ∙ ap is_over (life_kept code s k st st1 l a) ∙ was))
      by (inr x) = by_move x (life_moves code s k st st1 l x)

  -- ---- what an operation that happens says of the life

  same_did : (t u : ℕ) (x y : Noted) (v w : ℕ) (a b : ℤ) → Some (Did t x v a) ≡ Some (Did u y w b) → (x ≡ y) × (a ≡ b)
  same_did t u x y v w a b f = (cc, cc)

  -- the operation that happens, as a step on the slot
  found : (t : ℕ) (x : Noted) (word : ℕ) (answer : ℤ) → event_of (machine code s) st l ≡ Some (Did t x word answer) → x.entry.obj ≡ object.Slot k → (y : OperatesOn code s (object.Slot k) st l st1) × (x.entry.op ≡ name_of y.operation) × (answer ≡ y.answer)
  found t x word answer h on = by on_slot
    where
      by : ObjectStep code s (object.Slot k) st l st1 → (y : OperatesOn code s (object.Slot k) st l st1) × (x.entry.op ≡ name_of y.operation) × (answer ≡ y.answer)
      by (inl a) = absurd (a.none t x word answer h on)
      by (inr y) = let same = same_did t (label_thread l) x y.noted word (word_of_object code s (object.Slot k) st) answer y.answer (sym h ∙ y.happens) in (y, ap (λ (z : Noted). z.entry.op) same.0 ∙ y.named, same.1)

  -- a start is made of a life that wasn't started, and afterwards it is used
  pub start_says : (t : ℕ) (x : Noted) (word : ℕ) (answer : ℤ) → event_of (machine code s) st l ≡ Some (Did t x word answer) → x.entry.obj ≡ object.Slot k → x.entry.op ≡ name.Start → (was_started old ≡ false) × (is_used new ≡ true)
  start_says t x word answer h on named = let f = found t x word answer h on in by_move f.0 f.0.operation (sym named ∙ f.1) (life_moves code s k st st1 l f.0)
    where
      by_move : (y : OperatesOn code s (object.Slot k) st l st1) (o : Op) → name.Start ≡ name_of o → SlotMove o y.answer old new → (was_started old ≡ false) × (is_used new ≡ true)
      by_move y o is (starts f g a b) = (ap was_started a, ap is_used b)
      by_move y o is (shuts f g a b) = (ap was_started a, ap is_used b)
      by_move y o is (begins f g a b) = let n = ap name_of g in cc
      by_move y o is (ends g a b) = let n = ap name_of g in cc
      by_move y o is (joins g a b) = let n = ap name_of g in cc
      by_move y o is (misses g a b) = let n = ap name_of g in cc
      by_move y o is (closes g a b) = let n = ap name_of g in cc

  -- a join that answers 0 is made of a life that is over
  pub join_says : (t : ℕ) (x : Noted) (word : ℕ) → event_of (machine code s) st l ≡ Some (Did t x word (pos 0)) → x.entry.obj ≡ object.Slot k → x.entry.op ≡ name.Join → is_over old ≡ true
  join_says t x word h on named = let f = found t x word (pos 0) h on in by_move f.0 f.0.operation (sym named ∙ f.1) f.0.answer f.2 (life_moves code s k st st1 l f.0)
    where
      by_move : (y : OperatesOn code s (object.Slot k) st l st1) (o : Op) → name.Join ≡ name_of o → (answer : ℤ) → pos 0 ≡ answer → SlotMove o answer old new → is_over old ≡ true
      by_move y o is answer zero_is (starts f g a b) = let n = ap name_of g in cc
      by_move y o is answer zero_is (shuts f g a b) = let n = ap name_of g in cc
      by_move y o is answer zero_is (begins f g a b) = let n = ap name_of g in cc
      by_move y o is answer zero_is (ends g a b) = let n = ap name_of g in cc
      by_move y o is answer zero_is (joins g a b) = ap is_over a
      by_move y o is answer zero_is (misses g a b) = let wrong : pos 0 ≡ misuse = zero_is ∙ a in cc
      by_move y o is answer zero_is (closes g a b) = let n = ap name_of g in cc

  -- ---- what the events of the thread itself say

  -- a thread that waits begins here, or is closed
  pub data Opens : Type 0 where
    opens : Happens name.Begin k → has_run new ≡ true → Opens
    shut_up : Happens name.Close k → is_shut new ≡ true → Opens

  module _ (own : label_thread l ≡ k) where
    living : IsAlive code s (label_thread l) (life code s (label_thread l) st) step.before.thread
    living = (alive code s run limits st reached).each (label_thread l) step.before step.stands

    old_is : life code s (label_thread l) st ≡ old
    old_is = ap (λ u. life code s u st) own

    fresh : waits old ≡ true → IsFresh code s l step.before.thread step.after.thread
    fresh w = let f = living.waiting (ap waits old_is ∙ w) in record { same = f.0; phase = f.1 }

    -- a thread that is shut makes no event
    pub shut_silent : is_shut old ≡ true → ⊥
    shut_silent w =
        ⊎_elim
        (λ (a : IsAccessStep code s st.words st1.words (event_of (machine code s) st l) l step.before.thread step.after.thread). ended_access code s l step.before.thread step.after.thread (living.closed (ap is_shut old_is ∙ w)) a.action a.answer a.is_access a.comes)
        (λ (y : IsOperationStep code s st.words st1.words (event_of (machine code s) st l) l step.before.thread step.after.thread). ended_makes code s l step.before.thread step.after.thread (living.closed (ap is_shut old_is ∙ w)) y.op y.obj y.answer y.makes)
        step.kind

    -- a thread whose slot has ended makes no access
    pub over_silent : (x : Event) → is_over old ≡ true → event_of (machine code s) st l ≡ Some x → event_access x ≢ NoAccess → ⊥
    over_silent x w h access =
        ⊎_elim
        (λ (a : IsAccessStep code s st.words st1.words (event_of (machine code s) st l) l step.before.thread step.after.thread). gone_access code s l step.before.thread step.after.thread (living.over (ap is_over old_is ∙ w)) a.action a.answer a.is_access a.comes)
        (λ (y : IsOperationStep code s st.words st1.words (event_of (machine code s) st l) l step.before.thread step.after.thread). access (ap event_access (same_Some x (Did (label_thread l) y.noted y.old y.answer) (sym h ∙ y.happens))))
        step.kind

    fresh_at : waits old ≡ true → (x : OperatesOn code s (object.Slot k) st l st1) → IsFresh code s l x.before.thread x.after.thread
    fresh_at w x = let f = ((alive code s run limits st reached).each (label_thread l) x.before x.stands).waiting (ap waits old_is ∙ w) in record { same = f.0; phase = f.1 }

    opens_by : waits old ≡ true → (x : OperatesOn code s (object.Slot k) st l st1) → (x.operation ≡ op.Begin) ⊎ (x.operation ≡ op.Close) → SlotMove x.operation x.answer old new → Opens
    opens_by w x is (starts f g a b) = absurd (no x.operation is g)
      where
        no : (o : Op) → (o ≡ op.Begin) ⊎ (o ≡ op.Close) → o ≡ op.Start f → ⊥
        no o (inl u) v = cc
        no o (inr u) v = cc
    opens_by w x is (shuts f g a b) = absurd (counter waits old Closed a refl w)
    opens_by w x is (begins f g a b) = opens (subst (Happens name.Begin) own (happens_here x op.Begin g)) (ap has_run b)
    opens_by w x is (ends g a b) = absurd (counter waits old Begun a refl w)
    opens_by w x is (joins g a b) = absurd (counter waits old Ended a refl w)
    opens_by w x is (misses g a b) = absurd (no x.operation is g)
      where
        no : (o : Op) → (o ≡ op.Begin) ⊎ (o ≡ op.Close) → o ≡ op.Join → ⊥
        no o (inl u) v = cc
        no o (inr u) v = cc
    opens_by w x is (closes g a b) = shut_up (subst (Happens name.Close) own (happens_here x op.Close g)) (ap is_shut b)

    pub waiting_opens : waits old ≡ true → Opens
    waiting_opens w = by on_slot
      where
        alone : LeavesAlone code s (object.Slot k) st l st1 → ⊥
        alone a =
            ⊎_elim
            (λ (c : IsAccessStep code s st.words st1.words (event_of (machine code s) st l) l step.before.thread step.after.thread). fresh_access code s l step.before.thread step.after.thread limits (fresh w) c.action c.answer c.is_access c.comes)
            (λ (y : IsOperationStep code s st.words st1.words (event_of (machine code s) st l) l step.before.thread step.after.thread). a.none (label_thread l) y.noted y.old y.answer y.happens (y.on ∙ (fresh_makes code s l step.before.thread step.after.thread limits (fresh w) y.op y.obj y.answer y.makes).1 ∙ ap object.Slot own))
            step.kind

        by : ObjectStep code s (object.Slot k) st l st1 → Opens
        by (inl a) = absurd (alone a)
        by (inr x) = opens_by w x (fresh_makes code s l x.before.thread x.after.thread limits (fresh_at w x) x.operation (object.Slot k) x.answer x.makes).0 (life_moves code s k st st1 l x)
