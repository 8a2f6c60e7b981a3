-- What an operation does to a mutex or a stripe; so that its word tells who holds it.
use Rattle.std.proofs.Common.{◌≡◌, ℕ, inl, inr, true, false, Some, refl, sym, ap, subst, ◌∙◌, ℤ, eqb-true, eq-eqb}
use Rattle.std.proofs.lemmas.Bool.{true≢false}
use Rattle.sync_objects.specs.Setup.{SetupView, IsWithinLimits}
use Rattle.sync_objects.specs.Names.{name_of, kind_of}
use Rattle.sync_objects.specs.States.{LockState, Free, HeldBy, is_held_by}
use Rattle.sync_objects.specs.Packing.{shown, lock_of}
use Rattle.sync_objects.specs.Words.{state_of}
use Rattle.sync_objects.specs.Table.{Moves, first_row, rows}
use Rattle.sync_objects.specs.declared.kind.ObjKind.TheVariants as kind
use Rattle.sync_objects.specs.declared.mode.Mode.{Mode}
use Rattle.sync_objects.specs.declared.mode.Mode.TheVariants.{Write}
use Rattle.sync_objects.specs.declared.object.ObjId.{ObjId}
use Rattle.sync_objects.specs.declared.object.ObjId.TheVariants as object
use Rattle.sync_objects.specs.declared.operation.Op.{Op}
use Rattle.sync_objects.specs.declared.operation.Op.TheVariants as op
use Rattle.sync_objects.specs.declared.operation.OpName.{OpName}
use Rattle.sync_objects.proofs.RowsOf.{lock_rows, try_lock_rows, unlock_rows, mutex_init_rows, take_rows, give_rows}
use Rattle.flow_code.specs.declared.code.Code.{Code}
use Rattle.flow_code.specs.Settle.{IsRunnable}
use Rattle.core_run.specs.Histories.{IsReachable}
use Rattle.core_run.specs.Words.{has_object}
use Rattle.core_run.specs.Machine.{Told, machine, start_state}
use Rattle.run_theory.specs.Labels.{Label, label_thread}
use Rattle.run_theory.specs.Ordered.{Did, IsRelease, by_unlock, by_give, by_revoke, IsAcquire, by_lock, by_trylock, by_take, by_retake, Releases, Acquires, IsHeldBy}
use Rattle.run_theory.specs.Steps.{State, stepped}
use Rattle.lock_ownership.specs.Holders.{word_of_object, holder, names}
use Rattle.lock_ownership.proofs.Stepping.{has_stepped}
use Rattle.lock_ownership.proofs.ObjectSteps.{OperatesOn, ObjectStep, object_step}

-- an operation by thread t on the lock: who held it before, and who holds it after
pub data LockMove (lock : ObjId) (o : OpName) (t : ℕ) (answer : ℤ) (before after : LockState) : Type 0 where
  acquires : IsAcquire lock Write o answer → before ≡ Free → after ≡ HeldBy t → LockMove lock o t answer before after
  releases : ((word : ℕ) → IsRelease lock Write o t word) → before ≡ HeldBy t → after ≡ Free → LockMove lock o t answer before after
  stays : after ≡ before → LockMove lock o t answer before after

abbrev lock_in : ℕ → LockState
lock_in w = lock_of (state_of w)

-- ---- by the table

lock_answer : (cell : ℕ) (o : Op) (t : ℕ) (answer : ℤ) (w v : ℕ) → kind_of (name_of o) ≡ kind.Mutex → first_row (rows o t) (shown (kind_of (name_of o)) w) ≡ Moves (shown (kind_of (name_of o)) v) answer → LockMove (object.Mutex cell) (name_of o) t answer (lock_in w) (lock_in v)
lock_answer cell op.Lock t answer w v k e =
    elim (lock_rows t (lock_in w) (lock_in v) answer e) [
      | inl r ↦ acquires (by_lock cell answer) r.0 r.1
      | inr r ↦ stays (r.1 ∙ sym r.0)
    ]
lock_answer cell op.TryLock t answer w v k e =
    elim (try_lock_rows t (lock_in w) (lock_in v) answer e) [
      | inl r ↦ acquires (subst (λ a. IsAcquire (object.Mutex cell) Write (name_of op.TryLock) a) (sym r.2) (by_trylock cell)) r.0 r.1
      | inr r ↦ stays r.1
    ]
lock_answer cell op.Unlock t answer w v k e =
    elim (unlock_rows t (lock_in w) (lock_in v) answer e) [
      | inl r ↦ releases (λ word. by_unlock cell t word) r.0 r.1
      | inr r ↦ stays r.1
    ]
lock_answer cell op.MutexInit t answer w v k e =
    elim (mutex_init_rows t (lock_in w) (lock_in v) answer e) [
      | inl r ↦ stays r.1
      | inr r ↦ stays r.1
    ]
lock_answer cell _ t answer w v k e = cc

stripe_answer : (lock stripe : ℕ) (o : Op) (t : ℕ) (answer : ℤ) (w v : ℕ) → kind_of (name_of o) ≡ kind.Weak → first_row (rows o t) (shown (kind_of (name_of o)) w) ≡ Moves (shown (kind_of (name_of o)) v) answer → LockMove (object.Weak lock stripe) (name_of o) t answer (lock_in w) (lock_in v)
stripe_answer lock stripe op.Take t answer w v k e = let r = take_rows t (lock_in w) (lock_in v) answer e in acquires (by_take lock stripe answer) r.0 r.1
stripe_answer lock stripe op.Retake t answer w v k e = let r = take_rows t (lock_in w) (lock_in v) answer e in acquires (by_retake lock stripe answer) r.0 r.1
stripe_answer lock stripe op.Give t answer w v k e = let r = give_rows t (lock_in w) (lock_in v) answer e in releases (λ word. by_give lock stripe t word) r.0 r.1
stripe_answer lock stripe op.Revoke t answer w v k e = let r = give_rows t (lock_in w) (lock_in v) answer e in releases (λ word. by_revoke lock stripe t word) r.0 r.1
stripe_answer lock stripe _ t answer w v k e = cc

-- the object is a mutex or a stripe
pub data IsLock : ObjId → Type 0 where
  mutex : (cell : ℕ) → IsLock (object.Mutex cell)
  stripe : (lock stripe : ℕ) → IsLock (object.Weak lock stripe)

module _ (code : Code) (s : SetupView) where
  pub lock_moves : (o : ObjId) → IsLock o → (st st1 : State Told) (l : Label) → (x : OperatesOn code s o st l st1) → LockMove o x.noted.entry.op (label_thread l) x.answer (holder code s o st) (holder code s o st1)
  lock_moves _ (mutex cell) st st1 l x =
      let o : ObjId = object.Mutex cell in
      subst (λ n. LockMove o n (label_thread l) x.answer (holder code s o st) (holder code s o st1)) (sym x.named) (lock_answer cell x.operation (label_thread l) x.answer (word_of_object code s o st) (word_of_object code s o st1) x.fits x.row)
  lock_moves _ (stripe k n) st st1 l x =
      let o : ObjId = object.Weak k n in
      subst (λ z. LockMove o z (label_thread l) x.answer (holder code s o st) (holder code s o st1)) (sym x.named) (stripe_answer k n x.operation (label_thread l) x.answer (word_of_object code s o st) (word_of_object code s o st1) x.fits x.row)

  module _ (run : IsRunnable code) (limits : IsWithinLimits s) (lock : ObjId) (is_lock : IsLock lock) (has : has_object code s lock ≡ true) where
    held_is : (t : ℕ) (x : LockState) → is_held_by t x ≡ true → x ≡ HeldBy t
    held_is t Free e = cc
    held_is t (HeldBy u) e = ap HeldBy (eqb-true u t e)

    is_held : (t : ℕ) (x : LockState) → x ≡ HeldBy t → is_held_by t x ≡ true
    is_held t x e = ap (is_held_by t) e ∙ eq-eqb t t refl

    one_holder : (t u : ℕ) (x : LockState) → x ≡ HeldBy t → x ≡ HeldBy u → t ≡ u
    one_holder t u x e f = let same : HeldBy t ≡ HeldBy u = sym e ∙ f in cc

    stepping : (st st1 : State Told) (l : Label) → IsReachable code s st → stepped (machine code s) st l ≡ Some st1 → ObjectStep code s lock st l st1
    stepping st st1 l reached e = object_step code s lock run limits has st st1 l reached (has_stepped code s st st1 l e)

    releases_at : (mode : Mode) (st st1 : State Told) (l : Label) (t : ℕ) → names code s lock t st ≡ true → names code s lock t st1 ≡ false → ObjectStep code s lock st l st1 → Releases (machine code s) lock mode t st l
    releases_at mode st st1 l t was isnt (inl a) = absurd (true≢false (sym was ∙ sym (ap (λ w. is_held_by t (lock_in w)) a.same) ∙ isnt))
    releases_at mode st st1 l t was isnt (inr x) = by (lock_moves lock is_lock st st1 l x)
      where
        by : LockMove lock x.noted.entry.op (label_thread l) x.answer (holder code s lock st) (holder code s lock st1) → Releases (machine code s) lock mode t st l
        by (acquires a b c) = let f : Free ≡ HeldBy t = sym b ∙ held_is t (holder code s lock st) was in cc
        by (releases r b c) =
            let who : label_thread l ≡ t = one_holder (label_thread l) t (holder code s lock st) b (held_is t (holder code s lock st) was) in
            record {
              operation = x.noted;
              before = word_of_object code s lock st;
              answer = x.answer;
              happens = x.happens ∙ ap (λ u. Some (Did u x.noted (word_of_object code s lock st) x.answer)) who;
              on_lock = x.on;
              mode = Write;
              enough = refl;
              is_release = subst (λ u. IsRelease lock Write x.noted.entry.op u (word_of_object code s lock st)) who (r (word_of_object code s lock st));
            }
        by (stays e) = absurd (true≢false (sym was ∙ sym (ap (is_held_by t) e) ∙ isnt))

    acquires_at : (mode : Mode) (st st1 : State Told) (l : Label) (t : ℕ) → names code s lock t st ≡ false → names code s lock t st1 ≡ true → ObjectStep code s lock st l st1 → Acquires (machine code s) lock mode t st l
    acquires_at mode st st1 l t wasnt now (inl a) = absurd (true≢false (sym now ∙ ap (λ w. is_held_by t (lock_in w)) a.same ∙ wasnt))
    acquires_at mode st st1 l t wasnt now (inr x) = by (lock_moves lock is_lock st st1 l x)
      where
        by : LockMove lock x.noted.entry.op (label_thread l) x.answer (holder code s lock st) (holder code s lock st1) → Acquires (machine code s) lock mode t st l
        by (acquires a b c) =
            let who : label_thread l ≡ t = one_holder (label_thread l) t (holder code s lock st1) c (held_is t (holder code s lock st1) now) in
            record {
              operation = x.noted;
              before = word_of_object code s lock st;
              answer = x.answer;
              happens = x.happens ∙ ap (λ u. Some (Did u x.noted (word_of_object code s lock st) x.answer)) who;
              on_lock = x.on;
              mode = Write;
              enough = refl;
              is_acquire = a;
            }
        by (releases r b c) = let f : Free ≡ HeldBy t = sym c ∙ held_is t (holder code s lock st1) now in cc
        by (stays e) = absurd (true≢false (sym now ∙ ap (is_held_by t) e ∙ wasnt))

    -- its word tells who holds a mutex or a stripe, as the law of order by a lock asks
    pub held_by_word : IsHeldBy (machine code s) lock (λ mode. names code s lock) (start_state code s)
    held_by_word = record {
      known = has;
      one = λ a b st t u reached apart f g. one_holder t u (holder code s lock st) (held_is t (holder code s lock st) f) (held_is u (holder code s lock st) g);
      released = λ mode st st1 l t reached e was isnt. releases_at mode st st1 l t was isnt (stepping st st1 l reached e);
      acquired = λ mode st st1 l t reached e wasnt now. acquires_at mode st st1 l t wasnt now (stepping st st1 l reached e);
    }
