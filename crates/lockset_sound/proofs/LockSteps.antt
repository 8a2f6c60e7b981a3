-- How a step of the machine changes the locks that a thread holds.
use Rattle.std.proofs.Common.{◌≡◌, ◌≢◌, ℕ, ◌&&◌, ◌⊎◌, inl, inr, ⊎_elim, Bool, true, false, refl, sym, ap, subst, ◌∙◌, ℤ, eqb-true, eq-eqb}
use Rattle.std.proofs.lemmas.Bool.{and_parts, cases_Bool, true≢false}
use Rattle.rr_base.specs.declared.layout.CellKind.{CellKind}
use Rattle.rr_base.specs.declared.layout.CellKind.TheVariants as kind
use Rattle.sync_objects.specs.declared.mode.Mode.{Mode}
use Rattle.sync_objects.specs.declared.mode.Mode.TheVariants.{Read, Write}
use Rattle.word_semantics.specs.Library.{is_misuse}
use Rattle.sync_objects.specs.Setup.{SetupView, IsWithinLimits}
use Rattle.sync_objects.specs.Names.{name_of, kind_of, object_kind}
use Rattle.sync_objects.specs.Packing.{shown, lock_of}
use Rattle.sync_objects.specs.States.{LockState, Free, HeldBy, is_held_by}
use Rattle.sync_objects.specs.Table.{Moves, first_row, rows}
use Rattle.sync_objects.specs.Words.{state_of}
use Rattle.sync_objects.specs.declared.kind.ObjKind.TheVariants as object_kinds
use Rattle.sync_objects.specs.declared.object.ObjId.{ObjId}
use Rattle.sync_objects.specs.declared.object.ObjId.TheVariants as object
use Rattle.sync_objects.specs.declared.operation.Op.{Op}
use Rattle.sync_objects.specs.declared.operation.Op.TheVariants as op
use Rattle.sync_objects.specs.declared.operation.OpName.TheVariants as name
use Rattle.sync_objects.proofs.RowsOf.{lock_rows, try_lock_rows, mutex_init_rows}
use Rattle.flow_code.specs.declared.code.Code.{Code}
use Rattle.flow_code.specs.Settle.{IsRunnable}
use Rattle.core_run.specs.Histories.{IsReachable}
use Rattle.core_run.specs.Machine.{Told, machine}
use Rattle.core_run.specs.Words.{has_object}
use Rattle.run_theory.specs.Labels.{Label, label_thread}
use Rattle.run_theory.specs.Ordered.{event_of}
use Rattle.run_theory.specs.Steps.{State}
use Rattle.run_theory.proofs.SameEntries.{object_cases}
use Rattle.lock_ownership.specs.Holders.{word_of_object, holder, names, shared, holds_as, holds_lock}
use Rattle.lock_ownership.proofs.LockMoves.{LockMove, acquires, releases, stays, mutex, lock_moves}
use Rattle.lock_ownership.proofs.RwMoves.{rw_in, rw_move, others_hold, lets_go_by, read_got, write_got}
use Rattle.lock_ownership.proofs.RwStates.{rw_moves}
use Rattle.lock_ownership.proofs.ObjectSteps.{LeavesAlone, OperatesOn, ObjectStep, object_step, alone_by_access, elsewhere, row_here, made_fits}
use Rattle.lock_ownership.proofs.Stepping.{IsAccessStep, IsOperationStep, HasStepped}
use Rattle.lockset_sound.specs.Frames.{holds_at}
use Rattle.lockset_sound.specs.Leading.{Holds}
use Rattle.lockset_sound.proofs.Passing.{More, IsLockAt, Has, PassesBy}

abbrev lock_in : ℕ → LockState
lock_in w = lock_of (state_of w)

both_true : (a b : Bool) → a ≡ true → b ≡ true → (a && b) ≡ true
both_true a b h k = cc

-- ---- a mutex

-- what an operation on a mutex does to it: it locks one that is free, unlocks the thread's own, or leaves it
data Move (o : Op) (t : ℕ) (w v : ℕ) : Type 0 where
  gets : lock_in w ≡ Free → Move o t w v
  lets : o ≡ op.Unlock → Move o t w v
  leaves : lock_in v ≡ lock_in w → Move o t w v

move_of : (o : Op) (t : ℕ) (answer : ℤ) (w v : ℕ) → kind_of (name_of o) ≡ object_kinds.Mutex → first_row (rows o t) (shown (kind_of (name_of o)) w) ≡ Moves (shown (kind_of (name_of o)) v) answer → Move o t w v
move_of op.Lock t answer w v k e =
    elim (lock_rows t (lock_in w) (lock_in v) answer e) [
      | inl r ↦ gets r.0
      | inr r ↦ leaves (r.1 ∙ sym r.0)
    ]
move_of op.TryLock t answer w v k e =
    elim (try_lock_rows t (lock_in w) (lock_in v) answer e) [
      | inl r ↦ gets r.0
      | inr r ↦ leaves r.1
    ]
move_of op.Unlock t answer w v k e = lets refl
move_of op.MutexInit t answer w v k e =
    elim (mutex_init_rows t (lock_in w) (lock_in v) answer e) [
      | inl r ↦ leaves r.1
      | inr r ↦ leaves r.1
    ]
move_of _ t answer w v k e = cc

-- after a lock the thread has the mutex
locked_by : (t : ℕ) (answer : ℤ) (w v : ℕ) → first_row (rows op.Lock t) (shown (kind_of (name_of op.Lock)) w) ≡ Moves (shown (kind_of (name_of op.Lock)) v) answer → lock_in v ≡ HeldBy t
locked_by t answer w v e =
    elim (lock_rows t (lock_in w) (lock_in v) answer e) [
      | inl r ↦ r.1
      | inr r ↦ r.1
    ]

-- ---- an operation, by its name

-- the operation of this name unlocks a read-write lock
unlocks_rw : (o : Op) → name_of o ≡ name.RwUnlock → o ≡ op.RwUnlock
unlocks_rw op.RwUnlock e = refl
unlocks_rw _ e = cc

-- the operation gives this lock back
abbrev GivesBack : Op → CellKind → Type 0
GivesBack o kind.Mutex = o ≡ op.Unlock
GivesBack o kind.Rw = o ≡ op.RwUnlock
GivesBack o _ = ⊥

-- what an operation does, where this is known of the one that is made
module _ (obj : ObjId) (answer : ℤ) (now later : Holds) where
  abbrev Keeps : Op → Type 0
  Keeps o = (m : Mode) (k : CellKind) (x : ℕ) → now m k x ≡ true → (later m k x ≡ true) ⊎ (GivesBack o k × IsLockAt k x obj)

  record Gains (o : Op) : Type 0 where
    mutex : (c : ℕ) → o ≡ op.Lock → obj ≡ object.Mutex c → Has Write kind.Mutex c later
    reading : (c : ℕ) → o ≡ op.RdLock → obj ≡ object.Rw c → is_misuse answer ≡ false → Has Read kind.Rw c later
    writing : (c : ℕ) → o ≡ op.WrLock → obj ≡ object.Rw c → is_misuse answer ≡ false → Has Write kind.Rw c later

  still_all : (o : Op) → Keeps o → ((k : CellKind) → GivesBack o k → ⊥) → More now later
  still_all o keeps none m k x h = ⊎_elim (λ i. i) (λ r. absurd (none k r.0)) (keeps m k x h)

  passes_by : (o : Op) → Keeps o → Gains o → PassesBy o obj answer now later
  passes_by op.Lock a b = (still_all op.Lock a none, λ c e. b.mutex c refl e)
    where
      none : (k : CellKind) → GivesBack op.Lock k → ⊥
      none kind.Mutex e = cc
      none kind.Rw e = cc
      none _ e = e
  passes_by op.RdLock a b = (still_all op.RdLock a none, λ c e. b.reading c refl e)
    where
      none : (k : CellKind) → GivesBack op.RdLock k → ⊥
      none kind.Mutex e = cc
      none kind.Rw e = cc
      none _ e = e
  passes_by op.WrLock a b = (still_all op.WrLock a none, λ c e. b.writing c refl e)
    where
      none : (k : CellKind) → GivesBack op.WrLock k → ⊥
      none kind.Mutex e = cc
      none kind.Rw e = cc
      none _ e = e
  passes_by op.Unlock a b = λ m k x ne h. ⊎_elim (λ i. i) (λ r. absurd (ne r.1)) (a m k x h)
  passes_by op.RwUnlock a b = λ m k x ne h. ⊎_elim (λ i. i) (λ r. absurd (ne r.1)) (a m k x h)
  passes_by o a b = still_all o a none
    where
      none : (k : CellKind) → GivesBack o k → ⊥
      none kind.Mutex e = cc
      none kind.Rw e = cc
      none _ e = e

module _ (code : Code) (s : SetupView) (run : IsRunnable code) (limits : IsWithinLimits s) (st st1 : State Told) (l : Label) (reached : IsReachable code s st) (h : HasStepped code s st l st1) where
  -- the object's word is as before, so it is held as before
  same_mutex : (m : Mode) (y t : ℕ) → LeavesAlone code s (object.Mutex y) st l st1 → holds_lock code s (object.Mutex y) m t st1 ≡ holds_lock code s (object.Mutex y) m t st
  same_mutex m y t a = ap (λ w. is_held_by t (lock_in w)) a.same

  same_rw : (m : Mode) (y t : ℕ) → LeavesAlone code s (object.Rw y) st l st1 → holds_lock code s (object.Rw y) m t st1 ≡ holds_lock code s (object.Rw y) m t st
  same_rw m y t a = ap (λ w. holds_as m t (rw_in w)) a.same

  -- what is held of a lock that is there
  still : (o : ObjId) (m : Mode) (t : ℕ) → (has_object code s o && holds_lock code s o m t st) ≡ true → (has_object code s o ≡ true → holds_lock code s o m t st ≡ true → holds_lock code s o m t st1 ≡ true) → (has_object code s o && holds_lock code s o m t st1) ≡ true
  still o m t e k = let a = and_parts (has_object code s o) (holds_lock code s o m t st) e in both_true (has_object code s o) (holds_lock code s o m t st1) a.0 (k a.0 a.1)

  step_on : (o : ObjId) → has_object code s o ≡ true → ObjectStep code s o st l st1
  step_on o has = object_step code s o run limits has st st1 l reached h

  -- a thread keeps its locks as another one goes on
  pub others_keep : (t : ℕ) → label_thread l ≢ t → More (holds_at code s t st) (holds_at code s t st1)
  others_keep t ne m kind.Mutex y e = still (object.Mutex y) m t e (λ has named. by has named (step_on (object.Mutex y) has))
    where
      moves : (x : OperatesOn code s (object.Mutex y) st l st1) → names code s (object.Mutex y) t st ≡ true → LockMove (object.Mutex y) x.noted.entry.op (label_thread l) x.answer (holder code s (object.Mutex y) st) (holder code s (object.Mutex y) st1) → names code s (object.Mutex y) t st1 ≡ true
      moves x named (acquires a b c) = absurd (true≢false (sym named ∙ ap (is_held_by t) b))
      moves x named (releases r b c) = absurd (ne (eqb-true (label_thread l) t (sym (ap (is_held_by t) b) ∙ named)))
      moves x named (stays same) = ap (is_held_by t) same ∙ named

      by : has_object code s (object.Mutex y) ≡ true → names code s (object.Mutex y) t st ≡ true → ObjectStep code s (object.Mutex y) st l st1 → names code s (object.Mutex y) t st1 ≡ true
      by has named (inl a) = same_mutex m y t a ∙ named
      by has named (inr x) = moves x named (lock_moves code s (object.Mutex y) (mutex y) st st1 l x)
  others_keep t ne m kind.Rw y e = still (object.Rw y) m t e (λ has holds. by has holds (step_on (object.Rw y) has))
    where
      by : has_object code s (object.Rw y) ≡ true → holds_lock code s (object.Rw y) m t st ≡ true → ObjectStep code s (object.Rw y) st l st1 → holds_lock code s (object.Rw y) m t st1 ≡ true
      by has holds (inl a) = same_rw m y t a ∙ holds
      by has holds (inr x) =
          others_hold x.noted.entry.op (label_thread l) x.answer (shared code s (object.Rw y) st) (shared code s (object.Rw y) st1) m t (rw_moves code s y st st1 l x) (λ q. ne (sym q)) ∙ holds
  others_keep t ne m _ y e = cc

  -- an access or a mark changes no lock
  pub access_keeps : IsAccessStep code s st.words st1.words (event_of (machine code s) st l) l h.before.thread h.after.thread → More (holds_at code s (label_thread l) st) (holds_at code s (label_thread l) st1)
  access_keeps a m kind.Mutex y e = still (object.Mutex y) m (label_thread l) e (λ has holds. same_mutex m y (label_thread l) (alone_by_access code s (object.Mutex y) run limits has st st1 l reached h a) ∙ holds)
  access_keeps a m kind.Rw y e = still (object.Rw y) m (label_thread l) e (λ has holds. same_rw m y (label_thread l) (alone_by_access code s (object.Rw y) run limits has st st1 l reached h a) ∙ holds)
  access_keeps a m _ y e = cc

  -- and an operation what it says
  module _ (x : IsOperationStep code s st.words st1.words (event_of (machine code s) st l) l h.before.thread h.after.thread) where
    fits : (o : ObjId) → x.obj ≡ o → kind_of (name_of x.op) ≡ object_kind o
    fits o e = (made_fits code s l h.before.thread x.op x.obj x.answer h.after.thread run limits x.makes).0 ∙ ap object_kind e

    row : (o : ObjId) → has_object code s o ≡ true → x.obj ≡ o → first_row (rows x.op (label_thread l)) (shown (kind_of (name_of x.op)) (word_of_object code s o st)) ≡ Moves (shown (kind_of (name_of x.op)) (word_of_object code s o st1)) x.answer
    row o has e = row_here code s o run limits has st st1 l reached h x e

    mutex_here : (m : Mode) (y : ℕ) → has_object code s (object.Mutex y) ≡ true → names code s (object.Mutex y) (label_thread l) st ≡ true → x.obj ≡ object.Mutex y → (names code s (object.Mutex y) (label_thread l) st1 ≡ true) ⊎ (x.op ≡ op.Unlock)
    mutex_here m y has named e = by (move_of x.op (label_thread l) x.answer (word_of_object code s (object.Mutex y) st) (word_of_object code s (object.Mutex y) st1) (fits (object.Mutex y) e) (row (object.Mutex y) has e))
      where
        by : Move x.op (label_thread l) (word_of_object code s (object.Mutex y) st) (word_of_object code s (object.Mutex y) st1) → (names code s (object.Mutex y) (label_thread l) st1 ≡ true) ⊎ (x.op ≡ op.Unlock)
        by (gets f) = absurd (true≢false (sym named ∙ ap (is_held_by (label_thread l)) f))
        by (lets f) = inr f
        by (leaves f) = inl (ap (is_held_by (label_thread l)) f ∙ named)

    rw_here : (m : Mode) (y : ℕ) → has_object code s (object.Rw y) ≡ true → holds_lock code s (object.Rw y) m (label_thread l) st ≡ true → x.obj ≡ object.Rw y → (holds_lock code s (object.Rw y) m (label_thread l) st1 ≡ true) ⊎ (x.op ≡ op.RwUnlock)
    rw_here m y has holds e = by (cases_Bool (holds_lock code s (object.Rw y) m (label_thread l) st1))
      where
        by : (holds_lock code s (object.Rw y) m (label_thread l) st1 ≡ true) ⊎ (holds_lock code s (object.Rw y) m (label_thread l) st1 ≡ false) → (holds_lock code s (object.Rw y) m (label_thread l) st1 ≡ true) ⊎ (x.op ≡ op.RwUnlock)
        by (inl now) = inl now
        by (inr gone) =
            let move = rw_move x.op (label_thread l) x.answer (word_of_object code s (object.Rw y) st) (word_of_object code s (object.Rw y) st1) (fits (object.Rw y) e) (row (object.Rw y) has e) in
            inr (unlocks_rw x.op (lets_go_by (name_of x.op) (label_thread l) x.answer (shared code s (object.Rw y) st) (shared code s (object.Rw y) st1) m (label_thread l) move holds gone).name)

    keeps : Keeps x.obj x.answer (holds_at code s (label_thread l) st) (holds_at code s (label_thread l) st1) x.op
    keeps m kind.Mutex y e =
        let a = and_parts (has_object code s (object.Mutex y)) (holds_lock code s (object.Mutex y) m (label_thread l) st) e in
        ⊎_elim
        (λ same. ⊎_elim (λ f. inl (both_true (has_object code s (object.Mutex y)) (holds_lock code s (object.Mutex y) m (label_thread l) st1) a.0 f)) (λ f. inr (f, same)) (mutex_here m y a.0 a.1 same))
        (λ ne. inl (both_true (has_object code s (object.Mutex y)) (holds_lock code s (object.Mutex y) m (label_thread l) st1) a.0 (same_mutex m y (label_thread l) (elsewhere code s (object.Mutex y) run limits a.0 st st1 l reached h x ne) ∙ a.1)))
        (object_cases x.obj (object.Mutex y))
    keeps m kind.Rw y e =
        let a = and_parts (has_object code s (object.Rw y)) (holds_lock code s (object.Rw y) m (label_thread l) st) e in
        ⊎_elim
        (λ same. ⊎_elim (λ f. inl (both_true (has_object code s (object.Rw y)) (holds_lock code s (object.Rw y) m (label_thread l) st1) a.0 f)) (λ f. inr (f, same)) (rw_here m y a.0 a.1 same))
        (λ ne. inl (both_true (has_object code s (object.Rw y)) (holds_lock code s (object.Rw y) m (label_thread l) st1) a.0 (same_rw m y (label_thread l) (elsewhere code s (object.Rw y) run limits a.0 st st1 l reached h x ne) ∙ a.1)))
        (object_cases x.obj (object.Rw y))
    keeps m _ y e = cc

    there : (c : ObjId) → x.obj ≡ c → has_object code s c ≡ true
    there c e = ap (has_object code s) (sym e) ∙ x.has

    gains : Gains x.obj x.answer (holds_at code s (label_thread l) st) (holds_at code s (label_thread l) st1) x.op
    gains = record {
      mutex = λ c is e n cover. (let has = there (object.Mutex c) e in
          both_true (has_object code s (object.Mutex c)) (names code s (object.Mutex c) (label_thread l) st1) has
          (ap (is_held_by (label_thread l)) (locked_by (label_thread l) x.answer (word_of_object code s (object.Mutex c) st) (word_of_object code s (object.Mutex c) st1) (as_named op.Lock c is (row (object.Mutex c) has e)))
          ∙ eq-eqb (label_thread l) (label_thread l) refl));
      reading = λ c is e right n cover. (let has = there (object.Rw c) e in
          both_true (has_object code s (object.Rw c)) (holds_lock code s (object.Rw c) n (label_thread l) st1) has
          (read_got n (label_thread l) x.answer (shared code s (object.Rw c) st) (shared code s (object.Rw c) st1) cover (as_rw op.RdLock c is (row (object.Rw c) has e)) right));
      writing = λ c is e right n cover. (let has = there (object.Rw c) e in
          both_true (has_object code s (object.Rw c)) (holds_lock code s (object.Rw c) n (label_thread l) st1) has
          (write_got n (label_thread l) x.answer (shared code s (object.Rw c) st) (shared code s (object.Rw c) st1) (as_rw op.WrLock c is (row (object.Rw c) has e)) right));
    }
      where
        as_named : (o : Op) (c : ℕ) → x.op ≡ o → first_row (rows x.op (label_thread l)) (shown (kind_of (name_of x.op)) (word_of_object code s (object.Mutex c) st)) ≡ Moves (shown (kind_of (name_of x.op)) (word_of_object code s (object.Mutex c) st1)) x.answer → first_row (rows o (label_thread l)) (shown (kind_of (name_of o)) (word_of_object code s (object.Mutex c) st)) ≡ Moves (shown (kind_of (name_of o)) (word_of_object code s (object.Mutex c) st1)) x.answer
        as_named o c is r = subst (λ z. first_row (rows z (label_thread l)) (shown (kind_of (name_of z)) (word_of_object code s (object.Mutex c) st)) ≡ Moves (shown (kind_of (name_of z)) (word_of_object code s (object.Mutex c) st1)) x.answer) is r

        as_rw : (o : Op) (c : ℕ) → x.op ≡ o → first_row (rows x.op (label_thread l)) (shown (kind_of (name_of x.op)) (word_of_object code s (object.Rw c) st)) ≡ Moves (shown (kind_of (name_of x.op)) (word_of_object code s (object.Rw c) st1)) x.answer → first_row (rows o (label_thread l)) (shown (kind_of (name_of o)) (word_of_object code s (object.Rw c) st)) ≡ Moves (shown (kind_of (name_of o)) (word_of_object code s (object.Rw c) st1)) x.answer
        as_rw o c is r = subst (λ z. first_row (rows z (label_thread l)) (shown (kind_of (name_of z)) (word_of_object code s (object.Rw c) st)) ≡ Moves (shown (kind_of (name_of z)) (word_of_object code s (object.Rw c) st1)) x.answer) is r

    pub operation_passes : PassesBy x.op x.obj x.answer (holds_at code s (label_thread l) st) (holds_at code s (label_thread l) st1)
    operation_passes = passes_by x.obj x.answer (holds_at code s (label_thread l) st) (holds_at code s (label_thread l) st1) x.op keeps gains
