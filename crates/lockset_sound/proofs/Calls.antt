-- What each event of a call of the library does to the locks of its frame.
use Rattle.std.proofs.Common.{◌≡◌, ℕ, zero, suc, ◌&&◌, Bool, true, false, if◌then◌else◌, ℤ, List, [], ◌∷◌, Result, Ok, Err, refl, sym, subst}
use Rattle.std.proofs.lemmas.Bool.{and_parts, cond-true, cond-false}
use Rattle.rr_base.specs.declared.trap.Trap.{Trap}
use Rattle.rr_base.specs.declared.trap.Trap.TheVariants as trap
use Rattle.rr_base.specs.declared.layout.CellKind.{CellKind}
use Rattle.rr_base.specs.declared.layout.CellKind.TheVariants as kind
use Rattle.sync_objects.specs.declared.mode.Mode.{Mode}
use Rattle.sync_objects.specs.declared.mode.Mode.TheVariants.{Read, Write}
use Rattle.sync_objects.specs.declared.object.ObjId.{ObjId}
use Rattle.sync_objects.specs.declared.object.ObjId.TheVariants as object
use Rattle.sync_objects.specs.declared.operation.Op.TheVariants as op
use Rattle.word_semantics.specs.declared.event.Due.TheVariants as due
use Rattle.word_semantics.specs.declared.event.Onward.{Onward}
use Rattle.word_semantics.specs.declared.event.Onward.TheVariants as onward
use Rattle.word_semantics.specs.declared.library_call.LibraryCall.{LibraryCall}
use Rattle.word_semantics.specs.declared.library_call.LibraryCall.TheVariants as call
use Rattle.word_semantics.specs.Library.{Caller, is_misuse, at_cell, cell_of, count_in, checked_onward, wait_due_at, library_due, library_onward}
use Rattle.word_semantics.specs.Pointers.{resolved}
use Rattle.word_semantics.specs.Registers.{register, words_of}
use Rattle.flow_code.specs.declared.code.Code.{Code}
use Rattle.flow_code.specs.declared.code.Function.{Function}
use Rattle.flow_code.specs.Kinds.{have_kinds, has_kind}
use Rattle.word_semantics.specs.Kinds.{library_kinds}
use Rattle.facts.specs.Locks.{locked, unlocked, after_library}
use Rattle.facts.specs.Paths.{naming_at}
use Rattle.facts.specs.declared.locks.LockPath.{LockPath}
use Rattle.facts.specs.declared.locks.Naming.TheVariants.{Named}
use Rattle.facts.specs.declared.locks.RelLocks.{RelLocks}
use Rattle.lockset_sound.specs.Frames.{call_so_far}
use Rattle.lockset_sound.specs.Leading.{Holds, LeadsTo, Mean}
use Rattle.lockset_sound.proofs.Known.{IsKnown, nowhere}
use Rattle.lockset_sound.proofs.Means.{mean_more, mean_locked, mean_unlocked}
use Rattle.lockset_sound.proofs.NoUnlocks.{is_plain, library_none}
use Rattle.lockset_sound.proofs.Passing.{More, IsLockAt, AllBut, Has, Passes, more}
use Rattle.lockset_sound.proofs.Resolved.{name_leads}

plain_far : (f : Function) (k : ℕ) (c : LibraryCall) (args : List ℕ) (made : ℕ) (kept : ℤ) (l : RelLocks) → is_plain c ≡ true → call_so_far f k c args made kept l ≡ l
plain_far f k call.MutexLock args made kept l p = cc
plain_far f k call.MutexUnlock args made kept l p = cc
plain_far f k call.CondWait args made kept l p = cc
plain_far f k call.RwRdLock args made kept l p = cc
plain_far f k call.RwWrLock args made kept l p = cc
plain_far f k call.RwUnlock args made kept l p = cc
plain_far f k _ args made kept l p = refl

plain_after : (f : Function) (k : ℕ) (c : LibraryCall) (args : List ℕ) (l : RelLocks) → is_plain c ≡ true → after_library f k c args l ≡ l
plain_after f k call.MutexLock args l p = cc
plain_after f k call.MutexUnlock args l p = cc
plain_after f k call.CondWait args l p = cc
plain_after f k call.RwRdLock args l p = cc
plain_after f k call.RwWrLock args l p = cc
plain_after f k call.RwUnlock args l p = cc
plain_after f k _ args l p = refl

-- no event of the call is made
pub call_zero : (f : Function) (k : ℕ) (c : LibraryCall) (args : List ℕ) (kept : ℤ) (l : RelLocks) → call_so_far f k c args 0 kept l ≡ l
call_zero f k call.MutexLock [] kept l = refl
call_zero f k call.MutexLock (m ∷ []) kept l = refl
call_zero f k call.MutexLock (m ∷ x ∷ xs) kept l = refl
call_zero f k call.MutexUnlock [] kept l = refl
call_zero f k call.MutexUnlock (m ∷ []) kept l = refl
call_zero f k call.MutexUnlock (m ∷ x ∷ xs) kept l = refl
call_zero f k call.CondWait [] kept l = refl
call_zero f k call.CondWait (c ∷ []) kept l = refl
call_zero f k call.CondWait (c ∷ m ∷ []) kept l = refl
call_zero f k call.CondWait (c ∷ m ∷ x ∷ xs) kept l = refl
call_zero f k call.RwRdLock [] kept l = refl
call_zero f k call.RwRdLock (m ∷ []) kept l = refl
call_zero f k call.RwRdLock (m ∷ x ∷ xs) kept l = refl
call_zero f k call.RwWrLock [] kept l = refl
call_zero f k call.RwWrLock (m ∷ []) kept l = refl
call_zero f k call.RwWrLock (m ∷ x ∷ xs) kept l = refl
call_zero f k call.RwUnlock [] kept l = refl
call_zero f k call.RwUnlock (m ∷ []) kept l = refl
call_zero f k call.RwUnlock (m ∷ x ∷ xs) kept l = refl
call_zero f k _ args kept l = refl

module _ (code : Code) (slots : ℕ) (f : Function) (k : ℕ) (rs : List ℕ) (h : IsKnown code slots f k rs) (w : Caller) (of_code : w.sites ≡ code.sites) (l : RelLocks) (before now later : Holds) where
  -- the locks after an event, by what it leads to
  abbrev pub LocksAfter : LibraryCall → List ℕ → ℕ → ℤ → Onward → Type 0
  LocksAfter c args made kept (onward.Stays answer) = Mean code slots f rs (call_so_far f k c args (suc made) answer l) before later
  LocksAfter c args made kept (onward.Gives v) = Mean code slots f rs (after_library f k c args l) before later
  LocksAfter c args made kept onward.Ends = Mean code slots f rs (call_so_far f k c args made kept l) before later

  all_past : (c : LibraryCall) (args : List ℕ) (made : ℕ) (kept : ℤ) (o : Onward) → ((answer : ℤ) → Mean code slots f rs (call_so_far f k c args (suc made) answer l) before later) → Mean code slots f rs (after_library f k c args l) before later → Mean code slots f rs (call_so_far f k c args made kept l) before later → LocksAfter c args made kept o
  all_past c args made kept (onward.Stays answer) x y z = x answer
  all_past c args made kept (onward.Gives v) x y z = y
  all_past c args made kept onward.Ends x y z = z

  abbrev Step : LibraryCall → List ℕ → ℕ → ℤ → ℤ → Type 0
  Step c args made kept answer = Passes (library_due w c (words_of rs args) made kept) answer now later → Mean code slots f rs (call_so_far f k c args made kept l) before now → LocksAfter c args made kept (library_onward w c (words_of rs args) made kept answer)

  plain_step : (c : LibraryCall) (args : List ℕ) (made : ℕ) (kept answer : ℤ) → is_plain c ≡ true → Step c args made kept answer
  plain_step c args made kept answer p passes m =
      let held = more (library_due w c (words_of rs args) made kept) answer now later (library_none w c (words_of rs args) made kept p) passes in
      let mean = mean_more code slots f rs l before now later held (subst (λ z. Mean code slots f rs z before now) (plain_far f k c args made kept l p) m) in
      all_past c args made kept (library_onward w c (words_of rs args) made kept answer)
      (λ answer. subst (λ z. Mean code slots f rs z before later) (sym (plain_far f k c args (suc made) answer l p)) mean)
      (subst (λ z. Mean code slots f rs z before later) (sym (plain_after f k c args l p)) mean)
      (subst (λ z. Mean code slots f rs z before later) (sym (plain_far f k c args made kept l p)) mean)

  -- ---- a lock is locked or unlocked

  leads : (want : CellKind) (r c : ℕ) (p : LockPath) → resolved w.sites (register rs r) want ≡ Ok c → naming_at f k r ≡ Named p → LeadsTo code slots f rs p want c
  leads want r c p g e = name_leads code slots f k rs r c want p h e (subst (λ sites. resolved sites (register rs r) want ≡ Ok c) of_code g)

  now_locked : (mode : Mode) (want : CellKind) (r c : ℕ) (z : RelLocks) → resolved w.sites (register rs r) want ≡ Ok c → More now later → Has mode want c later → Mean code slots f rs z before now → Mean code slots f rs (locked mode (naming_at f k r) z) before later
  now_locked mode want r c z g held has m = mean_locked code slots f rs mode (naming_at f k r) z before now later want c (λ q e. leads want r c q g e) has held m

  now_unlocked : (want : CellKind) (r c : ℕ) (obj : ObjId) (z : RelLocks) → ((i : CellKind) (x : ℕ) → IsLockAt i x obj → (i ≡ want) × (x ≡ c)) → resolved w.sites (register rs r) want ≡ Ok c → AllBut obj now later → Mean code slots f rs z before now → Mean code slots f rs (unlocked (naming_at f k r) z) before later
  now_unlocked want r c obj z only g p m = mean_unlocked code slots f rs (naming_at f k r) z before now later want c (λ q e. leads want r c q g e) (nowhere code slots f k rs h r) (λ n i x ne. p n i x (λ e. ne (only i x e))) m

  -- a mutex is the lock of its cell alone, and so is a read-write lock
  mutex_only : (c : ℕ) (i : CellKind) (x : ℕ) → IsLockAt i x (object.Mutex c) → (i ≡ kind.Mutex) × (x ≡ c)
  mutex_only c kind.Mutex x e = (refl, cc)
  mutex_only c kind.Rw x e = cc
  mutex_only c _ x e = absurd e

  rw_only : (c : ℕ) (i : CellKind) (x : ℕ) → IsLockAt i x (object.Rw c) → (i ≡ kind.Rw) × (x ≡ c)
  rw_only c kind.Rw x e = (refl, cc)
  rw_only c kind.Mutex x e = cc
  rw_only c _ x e = absurd e

  lock_step : (r made : ℕ) (kept answer : ℤ) → Step call.MutexLock (r ∷ []) made kept answer
  lock_step r zero kept answer passes m = by (resolved w.sites (register rs r) kind.Mutex) refl passes
    where
      by : (o : Result ℕ Trap) → resolved w.sites (register rs r) kind.Mutex ≡ o → Passes (at_cell o (λ c. due.Operate op.Lock (object.Mutex c))) answer now later → LocksAfter call.MutexLock (r ∷ []) 0 kept (library_onward w call.MutexLock (words_of rs (r ∷ [])) 0 kept answer)
      by (Err t) g p = absurd p
      by (Ok c) g p =
          let mean = now_locked Write kind.Mutex r c l g p.0 (p.1 c refl) m in
          all_past call.MutexLock (r ∷ []) 0 kept (library_onward w call.MutexLock (words_of rs (r ∷ [])) 0 kept answer) (λ answer. mean) mean (mean_more code slots f rs l before now later p.0 m)
  lock_step r (suc n) kept answer passes m = by (is_misuse kept) passes
    where
      by : (b : Bool) → Passes (if b then due.Trap trap.MutexMisuse else due.Quiet) answer now later → LocksAfter call.MutexLock (r ∷ []) (suc n) kept (library_onward w call.MutexLock (words_of rs (r ∷ [])) (suc n) kept answer)
      by true p = absurd p
      by false p = mean_more code slots f rs (locked Write (naming_at f k r) l) before now later p m

  -- an operation that may be a misuse stays at its call or goes on
  checked_past : (c : LibraryCall) (args : List ℕ) (kept answer : ℤ) → (is_misuse answer ≡ true → Mean code slots f rs (call_so_far f k c args 1 answer l) before later) → (is_misuse answer ≡ false → Mean code slots f rs (after_library f k c args l) before later) → LocksAfter c args 0 kept (checked_onward 0 answer)
  checked_past c args kept answer x y = by (is_misuse answer) refl
    where
      by : (b : Bool) → is_misuse answer ≡ b → LocksAfter c args 0 kept (if b then onward.Stays answer else onward.Gives 0)
      by true e = x e
      by false e = y e

  unlock_step : (r made : ℕ) (kept answer : ℤ) → Step call.MutexUnlock (r ∷ []) made kept answer
  unlock_step r zero kept answer passes m = by (resolved w.sites (register rs r) kind.Mutex) refl passes
    where
      by : (o : Result ℕ Trap) → resolved w.sites (register rs r) kind.Mutex ≡ o → Passes (at_cell o (λ c. due.Operate op.Unlock (object.Mutex c))) answer now later → LocksAfter call.MutexUnlock (r ∷ []) 0 kept (library_onward w call.MutexUnlock (words_of rs (r ∷ [])) 0 kept answer)
      by (Err t) g p = absurd p
      by (Ok c) g p = let mean = now_unlocked kind.Mutex r c (object.Mutex c) l (mutex_only c) g p m in checked_past call.MutexUnlock (r ∷ []) kept answer (λ e. mean) (λ e. mean)
  unlock_step r (suc n) kept answer passes m = by (is_misuse kept) passes
    where
      by : (b : Bool) → Passes (if b then due.Trap trap.MutexMisuse else due.Quiet) answer now later → LocksAfter call.MutexUnlock (r ∷ []) (suc n) kept (library_onward w call.MutexUnlock (words_of rs (r ∷ [])) (suc n) kept answer)
      by true p = absurd p
      by false p = mean_more code slots f rs (unlocked (naming_at f k r) l) before now later p m

  -- ---- a read-write lock

  rw_unlock_step : (r made : ℕ) (kept answer : ℤ) → Step call.RwUnlock (r ∷ []) made kept answer
  rw_unlock_step r zero kept answer passes m = by (resolved w.sites (register rs r) kind.Rw) refl passes
    where
      by : (o : Result ℕ Trap) → resolved w.sites (register rs r) kind.Rw ≡ o → Passes (at_cell o (λ c. due.Operate op.RwUnlock (object.Rw c))) answer now later → LocksAfter call.RwUnlock (r ∷ []) 0 kept (library_onward w call.RwUnlock (words_of rs (r ∷ [])) 0 kept answer)
      by (Err t) g p = absurd p
      by (Ok c) g p = let mean = now_unlocked kind.Rw r c (object.Rw c) l (rw_only c) g p m in checked_past call.RwUnlock (r ∷ []) kept answer (λ e. mean) (λ e. mean)
  rw_unlock_step r (suc n) kept answer passes m = by (is_misuse kept) passes
    where
      by : (b : Bool) → Passes (if b then due.Trap trap.RwMisuse else due.Quiet) answer now later → LocksAfter call.RwUnlock (r ∷ []) (suc n) kept (library_onward w call.RwUnlock (words_of rs (r ∷ [])) (suc n) kept answer)
      by true p = absurd p
      by false p = mean_more code slots f rs (unlocked (naming_at f k r) l) before now later p m

  -- the locks where a lock was a misuse, or wasn't
  misused : (mode : Mode) (r : ℕ) (answer : ℤ) → is_misuse answer ≡ true → Mean code slots f rs l before later → Mean code slots f rs (if is_misuse answer then l else locked mode (naming_at f k r) l) before later
  misused mode r answer e m = subst (λ z. Mean code slots f rs z before later) (sym (cond-true (is_misuse answer) l (locked mode (naming_at f k r) l) e)) m

  lock_got : (mode : Mode) (r : ℕ) (kept : ℤ) → is_misuse kept ≡ false → Mean code slots f rs (if is_misuse kept then l else locked mode (naming_at f k r) l) before now → Mean code slots f rs (locked mode (naming_at f k r) l) before now
  lock_got mode r kept e m = subst (λ z. Mean code slots f rs z before now) (cond-false (is_misuse kept) l (locked mode (naming_at f k r) l) e) m

  read_step : (r made : ℕ) (kept answer : ℤ) → Step call.RwRdLock (r ∷ []) made kept answer
  read_step r zero kept answer passes m = by (resolved w.sites (register rs r) kind.Rw) refl passes
    where
      by : (o : Result ℕ Trap) → resolved w.sites (register rs r) kind.Rw ≡ o → Passes (at_cell o (λ c. due.Operate op.RdLock (object.Rw c))) answer now later → LocksAfter call.RwRdLock (r ∷ []) 0 kept (library_onward w call.RwRdLock (words_of rs (r ∷ [])) 0 kept answer)
      by (Err t) g p = absurd p
      by (Ok c) g p = checked_past call.RwRdLock (r ∷ []) kept answer (λ e. misused Read r answer e (mean_more code slots f rs l before now later p.0 m)) (λ e. now_locked Read kind.Rw r c l g p.0 (p.1 c refl e) m)
  read_step r (suc n) kept answer passes m = by (is_misuse kept) refl passes
    where
      by : (b : Bool) → is_misuse kept ≡ b → Passes (if b then due.Trap trap.RwMisuse else due.Quiet) answer now later → LocksAfter call.RwRdLock (r ∷ []) (suc n) kept (library_onward w call.RwRdLock (words_of rs (r ∷ [])) (suc n) kept answer)
      by true e p = absurd p
      by false e p = mean_more code slots f rs (locked Read (naming_at f k r) l) before now later p (lock_got Read r kept e m)

  write_step : (r made : ℕ) (kept answer : ℤ) → Step call.RwWrLock (r ∷ []) made kept answer
  write_step r zero kept answer passes m = by (resolved w.sites (register rs r) kind.Rw) refl passes
    where
      by : (o : Result ℕ Trap) → resolved w.sites (register rs r) kind.Rw ≡ o → Passes (at_cell o (λ c. due.Operate op.WrLock (object.Rw c))) answer now later → LocksAfter call.RwWrLock (r ∷ []) 0 kept (library_onward w call.RwWrLock (words_of rs (r ∷ [])) 0 kept answer)
      by (Err t) g p = absurd p
      by (Ok c) g p = checked_past call.RwWrLock (r ∷ []) kept answer (λ e. misused Write r answer e (mean_more code slots f rs l before now later p.0 m)) (λ e. now_locked Write kind.Rw r c l g p.0 (p.1 c refl e) m)
  write_step r (suc n) kept answer passes m = by (is_misuse kept) refl passes
    where
      by : (b : Bool) → is_misuse kept ≡ b → Passes (if b then due.Trap trap.RwMisuse else due.Quiet) answer now later → LocksAfter call.RwWrLock (r ∷ []) (suc n) kept (library_onward w call.RwWrLock (words_of rs (r ∷ [])) (suc n) kept answer)
      by true e p = absurd p
      by false e p = mean_more code slots f rs (locked Write (naming_at f k r) l) before now later p (lock_got Write r kept e m)

  -- ---- a wait

  wait_step_at : (c r x made : ℕ) (kept answer : ℤ) → resolved w.sites (register rs r) kind.Mutex ≡ Ok x → (y : ℕ) → Passes (wait_due_at y x made kept) answer now later → Mean code slots f rs (call_so_far f k call.CondWait (c ∷ r ∷ []) made kept l) before now → LocksAfter call.CondWait (c ∷ r ∷ []) made kept (library_onward w call.CondWait (words_of rs (c ∷ r ∷ [])) made kept answer)
  wait_step_at c r x zero kept answer g y p m = mean_more code slots f rs l before now later p m
  wait_step_at c r x (suc zero) kept answer g y p m = by (is_misuse answer)
    where
      by : (b : Bool) → LocksAfter call.CondWait (c ∷ r ∷ []) 1 kept (if b then onward.Stays answer else onward.Stays kept)
      by true = now_unlocked kind.Mutex r x (object.Mutex x) l (mutex_only x) g p m
      by false = now_unlocked kind.Mutex r x (object.Mutex x) l (mutex_only x) g p m
  wait_step_at c r x (suc (suc zero)) kept answer g y p m = by (is_misuse kept) p
    where
      by : (b : Bool) → Passes (if b then due.Trap trap.MutexMisuse else due.Operate (op.CondWake (count_in kept)) (object.Cond y)) answer now later → Mean code slots f rs (unlocked (naming_at f k r) l) before later
      by true q = absurd q
      by false q = mean_more code slots f rs (unlocked (naming_at f k r) l) before now later q m
  wait_step_at c r x (suc (suc (suc n))) kept answer g y p m = now_locked Write kind.Mutex r x (unlocked (naming_at f k r) l) g p.0 (p.1 x refl) m

  wait_step : (c r made : ℕ) (kept answer : ℤ) → Step call.CondWait (c ∷ r ∷ []) made kept answer
  wait_step c r made kept answer passes m = by (cell_of w (words_of rs (c ∷ r ∷ [])) 0 kind.Cond) passes
    where
      second : (y : ℕ) (o : Result ℕ Trap) → resolved w.sites (register rs r) kind.Mutex ≡ o → Passes (at_cell o (λ x. wait_due_at y x made kept)) answer now later → LocksAfter call.CondWait (c ∷ r ∷ []) made kept (library_onward w call.CondWait (words_of rs (c ∷ r ∷ [])) made kept answer)
      second y (Err t) g p = absurd p
      second y (Ok x) g p = wait_step_at c r x made kept answer g y p m

      by : (o : Result ℕ Trap) → Passes (at_cell o (λ y. at_cell (cell_of w (words_of rs (c ∷ r ∷ [])) 1 kind.Mutex) (λ x. wait_due_at y x made kept))) answer now later → LocksAfter call.CondWait (c ∷ r ∷ []) made kept (library_onward w call.CondWait (words_of rs (c ∷ r ∷ [])) made kept answer)
      by (Err t) p = absurd p
      by (Ok y) p = second y (resolved w.sites (register rs r) kind.Mutex) refl p

  -- ---- any call

  no_kinds : (r : ℕ) (rest : List ℕ) (b : Bool) → (b && have_kinds f (r ∷ rest) []) ≡ true → ⊥
  no_kinds r rest true e = cc
  no_kinds r rest false e = cc

  pub library_step : (c : LibraryCall) (args : List ℕ) (made : ℕ) (kept answer : ℤ) → have_kinds f args (library_kinds c) ≡ true → Step c args made kept answer
  library_step call.MutexLock [] made kept answer fit = cc
  library_step call.MutexLock (r ∷ []) made kept answer fit = lock_step r made kept answer
  library_step call.MutexLock (r ∷ x ∷ xs) made kept answer fit = absurd (no_kinds x xs (has_kind f true r) fit)
  library_step call.MutexUnlock [] made kept answer fit = cc
  library_step call.MutexUnlock (r ∷ []) made kept answer fit = unlock_step r made kept answer
  library_step call.MutexUnlock (r ∷ x ∷ xs) made kept answer fit = absurd (no_kinds x xs (has_kind f true r) fit)
  library_step call.CondWait [] made kept answer fit = cc
  library_step call.CondWait (c ∷ []) made kept answer fit = absurd (none (has_kind f true c) fit)
    where
      none : (b : Bool) → (b && have_kinds f [] (true ∷ [])) ≡ true → ⊥
      none true e = cc
      none false e = cc
  library_step call.CondWait (c ∷ r ∷ []) made kept answer fit = wait_step c r made kept answer
  library_step call.CondWait (c ∷ r ∷ x ∷ xs) made kept answer fit = absurd (no_kinds x xs (has_kind f true r) (and_parts (has_kind f true c) (have_kinds f (r ∷ x ∷ xs) (true ∷ [])) fit).1)
  library_step call.RwRdLock [] made kept answer fit = cc
  library_step call.RwRdLock (r ∷ []) made kept answer fit = read_step r made kept answer
  library_step call.RwRdLock (r ∷ x ∷ xs) made kept answer fit = absurd (no_kinds x xs (has_kind f true r) fit)
  library_step call.RwWrLock [] made kept answer fit = cc
  library_step call.RwWrLock (r ∷ []) made kept answer fit = write_step r made kept answer
  library_step call.RwWrLock (r ∷ x ∷ xs) made kept answer fit = absurd (no_kinds x xs (has_kind f true r) fit)
  library_step call.RwUnlock [] made kept answer fit = cc
  library_step call.RwUnlock (r ∷ []) made kept answer fit = rw_unlock_step r made kept answer
  library_step call.RwUnlock (r ∷ x ∷ xs) made kept answer fit = absurd (no_kinds x xs (has_kind f true r) fit)
  library_step c args made kept answer fit = plain_step c args made kept answer refl
