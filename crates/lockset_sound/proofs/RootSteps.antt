-- Thread 0 begins with `main`, and each other thread with a function that some pthread_create names, in every run.
use Rattle.std.proofs.Common.{◌≡◌, ℕ, zero, suc, ◌+◌, ◌<◌, ◌^◌, ◌==◌, not, ◌⊎◌, inl, inr, ⊎_elim, Bool, true, false, if◌then◌else◌, cond, ℤ, pos, List, [], ◌∷◌, Some, None, refl, sym, ap, subst, ◌∙◌, arith, eqb-true, lt-ltb}
use Rattle.std.specs.Prelude.{slice_get, fold, unwrap_or}
use Rattle.std.specs.List.{position_or_len}
use Rattle.std.proofs.lemmas.Bool.{and_parts, true≢false}
use Rattle.std.proofs.lemmas.Option.{slice_get_within}
use Rattle.sync_objects.specs.Setup.{SetupView}
use Rattle.sync_objects.specs.Names.{name_of, kind_of}
use Rattle.sync_objects.specs.Packing.{slot_of, shown}
use Rattle.sync_objects.specs.States.{SlotState, Started}
use Rattle.sync_objects.specs.Table.{Moves, first_row, rows}
use Rattle.sync_objects.specs.Words.{state_of}
use Rattle.sync_objects.specs.declared.kind.ObjKind.TheVariants as kind
use Rattle.sync_objects.specs.declared.object.ObjId.{ObjId}
use Rattle.sync_objects.specs.declared.object.ObjId.TheVariants as object
use Rattle.sync_objects.specs.declared.operation.Op.{Op}
use Rattle.sync_objects.specs.declared.operation.Op.TheVariants as op
use Rattle.sync_objects.proofs.RowsOf.{start_rows, begin_rows, end_rows, join_rows, close_rows}
use Rattle.word_semantics.specs.Library.{count_in}
use Rattle.word_semantics.specs.Limits.{is_free_of_limit}
use Rattle.word_semantics.specs.declared.event.Due.{Due}
use Rattle.word_semantics.specs.declared.event.Due.TheVariants as due
use Rattle.flow_code.specs.declared.code.Code.{Code}
use Rattle.flow_code.specs.declared.code.Function.{Function}
use Rattle.flow_code.specs.declared.thread.Phase.{Phase}
use Rattle.flow_code.specs.declared.thread.Phase.TheVariants as phase
use Rattle.flow_code.specs.declared.thread.Stripe.{Stripe}
use Rattle.flow_code.specs.Next.{act_at, phase_due, due_of, counted, has_ended, begun_after, phase_after, after_due, stepped as thread_stepped}
use Rattle.flow_code.specs.Settle.{settled}
use Rattle.flow_code.specs.Threads.{Thread, is_main, is_main_in}
use Rattle.flow_code.specs.Valid.{is_valid, mains_in, mains_have_no_formals}
use Rattle.flow_code.proofs.Counts.{stepped_is, operate_after}
use Rattle.flow_code.proofs.Dues.{quiet_by_code, access_by_code, operate_by_code}
use Rattle.flow_code.proofs.Goings.{thread_goes}
use Rattle.flow_code.proofs.Settle.{settled_keeps}
use Rattle.flow_code.proofs.ValidParts.{one_is_main}
use Rattle.thread_interpreter.specs.Starts.{main_of}
use Rattle.lockset_sound.proofs.Roots.{root_of, KeepsRoot, act_keeps, IsThread}

-- ---- `main`

first_is : (p : Function → Bool) (fs : List Function) (a : ℕ) → (fold (λ n f. n + cond (p f) 1 0) a fs ≡ a → ⊥) → (f : Function) × (slice_get fs (position_or_len p fs) ≡ Some f) × (p f ≡ true)
first_is p [] a h = absurd (h refl)
first_is p (x ∷ fs) a h = by (p x) refl h (λ k. first_is p fs (a + 0) k)
  where
    by : (b : Bool) → p x ≡ b → (fold (λ n f. n + cond (p f) 1 0) (a + cond b 1 0) fs ≡ a → ⊥) → ((fold (λ n f. n + cond (p f) 1 0) (a + 0) fs ≡ a + 0 → ⊥) → (f : Function) × (slice_get fs (position_or_len p fs) ≡ Some f) × (p f ≡ true)) → (f : Function) × (slice_get (x ∷ fs) (cond (not b) (1 + position_or_len p fs) 0) ≡ Some f) × (p f ≡ true)
    by true e k rest = (x, refl, e)
    by false e k rest =
        let zero_more : a + 0 ≡ a = omega arith in
        let r = rest (λ g. k (g ∙ zero_more)) in
        let next : 1 + position_or_len p fs ≡ suc (position_or_len p fs) = omega arith in
        (r.0, ap (slice_get (x ∷ fs)) next ∙ r.1, r.2)

pub main_is : (code : Code) → is_valid code ≡ true → is_main code (main_of code) ≡ true
main_is code valid =
    let a = and_parts (mains_in code.functions == 1) (mains_have_no_formals code.functions) (one_is_main code valid) in
    let one = eqb-true (mains_in code.functions) 1 a.0 in
    let r = first_is (λ f. is_main_in (Some f)) code.functions 0 (λ e. (let none : mains_in code.functions ≡ 0 = e in absurd (omega arith))) in
    let within = slice_get_within code.functions (position_or_len (λ f. is_main_in (Some f)) code.functions) r.0 r.1 in
    let at : main_of code ≡ position_or_len (λ f. is_main_in (Some f)) code.functions = ap (λ b. unwrap_or (cond b (Some (position_or_len (λ f. is_main_in (Some f)) code.functions)) None) 0) (lt-ltb _ _ within) in
    ap (is_main code) at ∙ ap is_main_in r.1 ∙ r.2

-- ---- one thread

-- the function with which the thread of this number may begin
abbrev pub RootOf : Code → ℕ → ℕ → Type 0
RootOf code t f = ((t ≡ 0) × (is_main code f ≡ true)) ⊎ ((t ≡ 0 → ⊥) × IsThread code f)

pub record ThreadRoot (code : Code) (t : ℕ) (th : Thread) : Type 0 where
  pub fresh : th.phase ≡ phase.Fresh → t ≡ 0 → ⊥
  pub begun : (f : ℕ) → th.phase ≡ phase.Begun f → RootOf code t f
  pub loaded : (f w : ℕ) → th.phase ≡ phase.Loaded f w → RootOf code t f
  pub running : th.phase ≡ phase.Running → RootOf code t (root_of th)

-- a thread that begins is answered the function with which it does
abbrev pub Answered : Code → Due → ℤ → Type 0
Answered code (due.Operate op.Begin obj) answer = IsThread code (count_in answer)
Answered code _ answer = Unit {0}

module _ (code : Code) (s : SetupView) (t : ℕ) where
  in_code : (th : Thread) (f : ℕ) → th.phase ≡ phase.Running → root_of th ≡ f → RootOf code t f → ThreadRoot code t th
  in_code th f run e r = record {
    fresh = λ g z. (let clash : phase.Running ≡ phase.Fresh = sym run ∙ g in cc);
    begun = λ h g. (let clash : phase.Running ≡ phase.Begun h = sym run ∙ g in cc);
    loaded = λ h w g. (let clash : phase.Running ≡ phase.Loaded h w = sym run ∙ g in cc);
    running = λ g. subst (RootOf code t) (sym e) r;
  }

  ended : (th : Thread) → has_ended th.phase ≡ true → ThreadRoot code t th
  ended th e = record {
    fresh = λ g z. true≢false (sym e ∙ ap has_ended g);
    begun = λ h g. absurd (true≢false (sym e ∙ ap has_ended g));
    loaded = λ h w g. absurd (true≢false (sym e ∙ ap has_ended g));
    running = λ g. absurd (true≢false (sym e ∙ ap has_ended g));
  }

  runs_on : (th q : Thread) → th.phase ≡ phase.Running → KeepsRoot th q → ThreadRoot code t th → ThreadRoot code t q
  runs_on th q run k h =
      ⊎_elim
      (λ e. in_code q (root_of th) (e ∙ run) k.root (h.running run))
      (λ more. ⊎_elim (λ e. in_code q (root_of th) e k.root (h.running run)) (λ e. ended q e) more)
      k.phases

  begins : (u : ℕ) (th : Thread) (f : ℕ) (answer : ℤ) → RootOf code t f → ThreadRoot code t (begun_after code s u th f answer)
  begins zero th f answer r = in_code (begun_after code s 0 th f answer) f refl refl r
  begins (suc k) th f answer r = record { fresh = λ g z. cc; begun = λ h g. cc; loaded = λ h w g. (let same : f ≡ h = cc in subst (RootOf code t) same r); running = λ g. cc }

  phase_root : (th : Thread) (p : Phase) (answer : ℤ) → th.phase ≡ p → Answered code (phase_due code s t th p) answer → ThreadRoot code t th → ThreadRoot code t (phase_after code s t th p answer)
  phase_root th phase.Fresh answer e a h = record {
    fresh = λ g z. cc;
    begun = λ f g. (let same : count_in answer ≡ f = cc in inr (h.fresh e, subst (IsThread code) same a));
    loaded = λ f w g. cc;
    running = λ g. cc;
  }
  phase_root th (phase.Begun f) answer e a h = begins t th f answer (h.begun f e)
  phase_root th (phase.Loaded f w) answer e a h = in_code (phase_after code s t th (phase.Loaded f w) answer) f refl refl (h.loaded f w e)
  phase_root th phase.Running answer e a h = runs_on th (phase_after code s t th phase.Running answer) e (act_keeps code s t th (act_at code th.top) answer) h
  phase_root th phase.Ended answer e a h = h
  phase_root th phase.Halted answer e a h = h
  phase_root th (phase.Trapped kind line) answer e a h = h
  phase_root th phase.Stopped answer e a h = h
  phase_root th phase.Closed answer e a h = h

  -- where something else changes, but the phase and the frames don't
  pub alike : (th q : Thread) → q.phase ≡ th.phase → root_of q ≡ root_of th → ThreadRoot code t th → ThreadRoot code t q
  alike th q p e h = record {
    fresh = λ g z. h.fresh (sym p ∙ g) z;
    begun = λ f g. h.begun f (sym p ∙ g);
    loaded = λ f w g. h.loaded f w (sym p ∙ g);
    running = λ g. subst (RootOf code t) (sym e) (h.running (sym p ∙ g));
  }

  no_begin : (d : Due) (answer : ℤ) → ((obj : ObjId) → d ≡ due.Operate op.Begin obj → ⊥) → Answered code d answer
  no_begin (due.Operate op.Begin obj) answer n = absurd (n obj refl)
  no_begin _ answer n = tt

  -- what isn't an operation is no beginning, by the code either
  by_phase : (th : Thread) (answer : ℤ) → ((obj : ObjId) → phase_due code s t th th.phase ≡ due.Operate op.Begin obj → IsThread code (count_in answer)) → ThreadRoot code t th → ThreadRoot code t (phase_after code s t th th.phase answer)
  by_phase th answer a h = phase_root th th.phase answer refl (by (phase_due code s t th th.phase) refl) h
    where
      by : (d : Due) → phase_due code s t th th.phase ≡ d → Answered code d answer
      by (due.Operate op.Begin obj) e = a obj e
      by _ e = tt

  counted_alike : (o : Op) (q : Thread) → ThreadRoot code t q → ThreadRoot code t (counted o q)
  counted_alike o q h = alike q (counted o q) refl refl h

  due_root : (th : Thread) (d : Due) (answer : ℤ) → due_of code s t th ≡ d → Answered code d answer → ThreadRoot code t th → ThreadRoot code t (after_due code s t th d answer)
  due_root th due.Nothing answer e a h = h
  due_root th due.Quiet answer e a h = by_phase th answer (λ obj g. (let clash = sym (quiet_by_code code s t th e) ∙ g in cc)) h
  due_root th (due.Load c) answer e a h = alike (phase_after code s t th th.phase answer) _ refl refl (by_phase th answer (λ obj g. (let clash = sym (access_by_code code s t th (due.Load c) tt e).0 ∙ g in cc)) h)
  due_root th (due.Store c w) answer e a h = alike (phase_after code s t th th.phase answer) _ refl refl (by_phase th answer (λ obj g. (let clash = sym (access_by_code code s t th (due.Store c w) tt e).0 ∙ g in cc)) h)
  due_root th due.Mark answer e a h = alike (phase_after code s t th th.phase answer) _ refl refl (by_phase th answer (λ obj g. (let clash = sym (access_by_code code s t th due.Mark tt e).0 ∙ g in cc)) h)
  due_root th (due.Operate o obj) answer e a h = by (operate_by_code code s t th o obj e)
    where
      by : (phase_due code s t th th.phase ≡ due.Operate o obj) × (is_free_of_limit o ≡ false → th.count < s.limit) ⊎ ((x : Stripe) × (o ≡ op.Retake) × (obj ≡ object.Weak x.lock x.stripe)) → ThreadRoot code t (after_due code s t th (due.Operate o obj) answer)
      by (inl q) =
          let g = thread_goes code s t th (due.Operate o obj) answer q.0 in
          subst (ThreadRoot code t) (sym (operate_after code s t th o obj answer g.0.first))
          (counted_alike o (phase_after code s t th th.phase answer) (by_phase th answer (λ obj2 r. subst (λ d. Answered code d answer) (sym q.0 ∙ r) a) h))
      by (inr r) = subst (λ z. ThreadRoot code t (after_due code s t th (due.Operate z obj) answer)) (sym r.1) (alike th _ refl refl h)
  due_root th (due.Trap kind) answer e a h = ended (after_due code s t th (due.Trap kind) answer) refl

  pub stepped_root : (th : Thread) (answer : ℤ) → Answered code (due_of code s t th) answer → ThreadRoot code t th → ThreadRoot code t (thread_stepped code s t th answer)
  stepped_root th answer a h = subst (ThreadRoot code t) (sym (stepped_is code s t th (due_of code s t th) answer refl)) (due_root th (due_of code s t th) answer refl a h)

  pub settled_root : (th : Thread) → ThreadRoot code t th → ThreadRoot code t (settled code s t th)
  settled_root th h = settled_keeps code s t (ThreadRoot code t) (λ q e k. stepped_root q (pos 0) (subst (λ d. Answered code d (pos 0)) (sym e) tt) k) th h

  pub stopped_root : (th : Thread) → has_ended th.phase ≡ true → ThreadRoot code t th
  stopped_root th e = ended th e

-- ---- slots

abbrev pub slot_in : ℕ → SlotState
slot_in w = slot_of (state_of w)

-- a slot gets a function only by a start
pub started_by : (o : Op) (t f : ℕ) (answer : ℤ) (w v : ℕ) → kind_of (name_of o) ≡ kind.Slot → first_row (rows o t) (shown (kind_of (name_of o)) w) ≡ Moves (shown (kind_of (name_of o)) v) answer → slot_in v ≡ Started f → (slot_in w ≡ Started f) ⊎ (o ≡ op.Start f)
started_by (op.Start g) t f answer w v k e h =
    elim (start_rows g t (slot_in w) (slot_in v) answer e) [
      | inl r ↦ inr (let same : Started g ≡ Started f = sym r.1 ∙ h in let is : g ≡ f = cc in ap op.Start is)
      | inr r ↦ (let clash = sym r.1 ∙ h in cc)
    ]
started_by op.Begin t f answer w v k e h = let r = begin_rows t (slot_in w) (slot_in v) answer e in let clash = sym r.2 ∙ h in cc
started_by op.End t f answer w v k e h = let r = end_rows t (slot_in w) (slot_in v) answer e in let clash = sym r.1 ∙ h in cc
started_by op.Join t f answer w v k e h =
    elim (join_rows t (slot_in w) (slot_in v) answer e) [
      | inl r ↦ (let clash = sym r.1 ∙ h in cc)
      | inr r ↦ inl (sym r.1 ∙ h)
    ]
started_by op.Close t f answer w v k e h = let r = close_rows t (slot_in w) (slot_in v) answer e in let clash = sym r.1 ∙ h in cc
started_by _ t f answer w v k e h = cc

-- and a beginning is answered it
pub begun_by : (code : Code) (t : ℕ) (answer : ℤ) (w v : ℕ) → first_row (rows op.Begin t) (shown (kind_of (name_of op.Begin)) w) ≡ Moves (shown (kind_of (name_of op.Begin)) v) answer → ((f : ℕ) → slot_in w ≡ Started f → IsThread code f) → IsThread code (count_in answer)
begun_by code t answer w v e h =
    let r = begin_rows t (slot_in w) (slot_in v) answer e in
    let thread = h r.0 r.1 in
    subst (λ z. IsThread code (count_in z)) (sym r.3) (subst (IsThread code) (sym (ap (λ b. if b then r.0 else 0) (lt-ltb r.0 (2 ^ 32) thread.few))) thread)
