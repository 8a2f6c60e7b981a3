-- Where an access or a mark comes next in a thread, it owes nothing, so it holds all stripes of its open regions.
use Rattle.std.proofs.Common.{◌≡◌, ℕ, ◌+◌, ◌*◌, ◌<◌, ◌&&◌, ◌||◌, nat_le, Bool, true, false, if◌then◌else◌, List, [], ◌∷◌, Option, Some, None, refl, sym, ap, subst, ◌∙◌}
use Rattle.std.specs.Prelude.{slice_get}
use Rattle.std.proofs.lemmas.Bool.{lt-ltb, true≢false}
use Rattle.sync_objects.specs.Setup.{SetupView, IsWithinLimits}
use Rattle.sync_objects.specs.Names.{name_of, is_ending, is_weak}
use Rattle.rr_base.specs.declared.trap.Trap.TheVariants as trap
use Rattle.word_semantics.specs.declared.event.Due.{Due}
use Rattle.word_semantics.specs.declared.event.Due.TheVariants as due
use Rattle.word_semantics.specs.Limits.{most_entries}
use Rattle.flow_code.specs.declared.code.Code.{Code}
use Rattle.flow_code.specs.declared.thread.Stripe.{Stripe}
use Rattle.flow_code.specs.Holding.{nesting}
use Rattle.flow_code.specs.Threads.{Thread}
use Rattle.flow_code.specs.Next.{holds, phase_due, first_owed, retake, limited, owing, listed, due_of, action_of, same_stripe}
use Rattle.flow_code.specs.Settle.{settled, next, IsRunnable}
use Rattle.flow_code.proofs.Settle.{action_is}
use Rattle.core_run.specs.Histories.{IsReachable}
use Rattle.core_run.specs.Machine.{Told}
use Rattle.run_theory.specs.Steps.{State}
use Rattle.lock_ownership.specs.Holders.{holds_in, holds_stripe}
use Rattle.lock_ownership.specs.ThreadStripes.{owes_stripe, IsOfMemory}
use Rattle.lock_ownership.proofs.DueSteps.{settled_settles}
use Rattle.lock_ownership.proofs.StripeLaws.{has_its, settled_holds, stripes_hold}

-- an access or a mark is due
abbrev IsDue : Due → Type 0
IsDue d = IsOfMemory (action_of d)

listed_due : (full : Bool) (d : Due) → IsDue (listed full d) → IsDue d
listed_due false d h = h
listed_due true due.Nothing h = h
listed_due true due.Quiet h = h
listed_due true (due.Load c) h = h
listed_due true (due.Store c w) h = h
listed_due true due.Mark h = h
listed_due true (due.Operate o obj) h = absurd (by (is_ending (name_of o)) h)
  where
    by : (b : Bool) → IsDue (if b then due.Operate o obj else due.Trap trap.LogFull) → ⊥
    by true k = k
    by false k = k
listed_due true (due.Trap kind) h = h

owing_due : (first : Option Stripe) (d : Due) → IsDue (owing first d) → first ≡ None
owing_due None d h = refl
owing_due (Some x) due.Nothing h = absurd h
owing_due (Some x) due.Quiet h = absurd h
owing_due (Some x) (due.Load c) h = absurd h
owing_due (Some x) (due.Store c w) h = absurd h
owing_due (Some x) due.Mark h = absurd h
owing_due (Some x) (due.Operate o obj) h = absurd (by (is_weak (name_of o)) h)
  where
    by : (b : Bool) → IsDue (if b then retake x else due.Operate o obj) → ⊥
    by true k = k
    by false k = k
owing_due (Some x) (due.Trap kind) h = absurd h

owes_nothing : (code : Code) (s : SetupView) (t : ℕ) (th : Thread) → IsDue (due_of code s t th) → first_owed th.stripes ≡ None
owes_nothing code s t th h =
    owing_due (first_owed th.stripes) (limited (nat_le s.limit th.count) (phase_due code s t th th.phase))
    (listed_due (nat_le most_entries th.entries) (owing (first_owed th.stripes) (limited (nat_le s.limit th.count) (phase_due code s t th th.phase))) h)

none_owed : (xs : List Stripe) (lock k : ℕ) → first_owed xs ≡ None → owes_stripe xs lock k ≡ false
none_owed [] lock k e = refl
none_owed (x ∷ xs) lock k e = by x.owed (same_stripe lock k x) e (λ f. none_owed xs lock k f)
  where
    by : (o b : Bool) → (if o then Some x else first_owed xs) ≡ None → (first_owed xs ≡ None → owes_stripe xs lock k ≡ false) → ((b && o) || owes_stripe xs lock k) ≡ false
    by true b f more = cc
    by false true f more = more f
    by false false f more = more f

pub access_owes : (code : Code) (s : SetupView) (t lock k : ℕ) (th : Thread) → IsOfMemory (next code s t th) → owes_stripe (settled code s t th).stripes lock k ≡ false
access_owes code s t lock k th comes = none_owed (settled code s t th).stripes lock k (owes_nothing code s t (settled code s t th) (subst IsOfMemory (action_is code s t (settled code s t th)) comes))

module _ (code : Code) (s : SetupView) (run : IsRunnable code) (limits : IsWithinLimits s) where
  pub access_holds : (st : State Told) (t : ℕ) (told : Told) (lock k : ℕ) → IsReachable code s st → slice_get st.threads t ≡ Some told → IsOfMemory (next code s t told.thread) → k < 8 → 0 < nesting (settled code s t told.thread).regions (8 * lock + k) → holds_stripe lock k t st ≡ true
  access_holds st t told lock k reached at comes small open_here =
      let agree = (stripes_hold code s run limits st reached).agree t told at in
      let calm = settled code s t told.thread in
      let its = has_its calm ((settled_settles code s t told.thread).agrees agree) in
      let none = access_owes code s t lock k told.thread comes in
      let held = by (holds calm.stripes lock k) (owes_stripe calm.stripes lock k) none (its.nested lock k small ∙ lt-ltb 0 (nesting calm.regions (8 * lock + k)) open_here) in
      ap (holds_in lock k) at ∙ sym (settled_holds code s t told.thread lock k agree) ∙ held
    where
      by : (a b : Bool) → b ≡ false → (a || b) ≡ true → a ≡ true
      by true b e h = refl
      by false b e h = absurd (true≢false (sym h ∙ e))
