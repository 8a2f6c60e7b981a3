-- A thread that has begun did so before, or its step is its begin.
use Rattle.std.proofs.Common.{◌≡◌, ℕ, zero, suc, ◌+◌, ◌-◌, ◌==◌, ◌⊎◌, inl, inr, ⊎_elim, Bool, true, false, if◌then◌else◌, List, [], ◌∷◌, length, Option, Some, None, Result, Ok, Err, refl, sym, subst, ◌∙◌, ℤ}
use Rattle.std.specs.Prelude.{slice_get}
use Rattle.rr_base.specs.declared.trap.Trap.{Trap}
use Rattle.sync_objects.specs.Setup.{SetupView}
use Rattle.sync_objects.specs.declared.object.ObjId.{ObjId}
use Rattle.sync_objects.specs.declared.object.ObjId.TheVariants as object
use Rattle.sync_objects.specs.declared.operation.Op.{Op}
use Rattle.sync_objects.specs.declared.operation.Op.TheVariants as op
use Rattle.word_semantics.specs.Library.{count_in, library_onward, piece_of}
use Rattle.word_semantics.specs.Registers.{words_of}
use Rattle.word_semantics.specs.declared.event.Due.{Due}
use Rattle.word_semantics.specs.declared.event.Due.TheVariants as due
use Rattle.word_semantics.specs.declared.event.Onward.{Onward}
use Rattle.word_semantics.specs.declared.event.Onward.TheVariants as onward
use Rattle.flow_code.specs.declared.act.Act.{Act}
use Rattle.flow_code.specs.declared.act.Act.TheVariants as act
use Rattle.flow_code.specs.declared.code.Code.{Code}
use Rattle.flow_code.specs.declared.region.Region.{Region}
use Rattle.flow_code.specs.declared.thread.Phase.{Phase}
use Rattle.flow_code.specs.declared.thread.Phase.TheVariants as phase
use Rattle.flow_code.specs.declared.thread.Stripe.{Stripe}
use Rattle.flow_code.specs.Holding.{region_of, lacked, taken, gives_at, open_place, to_give, parting, left_after}
use Rattle.flow_code.specs.Next.{act_at, pointers_of, computed, returned, end_onward, back_in, value_of, resumed, caller, call_after, on_unless, act_after, begun_after, phase_due, phase_after, due_of, after_due, stepped}
use Rattle.flow_code.specs.Threads.{Frame, Thread, is_main}
use Rattle.flow_code.specs.Works.{work_of}
use Rattle.flow_code.proofs.Counts.{stepped_is, operate_after}
use Rattle.flow_code.proofs.Dues.{quiet_by_code, access_by_code, operate_by_code}
use Rattle.flow_code.proofs.Goings.{thread_goes}

-- the phase isn't that of a begun thread
abbrev pub NotBegun : Phase → Type 0
NotBegun (phase.Begun f) = ⊥
NotBegun _ = Unit {0}

module _ (code : Code) (s : SetupView) (t : ℕ) (th : Thread) where
  module _ (runs : th.phase ≡ phase.Running) where
    same_not : NotBegun th.phase
    same_not = subst NotBegun (sym runs) tt

    computed_not : (into : ℕ) (r : Result ℕ Trap) → NotBegun (computed th into r).phase
    computed_not into (Ok w) = same_not
    computed_not into (Err e) = same_not

    end_not : (main : Bool) (n : ℕ) → NotBegun (end_onward main th n).phase
    end_not true n = tt
    end_not false zero = same_not
    end_not false (suc zero) = same_not
    end_not false (suc (suc n)) = tt

    back_not : (w : ℕ) (o : Option Frame) → NotBegun (back_in code th w o).phase
    back_not w None = same_not
    back_not w (Some f) = same_not

    return_not : (w : ℕ) → NotBegun (returned code th w).phase
    return_not w = by (length th.below == 0)
      where
        by : (b : Bool) → NotBegun (if b then end_onward (is_main code th.top.function) th th.top.made else back_in code th w (slice_get th.below (length th.below - 1))).phase
        by true = end_not (is_main code th.top.function) th.top.made
        by false = back_not w (slice_get th.below (length th.below - 1))

    went_not : (n : ℕ) (into : Option ℕ) (o : Onward) → NotBegun (resumed (record th { printed = n }) into o).phase
    went_not n into (onward.Stays k) = same_not
    went_not n into (onward.Gives w) = same_not
    went_not n into onward.Ends = tt

    parted_not : (xs : List Stripe) (q : Thread) → NotBegun q.phase → NotBegun (left_after th xs q).phase
    parted_not [] q h = h
    parted_not (y ∷ ys) q h = same_not

    take_not : (r : Option Region) (next : Option ℕ) → NotBegun (on_unless next (taken code th r next)).phase
    take_not None None = same_not
    take_not (Some r) None = same_not
    take_not None (Some n) = same_not
    take_not (Some r) (Some n) = same_not

    give_not : (place : Option ℕ) (next : Option (ℕ × ℕ)) → NotBegun (on_unless next (gives_at th place next)).phase
    give_not None None = same_not
    give_not (Some i) None = same_not
    give_not None (Some n) = same_not
    give_not (Some i) (Some n) = same_not

    act_not : (o : Option Act) (answer : ℤ) → NotBegun (act_after code s t th o answer).phase
    act_not None answer = same_not
    act_not (Some (act.Compute into w)) answer = computed_not into (work_of s.slots code.sites (pointers_of code th.top) th.top.registers w)
    act_not (Some (act.Alloc into site None)) answer = same_not
    act_not (Some (act.Alloc into site (Some size))) answer = same_not
    act_not (Some (act.LoadCell into through)) answer = same_not
    act_not (Some (act.StoreCell through from)) answer = same_not
    act_not (Some act.Mark) answer = same_not
    act_not (Some (act.Call f arguments into)) answer = tt
    act_not (Some (act.Library c arguments into)) answer = parted_not (parting c th.top.made th.stripes) (call_after code s t th c arguments into answer) (went_not (th.printed + length (piece_of c (words_of th.top.registers arguments))) into (library_onward (caller code s t th) c (words_of th.top.registers arguments) th.top.made th.top.kept answer))
    act_not (Some (act.Jump to)) answer = same_not
    act_not (Some (act.Branch on a b)) answer = same_not
    act_not (Some (act.Return value)) answer = return_not (value_of th.top.registers value)
    act_not (Some (act.Take k)) answer = take_not (region_of code th.top k) (lacked code th (region_of code th.top k))
    act_not (Some (act.Give k)) answer = give_not (open_place code th k) (to_give code th k)

  -- the step is the thread's begin
  pub record Begins (answer : ℤ) (f : ℕ) : Type 0 where
    pub fresh : th.phase ≡ phase.Fresh
    pub begins : due_of code s t th ≡ due.Operate op.Begin (object.Slot t)
    pub function : f ≡ count_in answer

  not_begun : {P : Type 0} (p : Phase) (f : ℕ) → NotBegun p → p ≡ phase.Begun f → P
  not_begun p f h e = absurd (subst NotBegun e h)

  begun_not : (u f : ℕ) (answer : ℤ) → NotBegun (begun_after code s u th f answer).phase
  begun_not zero f answer = tt
  begun_not (suc k) f answer = tt

  -- by the code alone
  phase_begins : (p : Phase) (answer : ℤ) (d : Due) (f : ℕ) → th.phase ≡ p → due_of code s t th ≡ d → phase_due code s t th p ≡ d → (phase_after code s t th p answer).phase ≡ phase.Begun f → (th.phase ≡ phase.Begun f) ⊎ Begins answer f
  phase_begins phase.Fresh answer d f e is by_code q = let same : count_in answer ≡ f = cc in inr (record { fresh = e; begins = is ∙ sym by_code; function = sym same })
  phase_begins (phase.Begun g) answer d f e is by_code q = not_begun (begun_after code s t th g answer).phase f (begun_not t g answer) q
  phase_begins (phase.Loaded g w) answer d f e is by_code q = cc
  phase_begins phase.Running answer d f e is by_code q = not_begun (act_after code s t th (act_at code th.top) answer).phase f (act_not e (act_at code th.top) answer) q
  phase_begins phase.Ended answer d f e is by_code q = inl q
  phase_begins phase.Halted answer d f e is by_code q = inl q
  phase_begins (phase.Trapped kind line) answer d f e is by_code q = inl q
  phase_begins phase.Stopped answer d f e is by_code q = inl q
  phase_begins phase.Closed answer d f e is by_code q = inl q

  operate_begins : (o : Op) (obj : ObjId) (answer : ℤ) (f : ℕ) → due_of code s t th ≡ due.Operate o obj → (after_due code s t th (due.Operate o obj) answer).phase ≡ phase.Begun f → (th.phase ≡ phase.Begun f) ⊎ Begins answer f
  operate_begins o obj answer f e q =
      ⊎_elim
      (λ p.
      let first = (thread_goes code s t th (due.Operate o obj) answer p.0).0.first in
      phase_begins th.phase answer (due.Operate o obj) f refl e p.0 (subst (λ (z : Thread). z.phase ≡ phase.Begun f) (operate_after code s t th o obj answer first) q))
      (λ r. inl (subst (λ z. (after_due code s t th (due.Operate z obj) answer).phase ≡ phase.Begun f) r.1 q))
      (operate_by_code code s t th o obj e)

  due_begins : (d : Due) (answer : ℤ) (f : ℕ) → due_of code s t th ≡ d → (after_due code s t th d answer).phase ≡ phase.Begun f → (th.phase ≡ phase.Begun f) ⊎ Begins answer f
  due_begins due.Nothing answer f e q = inl q
  due_begins due.Quiet answer f e q = phase_begins th.phase answer due.Quiet f refl e (quiet_by_code code s t th e) q
  due_begins (due.Load c) answer f e q = phase_begins th.phase answer (due.Load c) f refl e (access_by_code code s t th (due.Load c) tt e).0 q
  due_begins (due.Store c v) answer f e q = phase_begins th.phase answer (due.Store c v) f refl e (access_by_code code s t th (due.Store c v) tt e).0 q
  due_begins due.Mark answer f e q = phase_begins th.phase answer due.Mark f refl e (access_by_code code s t th due.Mark tt e).0 q
  due_begins (due.Operate o obj) answer f e q = operate_begins o obj answer f e q
  due_begins (due.Trap kind) answer f e q = cc

  pub step_begins : (answer : ℤ) (f : ℕ) → (stepped code s t th answer).phase ≡ phase.Begun f → (th.phase ≡ phase.Begun f) ⊎ Begins answer f
  step_begins answer f q = due_begins (due_of code s t th) answer f refl (subst (λ (z : Thread). z.phase ≡ phase.Begun f) (stepped_is code s t th (due_of code s t th) answer refl) q)
