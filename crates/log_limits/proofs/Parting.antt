-- After the first event of its pthread_exit a thread has no stripe.
use Rattle.std.proofs.Common.{◌≡◌, ℕ, zero, suc, ◌+◌, ◌-◌, Bool, true, false, if◌then◌else◌, ◌==◌, List, [], ◌∷◌, length, position, Option, Some, None, Result, Ok, Err, refl, sym, ap, ◌∙◌, ℤ}
use Rattle.std.specs.Prelude.{slice_get}
use Rattle.sync_objects.specs.Setup.{SetupView}
use Rattle.sync_objects.specs.declared.operation.Op.TheVariants as op
use Rattle.rr_base.specs.declared.trap.Trap.{Trap}
use Rattle.word_semantics.specs.declared.event.Due.{Due}
use Rattle.word_semantics.specs.declared.event.Due.TheVariants as due
use Rattle.word_semantics.specs.declared.event.Onward.{Onward}
use Rattle.word_semantics.specs.declared.event.Onward.TheVariants as onward
use Rattle.word_semantics.specs.declared.library_call.LibraryCall.{LibraryCall}
use Rattle.word_semantics.specs.declared.library_call.LibraryCall.TheVariants as call
use Rattle.word_semantics.specs.Library.{library_onward}
use Rattle.word_semantics.specs.Registers.{words_of}
use Rattle.flow_code.specs.declared.act.Act.{Act}
use Rattle.flow_code.specs.declared.act.Act.TheVariants as act
use Rattle.flow_code.specs.declared.code.Code.{Code}
use Rattle.flow_code.specs.declared.region.Region.{Region}
use Rattle.flow_code.specs.declared.thread.Phase.{Phase}
use Rattle.flow_code.specs.declared.thread.Phase.TheVariants as phase
use Rattle.flow_code.specs.declared.thread.Stripe.{Stripe}
use Rattle.flow_code.specs.Holding.{region_of, lacked, taken, open_place, to_give, gives_at, parting, left_after}
use Rattle.flow_code.specs.Next.{act_at, pointers_of, computed, back_in, end_onward, returned, resumed, call_after, on_unless, act_after, begun_after, phase_after, owed_at, with_owed, after_due, same_stripe, due_of, caller, stepped, value_of}
use Rattle.flow_code.specs.Threads.{Thread, is_main}
use Rattle.flow_code.specs.Works.{work_of}
use Rattle.guard_paths.specs.Reached.{Reached, starts, steps, loses, stops, shuts}
use Rattle.open_regions.specs.OpenStripes.{is_exit}

-- where so many events of a call are made, and it is one that ends its thread, these are no stripes
abbrev pub Parted : ℕ → Bool → List Stripe → Type 0
Parted zero exits xs = Unit {0}
Parted (suc n) true xs = xs ≡ []
Parted (suc n) false xs = Unit {0}

-- what a thread keeps
abbrev pub HasParted : Code → Thread → Type 0
HasParted code th = Parted th.top.made (is_exit (act_at code th.top)) th.stripes

by_none : (n : ℕ) (b : Bool) (xs : List Stripe) → xs ≡ [] → Parted n b xs
by_none zero b xs e = tt
by_none (suc n) true xs e = e
by_none (suc n) false xs e = tt

by_other : (n : ℕ) (b : Bool) (xs : List Stripe) → b ≡ false → Parted n b xs
by_other zero b xs e = tt
by_other (suc n) true xs e = cc
by_other (suc n) false xs e = tt

-- marks on stripes are marks on none where there are none
no_marks : (owed : Bool) (xs : List Stripe) (o : Option ℕ) → xs ≡ [] → with_owed owed xs o ≡ []
no_marks owed xs None e = e
no_marks owed xs (Some i) e = ap (λ ys. owed_at owed ys i (slice_get ys i)) e

marked : (owed : Bool) (n : ℕ) (b : Bool) (xs : List Stripe) (o : Option ℕ) → Parted n b xs → Parted n b (with_owed owed xs o)
marked owed zero b xs o h = tt
marked owed (suc n) true xs o h = no_marks owed xs o h
marked owed (suc n) false xs o h = tt

module _ (code : Code) (s : SetupView) (t : ℕ) where
  compute_parted : (th : Thread) (into : ℕ) (r : Result ℕ Trap) → HasParted code th → HasParted code (computed th into r)
  compute_parted th into (Ok w) h = tt
  compute_parted th into (Err kind) h = h

  -- a call that ends its thread has no stripe once it stays behind an event
  went_parted : (th : Thread) (n : ℕ) (into : Option ℕ) (o : Onward) → (is_exit (act_at code th.top) ≡ true → th.stripes ≡ []) → HasParted code th → HasParted code (resumed (record th { printed = n }) into o)
  went_parted th n into (onward.Stays kept) e h = by (is_exit (act_at code th.top)) e
    where
      by : (b : Bool) → (b ≡ true → th.stripes ≡ []) → Parted (th.top.made + 1) b th.stripes
      by true e = by_none (th.top.made + 1) true th.stripes (e refl)
      by false e = by_other (th.top.made + 1) false th.stripes refl
  went_parted th n None (onward.Gives w) e h = tt
  went_parted th n (Some r) (onward.Gives w) e h = tt
  went_parted th n into onward.Ends e h = h

  library_parted : (th : Thread) (c : LibraryCall) (arguments : List ℕ) (into : Option ℕ) (answer : ℤ) → act_at code th.top ≡ Some (act.Library c arguments into) → HasParted code th → HasParted code (act_after code s t th (Some (act.Library c arguments into)) answer)
  library_parted th c arguments into answer at h = by (parting c th.top.made th.stripes) refl
    where
      none_left : (k : LibraryCall) (n : ℕ) (xs : List Stripe) → is_exit (Some (act.Library k arguments into)) ≡ true → parting k n xs ≡ [] → Parted n true xs → xs ≡ []
      none_left call.Exit zero xs e p q = p
      none_left call.Exit (suc n) xs e p q = q
      none_left _ n xs e p q = cc

      first : (k : LibraryCall) (n : ℕ) (xs ys : List Stripe) (b : Bool) (x : Stripe) → parting k n xs ≡ x ∷ ys → (zs : List Stripe) → Parted n b zs
      first call.Exit zero xs ys b x p zs = tt
      first call.Exit (suc n) xs ys b x p zs = cc
      first _ n xs ys b x p zs = cc

      same : (b : Bool) → is_exit (act_at code th.top) ≡ b → b ≡ true → Parted th.top.made b th.stripes → Parted th.top.made true th.stripes
      same true e q k = k
      same false e q k = cc

      by : (xs : List Stripe) → parting c th.top.made th.stripes ≡ xs → HasParted code (left_after th xs (call_after code s t th c arguments into answer))
      by [] p =
          went_parted th _ into (library_onward (caller code s t th) c (words_of th.top.registers arguments) th.top.made th.top.kept answer)
          (λ e. none_left c th.top.made th.stripes (sym (ap is_exit at) ∙ e) p (same (is_exit (act_at code th.top)) refl e h)) h
      by (x ∷ xs) p = first c th.top.made th.stripes xs (is_exit (act_at code th.top)) x p (left_after th (x ∷ xs) th).stripes

  back_parted : (th : Thread) (value : ℕ) (o : Option _) → HasParted code th → HasParted code (back_in code th value o)
  back_parted th value None h = h
  back_parted th value (Some f) h = tt

  other_made : (th : Thread) (v : Option ℕ) (n : ℕ) → act_at code th.top ≡ Some (act.Return v) → Parted n (is_exit (act_at code th.top)) th.stripes
  other_made th v n at = by_other n (is_exit (act_at code th.top)) th.stripes (ap is_exit at)

  end_parted : (th : Thread) (v : Option ℕ) (main : Bool) (made : ℕ) → act_at code th.top ≡ Some (act.Return v) → HasParted code th → HasParted code (end_onward main th made)
  end_parted th v true made at h = h
  end_parted th v false zero at h = other_made th v (th.top.made + 1) at
  end_parted th v false (suc zero) at h = other_made th v (th.top.made + 1) at
  end_parted th v false (suc (suc n)) at h = h

  return_parted : (th : Thread) (v : Option ℕ) → act_at code th.top ≡ Some (act.Return v) → HasParted code th → HasParted code (returned code th (value_of th.top.registers v))
  return_parted th v at h = by (length th.below == 0)
    where
      by : (b : Bool) → HasParted code (if b then end_onward (is_main code th.top.function) th th.top.made else back_in code th (value_of th.top.registers v) (slice_get th.below (length th.below - 1)))
      by true = end_parted th v (is_main code th.top.function) th.top.made at h
      by false = back_parted th (value_of th.top.registers v) (slice_get th.below (length th.below - 1)) h

  take_parted : (th : Thread) (q : ℕ) (r : Option Region) (next : Option ℕ) → act_at code th.top ≡ Some (act.Take q) → HasParted code (on_unless next (taken code th r next))
  take_parted th q r None at = tt
  take_parted th q None (Some n) at = by_other th.top.made (is_exit (act_at code th.top)) th.stripes (ap is_exit at)
  take_parted th q (Some r) (Some n) at = by_other th.top.made (is_exit (act_at code th.top)) (taken code th (Some r) (Some n)).stripes (ap is_exit at)

  give_parted : (th : Thread) (q : ℕ) (place : Option ℕ) (next : Option (ℕ × ℕ)) → act_at code th.top ≡ Some (act.Give q) → HasParted code (on_unless next (gives_at th place next))
  give_parted th q place None at = tt
  give_parted th q None (Some x) at = by_other th.top.made (is_exit (act_at code th.top)) th.stripes (ap is_exit at)
  give_parted th q (Some i) (Some x) at = by_other th.top.made (is_exit (act_at code th.top)) (gives_at th (Some i) (Some x)).stripes (ap is_exit at)

  act_parted : (th : Thread) (o : Option Act) (answer : ℤ) → act_at code th.top ≡ o → HasParted code th → HasParted code (act_after code s t th o answer)
  act_parted th None answer at h = h
  act_parted th (Some (act.Compute into work)) answer at h = compute_parted th into (work_of s.slots code.sites (pointers_of code th.top) th.top.registers work) h
  act_parted th (Some (act.Alloc into site None)) answer at h = tt
  act_parted th (Some (act.Alloc into site (Some size))) answer at h = tt
  act_parted th (Some (act.LoadCell into through)) answer at h = tt
  act_parted th (Some (act.StoreCell through from)) answer at h = tt
  act_parted th (Some act.Mark) answer at h = tt
  act_parted th (Some (act.Call function arguments into)) answer at h = tt
  act_parted th (Some (act.Library c arguments into)) answer at h = library_parted th c arguments into answer at h
  act_parted th (Some (act.Jump to)) answer at h = tt
  act_parted th (Some (act.Branch on then_at else_at)) answer at h = tt
  act_parted th (Some (act.Return value)) answer at h = return_parted th value at h
  act_parted th (Some (act.Take region)) answer at h = take_parted th region (region_of code th.top region) (lacked code th (region_of code th.top region)) at
  act_parted th (Some (act.Give region)) answer at h = give_parted th region (open_place code th region) (to_give code th region) at

  begun_parted : (n : ℕ) (th : Thread) (f : ℕ) (answer : ℤ) → HasParted code th → HasParted code (begun_after code s n th f answer)
  begun_parted zero th f answer h = tt
  begun_parted (suc k) th f answer h = h

  phase_parted : (th : Thread) (p : Phase) (answer : ℤ) → HasParted code th → HasParted code (phase_after code s t th p answer)
  phase_parted th phase.Fresh answer h = h
  phase_parted th (phase.Begun f) answer h = begun_parted t th f answer h
  phase_parted th (phase.Loaded f w) answer h = tt
  phase_parted th phase.Running answer h = act_parted th (act_at code th.top) answer refl h
  phase_parted th phase.Ended answer h = h
  phase_parted th phase.Halted answer h = h
  phase_parted th (phase.Trapped kind line) answer h = h
  phase_parted th phase.Stopped answer h = h
  phase_parted th phase.Closed answer h = h

  due_parted : (th : Thread) (d : Due) (answer : ℤ) → HasParted code th → HasParted code (after_due code s t th d answer)
  due_parted th due.Nothing answer h = h
  due_parted th due.Quiet answer h = phase_parted th th.phase answer h
  due_parted th (due.Load c) answer h = phase_parted th th.phase answer h
  due_parted th (due.Store c w) answer h = phase_parted th th.phase answer h
  due_parted th due.Mark answer h = phase_parted th th.phase answer h
  due_parted th (due.Operate op.Retake obj) answer h = marked false th.top.made (is_exit (act_at code th.top)) th.stripes (position (λ (x : Stripe). x.owed) th.stripes) h
  due_parted th (due.Operate _ obj) answer h = phase_parted th th.phase answer h
  due_parted th (due.Trap kind) answer h = h

  step_parted : (th : Thread) (answer : ℤ) → HasParted code th → HasParted code (stepped code s t th answer)
  unfolding stepped
  step_parted th answer h = due_parted th (due_of code s t th) answer h

  pub reached_parted : {th : Thread} → Reached code s t th → HasParted code th
  reached_parted (starts {th} e none rs) = by_none th.top.made (is_exit (act_at code th.top)) th.stripes none
  reached_parted (steps {th} answer r) = step_parted th answer (reached_parted r)
  reached_parted (loses {th} lock stripe r) = marked true th.top.made (is_exit (act_at code th.top)) th.stripes (position (same_stripe lock stripe) th.stripes) (reached_parted r)
  reached_parted (stops r) = reached_parted r
  reached_parted (shuts r) = reached_parted r
