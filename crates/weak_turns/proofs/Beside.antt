-- A quiet step doesn't look at which of its thread's stripes are owed, nor at how many entries it has, but where the thread
-- leaves by pthread_exit.
use mathlib.Core.Path.{fun_ext}
use Rattle.std.proofs.Common.{◌≡◌, ℕ, zero, suc, ◌+◌, ◌-◌, ◌*◌, ◌==◌, ◌&&◌, not, Bool, true, false, if◌then◌else◌, List, [], length, Option, Some, None, Result, Ok, Err, ℤ, refl, sym, ap, ◌∙◌}
use Rattle.std.specs.Prelude.{slice_get}
use Rattle.sync_objects.specs.Setup.{SetupView}
use Rattle.rr_base.specs.declared.trap.Trap.{Trap}
use Rattle.word_semantics.specs.declared.event.Due.TheVariants as due
use Rattle.word_semantics.specs.declared.event.Onward.{Onward}
use Rattle.word_semantics.specs.declared.event.Onward.TheVariants as onward
use Rattle.word_semantics.specs.declared.library_call.LibraryCall.{LibraryCall}
use Rattle.word_semantics.specs.declared.library_call.LibraryCall.TheVariants as call
use Rattle.word_semantics.specs.Library.{library_due, library_onward, piece_of}
use Rattle.word_semantics.specs.Registers.{words_of}
use Rattle.flow_code.specs.declared.act.Act.{Act}
use Rattle.flow_code.specs.declared.act.Act.TheVariants as act
use Rattle.flow_code.specs.declared.code.Code.{Code}
use Rattle.flow_code.specs.declared.region.Region.{Region}
use Rattle.flow_code.specs.declared.thread.Stripe.{Stripe}
use Rattle.flow_code.specs.Holding.{region_of, is_listed, lacked, left_from, take_or_quiet, taken, open_place, to_give, give_or_quiet, gives_at, parting, parting_due, left_after}
use Rattle.flow_code.specs.Next.{act_due, act_after, caller, call_after, computed, resumed, end_onward, back_in, on_unless, pointers_of, value_of}
use Rattle.flow_code.specs.Stripes.{end_lock, first_from, wants_number}
use Rattle.flow_code.specs.Threads.{Frame, Thread, is_main}
use Rattle.flow_code.specs.Works.{work_of}

-- the thread with other stripes, and other numbers of entries and revokes
abbrev pub beside : Thread → List Stripe → ℕ → ℕ → Thread
beside th xs e r = record th { stripes = xs; entries = e; revokes = r }

-- the thread leaves, and has made no event of it
abbrev pub is_leaving : Option Act → ℕ → Bool
is_leaving (Some (act.Library call.Exit arguments into)) zero = true
is_leaving _ _ = false

stays_on : (c : LibraryCall) (arguments : List ℕ) (into : Option ℕ) (made : ℕ) (xs : List Stripe) → is_leaving (Some (act.Library c arguments into)) made ≡ false → parting c made xs ≡ []
stays_on call.Exit arguments into zero xs e = cc
stays_on call.Exit arguments into (suc n) xs e = refl
stays_on _ arguments into made xs e = refl

module _ (xs : List Stripe) (e r : ℕ) where
  computed_beside : (th : Thread) (into : ℕ) (w : Result ℕ Trap) → computed (beside th xs e r) into w ≡ beside (computed th into w) xs e r
  computed_beside th into (Ok w) = refl
  computed_beside th into (Err k) = refl

  went_beside : (th : Thread) (into : Option ℕ) (o : Onward) → resumed (beside th xs e r) into o ≡ beside (resumed th into o) xs e r
  went_beside th into (onward.Stays kept) = refl
  went_beside th into (onward.Gives w) = refl
  went_beside th into onward.Ends = refl

  ends_beside : (b : Bool) (th : Thread) (made : ℕ) → end_onward b (beside th xs e r) made ≡ beside (end_onward b th made) xs e r
  ends_beside true th made = refl
  ends_beside false th zero = refl
  ends_beside false th (suc zero) = refl
  ends_beside false th (suc (suc n)) = refl

  back_beside : (code : Code) (th : Thread) (w : ℕ) (f : Option Frame) → back_in code (beside th xs e r) w f ≡ beside (back_in code th w f) xs e r
  back_beside code th w None = refl
  back_beside code th w (Some f) = refl

  if_beside : (b : Bool) (p q u v : Thread) → p ≡ beside u xs e r → q ≡ beside v xs e r → (if b then p else q) ≡ beside (if b then u else v) xs e r
  if_beside true p q u v x y = x
  if_beside false p q u v x y = y

  took_beside : (code : Code) (th : Thread) (o : Option Region) → on_unless {A = ℕ} None (taken code (beside th xs e r) o None) ≡ beside (on_unless {A = ℕ} None (taken code th o None)) xs e r
  took_beside code th None = refl
  took_beside code th (Some region) = refl

  gave_beside : (th : Thread) (place : Option ℕ) → on_unless {A = ℕ × ℕ} None (gives_at (beside th xs e r) place None) ≡ beside (on_unless {A = ℕ × ℕ} None (gives_at th place None)) xs e r
  gave_beside th None = refl
  gave_beside th (Some i) = refl

none_lacked : (o : Option ℕ) → take_or_quiet o ≡ due.Quiet → o ≡ None
none_lacked None e = refl
none_lacked (Some n) e = cc

none_given : (o : Option (ℕ × ℕ)) → give_or_quiet o ≡ due.Quiet → o ≡ None
none_given None e = refl
none_given (Some x) e = cc

module _ (code : Code) (s : SetupView) (t : ℕ) (th : Thread) (xs : List Stripe) (e r : ℕ) (same : (n : ℕ) → is_listed xs n ≡ is_listed th.stripes n) where
  -- a region lacks the same stripes
  lacked_beside : (o : Option Region) → lacked code (beside th xs e r) o ≡ lacked code th o
  lacked_beside None = refl
  lacked_beside (Some region) = ap (λ (f : ℕ → Bool). first_from (λ n. wants_number code th.top.registers region n && not (f n)) (8 * end_lock code region - left_from th region) (left_from th region)) (fun_ext same)

  -- the same is due by the code
  pub act_due_beside : (o : Option Act) → is_leaving o th.top.made ≡ false → act_due code s t (beside th xs e r) o ≡ act_due code s t th o
  act_due_beside None h = refl
  act_due_beside (Some (act.Compute into work)) h = refl
  act_due_beside (Some (act.Alloc into site None)) h = refl
  act_due_beside (Some (act.Alloc into site (Some size))) h = refl
  act_due_beside (Some (act.LoadCell into through)) h = refl
  act_due_beside (Some (act.StoreCell through from)) h = refl
  act_due_beside (Some act.Mark) h = refl
  act_due_beside (Some (act.Call function arguments into)) h = refl
  act_due_beside (Some (act.Library c arguments into)) h =
      ap (λ ys. parting_due ys (library_due (caller code s t th) c (words_of th.top.registers arguments) th.top.made th.top.kept)) (stays_on c arguments into th.top.made xs h ∙ sym (stays_on c arguments into th.top.made th.stripes h))
  act_due_beside (Some (act.Jump to)) h = refl
  act_due_beside (Some (act.Branch on then_at else_at)) h = refl
  act_due_beside (Some (act.Return value)) h = refl
  act_due_beside (Some (act.Take region)) h = ap take_or_quiet (lacked_beside (region_of code th.top region))
  act_due_beside (Some (act.Give region)) h = refl

  -- and a quiet step leads to the same
  pub act_after_beside : (o : Option Act) (z : ℤ) → is_leaving o th.top.made ≡ false → act_due code s t th o ≡ due.Quiet → act_after code s t (beside th xs e r) o z ≡ beside (act_after code s t th o z) xs e r
  act_after_beside None z h q = refl
  act_after_beside (Some (act.Compute into work)) z h q = computed_beside xs e r th into (work_of s.slots code.sites (pointers_of code th.top) th.top.registers work)
  act_after_beside (Some (act.Alloc into site None)) z h q = refl
  act_after_beside (Some (act.Alloc into site (Some size))) z h q = refl
  act_after_beside (Some (act.LoadCell into through)) z h q = refl
  act_after_beside (Some (act.StoreCell through from)) z h q = refl
  act_after_beside (Some act.Mark) z h q = refl
  act_after_beside (Some (act.Call function arguments into)) z h q = refl
  act_after_beside (Some (act.Library c arguments into)) z h q =
      ap (λ ys. left_after (beside th xs e r) ys (call_after code s t (beside th xs e r) c arguments into z)) (stays_on c arguments into th.top.made xs h)
      ∙ went_beside xs e r (record th { printed = th.printed + length (piece_of c (words_of th.top.registers arguments)) }) into (library_onward (caller code s t th) c (words_of th.top.registers arguments) th.top.made th.top.kept z)
      ∙ sym (ap (λ ys. beside (left_after th ys (call_after code s t th c arguments into z)) xs e r) (stays_on c arguments into th.top.made th.stripes h))
  act_after_beside (Some (act.Jump to)) z h q = refl
  act_after_beside (Some (act.Branch on then_at else_at)) z h q = refl
  act_after_beside (Some (act.Return value)) z h q =
      if_beside xs e r (length th.below == 0) _ _ _ _
      (ends_beside xs e r (is_main code th.top.function) th th.top.made)
      (back_beside xs e r code th (value_of th.top.registers value) (slice_get th.below (length th.below - 1)))
  act_after_beside (Some (act.Take region)) z h q =
      let o = region_of code th.top region in
      let none : lacked code th o ≡ None = none_lacked (lacked code th o) q in
      ap (λ n. on_unless n (taken code (beside th xs e r) o n)) (lacked_beside o ∙ none)
      ∙ took_beside xs e r code th o
      ∙ sym (ap (λ n. beside (on_unless n (taken code th o n)) xs e r) none)
  act_after_beside (Some (act.Give region)) z h q =
      let none : to_give code th region ≡ None = none_given (to_give code th region) q in
      ap (λ n. on_unless n (gives_at (beside th xs e r) (open_place code th region) n)) none
      ∙ gave_beside xs e r th (open_place code th region)
      ∙ sym (ap (λ n. beside (on_unless n (gives_at th (open_place code th region) n)) xs e r) none)
