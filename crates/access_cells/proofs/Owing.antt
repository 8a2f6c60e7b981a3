-- By its own steps a thread owes no stripe that it hasn't owed before.
use Rattle.std.proofs.Common.{◌≡◌, ℕ, zero, suc, ◌+◌, ◌==◌, ◌⊎◌, inl, inr, ⊎_elim, Bool, true, false, if◌then◌else◌, List, [], ◌∷◌, length, drop, Option, Some, None, refl, sym, ap, subst, ◌∙◌, ℤ, pos}
use Rattle.std.proofs.lemmas.Bool.{true≢false}
use Rattle.sync_objects.specs.Setup.{SetupView}
use Rattle.sync_objects.specs.declared.object.ObjId.{ObjId}
use Rattle.sync_objects.specs.declared.operation.Op.{Op}
use Rattle.sync_objects.specs.declared.operation.Op.TheVariants as op
use Rattle.word_semantics.specs.declared.library_call.LibraryCall.{LibraryCall}
use Rattle.word_semantics.specs.declared.library_call.LibraryCall.TheVariants as call
use Rattle.word_semantics.specs.declared.event.Due.{Due}
use Rattle.word_semantics.specs.declared.event.Due.TheVariants as due
use Rattle.word_semantics.specs.Library.{library_onward, piece_of}
use Rattle.word_semantics.specs.Registers.{words_of}
use Rattle.flow_code.specs.declared.act.Act.{Act}
use Rattle.flow_code.specs.declared.act.Act.TheVariants as act
use Rattle.flow_code.specs.declared.code.Code.{Code}
use Rattle.flow_code.specs.declared.region.Region.{Region}
use Rattle.flow_code.specs.declared.thread.Phase.{Phase}
use Rattle.flow_code.specs.declared.thread.Phase.TheVariants as phase
use Rattle.flow_code.specs.declared.thread.Stripe.{Stripe}
use Rattle.flow_code.specs.Works.{work_of}
use Rattle.flow_code.specs.Threads.{Thread}
use Rattle.flow_code.specs.Holding.{number_of_stripe, number_of_pair, region_of, lacked, taken, open_place, to_give, gives_at, parting, owes, held, keeping, left_after}
use Rattle.flow_code.specs.Next.{value_of, act_at, pointers_of, caller, call_after, on_unless, act_after, begun_after, phase_after, due_of, counted, after_due, repaid, stepped}
use Rattle.flow_code.specs.Settle.{settled}
use Rattle.flow_code.proofs.Counts.{stepped_is, after_operate}
use Rattle.flow_code.proofs.Goings.{thread_goes}
use Rattle.flow_code.proofs.Settle.{settled_keeps}
use Rattle.word_semantics.proofs.Calls.{is_retake}
use Rattle.sync_objects.specs.Names.{name_of}
use Rattle.lock_ownership.specs.ThreadStripes.{AreSorted}
use Rattle.lock_ownership.proofs.DueSteps.{Retakes, operate_from, stepped_steps}
use Rattle.lock_ownership.proofs.Regions.{Agree}
use Rattle.lock_ownership.proofs.Standings.{standing, is_owed, unless_owed, with_standing, without_standing, held_standing, tail_standing, repaid_standing}
use Rattle.lock_ownership.proofs.Taking.{lacked_none}
use Rattle.lock_ownership.proofs.ThreadSteps.{computed_same, returned_same, went_same}

-- what is owed was owed before
abbrev pub OwesFewer : List Stripe → List Stripe → Type 0
OwesFewer xs ys = (n : ℕ) → is_owed (standing ys n) ≡ true → is_owed (standing xs n) ≡ true

same_fewer : (xs ys : List Stripe) → ys ≡ xs → OwesFewer xs ys
same_fewer xs ys e n h = subst (λ zs. is_owed (standing zs n) ≡ true) e h

held_here : (b : Bool) (o : Option Bool) → is_owed (if b then Some false else o) ≡ true → is_owed o ≡ true
held_here true o h = cc
held_here false o h = h

none_here : (b : Bool) (o : Option Bool) → is_owed (if b then None else o) ≡ true → is_owed o ≡ true
none_here true o h = cc
none_here false o h = h

never_owed : (o : Option Bool) → is_owed (unless_owed o) ≡ true → is_owed o ≡ true
never_owed None h = h
never_owed (Some true) h = cc
never_owed (Some false) h = h

take_fewer : (code : Code) (th : Thread) (r : Option Region) (next : Option ℕ) → lacked code th r ≡ next → OwesFewer th.stripes (on_unless next (taken code th r next)).stripes
take_fewer code th None None e n h = h
take_fewer code th (Some r) None e n h = h
take_fewer code th None (Some k) e n h = h
take_fewer code th (Some r) (Some k) e n h = held_here (k == n) (standing th.stripes n) (sym (ap is_owed (with_standing k n th.stripes (lacked_none code th r k e))) ∙ h)

give_fewer : (th : Thread) (place : Option ℕ) (next : Option (ℕ × ℕ)) → OwesFewer th.stripes (on_unless next (gives_at th place next)).stripes
give_fewer th None None n h = h
give_fewer th None (Some x) n h = h
give_fewer th (Some i) None n h = h
give_fewer th (Some i) (Some x) n h = none_here (number_of_pair x == n) (standing th.stripes n) (sym (ap is_owed (without_standing (number_of_pair x) n th.stripes)) ∙ h)

parting_fewer : (th q : Thread) (ys : List Stripe) → ys ≡ th.stripes → AreSorted th.stripes → OwesFewer th.stripes q.stripes → OwesFewer th.stripes (left_after th ys q).stripes
parting_fewer th q [] e s f = f
parting_fewer th q (x ∷ xs) e s f = by (owes (x ∷ xs))
  where
    sorted : AreSorted (x ∷ xs)
    sorted = subst AreSorted (sym e) s

    back : (n : ℕ) → is_owed (standing (x ∷ xs) n) ≡ true → is_owed (standing th.stripes n) ≡ true
    back n h = subst (λ zs. is_owed (standing zs n) ≡ true) e h

    by : (b : Bool) → OwesFewer th.stripes (keeping th (if b then held (x ∷ xs) else drop 1 (x ∷ xs))).stripes
    by true n h = back n (never_owed (standing (x ∷ xs) n) (sym (ap is_owed (held_standing 0 n (x ∷ xs) sorted)) ∙ h))
    by false n h = back n (none_here (number_of_stripe x == n) (standing (x ∷ xs) n) (sym (ap is_owed (tail_standing 0 n x xs sorted)) ∙ h))

parting_all : (c : LibraryCall) (made : ℕ) (xs : List Stripe) → (parting c made xs ≡ []) ⊎ (parting c made xs ≡ xs)
parting_all call.Exit zero xs = inr refl
parting_all call.Exit (suc made) xs = inl refl
parting_all _ made xs = inl refl

call_fewer : (th q : Thread) (c : LibraryCall) (made : ℕ) → AreSorted th.stripes → OwesFewer th.stripes q.stripes → OwesFewer th.stripes (left_after th (parting c made th.stripes) q).stripes
call_fewer th q c made s f =
    ⊎_elim
    (λ e. subst (λ ys. OwesFewer th.stripes (left_after th ys q).stripes) (sym e) f)
    (λ e. parting_fewer th q (parting c made th.stripes) e s f)
    (parting_all c made th.stripes)

act_fewer : (code : Code) (s : SetupView) (t : ℕ) (th : Thread) (o : Option Act) (answer : ℤ) → AreSorted th.stripes → OwesFewer th.stripes (act_after code s t th o answer).stripes
act_fewer code s t th None answer h = λ n e. e
act_fewer code s t th (Some (act.Compute into work)) answer h = let r = work_of s.slots code.sites (pointers_of code th.top) th.top.registers work in same_fewer th.stripes _ (computed_same th into r).stripes
act_fewer code s t th (Some (act.Alloc into site None)) answer h = λ n e. e
act_fewer code s t th (Some (act.Alloc into site (Some size))) answer h = λ n e. e
act_fewer code s t th (Some (act.LoadCell into through)) answer h = λ n e. e
act_fewer code s t th (Some (act.StoreCell through source)) answer h = λ n e. e
act_fewer code s t th (Some act.Mark) answer h = λ n e. e
act_fewer code s t th (Some (act.Call function arguments into)) answer h = λ n e. e
act_fewer code s t th (Some (act.Library c arguments into)) answer h =
    call_fewer th (call_after code s t th c arguments into answer) c th.top.made h
    (same_fewer th.stripes (call_after code s t th c arguments into answer).stripes (went_same th (th.printed + length (piece_of c (words_of th.top.registers arguments))) into (library_onward (caller code s t th) c (words_of th.top.registers arguments) th.top.made th.top.kept answer)).stripes)
act_fewer code s t th (Some (act.Jump to)) answer h = λ n e. e
act_fewer code s t th (Some (act.Branch on then_at else_at)) answer h = λ n e. e
act_fewer code s t th (Some (act.Return value)) answer h = same_fewer th.stripes _ (returned_same code th (value_of th.top.registers value)).stripes
act_fewer code s t th (Some (act.Take region)) answer h = take_fewer code th (region_of code th.top region) (lacked code th (region_of code th.top region)) refl
act_fewer code s t th (Some (act.Give region)) answer h = give_fewer th (open_place code th region) (to_give code th region)

begun_fewer : (code : Code) (s : SetupView) (t : ℕ) (th : Thread) (f : ℕ) (answer : ℤ) → OwesFewer th.stripes (begun_after code s t th f answer).stripes
begun_fewer code s zero th f answer n e = e
begun_fewer code s (suc k) th f answer n e = e

phase_fewer : (code : Code) (s : SetupView) (t : ℕ) (th : Thread) (p : Phase) (answer : ℤ) → AreSorted th.stripes → OwesFewer th.stripes (phase_after code s t th p answer).stripes
phase_fewer code s t th phase.Fresh answer h = λ n e. e
phase_fewer code s t th (phase.Begun f) answer h = begun_fewer code s t th f answer
phase_fewer code s t th (phase.Loaded f w) answer h = λ n e. e
phase_fewer code s t th phase.Running answer h = act_fewer code s t th (act_at code th.top) answer h
phase_fewer code s t th phase.Ended answer h = λ n e. e
phase_fewer code s t th phase.Halted answer h = λ n e. e
phase_fewer code s t th (phase.Trapped kind line) answer h = λ n e. e
phase_fewer code s t th phase.Stopped answer h = λ n e. e
phase_fewer code s t th phase.Closed answer h = λ n e. e

module _ (code : Code) (s : SetupView) (t : ℕ) (th : Thread) (answer : ℤ) where
  retake_fewer : (o : Op) (obj : ObjId) → AreSorted th.stripes → Retakes th.stripes o obj → OwesFewer th.stripes (repaid th.stripes)
  retake_fewer o obj h r n e = held_here (number_of_stripe r.stripe == n) (standing th.stripes n) (sym (ap is_owed (repaid_standing n th.stripes r.stripe h r.owed)) ∙ e)

  -- an operation that is due by the code alone takes no owed stripe again
  operate_fewer : (o : Op) (obj : ObjId) → AreSorted th.stripes → due_of code s t th ≡ due.Operate o obj → OwesFewer th.stripes (after_due code s t th (due.Operate o obj) answer).stripes
  operate_fewer o obj h e =
      ⊎_elim
      (λ (p : (o ≡ op.Retake) × (after_due code s t th (due.Operate o obj) answer ≡ counted op.Retake (record th { stripes = repaid th.stripes }))).
      ⊎_elim
      (λ q. absurd (true≢false (sym (ap (λ z. is_retake (name_of z)) p.0) ∙ (thread_goes code s t th (due.Operate o obj) answer q.0).0.first)))
      (λ r. subst (λ y. OwesFewer th.stripes y.stripes) (sym p.1) (retake_fewer o obj h r))
      (operate_from code s t th o obj e))
      (λ p. subst (λ y. OwesFewer th.stripes y.stripes) (sym p) (phase_fewer code s t th th.phase answer h))
      (after_operate code s t th o obj answer)

  due_fewer : (d : Due) → due_of code s t th ≡ d → AreSorted th.stripes → OwesFewer th.stripes (after_due code s t th d answer).stripes
  due_fewer due.Nothing e h = λ n f. f
  due_fewer due.Quiet e h = phase_fewer code s t th th.phase answer h
  due_fewer (due.Load c) e h = phase_fewer code s t th th.phase answer h
  due_fewer (due.Store c v) e h = phase_fewer code s t th th.phase answer h
  due_fewer due.Mark e h = phase_fewer code s t th th.phase answer h
  due_fewer (due.Operate o obj) e h = operate_fewer o obj h e
  due_fewer (due.Trap kind) e h = λ n f. f

  pub step_fewer : AreSorted th.stripes → OwesFewer th.stripes (stepped code s t th answer).stripes
  step_fewer h = subst (λ q. OwesFewer th.stripes q.stripes) (sym (stepped_is code s t th (due_of code s t th) answer refl)) (due_fewer (due_of code s t th) refl h)

-- nor by its quiet steps
record Calms (th q : Thread) : Type 0 where
  agrees : Agree th.stripes th.regions → Agree q.stripes q.regions
  fewer : Agree th.stripes th.regions → OwesFewer th.stripes q.stripes

pub settled_fewer : (code : Code) (s : SetupView) (t : ℕ) (th : Thread) → Agree th.stripes th.regions → OwesFewer th.stripes (settled code s t th).stripes
settled_fewer code s t th a =
    (settled_keeps code s t (Calms th)
    (λ q e h. record { agrees = λ b. (stepped_steps code s t q (pos 0)).agrees (h.agrees b); fewer = λ b n f. h.fewer b n (step_fewer code s t q (pos 0) (h.agrees b).sorted n f) })
    th (record { agrees = λ b. b; fewer = λ b n f. f })).fewer a
