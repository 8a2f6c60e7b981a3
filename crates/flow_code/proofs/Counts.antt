-- What each step does to the counts of a thread, and whether it has ended.
use Rattle.std.proofs.Common.{◌≡◌, ℕ, zero, suc, ◌+◌, ◌-◌, ◌≤◌, ◌⊎◌, inl, inr, ⊎_elim, ◌==◌, Bool, true, false, if◌then◌else◌, List, [], ◌∷◌, length, Option, Some, None, Result, Ok, Err, refl, sym, ap, subst, ◌∙◌, ℤ, pos, arith}
use Rattle.std.specs.Prelude.{slice_get}
use Rattle.std.proofs.lemmas.Bool.{true≢false}
use Rattle.sync_objects.specs.Setup.{SetupView}
use Rattle.sync_objects.specs.Names.{name_of, is_weak}
use Rattle.sync_objects.specs.declared.object.ObjId.{ObjId}
use Rattle.sync_objects.specs.declared.operation.Op.{Op}
use Rattle.sync_objects.specs.declared.operation.Op.TheVariants as op
use Rattle.rr_base.specs.declared.trap.Trap.{Trap}
use Rattle.flow_code.specs.declared.act.Act.{Act}
use Rattle.flow_code.specs.declared.act.Act.TheVariants as act
use Rattle.flow_code.specs.declared.code.Code.{Code}
use Rattle.flow_code.specs.declared.thread.Phase.{Phase}
use Rattle.flow_code.specs.declared.thread.Phase.TheVariants as phase
use Rattle.flow_code.specs.declared.region.Region.{Region}
use Rattle.flow_code.specs.declared.thread.Stripe.{Stripe}
use Rattle.word_semantics.specs.declared.event.Due.{Due}
use Rattle.word_semantics.specs.declared.event.Due.TheVariants as due
use Rattle.word_semantics.specs.declared.event.Action.{Action}
use Rattle.word_semantics.specs.declared.event.Action.TheVariants as action
use Rattle.word_semantics.specs.declared.event.Onward.{Onward}
use Rattle.word_semantics.specs.declared.event.Onward.TheVariants as onward
use Rattle.flow_code.specs.Works.{work_of}
use Rattle.word_semantics.specs.Library.{piece_of, library_onward}
use Rattle.flow_code.specs.Threads.{Frame, Thread, is_main}
use Rattle.flow_code.specs.Next.{value_of, act_at, pointers_of, caller, phase_due, due_of, computed, resumed, returned, end_onward, back_in, on_unless, act_after, begun_after, phase_after, counted, repaid, one_more, after_due, has_ended, action_of, action_at, stepped}
use Rattle.word_semantics.specs.Registers.{words_of}
use Rattle.flow_code.specs.Holding.{region_of, lacked, taken, open_place, to_give, gives_at, parting, left_after}
use Rattle.flow_code.specs.Settle.{settled}
use Rattle.word_semantics.proofs.Calls.{is_retake}
use Rattle.flow_code.proofs.Dues.{quiet_by_code, nothing_by_code, nothing_due, IsAccess, access_by_code}
use Rattle.flow_code.proofs.Goings.{Runs, ThreadGoes, thread_goes}
use Rattle.flow_code.proofs.Settle.{settled_keeps, action_is}

-- the counts are the same
pub record KeepsRest (th q : Thread) : Type 0 where
  pub count : q.count ≡ th.count
  pub entries : q.entries ≡ th.entries
  pub revokes : q.revokes ≡ th.revokes

rest : (th q : Thread) → q.count ≡ th.count → q.entries ≡ th.entries → q.revokes ≡ th.revokes → KeepsRest th q
rest th q a b c = record { count = a; entries = b; revokes = c }

computed_keeps : (th : Thread) (into : ℕ) (r : Result ℕ Trap) → KeepsRest th (computed th into r)
computed_keeps th into (Ok w) = rest th _ refl refl refl
computed_keeps th into (Err k) = rest th _ refl refl refl

went_on_keeps : (th : Thread) (n : ℕ) (into : Option ℕ) (o : Onward) → KeepsRest th (resumed (record th { printed = n }) into o)
went_on_keeps th n into (onward.Stays kept) = rest th _ refl refl refl
went_on_keeps th n into (onward.Gives w) = rest th _ refl refl refl
went_on_keeps th n into onward.Ends = rest th _ refl refl refl

back_keeps : (code : Code) (th : Thread) (value : ℕ) (o : Option Frame) → KeepsRest th (back_in code th value o)
back_keeps code th value None = rest th _ refl refl refl
back_keeps code th value (Some f) = rest th _ refl refl refl

end_keeps : (m : Bool) (th : Thread) (made : ℕ) → KeepsRest th (end_onward m th made)
end_keeps true th made = rest th _ refl refl refl
end_keeps false th zero = rest th _ refl refl refl
end_keeps false th (suc zero) = rest th _ refl refl refl
end_keeps false th (suc (suc n)) = rest th _ refl refl refl

returned_keeps : (code : Code) (th : Thread) (value : ℕ) → KeepsRest th (returned code th value)
returned_keeps code th value = by (length th.below == 0)
  where
    by : (b : Bool) → KeepsRest th (if b then end_onward (is_main code th.top.function) th th.top.made else back_in code th value (slice_get th.below (length th.below - 1)))
    by true = end_keeps (is_main code th.top.function) th th.top.made
    by false = back_keeps code th value (slice_get th.below (length th.below - 1))

take_keeps : (code : Code) (th : Thread) (r : Option Region) (next : Option ℕ) → KeepsRest th (on_unless next (taken code th r next))
take_keeps code th None None = rest th _ refl refl refl
take_keeps code th None (Some n) = rest th _ refl refl refl
take_keeps code th (Some r) None = rest th _ refl refl refl
take_keeps code th (Some r) (Some n) = rest th _ refl refl refl

give_keeps : (th : Thread) (place : Option ℕ) (next : Option (ℕ × ℕ)) → KeepsRest th (on_unless next (gives_at th place next))
give_keeps th None None = rest th _ refl refl refl
give_keeps th None (Some n) = rest th _ refl refl refl
give_keeps th (Some i) None = rest th _ refl refl refl
give_keeps th (Some i) (Some n) = rest th _ refl refl refl

parting_keeps : (th : Thread) (xs : List Stripe) (q : Thread) → KeepsRest th q → KeepsRest th (left_after th xs q)
parting_keeps th [] q h = h
parting_keeps th (x ∷ xs) q h = rest th _ refl refl refl

act_keeps : (code : Code) (s : SetupView) (t : ℕ) (th : Thread) (o : Option Act) (answer : ℤ) → KeepsRest th (act_after code s t th o answer)
act_keeps code s t th None answer = rest th _ refl refl refl
act_keeps code s t th (Some (act.Compute into work)) answer = computed_keeps th into (work_of s.slots code.sites (pointers_of code th.top) th.top.registers work)
act_keeps code s t th (Some (act.Alloc into site None)) answer = rest th _ refl refl refl
act_keeps code s t th (Some (act.Alloc into site (Some size))) answer = rest th _ refl refl refl
act_keeps code s t th (Some (act.LoadCell into through)) answer = rest th _ refl refl refl
act_keeps code s t th (Some (act.StoreCell through from)) answer = rest th _ refl refl refl
act_keeps code s t th (Some act.Mark) answer = rest th _ refl refl refl
act_keeps code s t th (Some (act.Call function arguments into)) answer = rest th _ refl refl refl
act_keeps code s t th (Some (act.Library call arguments into)) answer =
    parting_keeps th (parting call th.top.made th.stripes) _ (went_on_keeps th (th.printed + length (piece_of call (words_of th.top.registers arguments))) into (library_onward (caller code s t th) call (words_of th.top.registers arguments) th.top.made th.top.kept answer))
act_keeps code s t th (Some (act.Jump to)) answer = rest th _ refl refl refl
act_keeps code s t th (Some (act.Branch on then_at else_at)) answer = rest th _ refl refl refl
act_keeps code s t th (Some (act.Return value)) answer = returned_keeps code th (value_of th.top.registers value)
act_keeps code s t th (Some (act.Take region)) answer = take_keeps code th (region_of code th.top region) (lacked code th (region_of code th.top region))
act_keeps code s t th (Some (act.Give region)) answer = give_keeps th (open_place code th region) (to_give code th region)

begun_keeps : (code : Code) (s : SetupView) (t : ℕ) (th : Thread) (f : ℕ) (answer : ℤ) → KeepsRest th (begun_after code s t th f answer)
begun_keeps code s zero th f answer = rest th _ refl refl refl
begun_keeps code s (suc k) th f answer = rest th _ refl refl refl

pub phase_keeps : (code : Code) (s : SetupView) (t : ℕ) (th : Thread) (p : Phase) (answer : ℤ) → KeepsRest th (phase_after code s t th p answer)
phase_keeps code s t th phase.Fresh answer = rest th _ refl refl refl
phase_keeps code s t th (phase.Begun f) answer = begun_keeps code s t th f answer
phase_keeps code s t th (phase.Loaded f w) answer = rest th _ refl refl refl
phase_keeps code s t th phase.Running answer = act_keeps code s t th (act_at code th.top) answer
phase_keeps code s t th phase.Ended answer = rest th _ refl refl refl
phase_keeps code s t th phase.Halted answer = rest th _ refl refl refl
phase_keeps code s t th (phase.Trapped kind line) answer = rest th _ refl refl refl
phase_keeps code s t th phase.Stopped answer = rest th _ refl refl refl
phase_keeps code s t th phase.Closed answer = rest th _ refl refl refl

-- the state after what is due
pub stepped_is : (code : Code) (s : SetupView) (t : ℕ) (th : Thread) (d : Due) (answer : ℤ) → due_of code s t th ≡ d → stepped code s t th answer ≡ after_due code s t th d answer
unfolding stepped
stepped_is code s t th d answer e = ap (λ z. after_due code s t th z answer) e

-- a quiet step changes no count, no phase, and nothing of what is printed
pub record KeepsAll (th q : Thread) : Type 0 where
  pub rest : KeepsRest th q
  pub printed : q.printed ≡ th.printed
  pub phase : q.phase ≡ th.phase

pub quiet_keeps : (code : Code) (s : SetupView) (t : ℕ) (th : Thread) (answer : ℤ) → due_of code s t th ≡ due.Quiet → KeepsAll th (stepped code s t th answer)
quiet_keeps code s t th answer e =
    let q = thread_goes code s t th due.Quiet answer (quiet_by_code code s t th e) in
    subst (KeepsAll th) (sym (stepped_is code s t th due.Quiet answer e)) (record { rest = phase_keeps code s t th th.phase answer; printed = q.same_printed; phase = q.same_phase })

pub settled_keeps_all : (code : Code) (s : SetupView) (t : ℕ) (th : Thread) → KeepsAll th (settled code s t th)
settled_keeps_all code s t th =
    settled_keeps code s t (KeepsAll th)
    (λ q e h. let k = quiet_keeps code s t q (pos 0) e in
    record {
      rest = rest th (stepped code s t q (pos 0)) (k.rest.count ∙ h.rest.count) (k.rest.entries ∙ h.rest.entries) (k.rest.revokes ∙ h.rest.revokes);
      printed = k.printed ∙ h.printed;
      phase = k.phase ∙ h.phase;
    })
    th
    (record { rest = rest th th refl refl refl; printed = refl; phase = refl })

pub settled_count : (code : Code) (s : SetupView) (t : ℕ) (th : Thread) → (settled code s t th).count ≡ th.count
settled_count code s t th = (settled_keeps_all code s t th).rest.count

-- a load, a store or a mark is one event more, and its thread goes on
pub record Counts (th q : Thread) : Type 0 where
  pub count : q.count ≡ suc th.count
  pub entries : q.entries ≡ th.entries
  pub lives : has_ended q.phase ≡ false

pub runs_of : (code : Code) (s : SetupView) (t : ℕ) (th q : Thread) (d : Due) → IsAccess d → ThreadGoes code s t th q d → Runs code s t th q
runs_of code s t th q (due.Load c) a h = h
runs_of code s t th q (due.Store c w) a h = h
runs_of code s t th q due.Mark a h = h
runs_of code s t th q due.Nothing a h = absurd a
runs_of code s t th q due.Quiet a h = absurd a
runs_of code s t th q (due.Operate o obj) a h = absurd a
runs_of code s t th q (due.Trap kind) a h = absurd a

pub access_after : (code : Code) (s : SetupView) (t : ℕ) (th : Thread) (d : Due) (answer : ℤ) → IsAccess d → after_due code s t th d answer ≡ one_more (phase_after code s t th th.phase answer)
access_after code s t th (due.Load c) answer a = refl
access_after code s t th (due.Store c w) answer a = refl
access_after code s t th due.Mark answer a = refl
access_after code s t th due.Nothing answer a = absurd a
access_after code s t th due.Quiet answer a = absurd a
access_after code s t th (due.Operate o obj) answer a = absurd a
access_after code s t th (due.Trap kind) answer a = absurd a

pub access_counts : (code : Code) (s : SetupView) (t : ℕ) (th : Thread) (d : Due) (answer : ℤ) → IsAccess d → due_of code s t th ≡ d → Counts th (stepped code s t th answer)
access_counts code s t th d answer a e =
    let p = access_by_code code s t th d a e in
    let r = runs_of code s t th (phase_after code s t th th.phase answer) d a (thread_goes code s t th d answer p.0) in
    let k = phase_keeps code s t th th.phase answer in
    subst (Counts th) (sym (stepped_is code s t th d answer e ∙ access_after code s t th d answer a)) (record { count = omega (arith, k.count); entries = k.entries; lives = r.lives })

-- an operation that takes an owed stripe again, and any other one
pub after_operate : (code : Code) (s : SetupView) (t : ℕ) (th : Thread) (o : Op) (obj : ObjId) (answer : ℤ) →
    (o ≡ op.Retake) × (after_due code s t th (due.Operate o obj) answer ≡ counted op.Retake (record th { stripes = repaid th.stripes })) ⊎ (after_due code s t th (due.Operate o obj) answer ≡ counted o (phase_after code s t th th.phase answer))
after_operate code s t th op.Retake obj answer = inl (refl, refl)
after_operate code s t th o obj answer = inr refl

pub operate_after : (code : Code) (s : SetupView) (t : ℕ) (th : Thread) (o : Op) (obj : ObjId) (answer : ℤ) → is_retake (name_of o) ≡ false → after_due code s t th (due.Operate o obj) answer ≡ counted o (phase_after code s t th th.phase answer)
operate_after code s t th o obj answer first = ⊎_elim (λ h. absurd (true≢false (sym (ap (λ z. is_retake (name_of z)) h.0) ∙ first))) (λ h. h) (after_operate code s t th o obj answer)

-- no step lowers the count

counted_up : (o : Op) (th q : Thread) → q.count ≡ th.count → th.count ≤ (counted o q).count
counted_up o th q e = by (is_weak (name_of o))
  where
    by : (b : Bool) → th.count ≤ (if b then q.count else q.count + 1)
    by true = omega arith
    by false = omega arith

due_grows : (code : Code) (s : SetupView) (t : ℕ) (th : Thread) (d : Due) (answer : ℤ) → th.count ≤ (after_due code s t th d answer).count
due_grows code s t th due.Nothing answer = omega arith
due_grows code s t th due.Quiet answer = let k = (phase_keeps code s t th th.phase answer).count in omega arith
due_grows code s t th (due.Load c) answer = let k = (phase_keeps code s t th th.phase answer).count in omega arith
due_grows code s t th (due.Store c w) answer = let k = (phase_keeps code s t th th.phase answer).count in omega arith
due_grows code s t th due.Mark answer = let k = (phase_keeps code s t th th.phase answer).count in omega arith
due_grows code s t th (due.Operate o obj) answer =
    ⊎_elim
    (λ h. subst (λ z. th.count ≤ z.count) (sym h.1) (counted_up op.Retake th (record th { stripes = repaid th.stripes }) refl))
    (λ h. subst (λ z. th.count ≤ z.count) (sym h) (counted_up o th (phase_after code s t th th.phase answer) (phase_keeps code s t th th.phase answer).count))
    (after_operate code s t th o obj answer)
due_grows code s t th (due.Trap kind) answer = omega arith

pub step_grows : (code : Code) (s : SetupView) (t : ℕ) (th : Thread) (answer : ℤ) → th.count ≤ (stepped code s t th answer).count
step_grows code s t th answer = subst (λ z. th.count ≤ z.count) (sym (stepped_is code s t th (due_of code s t th) answer refl)) (due_grows code s t th (due_of code s t th) answer)

-- nothing is due in a thread that has ended, and else only after the last instruction of a function

ended_phase : (code : Code) (s : SetupView) (t : ℕ) (th : Thread) (p : Phase) → has_ended p ≡ true → phase_due code s t th p ≡ due.Nothing
ended_phase code s t th phase.Fresh e = absurd (true≢false (sym e))
ended_phase code s t th (phase.Begun f) e = absurd (true≢false (sym e))
ended_phase code s t th (phase.Loaded f w) e = absurd (true≢false (sym e))
ended_phase code s t th phase.Running e = absurd (true≢false (sym e))
ended_phase code s t th phase.Ended e = refl
ended_phase code s t th phase.Halted e = refl
ended_phase code s t th (phase.Trapped kind line) e = refl
ended_phase code s t th phase.Stopped e = refl
ended_phase code s t th phase.Closed e = refl

pub ended_due : (code : Code) (s : SetupView) (t : ℕ) (th : Thread) → has_ended th.phase ≡ true → due_of code s t th ≡ due.Nothing
ended_due code s t th e = nothing_due code s t th (ended_phase code s t th th.phase e)

pub nothing_is : (code : Code) (s : SetupView) (t : ℕ) (th : Thread) → due_of code s t th ≡ due.Nothing → (has_ended th.phase ≡ true) ⊎ ((th.phase ≡ phase.Running) × (act_at code th.top ≡ None))
nothing_is code s t th e = thread_goes code s t th due.Nothing (pos 0) (nothing_by_code code s t th e)

-- the same by what comes next

-- an access or a mark
abbrev pub IsAccessAction : Action → Type 0
IsAccessAction (action.Load c) = Unit {0}
IsAccessAction (action.Store c w) = Unit {0}
IsAccessAction action.Mark = Unit {0}
IsAccessAction _ = ⊥

is_access : (d : Due) → IsAccessAction (action_of d) → IsAccess d
is_access (due.Load c) h = tt
is_access (due.Store c w) h = tt
is_access due.Mark h = tt
is_access due.Nothing h = absurd h
is_access due.Quiet h = absurd h
is_access (due.Operate o obj) h = absurd h
is_access (due.Trap kind) h = absurd h

pub action_counts : (code : Code) (s : SetupView) (t : ℕ) (th : Thread) (a : Action) (answer : ℤ) → IsAccessAction a → action_at code s t th ≡ a → Counts th (stepped code s t th answer)
action_counts code s t th a answer h e = access_counts code s t th (due_of code s t th) answer (is_access (due_of code s t th) (subst IsAccessAction (sym e ∙ action_is code s t th) h)) refl

ended_action_due : (d : Due) → action_of d ≡ action.Ended → d ≡ due.Nothing
ended_action_due due.Nothing e = refl
ended_action_due due.Quiet e = cc
ended_action_due (due.Load c) e = cc
ended_action_due (due.Store c w) e = cc
ended_action_due due.Mark e = cc
ended_action_due (due.Operate o obj) e = cc
ended_action_due (due.Trap kind) e = cc

pub ended_action : (code : Code) (s : SetupView) (t : ℕ) (th : Thread) → has_ended th.phase ≡ true → action_at code s t th ≡ action.Ended
ended_action code s t th e = action_is code s t th ∙ ap action_of (ended_due code s t th e)

pub ended_action_is : (code : Code) (s : SetupView) (t : ℕ) (th : Thread) → action_at code s t th ≡ action.Ended → (has_ended th.phase ≡ true) ⊎ ((th.phase ≡ phase.Running) × (act_at code th.top ≡ None))
ended_action_is code s t th e = nothing_is code s t th (ended_action_due (due_of code s t th) (sym (action_is code s t th) ∙ e))
