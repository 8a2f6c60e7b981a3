-- A thread that has made an event has begun, and has ended only where it has left the live threads or halted the program.
use Rattle.std.proofs.Common.{◌≡◌, ℕ, zero, suc, ◌-◌, ⊎_elim, ◌==◌, Bool, true, false, if◌then◌else◌, List, [], ◌∷◌, length, Option, Some, None, Result, Ok, Err, refl, sym, ap, subst, ◌∙◌, ℤ}
use Rattle.std.specs.Prelude.{slice_get}
use Rattle.std.proofs.lemmas.Bool.{true≢false}
use Rattle.sync_objects.specs.Setup.{SetupView}
use Rattle.sync_objects.specs.Names.{name_of, is_ending, is_weak}
use Rattle.sync_objects.specs.declared.object.ObjId.{ObjId}
use Rattle.sync_objects.specs.declared.operation.Op.{Op}
use Rattle.sync_objects.specs.declared.operation.Op.TheVariants as op
use Rattle.rr_base.specs.declared.trap.Trap.{Trap}
use Rattle.flow_code.specs.declared.act.Act.{Act}
use Rattle.flow_code.specs.declared.act.Act.TheVariants as act
use Rattle.flow_code.specs.declared.code.Code.{Code}
use Rattle.flow_code.specs.declared.thread.Phase.{Phase}
use Rattle.flow_code.specs.declared.thread.Phase.TheVariants as phase
use Rattle.word_semantics.specs.declared.event.Due.{Due}
use Rattle.word_semantics.specs.declared.event.Due.TheVariants as due
use Rattle.word_semantics.specs.declared.event.Action.{Action}
use Rattle.word_semantics.specs.declared.event.Action.TheVariants as action
use Rattle.word_semantics.specs.declared.event.Onward.{Onward}
use Rattle.word_semantics.specs.declared.event.Onward.TheVariants as onward
use Rattle.flow_code.specs.declared.thread.Stripe.{Stripe}
use Rattle.flow_code.specs.declared.region.Region.{Region}
use Rattle.flow_code.specs.Holding.{region_of, lacked, taken, open_place, to_give, gives_at, parting, left_after}
use Rattle.word_semantics.proofs.Calls.{is_retake}
use Rattle.flow_code.specs.Works.{work_of}
use Rattle.word_semantics.specs.Library.{library_onward}
use Rattle.flow_code.specs.Threads.{Frame, Thread, is_main}
use Rattle.flow_code.specs.Next.{value_of, act_at, pointers_of, caller, due_of, computed, resumed, returned, end_onward, back_in, on_unless, act_after, begun_after, phase_after, after_due, has_ended, has_begun, action_at, action_of, stepped}
use Rattle.word_semantics.specs.Registers.{words_of}
use Rattle.flow_code.proofs.Counts.{action_counts, stepped_is, operate_after}
use Rattle.flow_code.proofs.Dues.{operate_by_code}
use Rattle.flow_code.proofs.Goings.{ThreadOperates, runs, slot_ends, thread_ends, thread_goes}
use Rattle.flow_code.proofs.Settle.{action_is}
use Rattle.lowering_simulation.specs.SourceRuns.{is_last}
use Rattle.lowering_simulation.proofs.Proper.{is_trap, IsEvent}

module _ (code : Code) (s : SetupView) (t : ℕ) (th : Thread) where
  module _ (run : th.phase ≡ phase.Running) where
    begun_here : has_begun th.phase ≡ true
    begun_here = ap has_begun run

    computed_begun : (into : ℕ) (r : Result ℕ Trap) → has_begun (computed th into r).phase ≡ true
    computed_begun into (Ok w) = begun_here
    computed_begun into (Err k) = begun_here

    went_on_begun : (n : ℕ) (into : Option ℕ) (o : Onward) → has_begun (resumed (record th { printed = n }) into o).phase ≡ true
    went_on_begun n into (onward.Stays kept) = begun_here
    went_on_begun n into (onward.Gives w) = begun_here
    went_on_begun n into onward.Ends = refl

    back_begun : (value : ℕ) (o : Option Frame) → has_begun (back_in code th value o).phase ≡ true
    back_begun value None = begun_here
    back_begun value (Some f) = begun_here

    end_begun : (m : Bool) (made : ℕ) → has_begun (end_onward m th made).phase ≡ true
    end_begun true made = refl
    end_begun false zero = begun_here
    end_begun false (suc zero) = begun_here
    end_begun false (suc (suc n)) = refl

    returned_begun : (value : ℕ) → has_begun (returned code th value).phase ≡ true
    returned_begun value = by (length th.below == 0)
      where
        by : (b : Bool) → has_begun (if b then end_onward (is_main code th.top.function) th th.top.made else back_in code th value (slice_get th.below (length th.below - 1))).phase ≡ true
        by true = end_begun (is_main code th.top.function) th.top.made
        by false = back_begun value (slice_get th.below (length th.below - 1))

    left_begun : (xs : List Stripe) (q : Thread) → has_begun q.phase ≡ true → has_begun (left_after th xs q).phase ≡ true
    left_begun [] q h = h
    left_begun (x ∷ xs) q h = begun_here

    take_begun : (r : Option Region) (next : Option ℕ) → has_begun (on_unless next (taken code th r next)).phase ≡ true
    take_begun None None = begun_here
    take_begun None (Some n) = begun_here
    take_begun (Some r) None = begun_here
    take_begun (Some r) (Some n) = begun_here

    give_begun : (place : Option ℕ) (next : Option (ℕ × ℕ)) → has_begun (on_unless next (gives_at th place next)).phase ≡ true
    give_begun None None = begun_here
    give_begun None (Some x) = begun_here
    give_begun (Some i) None = begun_here
    give_begun (Some i) (Some x) = begun_here

    act_begun : (o : Option Act) (answer : ℤ) → has_begun (act_after code s t th o answer).phase ≡ true
    act_begun None answer = begun_here
    act_begun (Some (act.Compute into work)) answer = computed_begun into (work_of s.slots code.sites (pointers_of code th.top) th.top.registers work)
    act_begun (Some (act.Alloc into site None)) answer = begun_here
    act_begun (Some (act.Alloc into site (Some size))) answer = begun_here
    act_begun (Some (act.LoadCell into through)) answer = begun_here
    act_begun (Some (act.StoreCell through from)) answer = begun_here
    act_begun (Some act.Mark) answer = begun_here
    act_begun (Some (act.Call function arguments into)) answer = refl
    act_begun (Some (act.Library call arguments into)) answer = left_begun (parting call th.top.made th.stripes) _ (went_on_begun _ into (library_onward (caller code s t th) call (words_of th.top.registers arguments) th.top.made th.top.kept answer))
    act_begun (Some (act.Jump to)) answer = begun_here
    act_begun (Some (act.Branch on then_at else_at)) answer = begun_here
    act_begun (Some (act.Return value)) answer = returned_begun (value_of th.top.registers value)
    act_begun (Some (act.Take region)) answer = take_begun (region_of code th.top region) (lacked code th (region_of code th.top region))
    act_begun (Some (act.Give region)) answer = give_begun (open_place code th region) (to_give code th region)

begun_after_begun : (code : Code) (s : SetupView) (t : ℕ) (th : Thread) (f : ℕ) (answer : ℤ) → has_begun (begun_after code s t th f answer).phase ≡ true
begun_after_begun code s zero th f answer = refl
begun_after_begun code s (suc k) th f answer = refl

phase_begun : (code : Code) (s : SetupView) (t : ℕ) (th : Thread) (p : Phase) (answer : ℤ) → th.phase ≡ p → has_ended p ≡ false → has_begun (phase_after code s t th p answer).phase ≡ true
phase_begun code s t th phase.Fresh answer e lives = refl
phase_begun code s t th (phase.Begun f) answer e lives = begun_after_begun code s t th f answer
phase_begun code s t th (phase.Loaded f w) answer e lives = refl
phase_begun code s t th phase.Running answer e lives = act_begun code s t th e (act_at code th.top) answer
phase_begun code s t th phase.Ended answer e lives = absurd (true≢false lives)
phase_begun code s t th phase.Halted answer e lives = absurd (true≢false lives)
phase_begun code s t th (phase.Trapped kind line) answer e lives = absurd (true≢false lives)
phase_begun code s t th phase.Stopped answer e lives = absurd (true≢false lives)
phase_begun code s t th phase.Closed answer e lives = absurd (true≢false lives)

-- ---- after an event

-- an operation that isn't one on a stripe takes no stripe again
strong_first : (o : Op) → is_weak (name_of o) ≡ false → is_retake (name_of o) ≡ false
strong_first op.Retake e = absurd (true≢false e)
strong_first o e = refl

due_phase : (code : Code) (s : SetupView) (t : ℕ) (th : Thread) (d : Due) (answer : ℤ) → IsEvent (action_of d) → (after_due code s t th d answer).phase ≡ (phase_after code s t th th.phase answer).phase
due_phase code s t th due.Nothing answer e = absurd e
due_phase code s t th due.Quiet answer e = absurd e
due_phase code s t th (due.Load c) answer e = refl
due_phase code s t th (due.Store c w) answer e = refl
due_phase code s t th due.Mark answer e = refl
due_phase code s t th (due.Operate o obj) answer e = ap (λ (z : Thread). z.phase) (operate_after code s t th o obj answer (strong_first o e.1))
due_phase code s t th (due.Trap kind) answer e = absurd (true≢false e.0)

-- the thread has begun
pub event_begins : (code : Code) (s : SetupView) (t : ℕ) (th : Thread) (a : Action) (answer : ℤ) → action_at code s t th ≡ a → IsEvent a → has_ended th.phase ≡ false → has_begun (stepped code s t th answer).phase ≡ true
event_begins code s t th a answer at e lives =
    let is : a ≡ action_of (due_of code s t th) = sym at ∙ action_is code s t th in
    ap (λ (z : Thread). has_begun z.phase) (stepped_is code s t th (due_of code s t th) answer refl)
    ∙ ap has_begun (due_phase code s t th (due_of code s t th) answer (subst IsEvent is e))
    ∙ phase_begun code s t th th.phase answer refl lives

-- the operation that is due
operate_due : (d : Due) (o : Op) (obj : ObjId) → is_trap o ≡ false → action_of d ≡ action.Operate o obj → d ≡ due.Operate o obj
operate_due due.Nothing o obj e h = cc
operate_due due.Quiet o obj e h = cc
operate_due (due.Load c) o obj e h = cc
operate_due (due.Store c w) o obj e h = cc
operate_due due.Mark o obj e h = cc
operate_due (due.Operate p q) o obj e h = cc
operate_due (due.Trap kind) o obj e h =
    let same : op.TrapHere ≡ o = cc in
    absurd (true≢false (ap is_trap same ∙ e))

not_last : (o : Op) (obj : ObjId) → is_ending (name_of o) ≡ false → is_last (action.Operate o obj) ≡ false
not_last op.Leave obj e = absurd (true≢false e)
not_last op.HaltAll obj e = absurd (true≢false e)
not_last o obj e = refl

-- whether the thread has ended is whether the operation was its last one
operates_end : (code : Code) (s : SetupView) (t : ℕ) (th q : Thread) (o : Op) (obj : ObjId) → ThreadOperates code s t th o q → has_ended q.phase ≡ is_last (action.Operate o obj)
operates_end code s t th q o obj (runs e r) = r.lives ∙ sym (not_last o obj e)
operates_end code s t th q o obj (slot_ends e r n) = r.lives ∙ sym (ap (λ z. is_last (action.Operate z obj)) e)
operates_end code s t th q o obj (thread_ends e h g) = h ∙ sym (⊎_elim (λ is. ap (λ z. is_last (action.Operate z obj)) is) (λ is. ap (λ z. is_last (action.Operate z obj)) is) e)

no_retake : (o : Op) → is_weak (name_of o) ≡ false → o ≡ op.Retake → ⊥
no_retake o strong e = true≢false (sym (ap (λ z. is_weak (name_of z)) e) ∙ strong)

pub event_ends : (code : Code) (s : SetupView) (t : ℕ) (th : Thread) (a : Action) (answer : ℤ) → action_at code s t th ≡ a → IsEvent a → has_ended (stepped code s t th answer).phase ≡ is_last a
event_ends code s t th (action.Load c) answer at e = (action_counts code s t th (action.Load c) answer tt at).lives
event_ends code s t th (action.Store c w) answer at e = (action_counts code s t th (action.Store c w) answer tt at).lives
event_ends code s t th action.Mark answer at e = (action_counts code s t th action.Mark answer tt at).lives
event_ends code s t th (action.Operate o obj) answer at e =
    let is = operate_due (due_of code s t th) o obj e.0 (sym (action_is code s t th) ∙ at) in
    ap (λ (z : Thread). has_ended z.phase) (stepped_is code s t th (due.Operate o obj) answer is ∙ operate_after code s t th o obj answer (strong_first o e.1))
    ∙ ⊎_elim (λ h. operates_end code s t th _ o obj (thread_goes code s t th (due.Operate o obj) answer h.0).2) (λ h. absurd (no_retake o e.1 h.1)) (operate_by_code code s t th o obj is)
event_ends code s t th action.Quiet answer at e = absurd e
event_ends code s t th action.Ended answer at e = absurd e
