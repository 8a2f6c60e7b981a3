-- Quiet steps: they don't depend on an answer, and they go on in the code, come to a mark, or come back to a caller.
use Rattle.std.proofs.Common.{◌≡◌, ℕ, zero, suc, ◌+◌, ◌-◌, ◌<◌, ◌≤◌, ◌⊎◌, inl, inr, ◌==◌, ◌||◌, not, cond, Bool, true, false, if◌then◌else◌, List, [], ◌∷◌, length, take, drop, Option, Some, None, Result, Ok, Err, refl, sym, ap, subst, ◌∙◌, nat_le, ℤ, pos, arith}
use Rattle.std.specs.Prelude.{slice_get}
use Rattle.std.proofs.lemmas.Bool.{eqb-false}
use Rattle.sync_objects.specs.Setup.{SetupView}
use Rattle.rr_base.specs.declared.trap.Trap.{Trap}
use Rattle.rr_base.specs.declared.trap.Trap.TheVariants as trap
use Rattle.rr_base.proofs.Lists.{slice_get_outside}
use Rattle.flow_code.specs.declared.act.Act.{Act}
use Rattle.flow_code.specs.declared.act.Act.TheVariants as act
use Rattle.word_semantics.specs.declared.library_call.LibraryCall.{LibraryCall}
use Rattle.word_semantics.specs.declared.library_call.LibraryCall.TheVariants as call
use Rattle.flow_code.specs.declared.region.Region.{Region}
use Rattle.flow_code.specs.declared.thread.Stripe.{Stripe}
use Rattle.flow_code.specs.Holding.{region_of, lacked, take_or_quiet, give_or_quiet, taken, open_place, to_give, gives_at, parting, owes, parting_due, held, keeping, left_after}
use Rattle.sync_objects.specs.declared.object.ObjId.TheVariants as object
use Rattle.sync_objects.specs.declared.operation.Op.TheVariants as op
use Rattle.flow_code.specs.declared.code.Code.{Code}
use Rattle.flow_code.specs.declared.code.Function.{Function}
use Rattle.flow_code.specs.declared.thread.Phase.{Phase}
use Rattle.flow_code.specs.declared.thread.Phase.TheVariants as phase
use Rattle.word_semantics.specs.declared.event.Due.{Due}
use Rattle.word_semantics.specs.declared.event.Due.TheVariants as due
use Rattle.word_semantics.specs.declared.event.Onward.TheVariants as onward
use Rattle.word_semantics.specs.Pointers.{resolved}
use Rattle.flow_code.specs.Works.{is_pointer, work_of}
use Rattle.word_semantics.specs.Registers.{register}
use Rattle.word_semantics.specs.Library.{piece_of, library_due}
use Rattle.flow_code.specs.Threads.{Frame, Thread, arena_end, is_main, objects_in, fitted, instr_in, instrs_in}
use Rattle.flow_code.specs.Next.{given, result_of, value_of, act_in, act_at, pointers_of, quiet_unless, load_due, store_due, mark_if, enter_due, end_due, return_due, caller, act_due, begun_due, phase_due, due_of, computed, resumed, jumped, returned, end_onward, back_in, on_unless, act_after, phase_after, after_due, stepped}
use Rattle.word_semantics.specs.Limits.{most_frames}
use Rattle.word_semantics.specs.Registers.{words_of}
use Rattle.word_semantics.specs.Cells.{access_kind}
use Rattle.flow_code.specs.Settle.{IsJump, IsSoundAct, IsRunnable}
use Rattle.word_semantics.proofs.Calls.{IsWithoutEvents, CallGoes, call_goes}
use Rattle.flow_code.proofs.Dues.{quiet_by_code}
use Rattle.flow_code.proofs.Shapes.{StandsIn, stands_in}

neither : (b : Bool) (x y : Due) → (x ≡ due.Quiet → ⊥) → (y ≡ due.Quiet → ⊥) → (if b then x else y) ≡ due.Quiet → ⊥
neither true x y f g e = f e
neither false x y f g e = g e

load_not_quiet : (r : Result ℕ Trap) → load_due r ≡ due.Quiet → ⊥
load_not_quiet (Ok c) e = cc
load_not_quiet (Err k) e = cc

store_not_quiet : (r : Result ℕ Trap) (w : ℕ) → store_due r w ≡ due.Quiet → ⊥
store_not_quiet (Ok c) w e = cc
store_not_quiet (Err k) w e = cc

mark_not_quiet : (o : Option ℕ) → mark_if o ≡ due.Quiet → ⊥
mark_not_quiet None e = cc
mark_not_quiet (Some a) e = cc

enter_not_quiet : (code : Code) (s : SetupView) (t : ℕ) (th : Thread) (frames f : ℕ) → enter_due code s t th frames f ≡ due.Quiet → ⊥
enter_not_quiet code s t th frames f =
    neither (nat_le s.limit th.count) (due.Trap trap.Limit) (if nat_le most_frames frames then due.Trap trap.Depth else mark_if (fitted code.sites (arena_end code s t) (objects_in code f) th.arena))
    (λ (e : due.Trap trap.Limit ≡ due.Quiet). cc)
    (neither (nat_le most_frames frames) (due.Trap trap.Depth) (mark_if (fitted code.sites (arena_end code s t) (objects_in code f) th.arena)) (λ (e : due.Trap trap.Depth ≡ due.Quiet). cc) (mark_not_quiet (fitted code.sites (arena_end code s t) (objects_in code f) th.arena)))

end_not_quiet : (m : Bool) (t made value : ℕ) → end_due m t made value ≡ due.Quiet → ⊥
end_not_quiet true t made value e = cc
end_not_quiet false t zero value e = cc
end_not_quiet false t (suc zero) value e = cc
end_not_quiet false t (suc (suc n)) value e = cc

begun_not_quiet : (code : Code) (s : SetupView) (t : ℕ) (th : Thread) (f : ℕ) → begun_due code s t th f ≡ due.Quiet → ⊥
begun_not_quiet code s zero th f e = enter_not_quiet code s zero th 0 f e
begun_not_quiet code s (suc k) th f e = cc

-- a quiet step is one of a thread that runs
running : (code : Code) (s : SetupView) (t : ℕ) (th : Thread) (p : Phase) → phase_due code s t th p ≡ due.Quiet → (p ≡ phase.Running) × (act_due code s t th (act_at code th.top) ≡ due.Quiet)
running code s t th phase.Fresh e = cc
running code s t th (phase.Begun f) e = absurd (begun_not_quiet code s t th f e)
running code s t th (phase.Loaded f w) e = absurd (enter_not_quiet code s t th 0 f e)
running code s t th phase.Running e = (refl, e)
running code s t th phase.Ended e = cc
running code s t th phase.Halted e = cc
running code s t th (phase.Trapped kind line) e = cc
running code s t th phase.Stopped e = cc
running code s t th phase.Closed e = cc

-- a quiet step is that of the instruction
pub record IsQuiet (code : Code) (s : SetupView) (t : ℕ) (th : Thread) : Type 0 where
  pub runs : th.phase ≡ phase.Running
  pub act_is : act_due code s t th (act_at code th.top) ≡ due.Quiet
  pub becomes : (answer : ℤ) → stepped code s t th answer ≡ act_after code s t th (act_at code th.top) answer

pub is_quiet_step : (code : Code) (s : SetupView) (t : ℕ) (th : Thread) → due_of code s t th ≡ due.Quiet → IsQuiet code s t th
unfolding stepped
is_quiet_step code s t th e =
    let r = running code s t th th.phase (quiet_by_code code s t th e) in
    record {
      runs = r.0;
      act_is = r.1;
      becomes = λ answer. ap (λ d. after_due code s t th d answer) e ∙ ap (λ p. phase_after code s t th p answer) r.0;
    }

-- it doesn't depend on the answer

call_without_events : (code : Code) (s : SetupView) (t : ℕ) (th : Thread) (c : LibraryCall) (arguments : List ℕ) → library_due (caller code s t th) c (words_of th.top.registers arguments) th.top.made th.top.kept ≡ due.Quiet → IsWithoutEvents (caller code s t th) c (words_of th.top.registers arguments) th.top.made th.top.kept
call_without_events code s t th c arguments e =
    subst (CallGoes (caller code s t th) c (words_of th.top.registers arguments) th.top.made th.top.kept (pos 0)) e (call_goes (caller code s t th) c (words_of th.top.registers arguments) th.top.made th.top.kept (pos 0))

-- what becomes of a thread that leaves depends on its call only where this has nothing more to give
parting_same : (th : Thread) (xs : List Stripe) (d : Due) (q p : Thread) → parting_due xs d ≡ due.Quiet → (d ≡ due.Quiet → q ≡ p) → left_after th xs q ≡ left_after th xs p
parting_same th [] d q p e h = h e
parting_same th (x ∷ xs) d q p e h = refl

act_same : (code : Code) (s : SetupView) (t : ℕ) (th : Thread) (o : Option Act) (answer : ℤ) → act_due code s t th o ≡ due.Quiet → act_after code s t th o answer ≡ act_after code s t th o (pos 0)
act_same code s t th None answer e = refl
act_same code s t th (Some (act.Compute into work)) answer e = refl
act_same code s t th (Some (act.Alloc into site None)) answer e = refl
act_same code s t th (Some (act.Alloc into site (Some size))) answer e = refl
act_same code s t th (Some (act.LoadCell into through)) answer e = absurd (load_not_quiet (resolved code.sites (register th.top.registers through) (access_kind (is_pointer (pointers_of code th.top) into))) e)
act_same code s t th (Some (act.StoreCell through from)) answer e = refl
act_same code s t th (Some act.Mark) answer e = refl
act_same code s t th (Some (act.Call function arguments into)) answer e = refl
act_same code s t th (Some (act.Library call arguments into)) answer e =
    parting_same th (parting call th.top.made th.stripes) (library_due (caller code s t th) call (words_of th.top.registers arguments) th.top.made th.top.kept) _ _ e (λ d.
    let h = call_without_events code s t th call arguments d in
    ap (resumed (record th { printed = th.printed + length (piece_of call (words_of th.top.registers arguments)) }) into) (h.gives answer ∙ sym (h.gives (pos 0))))
act_same code s t th (Some (act.Jump to)) answer e = refl
act_same code s t th (Some (act.Branch on then_at else_at)) answer e = refl
act_same code s t th (Some (act.Return value)) answer e = refl
act_same code s t th (Some (act.Take region)) answer e = refl
act_same code s t th (Some (act.Give region)) answer e = refl

pub quiet_answer : (code : Code) (s : SetupView) (t : ℕ) (th : Thread) (answer : ℤ) → due_of code s t th ≡ due.Quiet → stepped code s t th answer ≡ stepped code s t th (pos 0)
quiet_answer code s t th answer e =
    let q = is_quiet_step code s t th e in
    q.becomes answer ∙ act_same code s t th (act_at code th.top) answer q.act_is ∙ sym (q.becomes (pos 0))

-- where it leads

pub data Moves (code : Code) (th q : Thread) : Type 0 where
  on : q.below ≡ th.below → q.top.function ≡ th.top.function → th.top.instr < q.top.instr → q.stripes ≡ th.stripes → Moves code th q
  to_mark : act_at code q.top ≡ Some act.Mark → Moves code th q
  back : (f : Frame) → slice_get th.below (length th.below - 1) ≡ Some f → q.below ≡ take (length th.below - 1) th.below → q.top.function ≡ f.function → f.instr < q.top.instr → q.stripes ≡ th.stripes → Moves code th q
  forgets : q.below ≡ th.below → q.top ≡ th.top → length q.stripes < length th.stripes → Moves code th q

compute_moves : (code : Code) (th : Thread) (into : ℕ) (r : Result ℕ Trap) → quiet_unless r ≡ due.Quiet → Moves code th (computed th into r)
compute_moves code th into (Ok w) e = on refl refl (omega arith) refl
compute_moves code th into (Err k) e = cc

instr_in_is : (o : Option Function) (at : ℕ) → instr_in o at ≡ slice_get (instrs_in o) at
instr_in_is None at = refl
instr_in_is (Some f) at = refl

pub sound_here : (code : Code) → IsRunnable code → (f : Frame) (o : Option Act) → act_at code f ≡ o → IsSoundAct (instrs_in (slice_get code.functions f.function)) f.instr o
sound_here code run f o e =
    subst (IsSoundAct (instrs_in (slice_get code.functions f.function)) f.instr) (sym (ap act_in (instr_in_is (slice_get code.functions f.function) f.instr)) ∙ e) (run.jumps f.function f.instr)

jump_moves : (code : Code) (th : Thread) (to : ℕ) → IsJump (instrs_in (slice_get code.functions th.top.function)) th.top.instr to → Moves code th (record th { top = jumped th.top to })
jump_moves code th to (inl lt) = on refl refl lt refl
jump_moves code th to (inr mark) = to_mark (ap act_in (instr_in_is (slice_get code.functions th.top.function) to) ∙ mark)

branch_moves : (code : Code) (th : Thread) (b : Bool) (then_at else_at : ℕ) → IsJump (instrs_in (slice_get code.functions th.top.function)) th.top.instr then_at → IsJump (instrs_in (slice_get code.functions th.top.function)) th.top.instr else_at →
    Moves code th (record th { top = jumped th.top (if b then else_at else then_at) })
branch_moves code th true then_at else_at h g = jump_moves code th else_at g
branch_moves code th false then_at else_at h g = jump_moves code th then_at h

given_function : (f : Frame) (o : Option ℕ) (w : ℕ) → (given f o w).function ≡ f.function
given_function f None w = refl
given_function f (Some r) w = refl

given_instr : (f : Frame) (o : Option ℕ) (w : ℕ) → (given f o w).instr ≡ f.instr
given_instr f None w = refl
given_instr f (Some r) w = refl

back_moves : (code : Code) (th : Thread) (value : ℕ) (o : Option Frame) → slice_get th.below (length th.below - 1) ≡ o → (length th.below ≡ 0 → ⊥) → Moves code th (back_in code th value o)
back_moves code th value None e n = let out = slice_get_outside th.below (length th.below - 1) e in absurd (n (omega arith))
back_moves code th value (Some f) e n = back f e refl (given_function f (result_of (act_at code f)) value) (let same = given_instr f (result_of (act_at code f)) value in omega arith) refl

return_moves : (code : Code) (t : ℕ) (th : Thread) (value : ℕ) → return_due code t th value ≡ due.Quiet → Moves code th (returned code th value)
return_moves code t th value = by (length th.below == 0) refl
  where
    by : (b : Bool) → (length th.below == 0) ≡ b → (if b then end_due (is_main code th.top.function) t th.top.made value else due.Quiet) ≡ due.Quiet →
        Moves code th (if b then end_onward (is_main code th.top.function) th th.top.made else back_in code th value (slice_get th.below (length th.below - 1)))
    by true e h = absurd (end_not_quiet (is_main code th.top.function) t th.top.made value h)
    by false e h = back_moves code th value (slice_get th.below (length th.below - 1)) refl (eqb-false (length th.below) 0 e)

call_moves : (code : Code) (th : Thread) (into : Option ℕ) (n w : ℕ) → Moves code th (resumed (record th { printed = n }) into (onward.Gives w))
call_moves code th into n w = on refl (given_function th.top into w) (let same = given_instr th.top into w in omega arith) refl

take_moves : (code : Code) (th : Thread) (r : Option Region) (next : Option ℕ) → take_or_quiet next ≡ due.Quiet → Moves code th (on_unless next (taken code th r next))
take_moves code th None None e = on refl refl (omega arith) refl
take_moves code th (Some r) None e = on refl refl (omega arith) refl
take_moves code th r (Some n) e = cc

give_moves : (code : Code) (th : Thread) (place : Option ℕ) (next : Option (ℕ × ℕ)) → give_or_quiet next ≡ due.Quiet → Moves code th (on_unless next (gives_at th place next))
give_moves code th None None e = on refl refl (omega arith) refl
give_moves code th (Some i) None e = on refl refl (omega arith) refl
give_moves code th place (Some n) e = cc

-- what is owed is not among what is held
few_held : (xs : List Stripe) → length (held xs) ≤ length xs
few_held [] = omega arith
few_held (x ∷ xs) = by x.owed (few_held xs)
  where
    by : (b : Bool) → length (held xs) ≤ length xs → length (cond (not b) (x ∷ held xs) (held xs)) ≤ suc (length xs)
    by true rest = omega arith
    by false rest = omega arith

less_held : (xs : List Stripe) → owes xs ≡ true → length (held xs) < length xs
less_held [] e = cc
less_held (x ∷ xs) e = by x.owed e (less_held xs)
  where
    by : (b : Bool) → (b || owes xs) ≡ true → (owes xs ≡ true → length (held xs) < length xs) → length (cond (not b) (x ∷ held xs) (held xs)) < suc (length xs)
    by true h rest = let few = few_held xs in omega arith
    by false h rest = let lt = rest h in omega arith

-- a call gives all stripes of its thread, or none
pub parting_or_none : (c : LibraryCall) (made : ℕ) (xs : List Stripe) → (parting c made xs ≡ xs) ⊎ (parting c made xs ≡ [])
parting_or_none call.Exit zero xs = inl refl
parting_or_none call.Exit (suc n) xs = inr refl
parting_or_none _ made xs = inr refl

parting_moves : (code : Code) (th : Thread) (xs : List Stripe) (d : Due) (q : Thread) → (xs ≡ th.stripes) ⊎ (xs ≡ []) → parting_due xs d ≡ due.Quiet → (d ≡ due.Quiet → Moves code th q) → Moves code th (left_after th xs q)
parting_moves code th [] d q are e h = h e
parting_moves code th (x ∷ xs) d q (inr none) e h = cc
parting_moves code th (x ∷ xs) d q (inl all) e h = by (owes (x ∷ xs)) refl e
  where
    by : (b : Bool) → owes (x ∷ xs) ≡ b → (if b then due.Quiet else due.Operate op.Give (object.Weak x.lock x.stripe)) ≡ due.Quiet → Moves code th (keeping th (if b then held (x ∷ xs) else drop 1 (x ∷ xs)))
    by true o g = forgets refl refl (subst (λ z. length (held (x ∷ xs)) < length z) all (less_held (x ∷ xs) o))
    by false o g = cc

act_moves : (code : Code) (s : SetupView) (t : ℕ) (th : Thread) (o : Option Act) (answer : ℤ) → IsRunnable code → act_at code th.top ≡ o → act_due code s t th o ≡ due.Quiet → Moves code th (act_after code s t th o answer)
act_moves code s t th None answer run at e = cc
act_moves code s t th (Some (act.Compute into work)) answer run at e = compute_moves code th into (work_of s.slots code.sites (pointers_of code th.top) th.top.registers work) e
act_moves code s t th (Some (act.Alloc into site None)) answer run at e = on refl refl (omega arith) refl
act_moves code s t th (Some (act.Alloc into site (Some size))) answer run at e = on refl refl (omega arith) refl
act_moves code s t th (Some (act.LoadCell into through)) answer run at e = absurd (load_not_quiet (resolved code.sites (register th.top.registers through) (access_kind (is_pointer (pointers_of code th.top) into))) e)
act_moves code s t th (Some (act.StoreCell through from)) answer run at e = absurd (store_not_quiet (resolved code.sites (register th.top.registers through) (access_kind (is_pointer (pointers_of code th.top) from))) (register th.top.registers from) e)
act_moves code s t th (Some act.Mark) answer run at e = cc
act_moves code s t th (Some (act.Call function arguments into)) answer run at e = absurd (enter_not_quiet code s t th (length th.below + 1) function e)
act_moves code s t th (Some (act.Library call arguments into)) answer run at e =
    parting_moves code th (parting call th.top.made th.stripes) (library_due (caller code s t th) call (words_of th.top.registers arguments) th.top.made th.top.kept) _ (parting_or_none call th.top.made th.stripes) e (λ d.
    let h = call_without_events code s t th call arguments d in
    subst (λ z. Moves code th (resumed (record th { printed = th.printed + length (piece_of call (words_of th.top.registers arguments)) }) into z)) (sym (h.gives answer)) (call_moves code th into (th.printed + length (piece_of call (words_of th.top.registers arguments))) h.value))
act_moves code s t th (Some (act.Jump to)) answer run at e = jump_moves code th to (sound_here code run th.top (Some (act.Jump to)) at)
act_moves code s t th (Some (act.Branch c then_at else_at)) answer run at e =
    let h = sound_here code run th.top (Some (act.Branch c then_at else_at)) at in
    branch_moves code th (register th.top.registers c == 0) then_at else_at h.0 h.1
act_moves code s t th (Some (act.Return value)) answer run at e = return_moves code t th (value_of th.top.registers value) e
act_moves code s t th (Some (act.Take region)) answer run at e = take_moves code th (region_of code th.top region) (lacked code th (region_of code th.top region)) e
act_moves code s t th (Some (act.Give region)) answer run at e = give_moves code th (open_place code th region) (to_give code th region) e

pub quiet_moves : (code : Code) (s : SetupView) (t : ℕ) (th : Thread) (answer : ℤ) → IsRunnable code → due_of code s t th ≡ due.Quiet → Moves code th (stepped code s t th answer)
quiet_moves code s t th answer run e =
    let q = is_quiet_step code s t th e in
    subst (Moves code th) (sym (q.becomes answer)) (act_moves code s t th (act_at code th.top) answer run refl q.act_is)

-- at a mark no quiet step is due
pub mark_is_due : (code : Code) (s : SetupView) (t : ℕ) (th : Thread) → act_at code th.top ≡ Some act.Mark → due_of code s t th ≡ due.Quiet → ⊥
mark_is_due code s t th m e =
    let q = is_quiet_step code s t th e in
    let same : due.Mark ≡ due.Quiet = ap (act_due code s t th) (sym m) ∙ q.act_is in
    cc

-- where a quiet step is due there is an instruction
pub quiet_stands : (code : Code) (s : SetupView) (t : ℕ) (th : Thread) → due_of code s t th ≡ due.Quiet → StandsIn code th.top
quiet_stands code s t th e = by (act_at code th.top) refl (is_quiet_step code s t th e).act_is
  where
    by : (o : Option Act) → act_at code th.top ≡ o → act_due code s t th o ≡ due.Quiet → StandsIn code th.top
    by None at q = cc
    by (Some a) at q = stands_in code th.top a at
