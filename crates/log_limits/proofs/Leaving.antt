-- A thread that is about to leave the live threads has no stripe, where each thread has none at the return of its first function.
use Rattle.std.proofs.Common.{◌≡◌, ℕ, zero, suc, ◌+◌, Bool, true, false, if◌then◌else◌, ◌==◌, nat_le, not, List, [], ◌∷◌, length, Option, Some, None, Result, Ok, Err, refl, sym, ap, subst, ◌∙◌, ℤ, pos, negsuc, arith, eqb-true}
use Rattle.sync_objects.specs.Setup.{SetupView}
use Rattle.sync_objects.specs.Names.{name_of, is_ending}
use Rattle.sync_objects.specs.declared.object.ObjId.{ObjId}
use Rattle.sync_objects.specs.declared.object.ObjId.TheVariants as object
use Rattle.sync_objects.specs.declared.operation.Op.{Op}
use Rattle.sync_objects.specs.declared.operation.Op.TheVariants as op
use Rattle.rr_base.specs.declared.trap.Trap.{Trap}
use Rattle.rr_base.specs.declared.trap.Trap.TheVariants as trap
use Rattle.word_semantics.specs.declared.event.Due.{Due}
use Rattle.word_semantics.specs.declared.event.Due.TheVariants as due
use Rattle.word_semantics.specs.declared.event.Onward.{Onward}
use Rattle.word_semantics.specs.declared.event.Onward.TheVariants as onward
use Rattle.word_semantics.specs.declared.library_call.LibraryCall.{LibraryCall}
use Rattle.word_semantics.specs.declared.library_call.LibraryCall.TheVariants as call
use Rattle.word_semantics.specs.Library.{Caller, argument, is_misuse, is_serial, create_onward, join_onward, checked_onward, try_onward, wait_onward, barrier_wait_onward, library_due, library_onward}
use Rattle.word_semantics.specs.Limits.{most_frames}
use Rattle.word_semantics.specs.Pointers.{resolved}
use Rattle.word_semantics.specs.Cells.{access_kind, size_of, cells_in, is_size}
use Rattle.word_semantics.specs.Registers.{register, words_of}
use Rattle.word_semantics.specs.Values.{number}
use Rattle.word_semantics.proofs.Calls.{CallOperates, goes, ends_slot, leaves_all, CallGoes, call_goes}
use Rattle.flow_code.specs.declared.act.Act.{Act}
use Rattle.flow_code.specs.declared.act.Act.TheVariants as act
use Rattle.flow_code.specs.declared.code.Code.{Code}
use Rattle.flow_code.specs.declared.thread.Phase.{Phase}
use Rattle.flow_code.specs.declared.thread.Phase.TheVariants as phase
use Rattle.flow_code.specs.declared.thread.Stripe.{Stripe}
use Rattle.flow_code.specs.Holding.{region_of, lacked, take_or_quiet, to_give, give_or_quiet, parting, owes, parting_due}
use Rattle.flow_code.specs.Next.{value_of, act_at, pointers_of, quiet_unless, load_due, store_due, malloc_due, mark_if, enter_due, end_due, return_due, caller, act_due, begun_due, phase_due, due_of}
use Rattle.flow_code.specs.Threads.{Frame, Thread, arena_end, objects_in, fitted, is_main}
use Rattle.flow_code.specs.Works.{is_pointer, work_of}
use Rattle.flow_code.proofs.Ranges.{leave_by_code}
use Rattle.guard_paths.specs.Reached.{Reached}
use Rattle.open_regions.specs.OpenStripes.{is_exit}
use Rattle.log_limits.proofs.Parting.{Parted, reached_parted}

-- what is due is that the thread leaves the live threads
abbrev pub IsLeave : Due → Type 0
IsLeave d = d ≡ due.Operate op.Leave object.Threads

-- ---- dues that aren't

not_trap : (kind : Trap) → IsLeave (due.Trap kind) → ⊥
not_trap kind e = cc

not_operation : (o : Op) (obj : ObjId) → is_ending (name_of o) ≡ false → IsLeave (due.Operate o obj) → ⊥
not_operation o obj n e = let same : o ≡ op.Leave = cc in clash o same n
  where
    clash : (p : Op) → p ≡ op.Leave → is_ending (name_of p) ≡ false → ⊥
    clash p same n = let ends : true ≡ false = sym (ap (λ z. is_ending (name_of z)) same) ∙ n in cc

quiet_stays : (r : Result ℕ Trap) → IsLeave (quiet_unless r) → ⊥
quiet_stays (Ok w) e = cc
quiet_stays (Err kind) e = cc

load_stays : (r : Result ℕ Trap) → IsLeave (load_due r) → ⊥
load_stays (Ok c) e = cc
load_stays (Err kind) e = cc

store_stays : (r : Result ℕ Trap) (w : ℕ) → IsLeave (store_due r w) → ⊥
store_stays (Ok c) w e = cc
store_stays (Err kind) w e = cc

if_stays : (b : Bool) (x y : Due) → (IsLeave x → ⊥) → (IsLeave y → ⊥) → IsLeave (if b then x else y) → ⊥
if_stays true x y f g e = f e
if_stays false x y f g e = g e

malloc_stays : (unit arena end : ℕ) (n : ℤ) → IsLeave (malloc_due unit arena end n) → ⊥
malloc_stays unit arena end n = if_stays (is_size unit n) _ _ (if_stays (nat_le (arena + cells_in n) end) due.Quiet (due.Trap trap.ArenaFull) (λ e. cc) (λ e. cc)) (λ e. cc)

mark_stays : (o : Option ℕ) → IsLeave (mark_if o) → ⊥
mark_stays None e = cc
mark_stays (Some a) e = cc

enter_stays : (code : Code) (s : SetupView) (t : ℕ) (th : Thread) (frames f : ℕ) → IsLeave (enter_due code s t th frames f) → ⊥
enter_stays code s t th frames f =
    if_stays (nat_le s.limit th.count) (due.Trap trap.Limit) _ (λ e. cc)
    (if_stays (nat_le most_frames frames) (due.Trap trap.Depth) (mark_if (fitted code.sites (arena_end code s t) (objects_in code f) th.arena)) (λ e. cc) (mark_stays (fitted code.sites (arena_end code s t) (objects_in code f) th.arena)))

take_stays : (next : Option ℕ) → IsLeave (take_or_quiet next) → ⊥
take_stays None e = cc
take_stays (Some n) e = not_operation op.Take _ refl e

give_stays : (next : Option (ℕ × ℕ)) → IsLeave (give_or_quiet next) → ⊥
give_stays None e = cc
give_stays (Some x) e = not_operation op.Give _ refl e

-- ---- calls of the library

-- an answer that ends the thread
abbrev EndsBy : Onward → Type 0
EndsBy o = o ≡ onward.Ends

if_lives : (b : Bool) (x y : Onward) → (EndsBy x → ⊥) → (EndsBy y → ⊥) → EndsBy (if b then x else y) → ⊥
if_lives true x y f g e = f e
if_lives false x y f g e = g e

create_lives : (made : ℕ) (kept answer : ℤ) → EndsBy (create_onward made kept answer) → ⊥
create_lives zero kept (pos zero) e = cc
create_lives zero kept (pos (suc n)) e = cc
create_lives zero kept (negsuc n) e = cc
create_lives (suc zero) kept answer e = cc
create_lives (suc (suc zero)) kept answer e = cc
create_lives (suc (suc (suc n))) kept answer e = cc

join_lives : (asked : Bool) (made : ℕ) (answer : ℤ) → EndsBy (join_onward asked made answer) → ⊥
join_lives asked zero answer e = if_lives (is_misuse answer) (onward.Stays answer) _ (λ q. cc) (if_lives asked (onward.Stays answer) (onward.Gives 0) (λ q. cc) (λ q. cc)) e
join_lives asked (suc zero) answer e = cc
join_lives asked (suc (suc n)) answer e = cc

checked_lives : (made : ℕ) (answer : ℤ) → EndsBy (checked_onward made answer) → ⊥
checked_lives zero answer e = if_lives (is_misuse answer) (onward.Stays answer) (onward.Gives 0) (λ q. cc) (λ q. cc) e
checked_lives (suc n) answer e = cc

try_lives : (made : ℕ) (kept answer : ℤ) → EndsBy (try_onward made kept answer) → ⊥
try_lives zero kept answer e = cc
try_lives (suc n) kept answer e = cc

wait_lives : (made : ℕ) (kept answer : ℤ) → EndsBy (wait_onward made kept answer) → ⊥
wait_lives zero kept answer e = cc
wait_lives (suc zero) kept answer e = if_lives (is_misuse answer) (onward.Stays answer) (onward.Stays kept) (λ q. cc) (λ q. cc) e
wait_lives (suc (suc zero)) kept answer e = cc
wait_lives (suc (suc (suc n))) kept answer e = cc

barrier_lives : (made : ℕ) (kept answer : ℤ) → EndsBy (barrier_wait_onward made kept answer) → ⊥
barrier_lives zero kept answer = if_lives (is_serial answer) _ (onward.Stays answer) (λ e. cc) (λ e. cc)
barrier_lives (suc n) kept answer = if_lives (is_serial kept) _ (onward.Gives 0) (λ e. cc) (λ e. cc)

-- an answer ends a thread at pthread_exit alone, after two of its events
abbrev IsLast : LibraryCall → ℕ → Type 0
IsLast call.Exit zero = ⊥
IsLast call.Exit (suc n) = Unit {0}
IsLast _ made = ⊥

exit_last : (w : Caller) (words : List ℕ) (made : ℕ) (kept answer : ℤ) → EndsBy (library_onward w call.Exit words made kept answer) → IsLast call.Exit made
exit_last w words zero kept answer e = cc
exit_last w words (suc n) kept answer e = tt

call_last : (w : Caller) (c : LibraryCall) (words : List ℕ) (made : ℕ) (kept answer : ℤ) → EndsBy (library_onward w c words made kept answer) → IsLast c made
call_last w (call.Create function) words made kept answer e = create_lives made kept answer e
call_last w call.Join words made kept answer e = join_lives (not (argument words 1 == 0)) made answer e
call_last w call.Exit words made kept answer e = exit_last w words made kept answer e
call_last w call.SelfNumber words made kept answer e = cc
call_last w call.SameThread words made kept answer e = cc
call_last w call.MutexInit words made kept answer e = checked_lives made answer e
call_last w call.MutexLock words made kept answer e = checked_lives made answer e
call_last w call.MutexUnlock words made kept answer e = checked_lives made answer e
call_last w call.MutexTryLock words made kept answer e = try_lives made kept answer e
call_last w call.MutexDestroy words made kept answer e = cc
call_last w call.CondInit words made kept answer e = cc
call_last w call.CondWait words made kept answer e = wait_lives made kept answer e
call_last w call.CondSignal words made kept answer e = cc
call_last w call.CondDestroy words made kept answer e = cc
call_last w call.BarrierInit words made kept answer e = checked_lives made answer e
call_last w call.BarrierWait words made kept answer e = barrier_lives made kept answer e
call_last w call.BarrierDestroy words made kept answer e = cc
call_last w call.RwInit words made kept answer e = checked_lives made answer e
call_last w call.RwRdLock words made kept answer e = checked_lives made answer e
call_last w call.RwWrLock words made kept answer e = checked_lives made answer e
call_last w call.RwUnlock words made kept answer e = checked_lives made answer e
call_last w call.RwDestroy words made kept answer e = cc
call_last w call.Free words made kept answer e = cc
call_last w call.GetChar words made kept answer e = cc
call_last w (call.Print format) words made kept answer e = cc
call_last w call.PutChar words made kept answer e = cc

call_leaves : (w : Caller) (c : LibraryCall) (words : List ℕ) (made : ℕ) (kept : ℤ) → IsLeave (library_due w c words made kept) → IsLast c made
call_leaves w c words made kept e = by (subst (CallGoes w c words made kept (pos 0)) e (call_goes w c words made kept (pos 0))).2
  where
    by : CallOperates w c words made kept (pos 0) op.Leave → IsLast c made
    by (goes n h) = cc
    by (ends_slot n h) = cc
    by (leaves_all n h) = call_last w c words made kept (pos 0) h.ends

parting_leaves : (xs : List Stripe) (d : Due) → IsLeave (parting_due xs d) → IsLeave d
parting_leaves [] d e = e
parting_leaves (x ∷ xs) d e = by (owes (x ∷ xs)) e
  where
    by : (b : Bool) → IsLeave (if b then due.Quiet else due.Operate op.Give (object.Weak x.lock x.stripe)) → IsLeave d
    by true h = cc
    by false h = absurd (not_operation op.Give _ refl h)

-- ---- the end of a thread

end_leaves : (main : Bool) (t made value : ℕ) → IsLeave (end_due main t made value) → main ≡ false
end_leaves true t made value e = let other : op.HaltAll ≡ op.Leave = cc in cc
end_leaves false t made value e = refl

-- a thread has no stripe at the return of its first function
abbrev pub EndsEmpty : Code → SetupView → Type 0
EndsEmpty code s = (t : ℕ) (th : Thread) (value : Option ℕ) → Reached code s t th → th.phase ≡ phase.Running → th.below ≡ [] → act_at code th.top ≡ Some (act.Return value) → th.stripes ≡ []

module _ (code : Code) (s : SetupView) (t : ℕ) (th : Thread) (empty : EndsEmpty code s) (reached : Reached code s t th) where
  return_leaves : (v : Option ℕ) → th.phase ≡ phase.Running → act_at code th.top ≡ Some (act.Return v) → IsLeave (return_due code t th (value_of th.top.registers v)) → th.stripes ≡ []
  return_leaves v run at e = by (length th.below == 0) refl e
    where
      nil : (xs : List Frame) → length xs ≡ 0 → xs ≡ []
      nil [] e = refl
      nil (x ∷ xs) e = absurd (omega (arith, e))

      by : (b : Bool) → (length th.below == 0) ≡ b → IsLeave (if b then end_due (is_main code th.top.function) t th.top.made (value_of th.top.registers v) else due.Quiet) → th.stripes ≡ []
      by true q h = empty t th v reached run (nil th.below (eqb-true (length th.below) 0 q)) at
      by false q h = cc

  library_leaves : (c : LibraryCall) (arguments : List ℕ) (into : Option ℕ) → act_at code th.top ≡ Some (act.Library c arguments into) → IsLeave (act_due code s t th (Some (act.Library c arguments into))) → th.stripes ≡ []
  library_leaves c arguments into at e =
      by c th.top.made (is_exit (act_at code th.top)) (ap is_exit at) th.stripes
      (call_leaves (caller code s t th) c (words_of th.top.registers arguments) th.top.made th.top.kept (parting_leaves (parting c th.top.made th.stripes) _ e))
      (reached_parted code s t reached)
    where
      exit : (n : ℕ) (b : Bool) → b ≡ true → (xs : List Stripe) → IsLast call.Exit n → Parted n b xs → xs ≡ []
      exit zero b q xs last h = absurd last
      exit (suc n) true q xs last h = h
      exit (suc n) false q xs last h = cc

      by : (k : LibraryCall) (n : ℕ) (b : Bool) → b ≡ is_exit (Some (act.Library k arguments into)) → (xs : List Stripe) → IsLast k n → Parted n b xs → xs ≡ []
      by call.Exit n b q xs last h = exit n b q xs last h
      by _ n b q xs last h = absurd last

  act_leaves : (o : Option Act) → th.phase ≡ phase.Running → act_at code th.top ≡ o → IsLeave (act_due code s t th o) → th.stripes ≡ []
  act_leaves None run at e = cc
  act_leaves (Some (act.Compute into work)) run at e = absurd (quiet_stays (work_of s.slots code.sites (pointers_of code th.top) th.top.registers work) e)
  act_leaves (Some (act.Alloc into site None)) run at e = cc
  act_leaves (Some (act.Alloc into site (Some size))) run at e = absurd (malloc_stays (size_of code.sites site) th.arena (arena_end code s t) (number (register th.top.registers size)) e)
  act_leaves (Some (act.LoadCell into through)) run at e = absurd (load_stays (resolved code.sites (register th.top.registers through) (access_kind (is_pointer (pointers_of code th.top) into))) e)
  act_leaves (Some (act.StoreCell through from)) run at e = absurd (store_stays (resolved code.sites (register th.top.registers through) (access_kind (is_pointer (pointers_of code th.top) from))) (register th.top.registers from) e)
  act_leaves (Some act.Mark) run at e = cc
  act_leaves (Some (act.Call function arguments into)) run at e = absurd (enter_stays code s t th (length th.below + 1) function e)
  act_leaves (Some (act.Library c arguments into)) run at e = library_leaves c arguments into at e
  act_leaves (Some (act.Jump to)) run at e = cc
  act_leaves (Some (act.Branch on then_at else_at)) run at e = cc
  act_leaves (Some (act.Return value)) run at e = return_leaves value run at e
  act_leaves (Some (act.Take region)) run at e = absurd (take_stays (lacked code th (region_of code th.top region)) e)
  act_leaves (Some (act.Give region)) run at e = absurd (give_stays (to_give code th region) e)

  begun_leaves : (n f : ℕ) → IsLeave (begun_due code s n th f) → ⊥
  begun_leaves zero f e = enter_stays code s zero th 0 f e
  begun_leaves (suc k) f e = cc

  phase_leaves : (p : Phase) → th.phase ≡ p → IsLeave (phase_due code s t th p) → th.stripes ≡ []
  phase_leaves phase.Fresh q e = absurd (not_operation op.Begin _ refl e)
  phase_leaves (phase.Begun f) q e = absurd (begun_leaves t f e)
  phase_leaves (phase.Loaded f w) q e = absurd (enter_stays code s t th 0 f e)
  phase_leaves phase.Running q e = act_leaves (act_at code th.top) q refl e
  phase_leaves phase.Ended q e = cc
  phase_leaves phase.Halted q e = cc
  phase_leaves (phase.Trapped kind line) q e = cc
  phase_leaves phase.Stopped q e = cc
  phase_leaves phase.Closed q e = cc

  -- a thread that is about to leave has no stripe
  pub leaves_with_none : due_of code s t th ≡ due.Operate op.Leave object.Threads → th.stripes ≡ []
  leaves_with_none e = phase_leaves th.phase refl (leave_by_code code s 0 t th e)
