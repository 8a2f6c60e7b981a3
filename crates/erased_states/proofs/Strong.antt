-- Where a thread doesn't step aside, an operation that is due in it is no trap and none on a stripe.
use Rattle.std.proofs.Common.{◌≡◌, ℕ, zero, suc, ◌+◌, ◌==◌, ◌||◌, Bool, true, false, if◌then◌else◌, ℤ, List, [], length, Option, Some, None, Result, Ok, Err, refl, sym, subst, ◌∙◌, nat_le}
use Rattle.std.proofs.lemmas.Bool.{true≢false}
use Rattle.sync_objects.specs.Setup.{SetupView}
use Rattle.sync_objects.specs.Names.{name_of, is_ending, is_weak}
use Rattle.sync_objects.specs.declared.operation.Op.{Op}
use Rattle.sync_objects.specs.declared.operation.Op.TheVariants as op
use Rattle.rr_base.specs.declared.trap.Trap.{Trap}
use Rattle.rr_base.specs.declared.trap.Trap.TheVariants as trap
use Rattle.flow_code.specs.declared.act.Act.{Act}
use Rattle.flow_code.specs.declared.act.Act.TheVariants as act
use Rattle.flow_code.specs.declared.code.Code.{Code}
use Rattle.flow_code.specs.declared.thread.Phase.{Phase}
use Rattle.flow_code.specs.declared.thread.Phase.TheVariants as phase
use Rattle.flow_code.specs.declared.thread.Stripe.{Stripe}
use Rattle.word_semantics.specs.declared.library_call.LibraryCall.{LibraryCall}
use Rattle.word_semantics.specs.declared.library_call.LibraryCall.TheVariants as call
use Rattle.word_semantics.specs.declared.event.Due.{Due}
use Rattle.word_semantics.specs.declared.event.Due.TheVariants as due
use Rattle.word_semantics.specs.Cells.{access_kind, cells_in, is_size, size_of}
use Rattle.word_semantics.specs.Library.{Caller, library_due}
use Rattle.word_semantics.specs.Limits.{is_free_of_limit, most_frames}
use Rattle.word_semantics.specs.Pointers.{resolved}
use Rattle.word_semantics.specs.Registers.{register, words_of}
use Rattle.word_semantics.specs.Values.{number}
use Rattle.flow_code.specs.Holding.{parting, parting_due}
use Rattle.flow_code.specs.Next.{quiet_unless, load_due, store_due, malloc_due, mark_if, enter_due, end_due, return_due, value_of, caller, pointers_of, act_at, act_due, begun_due, phase_due, limited}
use Rattle.flow_code.specs.Threads.{Thread, arena_end, fitted, is_main, objects_in}
use Rattle.flow_code.specs.Works.{is_pointer, work_of}
use Rattle.lower_sound.proofs.Calls.{IsPlain, plain_due}
use Rattle.lowering_simulation.proofs.Proper.{is_trap}
use Rattle.erasure.proofs.ActDues.{is_aside, steps_aside, none_left}

abbrev pub IsStrong : Due → Type 0
IsStrong (due.Operate o obj) = (is_trap o ≡ false) × (is_weak (name_of o) ≡ false)
IsStrong _ = Unit {0}

if_strong : (b : Bool) (x y : Due) → IsStrong x → IsStrong y → IsStrong (if b then x else y)
if_strong true x y h k = h
if_strong false x y h k = k

-- ---- calls of the library

not_ending : (o : Op) → is_ending (name_of o) ≡ false → is_trap o ≡ false
not_ending op.TrapHere e = e
not_ending o e = refl

plain_strong : (d : Due) → IsPlain d → IsStrong d
plain_strong (due.Operate o obj) h = by (is_ending (name_of o)) refl (is_weak (name_of o)) refl h
  where
    by : (a : Bool) → is_ending (name_of o) ≡ a → (b : Bool) → is_weak (name_of o) ≡ b → (a || b) ≡ false → (is_trap o ≡ false) × (is_weak (name_of o) ≡ false)
    by true e b f none = absurd (true≢false none)
    by false e b f none = (not_ending o e, f ∙ none)
plain_strong _ h = tt

exit_strong : (w : Caller) (ws : List ℕ) (made : ℕ) (kept : ℤ) → IsStrong (library_due w call.Exit ws made kept)
exit_strong w ws zero kept = tt
exit_strong w ws (suc zero) kept = (refl, refl)
exit_strong w ws (suc (suc n)) kept = (refl, refl)

call_strong : (w : Caller) (c : LibraryCall) (ws : List ℕ) (made : ℕ) (kept : ℤ) → IsStrong (library_due w c ws made kept)
call_strong w call.Exit ws made kept = exit_strong w ws made kept
call_strong w c ws made kept = plain_strong (library_due w c ws made kept) (plain_due w c ws made kept tt)

-- ---- instructions

quiet_strong : (r : Result ℕ Trap) → IsStrong (quiet_unless r)
quiet_strong (Ok w) = tt
quiet_strong (Err k) = tt

load_strong : (r : Result ℕ Trap) → IsStrong (load_due r)
load_strong (Ok c) = tt
load_strong (Err k) = tt

store_strong : (r : Result ℕ Trap) (v : ℕ) → IsStrong (store_due r v)
store_strong (Ok c) v = tt
store_strong (Err k) v = tt

mark_strong : (o : Option ℕ) → IsStrong (mark_if o)
mark_strong None = tt
mark_strong (Some n) = tt

end_strong : (b : Bool) (t made value : ℕ) → IsStrong (end_due b t made value)
end_strong true t made value = (refl, refl)
end_strong false t zero value = tt
end_strong false t (suc zero) value = (refl, refl)
end_strong false t (suc (suc n)) value = (refl, refl)

parting_strong : (xs : List Stripe) (d : Due) → xs ≡ [] → IsStrong d → IsStrong (parting_due xs d)
parting_strong xs d none h = subst (λ ys. IsStrong (parting_due ys d)) (sym none) h

module _ (w : Code) (s : SetupView) (t : ℕ) (th : Thread) where
  malloc_strong : (unit n : ℕ) (z : ℤ) → IsStrong (malloc_due unit th.arena n z)
  malloc_strong unit n z = if_strong (is_size unit z) _ _ (if_strong (nat_le (th.arena + cells_in z) n) _ _ tt tt) tt

  enter_strong : (frames f : ℕ) → IsStrong (enter_due w s t th frames f)
  enter_strong frames f = if_strong (nat_le s.limit th.count) _ _ tt (if_strong (nat_le most_frames frames) _ _ tt (mark_strong (fitted w.sites (arena_end w s t) (objects_in w f) th.arena)))

  return_strong : (value : ℕ) → IsStrong (return_due w t th value)
  return_strong value = if_strong (length th.below == 0) _ _ (end_strong (is_main w th.top.function) t th.top.made value) tt

  act_strong : (o : Option Act) → is_aside th o ≡ false → IsStrong (act_due w s t th o)
  act_strong None h = tt
  act_strong (Some (act.Compute into work)) h = quiet_strong (work_of s.slots w.sites (pointers_of w th.top) th.top.registers work)
  act_strong (Some (act.Alloc into site None)) h = tt
  act_strong (Some (act.Alloc into site (Some size))) h = malloc_strong (size_of w.sites site) (arena_end w s t) (number (register th.top.registers size))
  act_strong (Some (act.LoadCell into through)) h = load_strong (resolved w.sites (register th.top.registers through) (access_kind (is_pointer (pointers_of w th.top) into)))
  act_strong (Some (act.StoreCell through from)) h = store_strong (resolved w.sites (register th.top.registers through) (access_kind (is_pointer (pointers_of w th.top) from))) (register th.top.registers from)
  act_strong (Some act.Mark) h = tt
  act_strong (Some (act.Call function arguments into)) h = enter_strong (length th.below + 1) function
  act_strong (Some (act.Library c arguments into)) h =
      parting_strong (parting c th.top.made th.stripes) _ (none_left (parting c th.top.made th.stripes) h) (call_strong (caller w s t th) c (words_of th.top.registers arguments) th.top.made th.top.kept)
  act_strong (Some (act.Jump to)) h = tt
  act_strong (Some (act.Branch on then_at else_at)) h = tt
  act_strong (Some (act.Return value)) h = return_strong (value_of th.top.registers value)
  act_strong (Some (act.Take r)) h = absurd (true≢false h)
  act_strong (Some (act.Give r)) h = absurd (true≢false h)

begun_strong : (w : Code) (s : SetupView) (t : ℕ) (th : Thread) (f : ℕ) → IsStrong (begun_due w s t th f)
begun_strong w s zero th f = enter_strong w s zero th 0 f
begun_strong w s (suc k) th f = tt

phase_strong : (w : Code) (s : SetupView) (t : ℕ) (th : Thread) (p : Phase) → steps_aside w th p ≡ false → IsStrong (phase_due w s t th p)
phase_strong w s t th phase.Fresh h = (refl, refl)
phase_strong w s t th (phase.Begun f) h = begun_strong w s t th f
phase_strong w s t th (phase.Loaded f v) h = enter_strong w s t th 0 f
phase_strong w s t th phase.Running h = act_strong w s t th (act_at w th.top) h
phase_strong w s t th phase.Ended h = tt
phase_strong w s t th phase.Halted h = tt
phase_strong w s t th (phase.Trapped k line) h = tt
phase_strong w s t th phase.Stopped h = tt
phase_strong w s t th phase.Closed h = tt

-- ---- limits

limited_strong : (over : Bool) (d : Due) → IsStrong d → IsStrong (limited over d)
limited_strong false d h = h
limited_strong true due.Nothing h = tt
limited_strong true due.Quiet h = tt
limited_strong true (due.Load c) h = tt
limited_strong true (due.Store c v) h = tt
limited_strong true due.Mark h = tt
limited_strong true (due.Operate o obj) h = if_strong (is_free_of_limit o) (due.Operate o obj) (due.Trap trap.Limit) h tt
limited_strong true (due.Trap k) h = tt

pub strong_due : (w : Code) (s : SetupView) (t : ℕ) (th : Thread) (over : Bool) → steps_aside w th th.phase ≡ false → IsStrong (limited over (phase_due w s t th th.phase))
strong_due w s t th over h = limited_strong over (phase_due w s t th th.phase) (phase_strong w s t th th.phase h)
