-- What is due in a thread by its code alone, with and without weak instructions.
use Rattle.std.proofs.Common.{◌≡◌, ℕ, zero, suc, ◌+◌, ◌==◌, Bool, true, false, if◌then◌else◌, List, [], ◌∷◌, length, Option, Some, None, refl, sym, ap, ◌∙◌, nat_le}
use Rattle.std.specs.Prelude.{option_map}
use Rattle.std.proofs.lemmas.Bool.{true≢false}
use Rattle.std.proofs.lemmas.List.{length-map}
use Rattle.sync_objects.specs.Setup.{SetupView}
use Rattle.rr_base.specs.declared.trap.Trap.TheVariants as trap
use Rattle.flow_code.specs.declared.act.Act.{Act}
use Rattle.flow_code.specs.declared.act.Act.TheVariants as act
use Rattle.flow_code.specs.declared.code.Code.{Code}
use Rattle.flow_code.specs.declared.thread.Phase.{Phase}
use Rattle.flow_code.specs.declared.thread.Phase.TheVariants as phase
use Rattle.flow_code.specs.declared.thread.Stripe.{Stripe}
use Rattle.word_semantics.specs.declared.library_call.LibraryCall.{LibraryCall}
use Rattle.word_semantics.specs.declared.library_call.LibraryCall.TheVariants as call
use Rattle.word_semantics.specs.declared.event.Due.{Due}
use Rattle.word_semantics.specs.declared.event.Due.TheVariants as due
use Rattle.word_semantics.specs.Cells.{access_kind}
use Rattle.word_semantics.specs.Library.{library_due}
use Rattle.word_semantics.specs.Limits.{most_frames}
use Rattle.word_semantics.specs.Pointers.{resolved}
use Rattle.word_semantics.specs.Registers.{register, words_of}
use Rattle.flow_code.specs.Holding.{parting, parting_due}
use Rattle.flow_code.specs.Works.{is_pointer, work_of}
use Rattle.flow_code.specs.Threads.{Thread, arena_end, is_main, fitted}
use Rattle.flow_code.specs.Next.{quiet_unless, load_due, store_due, mark_if, enter_due, end_due, return_due, value_of, caller, act_at, act_due, begun_due, phase_due}
use Rattle.weak_code.specs.Weakened.{retarget}
use Rattle.weak_code.specs.Stripped.{plain_of, strip}
use Rattle.erasure.proofs.Kept.{weak_at}
use Rattle.erasure.proofs.Bare.{instrs_of, bare_frame, bare, bare_act, same_pointers, same_main, HasObjects}

abbrev pub has_some : List Stripe → Bool
has_some [] = false
has_some (x ∷ xs) = true

-- the thread makes a step that it doesn't make without weak locks: it stands at a weak instruction, or it gives its stripes at
-- its end
abbrev pub is_aside : Thread → Option Act → Bool
is_aside th (Some (act.Take r)) = true
is_aside th (Some (act.Give r)) = true
is_aside th (Some (act.Library call arguments into)) = has_some (parting call th.top.made th.stripes)
is_aside th _ = false

abbrev pub steps_aside : Code → Thread → Phase → Bool
steps_aside w th phase.Running = is_aside th (act_at w th.top)
steps_aside w th _ = false

pub not_weak : (th : Thread) (o : Option Act) → is_aside th o ≡ false → weak_at o ≡ false
not_weak th (Some (act.Take r)) h = h
not_weak th (Some (act.Give r)) h = h
not_weak th _ h = refl

pub no_parting : (call : LibraryCall) (made : ℕ) → parting call made [] ≡ []
no_parting call.Exit zero = refl
no_parting call.Exit (suc n) = refl
no_parting _ made = refl

pub none_left : (xs : List Stripe) → has_some xs ≡ false → xs ≡ []
none_left [] h = refl
none_left (x ∷ xs) h = absurd (true≢false h)

module _ (w : Code) (objects : HasObjects w) (s : SetupView) (t e : ℕ) (th : Thread) where
  same_enter : (frames f : ℕ) → enter_due (strip w) s t (bare w e th) frames f ≡ enter_due w s t th frames f
  same_enter frames f = ap (λ os. if nat_le s.limit th.count then due.Trap trap.Limit else (if nat_le most_frames frames then due.Trap trap.Depth else mark_if (fitted w.sites (arena_end w s t) os th.arena))) (objects f)

  same_return : (value : ℕ) → return_due (strip w) t (bare w e th) value ≡ return_due w t th value
  same_return value =
      ap (λ n. if n == 0 then end_due (is_main (strip w) th.top.function) t th.top.made value else due.Quiet) (length-map th.below (λ f. bare_frame w f))
      ∙ ap (λ b. if length th.below == 0 then end_due b t th.top.made value else due.Quiet) (same_main w th.top.function)

  abbrev call_due : LibraryCall → List ℕ → Due
  call_due call arguments = library_due (caller w s t th) call (words_of th.top.registers arguments) th.top.made th.top.kept

  pub same_act_due : (to : ℕ → ℕ) (o : Option Act) → is_aside th o ≡ false → act_due (strip w) s t (bare w e th) (option_map (retarget to) o) ≡ act_due w s t th o
  same_act_due to None h = refl
  same_act_due to (Some (act.Compute into work)) h = ap (λ ps. quiet_unless (work_of s.slots w.sites ps th.top.registers work)) (same_pointers w th.top.function)
  same_act_due to (Some (act.Alloc into site None)) h = refl
  same_act_due to (Some (act.Alloc into site (Some size))) h = refl
  same_act_due to (Some (act.LoadCell into through)) h = ap (λ ps. load_due (resolved w.sites (register th.top.registers through) (access_kind (is_pointer ps into)))) (same_pointers w th.top.function)
  same_act_due to (Some (act.StoreCell through from)) h = ap (λ ps. store_due (resolved w.sites (register th.top.registers through) (access_kind (is_pointer ps from))) (register th.top.registers from)) (same_pointers w th.top.function)
  same_act_due to (Some act.Mark) h = refl
  same_act_due to (Some (act.Call function arguments into)) h =
      ap (λ n. enter_due (strip w) s t (bare w e th) (n + 1) function) (length-map th.below (λ f. bare_frame w f)) ∙ same_enter (length th.below + 1) function
  same_act_due to (Some (act.Library call arguments into)) h =
      ap (λ xs. parting_due xs (call_due call arguments)) (no_parting call th.top.made)
      ∙ sym (ap (λ xs. parting_due xs (call_due call arguments)) (none_left (parting call th.top.made th.stripes) h))
  same_act_due to (Some (act.Jump k)) h = refl
  same_act_due to (Some (act.Branch on then_at else_at)) h = refl
  same_act_due to (Some (act.Return value)) h = same_return (value_of th.top.registers value)
  same_act_due to (Some (act.Take r)) h = absurd (true≢false h)
  same_act_due to (Some (act.Give r)) h = absurd (true≢false h)

same_begun : (w : Code) → HasObjects w → (s : SetupView) (t e : ℕ) (th : Thread) (f : ℕ) → begun_due (strip w) s t (bare w e th) f ≡ begun_due w s t th f
same_begun w objects s zero e th f = same_enter w objects s zero e th 0 f
same_begun w objects s (suc k) e th f = refl

module _ (w : Code) (objects : HasObjects w) (s : SetupView) (t e : ℕ) (th : Thread) where
  pub same_phase_due : (p : Phase) → steps_aside w th p ≡ false → phase_due (strip w) s t (bare w e th) p ≡ phase_due w s t th p
  same_phase_due phase.Fresh h = refl
  same_phase_due (phase.Begun f) h = same_begun w objects s t e th f
  same_phase_due (phase.Loaded f v) h = same_enter w objects s t e th 0 f
  same_phase_due phase.Running h =
      ap (act_due (strip w) s t (bare w e th)) (bare_act w th.top (not_weak th (act_at w th.top) h))
      ∙ same_act_due w objects s t e th (plain_of (instrs_of w th.top.function)) (act_at w th.top) h
  same_phase_due phase.Ended h = refl
  same_phase_due phase.Halted h = refl
  same_phase_due (phase.Trapped kind line) h = refl
  same_phase_due phase.Stopped h = refl
  same_phase_due phase.Closed h = refl
