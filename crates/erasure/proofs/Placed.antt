-- Where the frames of a thread stand: a frame at a weak instruction has made no event there, and those below stand at calls.
use Rattle.std.proofs.Common.{◌≡◌, ℕ, zero, suc, ◌+◌, ◌-◌, ◌==◌, Bool, true, false, if◌then◌else◌, ℤ, pos, List, [], length, Option, Some, None, Result, Ok, Err, refl, sym, ap, subst, ◌∙◌}
use Rattle.std.specs.Prelude.{slice_get}
use Rattle.std.proofs.lemmas.Bool.{true≢false}
use Rattle.sync_objects.specs.Setup.{SetupView}
use Rattle.rr_base.specs.declared.trap.Trap.{Trap}
use Rattle.flow_code.specs.declared.act.Act.{Act}
use Rattle.flow_code.specs.declared.act.Act.TheVariants as act
use Rattle.flow_code.specs.declared.code.Code.{Code}
use Rattle.flow_code.specs.declared.thread.Phase.{Phase}
use Rattle.flow_code.specs.declared.thread.Phase.TheVariants as phase
use Rattle.word_semantics.specs.declared.event.Onward.{Onward}
use Rattle.word_semantics.specs.declared.event.Onward.TheVariants as onward
use Rattle.word_semantics.specs.declared.library_call.LibraryCall.{LibraryCall}
use Rattle.word_semantics.specs.Library.{library_onward, piece_of}
use Rattle.word_semantics.specs.Registers.{words_of}
use Rattle.flow_code.specs.Holding.{parting, left_after}
use Rattle.flow_code.specs.Works.{work_of}
use Rattle.flow_code.specs.Threads.{Frame, Thread, is_main}
use Rattle.flow_code.specs.Next.{act_at, pointers_of, caller, value_of, in_frame, computed, one_made, back_in, end_onward, returned, resumed, call_after, act_after, begun_after, phase_after}
use Rattle.flow_code.proofs.Shapes.{each_more, each_less}
use Rattle.weak_code.specs.Stripped.{is_weak}
use Rattle.erasure.proofs.Kept.{weak_at}
use Rattle.erasure.proofs.ActDues.{is_aside, steps_aside, none_left}

module _ (w : Code) where
  -- the frame stands at an instruction that isn't weak
  abbrev pub IsSeat : Frame → Type 0
  IsSeat f = (a : Act) × (act_at w f ≡ Some a) × (is_weak a ≡ false)

  pub record IsPlaced (th : Thread) : Type 0 where
    pub fresh : weak_at (act_at w th.top) ≡ true → (th.top.made ≡ 0) × (th.top.kept ≡ pos 0)
    pub callers : (k : ℕ) (f : Frame) → slice_get th.below k ≡ Some f → IsSeat f

  no_frames : (k : ℕ) (f : Frame) → slice_get {X = Frame} [] k ≡ Some f → IsSeat f
  no_frames k f e = cc

  module _ (th : Thread) (placed : IsPlaced th) where
    -- in a frame that has made no event
    anew : (q : Thread) (f : Frame) → f.made ≡ 0 → f.kept ≡ pos 0 → q.below ≡ th.below → IsPlaced (in_frame q f)
    anew q f made kept below = record { fresh = λ e. (made, kept); callers = λ k g is. placed.callers k g (ap (λ fs. slice_get fs k) (sym below) ∙ is) }

    computed_placed : (into : ℕ) (r : Result ℕ Trap) → IsPlaced (computed th into r)
    computed_placed into (Ok v) = anew th _ refl refl refl
    computed_placed into (Err k) = placed

    -- after one event more of an instruction that isn't weak
    stays_placed : (q : Thread) (a : Act) (kept : ℤ) → act_at w th.top ≡ Some a → is_weak a ≡ false → q.below ≡ th.below → IsPlaced (in_frame q (one_made th.top kept))
    stays_placed q a kept at strong below = record {
      fresh = λ e. absurd (true≢false (sym e ∙ ap weak_at at ∙ strong));
      callers = λ k g is. placed.callers k g (ap (λ fs. slice_get fs k) (sym below) ∙ is);
    }

    in_phase : (p : Phase) → IsPlaced (record th { phase = p })
    in_phase p = record { fresh = placed.fresh; callers = placed.callers }

    went_on_placed : (a : Act) (n : ℕ) (into : Option ℕ) (o : Onward) → act_at w th.top ≡ Some a → is_weak a ≡ false → IsPlaced (resumed (record th { printed = n }) into o)
    went_on_placed a n into (onward.Stays kept) at strong = stays_placed (record th { printed = n }) a kept at strong refl
    went_on_placed a n None (onward.Gives v) at strong = anew (record th { printed = n }) _ refl refl refl
    went_on_placed a n (Some r) (onward.Gives v) at strong = anew (record th { printed = n }) _ refl refl refl
    went_on_placed a n into onward.Ends at strong = record { fresh = placed.fresh; callers = placed.callers }

    end_placed : (b : Bool) (a : Act) (made : ℕ) → act_at w th.top ≡ Some a → is_weak a ≡ false → IsPlaced (end_onward b th made)
    end_placed true a made at strong = in_phase phase.Halted
    end_placed false a zero at strong = stays_placed th a (pos 0) at strong refl
    end_placed false a (suc zero) at strong = stays_placed th a (pos 0) at strong refl
    end_placed false a (suc (suc n)) at strong = in_phase phase.Ended

    back_placed : (value : ℕ) (o : Option Frame) → IsPlaced (back_in w th value o)
    back_placed value None = placed
    back_placed value (Some f) = record { fresh = λ e. (refl, refl); callers = each_less IsSeat (length th.below - 1) th.below placed.callers }

    returned_placed : (a : Act) (value : ℕ) → act_at w th.top ≡ Some a → is_weak a ≡ false → IsPlaced (returned w th value)
    returned_placed a value at strong = by (length th.below == 0)
      where
        by : (b : Bool) → IsPlaced (if b then end_onward (is_main w th.top.function) th th.top.made else back_in w th value (slice_get th.below (length th.below - 1)))
        by true = end_placed (is_main w th.top.function) a th.top.made at strong
        by false = back_placed value (slice_get th.below (length th.below - 1))

    call_placed : (s : SetupView) (t : ℕ) (c : LibraryCall) (arguments : List ℕ) (into : Option ℕ) (answer : ℤ) → act_at w th.top ≡ Some (act.Library c arguments into) → parting c th.top.made th.stripes ≡ [] →
        IsPlaced (left_after th (parting c th.top.made th.stripes) (call_after w s t th c arguments into answer))
    call_placed s t c arguments into answer at none =
        subst (λ xs. IsPlaced (left_after th xs (call_after w s t th c arguments into answer))) (sym none)
        (went_on_placed (act.Library c arguments into) (th.printed + length (piece_of c (words_of th.top.registers arguments))) into (library_onward (caller w s t th) c (words_of th.top.registers arguments) th.top.made th.top.kept answer) at refl)

    act_placed : (s : SetupView) (t : ℕ) (o : Option Act) (answer : ℤ) → act_at w th.top ≡ o → is_aside th o ≡ false → IsPlaced (act_after w s t th o answer)
    act_placed s t None answer at h = placed
    act_placed s t (Some (act.Compute into work)) answer at h = computed_placed into (work_of s.slots w.sites (pointers_of w th.top) th.top.registers work)
    act_placed s t (Some (act.Alloc into site None)) answer at h = anew th _ refl refl refl
    act_placed s t (Some (act.Alloc into site (Some size))) answer at h = record { fresh = λ e. (refl, refl); callers = placed.callers }
    act_placed s t (Some (act.LoadCell into through)) answer at h = anew th _ refl refl refl
    act_placed s t (Some (act.StoreCell through from)) answer at h = anew th _ refl refl refl
    act_placed s t (Some act.Mark) answer at h = anew th _ refl refl refl
    act_placed s t (Some (act.Call function arguments into)) answer at h = record {
      fresh = λ e. (refl, refl);
      callers = each_more IsSeat th.below (one_made th.top (pos 0)) placed.callers (act.Call function arguments into, at, refl);
    }
    act_placed s t (Some (act.Library call arguments into)) answer at h = call_placed s t call arguments into answer at (none_left (parting call th.top.made th.stripes) h)
    act_placed s t (Some (act.Jump k)) answer at h = anew th _ refl refl refl
    act_placed s t (Some (act.Branch on then_at else_at)) answer at h = anew th _ refl refl refl
    act_placed s t (Some (act.Return value)) answer at h = returned_placed (act.Return value) (value_of th.top.registers value) at refl
    act_placed s t (Some (act.Take r)) answer at h = absurd (true≢false h)
    act_placed s t (Some (act.Give r)) answer at h = absurd (true≢false h)

    begun_placed : (s : SetupView) (t f : ℕ) (answer : ℤ) → IsPlaced (begun_after w s t th f answer)
    begun_placed s zero f answer = record { fresh = λ e. (refl, refl); callers = no_frames }
    begun_placed s (suc k) f answer = record { fresh = placed.fresh; callers = placed.callers }

    -- each step that isn't aside keeps it
    pub phase_placed : (s : SetupView) (t : ℕ) (p : Phase) (answer : ℤ) → steps_aside w th p ≡ false → IsPlaced (phase_after w s t th p answer)
    phase_placed s t phase.Fresh answer h = record { fresh = placed.fresh; callers = placed.callers }
    phase_placed s t (phase.Begun f) answer h = begun_placed s t f answer
    phase_placed s t (phase.Loaded f v) answer h = record { fresh = λ e. (refl, refl); callers = no_frames }
    phase_placed s t phase.Running answer h = act_placed s t (act_at w th.top) answer refl h
    phase_placed s t phase.Ended answer h = placed
    phase_placed s t phase.Halted answer h = placed
    phase_placed s t (phase.Trapped kind line) answer h = placed
    phase_placed s t phase.Stopped answer h = placed
    phase_placed s t phase.Closed answer h = placed
