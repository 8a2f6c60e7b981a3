-- The state after a step of a thread, with and without weak instructions.
use Rattle.std.proofs.Common.{◌≡◌, ℕ, zero, suc, ◌+◌, ◌-◌, ◌==◌, Bool, true, false, if◌then◌else◌, ℤ, pos, List, [], ◌∷◌, ◌++◌, length, map, take, Option, Some, None, Result, Ok, Err, refl, sym, ap, ◌∙◌}
use Rattle.std.specs.Prelude.{slice_get, slice_set, option_map}
use Rattle.std.proofs.lemmas.Bool.{true≢false}
use Rattle.std.proofs.lemmas.List.{length-map, map-append, take-map}
use Rattle.std.proofs.lemmas.Option.{slice_get-map}
use Rattle.sync_objects.specs.Setup.{SetupView}
use Rattle.rr_base.specs.declared.trap.Trap.{Trap}
use Rattle.flow_code.specs.declared.act.Act.{Act}
use Rattle.flow_code.specs.declared.act.Act.TheVariants as act
use Rattle.flow_code.specs.declared.code.Code.{Code}
use Rattle.flow_code.specs.declared.thread.Phase.{Phase}
use Rattle.flow_code.specs.declared.thread.Phase.TheVariants as phase
use Rattle.word_semantics.specs.declared.event.Onward.{Onward}
use Rattle.word_semantics.specs.declared.event.Onward.TheVariants as onward
use Rattle.word_semantics.specs.declared.library_call.LibraryCall.{LibraryCall}
use Rattle.word_semantics.specs.Cells.{cells_in}
use Rattle.word_semantics.specs.Library.{library_onward, piece_of}
use Rattle.word_semantics.specs.Pointers.{pointer_at}
use Rattle.word_semantics.specs.Registers.{register, words_of}
use Rattle.word_semantics.specs.Values.{number, word}
use Rattle.flow_code.specs.Holding.{parting, left_after}
use Rattle.flow_code.specs.Works.{work_of}
use Rattle.flow_code.specs.Threads.{Frame, Thread, arena_end, is_main, objects_in, fitted, first_frame}
use Rattle.flow_code.specs.Next.{past, given, result_of, act_at, pointers_of, caller, value_of, in_frame, computed, or_else, entered, one_made, back_in, end_onward, returned, resumed, call_after, act_after, begun_after, phase_after}
use Rattle.weak_code.specs.Weakened.{retarget}
use Rattle.weak_code.specs.Stripped.{is_weak, plain_of, strip}
use Rattle.erasure.proofs.Kept.{weak_at}
use Rattle.erasure.proofs.Bare.{frame_with, instrs_of, bare_frame, bare, bare_act, bare_first, next_place, same_pointers, same_main, HasObjects}
use Rattle.erasure.proofs.ActDues.{is_aside, steps_aside, not_weak, no_parting, none_left}
use Rattle.erasure.proofs.Placed.{IsSeat, IsPlaced}

-- the register that gets a call's value
same_result : (to : ℕ → ℕ) (o : Option Act) → result_of (option_map (retarget to) o) ≡ result_of o
same_result to None = refl
same_result to (Some (act.Call function arguments into)) = refl
same_result to (Some (act.Compute into work)) = refl
same_result to (Some (act.Alloc into site size)) = refl
same_result to (Some (act.LoadCell into through)) = refl
same_result to (Some (act.StoreCell through from)) = refl
same_result to (Some act.Mark) = refl
same_result to (Some (act.Library call arguments into)) = refl
same_result to (Some (act.Jump k)) = refl
same_result to (Some (act.Branch on then_at else_at)) = refl
same_result to (Some (act.Return value)) = refl
same_result to (Some (act.Take r)) = refl
same_result to (Some (act.Give r)) = refl

module _ (w : Code) (objects : HasObjects w) (e : ℕ) (th : Thread) where
  abbrev place : ℕ → ℕ
  place k = plain_of (instrs_of w th.top.function) k

  -- it stands after its instruction, with these registers
  abbrev following : ℕ → List ℕ → Frame
  following k registers = frame_with th.top.function k 0 (pos 0) registers

  goes_on : (q : Thread) (registers : List ℕ) (a : Act) → act_at w th.top ≡ Some a → is_weak a ≡ false → in_frame (bare w e q) (following (place th.top.instr + 1) registers) ≡ bare w e (in_frame q (following (th.top.instr + 1) registers))
  goes_on q registers a at strong = ap (λ k. in_frame (bare w e q) (following k registers)) (sym (next_place w th.top a at strong))

  computed_bare : (into : ℕ) (r : Result ℕ Trap) (a : Act) → act_at w th.top ≡ Some a → is_weak a ≡ false → computed (bare w e th) into r ≡ bare w e (computed th into r)
  computed_bare into (Ok v) a at strong = goes_on th (slice_set th.top.registers into v) a at strong
  computed_bare into (Err k) a at strong = refl

  jumped_bare : (b : Bool) (then_at else_at : ℕ) → in_frame (bare w e th) (following (if b then place else_at else place then_at) th.top.registers) ≡ bare w e (in_frame th (following (if b then else_at else then_at) th.top.registers))
  jumped_bare true then_at else_at = refl
  jumped_bare false then_at else_at = refl

  went_on_bare : (n : ℕ) (into : Option ℕ) (o : Onward) (a : Act) → act_at w th.top ≡ Some a → is_weak a ≡ false → resumed (record (bare w e th) { printed = n }) into o ≡ bare w e (resumed (record th { printed = n }) into o)
  went_on_bare n into (onward.Stays kept) a at strong = refl
  went_on_bare n None (onward.Gives v) a at strong = goes_on (record th { printed = n }) th.top.registers a at strong
  went_on_bare n (Some r) (onward.Gives v) a at strong = goes_on (record th { printed = n }) (slice_set th.top.registers r v) a at strong
  went_on_bare n into onward.Ends a at strong = refl

  end_bare : (b : Bool) (made : ℕ) → end_onward b (bare w e th) made ≡ bare w e (end_onward b th made)
  end_bare true made = refl
  end_bare false zero = refl
  end_bare false (suc zero) = refl
  end_bare false (suc (suc n)) = refl

  -- ---- back to a caller

  abbrev with_frames : Frame → List Frame → Thread
  with_frames top below = record (bare w e th) { top = top; below = below }

  given_past : (f : Frame) (r : Option ℕ) (v : ℕ) → IsSeat w f → past (given (bare_frame w f) r v) ≡ bare_frame w (past (given f r v))
  given_past f None v h = ap (λ k. frame_with f.function k 0 (pos 0) f.registers) (sym (next_place w f h.0 h.1 h.2))
  given_past f (Some r) v h = ap (λ k. frame_with f.function k 0 (pos 0) (slice_set f.registers r v)) (sym (next_place w f h.0 h.1 h.2))

  back_bare : (v : ℕ) (o : Option Frame) → ((f : Frame) → o ≡ Some f → IsSeat w f) → back_in (strip w) (bare w e th) v (option_map (bare_frame w) o) ≡ bare w e (back_in w th v o)
  back_bare v None seats = refl
  back_bare v (Some f) seats =
      let h = seats f refl in
      let below = map (bare_frame w) th.below in
      let strong : weak_at (act_at w f) ≡ false = ap weak_at h.1 ∙ h.2 in
      ap (λ r. with_frames (past (given (bare_frame w f) r v)) (take (length below - 1) below)) (ap result_of (bare_act w f strong) ∙ same_result (plain_of (instrs_of w f.function)) (act_at w f))
      ∙ ap (λ x. with_frames x (take (length below - 1) below)) (given_past f (result_of (act_at w f)) v h)
      ∙ ap (λ n. with_frames (bare_frame w (past (given f (result_of (act_at w f)) v))) (take (n - 1) below)) (length-map th.below (bare_frame w))
      ∙ ap (λ fs. with_frames (bare_frame w (past (given f (result_of (act_at w f)) v))) fs) (take-map (bare_frame w) (length th.below - 1) th.below)

  returned_bare : (v : ℕ) → ((f : Frame) → slice_get th.below (length th.below - 1) ≡ Some f → IsSeat w f) → returned (strip w) (bare w e th) v ≡ bare w e (returned w th v)
  returned_bare v seats =
      let below = map (bare_frame w) th.below in
      ap (λ n. if n == 0 then end_onward (is_main (strip w) th.top.function) (bare w e th) th.top.made else back_in (strip w) (bare w e th) v (slice_get below (n - 1))) (length-map th.below (bare_frame w))
      ∙ ap (λ b. if length th.below == 0 then end_onward b (bare w e th) th.top.made else back_in (strip w) (bare w e th) v (slice_get below (length th.below - 1))) (same_main w th.top.function)
      ∙ ap (λ o. if length th.below == 0 then end_onward (is_main w th.top.function) (bare w e th) th.top.made else back_in (strip w) (bare w e th) v o) (slice_get-map (bare_frame w) th.below (length th.below - 1))
      ∙ by (length th.below == 0)
    where
      by : (b : Bool) →
          (if b then end_onward (is_main w th.top.function) (bare w e th) th.top.made else back_in (strip w) (bare w e th) v (option_map (bare_frame w) (slice_get th.below (length th.below - 1))))
          ≡ bare w e (if b then end_onward (is_main w th.top.function) th th.top.made else back_in w th v (slice_get th.below (length th.below - 1)))
      by true = end_bare (is_main w th.top.function) th.top.made
      by false = back_bare v (slice_get th.below (length th.below - 1)) seats

  -- ---- into a function

  module _ (s : SetupView) (t : ℕ) where
    entered_with : ℕ → Frame → List Frame → Thread
    entered_with arena top below = record (bare w e th) { phase = phase.Running; arena = arena; top = top; below = below }

    pub entered_bare : (below : List Frame) (f : ℕ) (arguments : List ℕ) → entered (strip w) s t (bare w e th) (map (bare_frame w) below) f arguments ≡ bare w e (entered w s t th below f arguments)
    unfolding entered_with
    entered_bare below f arguments =
        ap (λ os. entered_with (or_else (fitted w.sites (arena_end w s t) os th.arena) th.arena) (first_frame (strip w) f arguments th.arena) (map (bare_frame w) below)) (objects f)
        ∙ ap (λ x. entered_with (or_else (fitted w.sites (arena_end w s t) (objects_in w f) th.arena) th.arena) x (map (bare_frame w) below)) (bare_first w objects f arguments th.arena)

    called_bare : (f : ℕ) (arguments : List ℕ) → entered (strip w) s t (bare w e th) (map (bare_frame w) th.below ++ one_made (bare_frame w th.top) (pos 0) ∷ []) f arguments ≡ bare w e (entered w s t th (th.below ++ one_made th.top (pos 0) ∷ []) f arguments)
    called_bare f arguments =
        ap (λ fs. entered (strip w) s t (bare w e th) fs f arguments) (sym (map-append (bare_frame w) th.below (one_made th.top (pos 0) ∷ [])))
        ∙ entered_bare (th.below ++ one_made th.top (pos 0) ∷ []) f arguments

    library_bare : (c : LibraryCall) (arguments : List ℕ) (into : Option ℕ) (answer : ℤ) → act_at w th.top ≡ Some (act.Library c arguments into) → parting c th.top.made th.stripes ≡ [] →
        left_after (bare w e th) (parting c th.top.made []) (call_after (strip w) s t (bare w e th) c arguments into answer) ≡ bare w e (left_after th (parting c th.top.made th.stripes) (call_after w s t th c arguments into answer))
    library_bare c arguments into answer at none =
        ap (λ xs. left_after (bare w e th) xs (call_after (strip w) s t (bare w e th) c arguments into answer)) (no_parting c th.top.made)
        ∙ went_on_bare (th.printed + length (piece_of c (words_of th.top.registers arguments))) into (library_onward (caller w s t th) c (words_of th.top.registers arguments) th.top.made th.top.kept answer) (act.Library c arguments into) at refl
        ∙ sym (ap (λ xs. bare w e (left_after th xs (call_after w s t th c arguments into answer))) none)

    -- ---- a step of the instruction

    act_after_bare : (o : Option Act) (answer : ℤ) → IsPlaced w th → act_at w th.top ≡ o → is_aside th o ≡ false → act_after (strip w) s t (bare w e th) (option_map (retarget (plain_of (instrs_of w th.top.function))) o) answer ≡ bare w e (act_after w s t th o answer)
    act_after_bare None answer placed at h = refl
    act_after_bare (Some (act.Compute into work)) answer placed at h =
        ap (λ ps. computed (bare w e th) into (work_of s.slots w.sites ps th.top.registers work)) (same_pointers w th.top.function)
        ∙ computed_bare into (work_of s.slots w.sites (pointers_of w th.top) th.top.registers work) (act.Compute into work) at refl
    act_after_bare (Some (act.Alloc into site None)) answer placed at h = goes_on th th.top.registers (act.Alloc into site None) at refl
    act_after_bare (Some (act.Alloc into site (Some size))) answer placed at h =
        let cells = cells_in (number (register th.top.registers size)) in
        goes_on (record th { arena = th.arena + cells }) (slice_set th.top.registers into (pointer_at site th.arena cells)) (act.Alloc into site (Some size)) at refl
    act_after_bare (Some (act.LoadCell into through)) answer placed at h = goes_on th (slice_set th.top.registers into (word answer)) (act.LoadCell into through) at refl
    act_after_bare (Some (act.StoreCell through from)) answer placed at h = goes_on th th.top.registers (act.StoreCell through from) at refl
    act_after_bare (Some act.Mark) answer placed at h = goes_on th th.top.registers act.Mark at refl
    act_after_bare (Some (act.Call function arguments into)) answer placed at h = called_bare function (words_of th.top.registers arguments)
    act_after_bare (Some (act.Library call arguments into)) answer placed at h = library_bare call arguments into answer at (none_left (parting call th.top.made th.stripes) h)
    act_after_bare (Some (act.Jump k)) answer placed at h = refl
    act_after_bare (Some (act.Branch on then_at else_at)) answer placed at h = jumped_bare (register th.top.registers on == 0) then_at else_at
    act_after_bare (Some (act.Return value)) answer placed at h = returned_bare (value_of th.top.registers value) (placed.callers (length th.below - 1))
    act_after_bare (Some (act.Take r)) answer placed at h = absurd (true≢false h)
    act_after_bare (Some (act.Give r)) answer placed at h = absurd (true≢false h)

begun_bare : (w : Code) → HasObjects w → (s : SetupView) (t e : ℕ) (th : Thread) (f : ℕ) (answer : ℤ) → begun_after (strip w) s t (bare w e th) f answer ≡ bare w e (begun_after w s t th f answer)
begun_bare w objects s zero e th f answer = entered_bare w objects e th s zero [] f []
begun_bare w objects s (suc k) e th f answer = refl

-- ---- a step in a phase

pub phase_after_bare : (w : Code) → HasObjects w → (s : SetupView) (t e : ℕ) (th : Thread) (p : Phase) (answer : ℤ) → IsPlaced w th → steps_aside w th p ≡ false → phase_after (strip w) s t (bare w e th) p answer ≡ bare w e (phase_after w s t th p answer)
phase_after_bare w objects s t e th phase.Fresh answer placed h = refl
phase_after_bare w objects s t e th (phase.Begun f) answer placed h = begun_bare w objects s t e th f answer
phase_after_bare w objects s t e th (phase.Loaded f v) answer placed h = entered_bare w objects e th s t [] f (v ∷ [])
phase_after_bare w objects s t e th phase.Running answer placed h =
    ap (λ o. act_after (strip w) s t (bare w e th) o answer) (bare_act w th.top (not_weak th (act_at w th.top) h))
    ∙ act_after_bare w objects e th s t (act_at w th.top) answer placed refl h
phase_after_bare w objects s t e th phase.Ended answer placed h = refl
phase_after_bare w objects s t e th phase.Halted answer placed h = refl
phase_after_bare w objects s t e th (phase.Trapped kind line) answer placed h = refl
phase_after_bare w objects s t e th phase.Stopped answer placed h = refl
phase_after_bare w objects s t e th phase.Closed answer placed h = refl
