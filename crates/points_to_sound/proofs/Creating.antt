-- How a thread comes to create another: it draws a number, hands over the argument, and starts the thread.
use Rattle.std.proofs.Common.{◌≡◌, ℕ, zero, suc, ◌+◌, ◌-◌, ◌==◌, Bool, true, false, if◌then◌else◌, List, [], ◌∷◌, ◌++◌, length, Option, Some, None, Result, Ok, Err, refl, sym, ap, ◌∙◌, ℤ, pos, negsuc}
use Rattle.std.specs.Prelude.{slice_get}
use Rattle.rr_base.specs.declared.trap.Trap.{Trap}
use Rattle.rr_base.specs.declared.layout.CellKind.TheVariants as kind
use Rattle.sync_objects.specs.Setup.{SetupView}
use Rattle.sync_objects.specs.declared.object.ObjId.{ObjId}
use Rattle.sync_objects.specs.declared.object.ObjId.TheVariants as object
use Rattle.sync_objects.specs.declared.operation.Op.TheVariants as op
use Rattle.word_semantics.specs.Cells.{argument_cell}
use Rattle.word_semantics.specs.Library.{argument, slot_in, at_cell, cell_of, create_due, create_onward, library_onward, piece_of}
use Rattle.word_semantics.specs.Registers.{words_of}
use Rattle.word_semantics.specs.Values.{word}
use Rattle.word_semantics.specs.declared.event.Due.{Due}
use Rattle.word_semantics.specs.declared.event.Due.TheVariants as due
use Rattle.word_semantics.specs.declared.event.Onward.{Onward}
use Rattle.word_semantics.specs.declared.event.Onward.TheVariants as onward
use Rattle.word_semantics.specs.declared.library_call.LibraryCall.{LibraryCall}
use Rattle.word_semantics.specs.declared.library_call.LibraryCall.TheVariants as call
use Rattle.flow_code.specs.declared.act.Act.{Act}
use Rattle.flow_code.specs.declared.act.Act.TheVariants as act
use Rattle.flow_code.specs.declared.code.Code.{Code}
use Rattle.flow_code.specs.declared.region.Region.{Region}
use Rattle.flow_code.specs.declared.thread.Phase.{Phase}
use Rattle.flow_code.specs.declared.thread.Phase.TheVariants as phase
use Rattle.flow_code.specs.declared.thread.Stripe.{Stripe}
use Rattle.flow_code.specs.Holding.{region_of, lacked, taken, gives_at, open_place, to_give, parting, left_after}
use Rattle.flow_code.specs.Next.{act_at, pointers_of, computed, entered, one_made, returned, end_onward, back_in, value_of, resumed, caller, call_after, on_unless, act_due, act_after, begun_after, phase_due, phase_after}
use Rattle.flow_code.specs.Threads.{Frame, Thread, is_main}
use Rattle.flow_code.specs.Works.{work_of}
use Rattle.points_to_sound.specs.Creations.{creation_at, creation_in, creation}

pub creation_zero : (o : Option Act) (kept : ℤ) → creation_at o 0 kept ≡ None
creation_zero None kept = refl
creation_zero (Some (act.Library c arguments into)) kept = by c
  where
    by : (c : LibraryCall) → creation_at (Some (act.Library c arguments into)) 0 kept ≡ None
    by (call.Create f) = refl
    by _ = refl
creation_zero (Some (act.Compute into w)) kept = refl
creation_zero (Some (act.Alloc into site size)) kept = refl
creation_zero (Some (act.LoadCell into through)) kept = refl
creation_zero (Some (act.StoreCell through from)) kept = refl
creation_zero (Some act.Mark) kept = refl
creation_zero (Some (act.Call f arguments into)) kept = refl
creation_zero (Some (act.Jump to)) kept = refl
creation_zero (Some (act.Branch on then_at else_at)) kept = refl
creation_zero (Some (act.Return value)) kept = refl
creation_zero (Some (act.Take region)) kept = refl
creation_zero (Some (act.Give region)) kept = refl

-- the frame's own instruction creates no thread
abbrev pub CreatesNone : Option Act → Type 0
CreatesNone o = (n : ℕ) (kept : ℤ) → creation_at o n kept ≡ None

-- an instruction is live where it doesn't trap
abbrev pub IsLive : Due → Type 0
IsLive due.Nothing = ⊥
IsLive (due.Trap kind) = ⊥
IsLive _ = Unit {0}

-- what becomes of a thread's creation by a step
pub data Creates (code : Code) (s : SetupView) (th q : Thread) (d : Due) (answer : ℤ) : Type 0 where
  none : creation code q ≡ None → Creates code s th q d answer
  stays : creation code q ≡ creation code th → ((f : ℕ) (obj : ObjId) → d ≡ due.Operate (op.Start f) obj → ⊥) → Creates code s th q d answer
  draws : (f : ℕ) → d ≡ due.Operate (op.Draw s.slots) object.Threads → (answer ≡ pos 0 → ⊥) → creation code q ≡ Some (record { slot = slot_in answer; function = f; handed = false }) → Creates code s th q d answer
  hands : (slot f w : ℕ) → creation code th ≡ Some (record { slot = slot; function = f; handed = false }) → d ≡ due.Store (argument_cell slot) w → creation code q ≡ Some (record { slot = slot; function = f; handed = true }) → Creates code s th q d answer

at_cell_starts : (r : Result ℕ Trap) (w f : ℕ) (obj : ObjId) → at_cell r (λ c. due.Store c w) ≡ due.Operate (op.Start f) obj → ⊥
at_cell_starts (Ok c) w f obj e = cc
at_cell_starts (Err x) w f obj e = cc

module _ (code : Code) (s : SetupView) (t : ℕ) (th : Thread) where
  module _ (runs : th.phase ≡ phase.Running) where
    -- the thread in a frame of which no event is made
    fresh_frame : (q : Thread) (d : Due) (answer : ℤ) → q.phase ≡ th.phase → q.top.made ≡ 0 → Creates code s th q d answer
    fresh_frame q d answer p m = none (ap (creation_in code q.top) (p ∙ runs) ∙ ap (λ n. creation_at (act_at code q.top) n q.top.kept) m ∙ creation_zero (act_at code q.top) q.top.kept)

    -- the thread at an instruction that creates none
    idle_frame : (q : Thread) (d : Due) (answer : ℤ) (o : Option Act) → q.phase ≡ th.phase → act_at code q.top ≡ o → CreatesNone o → Creates code s th q d answer
    idle_frame q d answer o p at idle = none (ap (creation_in code q.top) (p ∙ runs) ∙ ap (λ a. creation_at a q.top.made q.top.kept) at ∙ idle q.top.made q.top.kept)

    left_frames : (q : Thread) (d : Due) (answer : ℤ) → creation_in code q.top q.phase ≡ None → Creates code s th q d answer
    left_frames q d answer e = none e

    computed_creates : (into : ℕ) (r : Result ℕ Trap) (d : Due) (answer : ℤ) (a : Act) → act_at code th.top ≡ Some a → CreatesNone (Some a) → Creates code s th (computed th into r) d answer
    computed_creates into (Ok w) d answer a at idle = fresh_frame (computed th into (Ok w)) d answer refl refl
    computed_creates into (Err e) d answer a at idle = idle_frame th d answer (Some a) refl at idle

    end_creates : (main : Bool) (n : ℕ) (d : Due) (answer : ℤ) (value : Option ℕ) → act_at code th.top ≡ Some (act.Return value) → Creates code s th (end_onward main th n) d answer
    end_creates true n d answer value at = left_frames (end_onward true th n) d answer refl
    end_creates false zero d answer value at = idle_frame (end_onward false th zero) d answer (Some (act.Return value)) refl at (λ n kept. refl)
    end_creates false (suc zero) d answer value at = idle_frame (end_onward false th (suc zero)) d answer (Some (act.Return value)) refl at (λ n kept. refl)
    end_creates false (suc (suc n)) d answer value at = left_frames (end_onward false th (suc (suc n))) d answer refl

    back_creates : (w : ℕ) (o : Option Frame) (d : Due) (answer : ℤ) (value : Option ℕ) → act_at code th.top ≡ Some (act.Return value) → Creates code s th (back_in code th w o) d answer
    back_creates w None d answer value at = idle_frame th d answer (Some (act.Return value)) refl at (λ n kept. refl)
    back_creates w (Some f) d answer value at = fresh_frame (back_in code th w (Some f)) d answer refl refl

    return_creates : (w : ℕ) (d : Due) (answer : ℤ) (value : Option ℕ) → act_at code th.top ≡ Some (act.Return value) → Creates code s th (returned code th w) d answer
    return_creates w d answer value at = by (length th.below == 0)
      where
        by : (b : Bool) → Creates code s th (if b then end_onward (is_main code th.top.function) th th.top.made else back_in code th w (slice_get th.below (length th.below - 1))) d answer
        by true = end_creates (is_main code th.top.function) th.top.made d answer value at
        by false = back_creates w (slice_get th.below (length th.below - 1)) d answer value at

    take_creates : (k : ℕ) (r : Option Region) (next : Option ℕ) (d : Due) (answer : ℤ) → act_at code th.top ≡ Some (act.Take k) → Creates code s th (on_unless next (taken code th r next)) d answer
    take_creates k None None d answer at = fresh_frame _ d answer refl refl
    take_creates k (Some r) None d answer at = fresh_frame _ d answer refl refl
    take_creates k None (Some n) d answer at = idle_frame _ d answer (Some (act.Take k)) refl at (λ n kept. refl)
    take_creates k (Some r) (Some n) d answer at = idle_frame _ d answer (Some (act.Take k)) refl at (λ n kept. refl)

    give_creates : (k : ℕ) (place : Option ℕ) (next : Option (ℕ × ℕ)) (d : Due) (answer : ℤ) → act_at code th.top ≡ Some (act.Give k) → Creates code s th (on_unless next (gives_at th place next)) d answer
    give_creates k None None d answer at = fresh_frame _ d answer refl refl
    give_creates k (Some i) None d answer at = fresh_frame _ d answer refl refl
    give_creates k None (Some n) d answer at = idle_frame _ d answer (Some (act.Give k)) refl at (λ n kept. refl)
    give_creates k (Some i) (Some n) d answer at = idle_frame _ d answer (Some (act.Give k)) refl at (λ n kept. refl)

    -- ---- calls of the library

    went_creates : (n : ℕ) (into : Option ℕ) (o : Onward) (d : Due) (answer : ℤ) (a : Act) → act_at code th.top ≡ Some a → CreatesNone (Some a) → Creates code s th (resumed (record th { printed = n }) into o) d answer
    went_creates n into (onward.Stays k) d answer a at idle = idle_frame _ d answer (Some a) refl at idle
    went_creates n into (onward.Gives w) d answer a at idle = fresh_frame _ d answer refl refl
    went_creates n into onward.Ends d answer a at idle = left_frames _ d answer refl

    parted_creates : (xs : List Stripe) (d : Due) (q : Thread) (answer : ℤ) (a : Act) → act_at code th.top ≡ Some a → CreatesNone (Some a) → Creates code s th q d answer → Creates code s th (left_after th xs q) d answer
    parted_creates [] d q answer a at idle c = c
    parted_creates (y ∷ ys) d q answer a at idle c = idle_frame _ d answer (Some a) refl at idle

    other_creates : (c : LibraryCall) (arguments : List ℕ) (into : Option ℕ) (d : Due) (answer : ℤ) → act_at code th.top ≡ Some (act.Library c arguments into) → CreatesNone (Some (act.Library c arguments into)) → Creates code s th (left_after th (parting c th.top.made th.stripes) (call_after code s t th c arguments into answer)) d answer
    other_creates c arguments into d answer at idle =
        parted_creates (parting c th.top.made th.stripes) d (call_after code s t th c arguments into answer) answer (act.Library c arguments into) at idle
        (went_creates (th.printed + length (piece_of c (words_of th.top.registers arguments))) into (library_onward (caller code s t th) c (words_of th.top.registers arguments) th.top.made th.top.kept answer) d answer (act.Library c arguments into) at idle)

    drawn : (f : ℕ) (arguments : List ℕ) (into : Option ℕ) (n : ℕ) (kept answer : ℤ) (r : Result ℕ Trap) → act_at code th.top ≡ Some (act.Library (call.Create f) arguments into) → th.top.made ≡ 0 → IsLive (at_cell r (λ c. due.Operate (op.Draw s.slots) object.Threads)) → Creates code s th (resumed (record th { printed = n }) into (create_onward zero kept answer)) (at_cell r (λ c. due.Operate (op.Draw s.slots) object.Threads)) answer
    drawn f arguments into n kept answer (Err e) at m live = absurd live
    drawn f arguments into n kept (pos zero) (Ok c) at m live = fresh_frame _ _ _ refl refl
    drawn f arguments into n kept (pos (suc k)) (Ok c) at m live = draws f refl (λ e. cc) (ap (creation_in code (one_made th.top (pos (suc k)))) runs ∙ ap (λ a. creation_at a (th.top.made + 1) (pos (suc k))) at ∙ ap (λ j. creation_at (Some (act.Library (call.Create f) arguments into)) (j + 1) (pos (suc k))) m)
    drawn f arguments into n kept (negsuc k) (Ok c) at m live = draws f refl (λ e. cc) (ap (creation_in code (one_made th.top (negsuc k))) runs ∙ ap (λ a. creation_at a (th.top.made + 1) (negsuc k)) at ∙ ap (λ j. creation_at (Some (act.Library (call.Create f) arguments into)) (j + 1) (negsuc k)) m)

    -- where so many events of pthread_create are made
    pub creating_at : (f : ℕ) (arguments : List ℕ) (into : Option ℕ) (n : ℕ) → act_at code th.top ≡ Some (act.Library (call.Create f) arguments into) → th.top.made ≡ n → creation code th ≡ creation_at (Some (act.Library (call.Create f) arguments into)) n th.top.kept
    creating_at f arguments into n at m = ap (creation_in code th.top) runs ∙ ap (λ a. creation_at a th.top.made th.top.kept) at ∙ ap (λ j. creation_at (Some (act.Library (call.Create f) arguments into)) j th.top.kept) m

    create_creates : (f : ℕ) (arguments : List ℕ) (into : Option ℕ) (p n : ℕ) (answer : ℤ) → act_at code th.top ≡ Some (act.Library (call.Create f) arguments into) → th.top.made ≡ n → IsLive (create_due (caller code s t th) f (words_of th.top.registers arguments) n th.top.kept) → Creates code s th (resumed (record th { printed = p }) into (create_onward n th.top.kept answer)) (create_due (caller code s t th) f (words_of th.top.registers arguments) n th.top.kept) answer
    create_creates f arguments into p zero answer at m live = drawn f arguments into p th.top.kept answer (cell_of (caller code s t th) (words_of th.top.registers arguments) 0 kind.Whole) at m live
    create_creates f arguments into p (suc zero) answer at m live =
        hands (slot_in th.top.kept) f (argument (words_of th.top.registers arguments) 1) (creating_at f arguments into (suc zero) at m) refl
        (ap (creation_in code (one_made th.top th.top.kept)) runs ∙ ap (λ a. creation_at a (th.top.made + 1) th.top.kept) at ∙ ap (λ j. creation_at (Some (act.Library (call.Create f) arguments into)) (j + 1) th.top.kept) m)
    create_creates f arguments into p (suc (suc zero)) answer at m live =
        stays (ap (creation_in code (one_made th.top th.top.kept)) runs ∙ ap (λ a. creation_at a (th.top.made + 1) th.top.kept) at ∙ ap (λ j. creation_at (Some (act.Library (call.Create f) arguments into)) (j + 1) th.top.kept) m ∙ sym (creating_at f arguments into (suc (suc zero)) at m))
        (λ g obj. at_cell_starts (cell_of (caller code s t th) (words_of th.top.registers arguments) 0 kind.Whole) (word th.top.kept) g obj)
    create_creates f arguments into p (suc (suc (suc n))) answer at m live = fresh_frame _ _ _ refl refl

    library_creates : (c : LibraryCall) (arguments : List ℕ) (into : Option ℕ) (answer : ℤ) → act_at code th.top ≡ Some (act.Library c arguments into) → IsLive (act_due code s t th (Some (act.Library c arguments into))) → Creates code s th (act_after code s t th (Some (act.Library c arguments into)) answer) (act_due code s t th (Some (act.Library c arguments into))) answer
    library_creates (call.Create f) arguments into answer at live = create_creates f arguments into (th.printed + length (piece_of (call.Create f) (words_of th.top.registers arguments))) th.top.made answer at refl live
    library_creates call.Exit arguments into answer at live = other_creates call.Exit arguments into (act_due code s t th (Some (act.Library call.Exit arguments into))) answer at (λ n kept. refl)
    library_creates call.Join arguments into answer at live = other_creates call.Join arguments into (act_due code s t th (Some (act.Library call.Join arguments into))) answer at (λ n kept. refl)
    library_creates call.SelfNumber arguments into answer at live = other_creates call.SelfNumber arguments into _ answer at (λ n kept. refl)
    library_creates call.SameThread arguments into answer at live = other_creates call.SameThread arguments into _ answer at (λ n kept. refl)
    library_creates call.MutexInit arguments into answer at live = other_creates call.MutexInit arguments into _ answer at (λ n kept. refl)
    library_creates call.MutexLock arguments into answer at live = other_creates call.MutexLock arguments into _ answer at (λ n kept. refl)
    library_creates call.MutexUnlock arguments into answer at live = other_creates call.MutexUnlock arguments into _ answer at (λ n kept. refl)
    library_creates call.MutexTryLock arguments into answer at live = other_creates call.MutexTryLock arguments into _ answer at (λ n kept. refl)
    library_creates call.MutexDestroy arguments into answer at live = other_creates call.MutexDestroy arguments into _ answer at (λ n kept. refl)
    library_creates call.CondInit arguments into answer at live = other_creates call.CondInit arguments into _ answer at (λ n kept. refl)
    library_creates call.CondWait arguments into answer at live = other_creates call.CondWait arguments into _ answer at (λ n kept. refl)
    library_creates call.CondSignal arguments into answer at live = other_creates call.CondSignal arguments into _ answer at (λ n kept. refl)
    library_creates call.CondDestroy arguments into answer at live = other_creates call.CondDestroy arguments into _ answer at (λ n kept. refl)
    library_creates call.BarrierInit arguments into answer at live = other_creates call.BarrierInit arguments into _ answer at (λ n kept. refl)
    library_creates call.BarrierWait arguments into answer at live = other_creates call.BarrierWait arguments into _ answer at (λ n kept. refl)
    library_creates call.BarrierDestroy arguments into answer at live = other_creates call.BarrierDestroy arguments into _ answer at (λ n kept. refl)
    library_creates call.RwInit arguments into answer at live = other_creates call.RwInit arguments into _ answer at (λ n kept. refl)
    library_creates call.RwRdLock arguments into answer at live = other_creates call.RwRdLock arguments into _ answer at (λ n kept. refl)
    library_creates call.RwWrLock arguments into answer at live = other_creates call.RwWrLock arguments into _ answer at (λ n kept. refl)
    library_creates call.RwUnlock arguments into answer at live = other_creates call.RwUnlock arguments into _ answer at (λ n kept. refl)
    library_creates call.RwDestroy arguments into answer at live = other_creates call.RwDestroy arguments into _ answer at (λ n kept. refl)
    library_creates call.Free arguments into answer at live = other_creates call.Free arguments into _ answer at (λ n kept. refl)
    library_creates call.GetChar arguments into answer at live = other_creates call.GetChar arguments into _ answer at (λ n kept. refl)
    library_creates (call.Print format) arguments into answer at live = other_creates (call.Print format) arguments into _ answer at (λ n kept. refl)
    library_creates call.PutChar arguments into answer at live = other_creates call.PutChar arguments into _ answer at (λ n kept. refl)

    act_creates : (o : Option Act) (answer : ℤ) → act_at code th.top ≡ o → IsLive (act_due code s t th o) → Creates code s th (act_after code s t th o answer) (act_due code s t th o) answer
    act_creates None answer at live = absurd live
    act_creates (Some (act.Compute into w)) answer at live = computed_creates into (work_of s.slots code.sites (pointers_of code th.top) th.top.registers w) _ answer (act.Compute into w) at (λ n kept. refl)
    act_creates (Some (act.Alloc into site None)) answer at live = fresh_frame _ _ answer refl refl
    act_creates (Some (act.Alloc into site (Some size))) answer at live = fresh_frame _ _ answer refl refl
    act_creates (Some (act.LoadCell into through)) answer at live = fresh_frame _ _ answer refl refl
    act_creates (Some (act.StoreCell through from)) answer at live = fresh_frame _ _ answer refl refl
    act_creates (Some act.Mark) answer at live = fresh_frame _ _ answer refl refl
    act_creates (Some (act.Call f arguments into)) answer at live = none (creation_zero (act_at code (entered code s t th (th.below ++ one_made th.top (pos 0) ∷ []) f (words_of th.top.registers arguments)).top) (pos 0))
    act_creates (Some (act.Library c arguments into)) answer at live = library_creates c arguments into answer at live
    act_creates (Some (act.Jump to)) answer at live = fresh_frame _ _ answer refl refl
    act_creates (Some (act.Branch on a b)) answer at live = fresh_frame _ _ answer refl refl
    act_creates (Some (act.Return value)) answer at live = return_creates (value_of th.top.registers value) _ answer value at
    act_creates (Some (act.Take k)) answer at live = take_creates k (region_of code th.top k) (lacked code th (region_of code th.top k)) _ answer at
    act_creates (Some (act.Give k)) answer at live = give_creates k (open_place code th k) (to_give code th k) _ answer at

begun_creates : (code : Code) (s : SetupView) (t : ℕ) (th : Thread) (f : ℕ) (d : Due) (answer : ℤ) → Creates code s th (begun_after code s t th f answer) d answer
begun_creates code s zero th f d answer = none (creation_zero (act_at code (entered code s zero th [] f []).top) (pos 0))
begun_creates code s (suc k) th f d answer = none refl

pub phase_creates : (code : Code) (s : SetupView) (t : ℕ) (th : Thread) (p : Phase) (answer : ℤ) → th.phase ≡ p → IsLive (phase_due code s t th p) → Creates code s th (phase_after code s t th p answer) (phase_due code s t th p) answer
phase_creates code s t th phase.Fresh answer e live = none refl
phase_creates code s t th (phase.Begun f) answer e live = begun_creates code s t th f _ answer
phase_creates code s t th (phase.Loaded f w) answer e live = none (creation_zero (act_at code (entered code s t th [] f (w ∷ [])).top) (pos 0))
phase_creates code s t th phase.Running answer e live = act_creates code s t th e (act_at code th.top) answer refl live
phase_creates code s t th phase.Ended answer e live = absurd live
phase_creates code s t th phase.Halted answer e live = absurd live
phase_creates code s t th (phase.Trapped kind line) answer e live = absurd live
phase_creates code s t th phase.Stopped answer e live = absurd live
phase_creates code s t th phase.Closed answer e live = absurd live
