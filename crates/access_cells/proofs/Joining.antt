-- Which thread a thread has joined whose result it loads next, and how it comes to that.
use Rattle.std.proofs.Common.{◌≡◌, ℕ, zero, suc, ◌+◌, ◌-◌, ◌==◌, not, Bool, true, false, if◌then◌else◌, List, [], ◌∷◌, ◌++◌, length, Option, Some, None, Result, Ok, Err, refl, ap, subst, ◌∙◌, ℤ, pos}
use Rattle.std.specs.Prelude.{slice_get}
use Rattle.rr_base.specs.declared.trap.Trap.{Trap}
use Rattle.rr_base.specs.declared.trap.Trap.TheVariants as trap
use Rattle.rr_base.specs.declared.layout.CellKind.TheVariants as kind
use Rattle.sync_objects.specs.Setup.{SetupView}
use Rattle.sync_objects.specs.declared.object.ObjId.TheVariants as object
use Rattle.sync_objects.specs.declared.operation.Op.TheVariants as op
use Rattle.word_semantics.specs.Library.{Caller, argument, slot_in, is_misuse, is_joinable, join_thread_due, at_cell, cell_of, join_due, join_onward, library_onward, piece_of}
use Rattle.word_semantics.specs.Registers.{words_of}
use Rattle.word_semantics.specs.Values.{number}
use Rattle.word_semantics.specs.declared.event.Due.{Due}
use Rattle.word_semantics.specs.declared.event.Due.TheVariants as due
use Rattle.word_semantics.specs.declared.event.Onward.{Onward}
use Rattle.word_semantics.specs.declared.event.Onward.TheVariants as onward
use Rattle.word_semantics.specs.declared.library_call.LibraryCall.{LibraryCall}
use Rattle.word_semantics.specs.declared.library_call.LibraryCall.TheVariants as call
use Rattle.flow_code.specs.declared.act.Act.{Act}
use Rattle.flow_code.specs.declared.act.Act.TheVariants as act
use Rattle.flow_code.specs.declared.code.Code.{Code}
use Rattle.flow_code.specs.declared.region.Region.{Region}
use Rattle.flow_code.specs.declared.thread.Phase.{Phase}
use Rattle.flow_code.specs.declared.thread.Phase.TheVariants as phase
use Rattle.flow_code.specs.declared.thread.Stripe.{Stripe}
use Rattle.flow_code.specs.Holding.{region_of, lacked, taken, gives_at, open_place, to_give, parting, left_after}
use Rattle.flow_code.specs.Next.{act_at, pointers_of, computed, entered, one_made, returned, end_onward, back_in, value_of, resumed, caller, call_after, on_unless, act_due, act_after, begun_after, phase_due, phase_after}
use Rattle.flow_code.specs.Threads.{Frame, Thread, is_main}
use Rattle.flow_code.specs.Works.{work_of}
use Rattle.points_to_sound.specs.Pointing.{joined}
use Rattle.points_to_sound.proofs.Creating.{IsLive}

-- a join that has been made, and not by misuse, has the thread's number in a register yet
abbrev pub joins_at : List ℕ → Option Act → ℕ → ℤ → Option ℕ
joins_at registers (Some (act.Library call.Join arguments into)) (suc zero) kept = if is_misuse kept then None else Some (joined registers arguments)
joins_at registers _ made kept = None

abbrev pub joining_in : Code → Frame → Phase → Option ℕ
joining_in code f phase.Running = joins_at f.registers (act_at code f) f.made f.kept
joining_in code f _ = None

-- the thread that this one has joined, and whose result it loads next
abbrev pub joining : Code → Thread → Option ℕ
joining code th = joining_in code th.top th.phase

abbrev JoinsNone : Option Act → Type 0
JoinsNone o = (registers : List ℕ) (n : ℕ) (kept : ℤ) → joins_at registers o n kept ≡ None

joins_zero : (registers : List ℕ) (o : Option Act) (kept : ℤ) → joins_at registers o 0 kept ≡ None
joins_zero registers None kept = refl
joins_zero registers (Some (act.Library c arguments into)) kept = by c
  where
    by : (c : LibraryCall) → joins_at registers (Some (act.Library c arguments into)) 0 kept ≡ None
    by call.Join = refl
    by _ = refl
joins_zero registers (Some (act.Compute into w)) kept = refl
joins_zero registers (Some (act.Alloc into site size)) kept = refl
joins_zero registers (Some (act.LoadCell into through)) kept = refl
joins_zero registers (Some (act.StoreCell through value)) kept = refl
joins_zero registers (Some act.Mark) kept = refl
joins_zero registers (Some (act.Call f arguments into)) kept = refl
joins_zero registers (Some (act.Jump to)) kept = refl
joins_zero registers (Some (act.Branch on then_at else_at)) kept = refl
joins_zero registers (Some (act.Return value)) kept = refl
joins_zero registers (Some (act.Take region)) kept = refl
joins_zero registers (Some (act.Give region)) kept = refl

-- what becomes of a join by a step: it is over or none, or it was so, or it is made now, and not by misuse
pub data Joins (code : Code) (th q : Thread) (d : Due) (answer : ℤ) : Type 0 where
  none : joining code q ≡ None → Joins code th q d answer
  stays : joining code q ≡ joining code th → Joins code th q d answer
  joins : (k : ℕ) → d ≡ due.Operate op.Join (object.Slot k) → is_misuse answer ≡ false → joining code q ≡ Some k → Joins code th q d answer

-- a join that waits is due where its thread may be joined
join_live : (w : Caller) (n : ℤ) → IsLive (join_thread_due w n) → join_thread_due w n ≡ due.Operate op.Join (object.Slot (slot_in n))
join_live w n = by (is_joinable w n)
  where
    by : (b : Bool) → IsLive (if b then due.Operate op.Join (object.Slot (slot_in n)) else due.Trap trap.BadThread) → (if b then due.Operate op.Join (object.Slot (slot_in n)) else due.Trap trap.BadThread) ≡ due.Operate op.Join (object.Slot (slot_in n))
    by true live = refl
    by false live = absurd live

cell_live : (r : Result ℕ Trap) (d : Due) → IsLive (at_cell r (λ c. d)) → at_cell r (λ c. d) ≡ d
cell_live (Ok c) d live = refl
cell_live (Err e) d live = absurd live

first_live : (w : Caller) (words : List ℕ) (kept : ℤ) → IsLive (join_due w words 0 kept) → join_due w words 0 kept ≡ due.Operate op.Join (object.Slot (slot_in (number (argument words 0))))
first_live w words kept = by (argument words 1 == 0)
  where
    by : (b : Bool) → IsLive (if b then join_thread_due w (number (argument words 0)) else at_cell (cell_of w words 1 kind.Pointer) (λ c. join_thread_due w (number (argument words 0)))) → (if b then join_thread_due w (number (argument words 0)) else at_cell (cell_of w words 1 kind.Pointer) (λ c. join_thread_due w (number (argument words 0)))) ≡ due.Operate op.Join (object.Slot (slot_in (number (argument words 0))))
    by true live = join_live w (number (argument words 0)) live
    by false live =
        let e = cell_live (cell_of w words 1 kind.Pointer) (join_thread_due w (number (argument words 0))) live in
        e ∙ join_live w (number (argument words 0)) (subst IsLive e live)

module _ (code : Code) (s : SetupView) (t : ℕ) (th : Thread) where
  module _ (runs : th.phase ≡ phase.Running) where
    -- the thread in a frame of which no event is made
    fresh_frame : (q : Thread) (d : Due) (answer : ℤ) → q.phase ≡ th.phase → q.top.made ≡ 0 → Joins code th q d answer
    fresh_frame q d answer p m = none (ap (joining_in code q.top) (p ∙ runs) ∙ ap (λ n. joins_at q.top.registers (act_at code q.top) n q.top.kept) m ∙ joins_zero q.top.registers (act_at code q.top) q.top.kept)

    -- the thread at an instruction that joins none
    idle_frame : (q : Thread) (d : Due) (answer : ℤ) (o : Option Act) → q.phase ≡ th.phase → act_at code q.top ≡ o → JoinsNone o → Joins code th q d answer
    idle_frame q d answer o p at idle = none (ap (joining_in code q.top) (p ∙ runs) ∙ ap (λ a. joins_at q.top.registers a q.top.made q.top.kept) at ∙ idle q.top.registers q.top.made q.top.kept)

    computed_joins : (into : ℕ) (r : Result ℕ Trap) (d : Due) (answer : ℤ) (a : Act) → act_at code th.top ≡ Some a → JoinsNone (Some a) → Joins code th (computed th into r) d answer
    computed_joins into (Ok w) d answer a at idle = fresh_frame (computed th into (Ok w)) d answer refl refl
    computed_joins into (Err e) d answer a at idle = idle_frame th d answer (Some a) refl at idle

    end_joins : (main : Bool) (n : ℕ) (d : Due) (answer : ℤ) (value : Option ℕ) → act_at code th.top ≡ Some (act.Return value) → Joins code th (end_onward main th n) d answer
    end_joins true n d answer value at = none refl
    end_joins false zero d answer value at = idle_frame (end_onward false th zero) d answer (Some (act.Return value)) refl at (λ registers n kept. refl)
    end_joins false (suc zero) d answer value at = idle_frame (end_onward false th (suc zero)) d answer (Some (act.Return value)) refl at (λ registers n kept. refl)
    end_joins false (suc (suc n)) d answer value at = none refl

    back_joins : (w : ℕ) (o : Option Frame) (d : Due) (answer : ℤ) (value : Option ℕ) → act_at code th.top ≡ Some (act.Return value) → Joins code th (back_in code th w o) d answer
    back_joins w None d answer value at = idle_frame th d answer (Some (act.Return value)) refl at (λ registers n kept. refl)
    back_joins w (Some f) d answer value at = fresh_frame (back_in code th w (Some f)) d answer refl refl

    return_joins : (w : ℕ) (d : Due) (answer : ℤ) (value : Option ℕ) → act_at code th.top ≡ Some (act.Return value) → Joins code th (returned code th w) d answer
    return_joins w d answer value at = by (length th.below == 0)
      where
        by : (b : Bool) → Joins code th (if b then end_onward (is_main code th.top.function) th th.top.made else back_in code th w (slice_get th.below (length th.below - 1))) d answer
        by true = end_joins (is_main code th.top.function) th.top.made d answer value at
        by false = back_joins w (slice_get th.below (length th.below - 1)) d answer value at

    take_joins : (k : ℕ) (r : Option Region) (next : Option ℕ) (d : Due) (answer : ℤ) → act_at code th.top ≡ Some (act.Take k) → Joins code th (on_unless next (taken code th r next)) d answer
    take_joins k None None d answer at = fresh_frame _ d answer refl refl
    take_joins k (Some r) None d answer at = fresh_frame _ d answer refl refl
    take_joins k None (Some n) d answer at = idle_frame _ d answer (Some (act.Take k)) refl at (λ registers n kept. refl)
    take_joins k (Some r) (Some n) d answer at = idle_frame _ d answer (Some (act.Take k)) refl at (λ registers n kept. refl)

    give_joins : (k : ℕ) (place : Option ℕ) (next : Option (ℕ × ℕ)) (d : Due) (answer : ℤ) → act_at code th.top ≡ Some (act.Give k) → Joins code th (on_unless next (gives_at th place next)) d answer
    give_joins k None None d answer at = fresh_frame _ d answer refl refl
    give_joins k (Some i) None d answer at = fresh_frame _ d answer refl refl
    give_joins k None (Some n) d answer at = idle_frame _ d answer (Some (act.Give k)) refl at (λ registers n kept. refl)
    give_joins k (Some i) (Some n) d answer at = idle_frame _ d answer (Some (act.Give k)) refl at (λ registers n kept. refl)

    -- ---- calls of the library

    went_joins : (n : ℕ) (into : Option ℕ) (o : Onward) (d : Due) (answer : ℤ) (a : Act) → act_at code th.top ≡ Some a → JoinsNone (Some a) → Joins code th (resumed (record th { printed = n }) into o) d answer
    went_joins n into (onward.Stays k) d answer a at idle = idle_frame _ d answer (Some a) refl at idle
    went_joins n into (onward.Gives w) d answer a at idle = fresh_frame _ d answer refl refl
    went_joins n into onward.Ends d answer a at idle = none refl

    parted_joins : (xs : List Stripe) (d : Due) (q : Thread) (answer : ℤ) (a : Act) → act_at code th.top ≡ Some a → JoinsNone (Some a) → Joins code th q d answer → Joins code th (left_after th xs q) d answer
    parted_joins [] d q answer a at idle c = c
    parted_joins (y ∷ ys) d q answer a at idle c = idle_frame _ d answer (Some a) refl at idle

    other_joins : (c : LibraryCall) (arguments : List ℕ) (into : Option ℕ) (d : Due) (answer : ℤ) → act_at code th.top ≡ Some (act.Library c arguments into) → JoinsNone (Some (act.Library c arguments into)) → Joins code th (left_after th (parting c th.top.made th.stripes) (call_after code s t th c arguments into answer)) d answer
    other_joins c arguments into d answer at idle =
        parted_joins (parting c th.top.made th.stripes) d (call_after code s t th c arguments into answer) answer (act.Library c arguments into) at idle
        (went_joins (th.printed + length (piece_of c (words_of th.top.registers arguments))) into (library_onward (caller code s t th) c (words_of th.top.registers arguments) th.top.made th.top.kept answer) d answer (act.Library c arguments into) at idle)

    -- the thread stays at its join with one event more
    one_more_is : (arguments : List ℕ) (into : Option ℕ) (p n : ℕ) (kept : ℤ) → act_at code th.top ≡ Some (act.Library call.Join arguments into) → th.top.made ≡ n → joining code (resumed (record th { printed = p }) into (onward.Stays kept)) ≡ joins_at th.top.registers (Some (act.Library call.Join arguments into)) (n + 1) kept
    one_more_is arguments into p n kept at m = ap (joining_in code (one_made th.top kept)) runs ∙ ap (λ a. joins_at th.top.registers a (th.top.made + 1) kept) at ∙ ap (λ j. joins_at th.top.registers (Some (act.Library call.Join arguments into)) (j + 1) kept) m

    misused : (kept : ℤ) (k : ℕ) → is_misuse kept ≡ true → (if is_misuse kept then None else Some k) ≡ None
    misused kept k e = ap (λ b. if b then None else Some k) e

    well_used : (kept : ℤ) (k : ℕ) → is_misuse kept ≡ false → (if is_misuse kept then None else Some k) ≡ Some k
    well_used kept k e = ap (λ b. if b then None else Some k) e

    first_joins : (arguments : List ℕ) (into : Option ℕ) (p : ℕ) (answer : ℤ) (d : Due) → act_at code th.top ≡ Some (act.Library call.Join arguments into) → th.top.made ≡ 0 → d ≡ due.Operate op.Join (object.Slot (joined th.top.registers arguments)) → Joins code th (resumed (record th { printed = p }) into (join_onward (not (argument (words_of th.top.registers arguments) 1 == 0)) 0 answer)) d answer
    first_joins arguments into p answer d at m is = by (is_misuse answer) refl (not (argument (words_of th.top.registers arguments) 1 == 0))
      where
        by : (b : Bool) → is_misuse answer ≡ b → (asked : Bool) → Joins code th (resumed (record th { printed = p }) into (if b then onward.Stays answer else (if asked then onward.Stays answer else onward.Gives 0))) d answer
        by true e asked = none (one_more_is arguments into p 0 answer at m ∙ misused answer (joined th.top.registers arguments) e)
        by false e true = joins (joined th.top.registers arguments) is e (one_more_is arguments into p 0 answer at m ∙ well_used answer (joined th.top.registers arguments) e)
        by false e false = fresh_frame _ d answer refl refl

    join_joins : (arguments : List ℕ) (into : Option ℕ) (p n : ℕ) (answer : ℤ) → act_at code th.top ≡ Some (act.Library call.Join arguments into) → th.top.made ≡ n → IsLive (join_due (caller code s t th) (words_of th.top.registers arguments) n th.top.kept) → Joins code th (resumed (record th { printed = p }) into (join_onward (not (argument (words_of th.top.registers arguments) 1 == 0)) n answer)) (join_due (caller code s t th) (words_of th.top.registers arguments) n th.top.kept) answer
    join_joins arguments into p zero answer at m live = first_joins arguments into p answer (join_due (caller code s t th) (words_of th.top.registers arguments) 0 th.top.kept) at m (first_live (caller code s t th) (words_of th.top.registers arguments) th.top.kept live)
    join_joins arguments into p (suc zero) answer at m live = none (one_more_is arguments into p 1 answer at m)
    join_joins arguments into p (suc (suc n)) answer at m live = fresh_frame _ _ answer refl refl

    library_joins : (c : LibraryCall) (arguments : List ℕ) (into : Option ℕ) (answer : ℤ) → act_at code th.top ≡ Some (act.Library c arguments into) → IsLive (act_due code s t th (Some (act.Library c arguments into))) → Joins code th (act_after code s t th (Some (act.Library c arguments into)) answer) (act_due code s t th (Some (act.Library c arguments into))) answer
    library_joins (call.Create f) arguments into answer at live = other_joins (call.Create f) arguments into (act_due code s t th (Some (act.Library (call.Create f) arguments into))) answer at (λ registers n kept. refl)
    library_joins call.Exit arguments into answer at live = other_joins call.Exit arguments into (act_due code s t th (Some (act.Library call.Exit arguments into))) answer at (λ registers n kept. refl)
    library_joins call.Join arguments into answer at live = join_joins arguments into (th.printed + length (piece_of call.Join (words_of th.top.registers arguments))) th.top.made answer at refl live
    library_joins call.SelfNumber arguments into answer at live = other_joins call.SelfNumber arguments into _ answer at (λ registers n kept. refl)
    library_joins call.SameThread arguments into answer at live = other_joins call.SameThread arguments into _ answer at (λ registers n kept. refl)
    library_joins call.MutexInit arguments into answer at live = other_joins call.MutexInit arguments into _ answer at (λ registers n kept. refl)
    library_joins call.MutexLock arguments into answer at live = other_joins call.MutexLock arguments into _ answer at (λ registers n kept. refl)
    library_joins call.MutexUnlock arguments into answer at live = other_joins call.MutexUnlock arguments into _ answer at (λ registers n kept. refl)
    library_joins call.MutexTryLock arguments into answer at live = other_joins call.MutexTryLock arguments into _ answer at (λ registers n kept. refl)
    library_joins call.MutexDestroy arguments into answer at live = other_joins call.MutexDestroy arguments into _ answer at (λ registers n kept. refl)
    library_joins call.CondInit arguments into answer at live = other_joins call.CondInit arguments into _ answer at (λ registers n kept. refl)
    library_joins call.CondWait arguments into answer at live = other_joins call.CondWait arguments into _ answer at (λ registers n kept. refl)
    library_joins call.CondSignal arguments into answer at live = other_joins call.CondSignal arguments into _ answer at (λ registers n kept. refl)
    library_joins call.CondDestroy arguments into answer at live = other_joins call.CondDestroy arguments into _ answer at (λ registers n kept. refl)
    library_joins call.BarrierInit arguments into answer at live = other_joins call.BarrierInit arguments into _ answer at (λ registers n kept. refl)
    library_joins call.BarrierWait arguments into answer at live = other_joins call.BarrierWait arguments into _ answer at (λ registers n kept. refl)
    library_joins call.BarrierDestroy arguments into answer at live = other_joins call.BarrierDestroy arguments into _ answer at (λ registers n kept. refl)
    library_joins call.RwInit arguments into answer at live = other_joins call.RwInit arguments into _ answer at (λ registers n kept. refl)
    library_joins call.RwRdLock arguments into answer at live = other_joins call.RwRdLock arguments into _ answer at (λ registers n kept. refl)
    library_joins call.RwWrLock arguments into answer at live = other_joins call.RwWrLock arguments into _ answer at (λ registers n kept. refl)
    library_joins call.RwUnlock arguments into answer at live = other_joins call.RwUnlock arguments into _ answer at (λ registers n kept. refl)
    library_joins call.RwDestroy arguments into answer at live = other_joins call.RwDestroy arguments into _ answer at (λ registers n kept. refl)
    library_joins call.Free arguments into answer at live = other_joins call.Free arguments into _ answer at (λ registers n kept. refl)
    library_joins call.GetChar arguments into answer at live = other_joins call.GetChar arguments into _ answer at (λ registers n kept. refl)
    library_joins (call.Print format) arguments into answer at live = other_joins (call.Print format) arguments into _ answer at (λ registers n kept. refl)
    library_joins call.PutChar arguments into answer at live = other_joins call.PutChar arguments into _ answer at (λ registers n kept. refl)

    act_joins : (o : Option Act) (answer : ℤ) → act_at code th.top ≡ o → IsLive (act_due code s t th o) → Joins code th (act_after code s t th o answer) (act_due code s t th o) answer
    act_joins None answer at live = absurd live
    act_joins (Some (act.Compute into w)) answer at live = computed_joins into (work_of s.slots code.sites (pointers_of code th.top) th.top.registers w) _ answer (act.Compute into w) at (λ registers n kept. refl)
    act_joins (Some (act.Alloc into site None)) answer at live = fresh_frame _ _ answer refl refl
    act_joins (Some (act.Alloc into site (Some size))) answer at live = fresh_frame _ _ answer refl refl
    act_joins (Some (act.LoadCell into through)) answer at live = fresh_frame _ _ answer refl refl
    act_joins (Some (act.StoreCell through value)) answer at live = fresh_frame _ _ answer refl refl
    act_joins (Some act.Mark) answer at live = fresh_frame _ _ answer refl refl
    act_joins (Some (act.Call f arguments into)) answer at live = none (joins_zero _ (act_at code (entered code s t th (th.below ++ one_made th.top (pos 0) ∷ []) f (words_of th.top.registers arguments)).top) (pos 0))
    act_joins (Some (act.Library c arguments into)) answer at live = library_joins c arguments into answer at live
    act_joins (Some (act.Jump to)) answer at live = fresh_frame _ _ answer refl refl
    act_joins (Some (act.Branch on a b)) answer at live = fresh_frame _ _ answer refl refl
    act_joins (Some (act.Return value)) answer at live = return_joins (value_of th.top.registers value) _ answer value at
    act_joins (Some (act.Take k)) answer at live = take_joins k (region_of code th.top k) (lacked code th (region_of code th.top k)) _ answer at
    act_joins (Some (act.Give k)) answer at live = give_joins k (open_place code th k) (to_give code th k) _ answer at

begun_joins : (code : Code) (s : SetupView) (t : ℕ) (th : Thread) (f : ℕ) (d : Due) (answer : ℤ) → Joins code th (begun_after code s t th f answer) d answer
begun_joins code s zero th f d answer = none (joins_zero _ (act_at code (entered code s zero th [] f []).top) (pos 0))
begun_joins code s (suc k) th f d answer = none refl

pub phase_joins : (code : Code) (s : SetupView) (t : ℕ) (th : Thread) (p : Phase) (answer : ℤ) → th.phase ≡ p → IsLive (phase_due code s t th p) → Joins code th (phase_after code s t th p answer) (phase_due code s t th p) answer
phase_joins code s t th phase.Fresh answer e live = none refl
phase_joins code s t th (phase.Begun f) answer e live = begun_joins code s t th f _ answer
phase_joins code s t th (phase.Loaded f w) answer e live = none (joins_zero _ (act_at code (entered code s t th [] f (w ∷ [])).top) (pos 0))
phase_joins code s t th phase.Running answer e live = act_joins code s t th e (act_at code th.top) answer refl live
phase_joins code s t th phase.Ended answer e live = absurd live
phase_joins code s t th phase.Halted answer e live = absurd live
phase_joins code s t th (phase.Trapped kind line) answer e live = absurd live
phase_joins code s t th phase.Stopped answer e live = absurd live
phase_joins code s t th phase.Closed answer e live = absurd live
