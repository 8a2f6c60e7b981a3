-- What comes next in a thread, and the state after it: quiet steps, which touch nothing but the thread itself, then a load, a
-- store, a mark or an operation.
use Rattle.std.specs.Prelude.{ℕ, zero, suc, ◌+◌, ◌-◌, ◌==◌, nat_le, ◌&&◌, ◌||◌, Bool, true, false, not, if◌then◌else◌, ℤ, pos, List, [], ◌∷◌, ◌++◌, length, take, position, Option, Some, None, slice_get, slice_set, Result, Ok, Err}
use Rattle.sync_objects.specs.Setup.{SetupView}
use Rattle.sync_objects.specs.Names.{name_of, is_ending, is_weak}
use Rattle.sync_objects.specs.declared.object.ObjId.TheVariants as object
use Rattle.sync_objects.specs.declared.operation.Op.{Op}
use Rattle.sync_objects.specs.declared.operation.Op.TheVariants as op
use Rattle.rr_base.specs.declared.trap.Trap.{Trap}
use Rattle.rr_base.specs.declared.trap.Trap.TheVariants as trap
use Rattle.rr_base.specs.declared.layout.CellKind.{CellKind}
use Rattle.rr_base.specs.declared.layout.CellKind.TheVariants as kind
use Rattle.flow_code.specs.declared.act.Act.{Act}
use Rattle.flow_code.specs.declared.act.Act.TheVariants as act
use Rattle.flow_code.specs.declared.act.Instr.{Instr}
use Rattle.word_semantics.specs.declared.library_call.LibraryCall.{LibraryCall}
use Rattle.flow_code.specs.declared.code.Code.{Code}
use Rattle.flow_code.specs.declared.code.Function.{Function}
use Rattle.flow_code.specs.declared.thread.Phase.{Phase}
use Rattle.flow_code.specs.declared.thread.Phase.TheVariants as phase
use Rattle.flow_code.specs.declared.thread.Stripe.{Stripe}
use Rattle.word_semantics.specs.declared.event.Due.{Due}
use Rattle.word_semantics.specs.declared.event.Due.TheVariants as due
use Rattle.word_semantics.specs.declared.event.Action.{Action}
use Rattle.word_semantics.specs.declared.event.Action.TheVariants as action
use Rattle.word_semantics.specs.declared.event.Onward.{Onward}
use Rattle.word_semantics.specs.declared.event.Onward.TheVariants as onward
use Rattle.word_semantics.specs.Values.{number, word}
use Rattle.word_semantics.specs.Pointers.{resolved, pointer_at}
use Rattle.flow_code.specs.Works.{is_pointer, work_of}
use Rattle.word_semantics.specs.Registers.{register, words_of}
use Rattle.word_semantics.specs.Library.{Caller, count_in, library_due, library_onward, piece_of}
use Rattle.flow_code.specs.Holding.{region_of, lacked, take_due, taken, to_give, give_due, gave, parting, parting_due, left_after}
use Rattle.flow_code.specs.Threads.{Frame, Thread, arena_end, instr_at, line_of, is_main, objects_in, fitted, first_frame}
use Rattle.word_semantics.specs.Cells.{argument_cell, result_cell, size_of, access_kind, cells_in, is_size}
use Rattle.word_semantics.specs.Limits.{is_free_of_limit, most_entries, most_frames}

-- ---- frames

-- the frame after its instruction
abbrev pub past : Frame → Frame
past f = record f { instr = f.instr + 1; made = 0; kept = pos 0 }

-- the frame at another instruction
abbrev pub jumped : Frame → ℕ → Frame
jumped f to = record f { instr = to; made = 0; kept = pos 0 }

-- the frame once register r holds the word w
abbrev pub with_register : Frame → ℕ → ℕ → Frame
with_register f r w = record f { registers = slice_set f.registers r w }

-- the frame with a value in the register that is to get it, if one is
abbrev pub given : Frame → Option ℕ → ℕ → Frame
given f None w = f
given f (Some r) w = with_register f r w

-- the word that a `return` gives; 0 where it gives none
abbrev pub value_of : List ℕ → Option ℕ → ℕ
value_of registers None = 0
value_of registers (Some r) = register registers r

-- what an instruction does, without its place in the source
abbrev pub act_in : Option Instr → Option Act
act_in None = None
act_in (Some i) = Some i.act

-- what the frame does next; none where it has no instruction
abbrev pub act_at : Code → Frame → Option Act
act_at code frame = act_in (instr_at code frame)

-- for each of the function's registers, whether it is a pointer
abbrev pub pointers_in : Option Function → List Bool
pointers_in None = []
pointers_in (Some f) = f.pointers

-- the same for the function that runs in this frame
abbrev pub pointers_of : Code → Frame → List Bool
pointers_of code frame = pointers_in (slice_get code.functions frame.function)

-- ---- what comes next by the code alone

-- a computation touches no shared cell: a quiet step, or its trap
abbrev pub quiet_unless : Result ℕ Trap → Due
quiet_unless (Ok w) = due.Quiet
quiet_unless (Err t) = due.Trap t

-- a load, or the trap of a pointer that leads nowhere
abbrev pub load_due : Result ℕ Trap → Due
load_due (Ok c) = due.Load c
load_due (Err t) = due.Trap t

-- a store of w, or the trap of a pointer that leads nowhere
abbrev pub store_due : Result ℕ Trap → ℕ → Due
store_due (Ok c) w = due.Store c w
store_due (Err t) w = due.Trap t

-- `malloc` (C99 7.20.3.3)
abbrev pub malloc_due : ℕ → ℕ → ℕ → ℤ → Due
malloc_due unit arena end n = if is_size unit n then (if nat_le (arena + cells_in n) end then due.Quiet else due.Trap trap.ArenaFull) else due.Trap trap.BadSize

-- a function is entered only where the arena has room for its objects
abbrev pub mark_if : Option ℕ → Due
mark_if None = due.Trap trap.ArenaFull
mark_if (Some arena) = due.Mark

-- the Mark with which a function is entered, or the first trap that stands in its place
abbrev pub enter_due : Code → SetupView → ℕ → Thread → ℕ → ℕ → Due
enter_due code s t th frames f =
    if nat_le s.limit th.count then due.Trap trap.Limit
    else if nat_le most_frames frames then due.Trap trap.Depth
    else mark_if (fitted code.sites (arena_end code s t) (objects_in code f) th.arena)

-- the end of a thread's first function: of `main` the end of the program, else the result is handed over, the slot ended
-- and the live threads left
abbrev pub end_due : Bool → ℕ → ℕ → ℕ → Due
end_due true t made value = due.Operate op.HaltAll object.Halt
end_due false t zero value = due.Store (result_cell t) value
end_due false t (suc zero) value = due.Operate op.End (object.Slot t)
end_due false t (suc (suc n)) value = due.Operate op.Leave object.Threads

-- back to a caller is quiet; the outermost `return` ends the thread
abbrev pub return_due : Code → ℕ → Thread → ℕ → Due
return_due code t th value = if length th.below == 0 then end_due (is_main code th.top.function) t th.top.made value else due.Quiet

-- what library calls may know of thread t
abbrev pub caller : Code → SetupView → ℕ → Thread → Caller
caller code s t th = record { sites = code.sites; setup = s; thread = t; printed = th.printed }

-- what is due at a running thread's instruction, limits and owed stripes aside
abbrev pub act_due : Code → SetupView → ℕ → Thread → Option Act → Due
act_due code s t th None = due.Nothing
act_due code s t th (Some (act.Compute into work)) = quiet_unless (work_of s.slots code.sites (pointers_of code th.top) th.top.registers work)
act_due code s t th (Some (act.Alloc into site None)) = due.Quiet
act_due code s t th (Some (act.Alloc into site (Some size))) = malloc_due (size_of code.sites site) th.arena (arena_end code s t) (number (register th.top.registers size))
act_due code s t th (Some (act.LoadCell into through)) = load_due (resolved code.sites (register th.top.registers through) (access_kind (is_pointer (pointers_of code th.top) into)))
act_due code s t th (Some (act.StoreCell through from)) = store_due (resolved code.sites (register th.top.registers through) (access_kind (is_pointer (pointers_of code th.top) from))) (register th.top.registers from)
act_due code s t th (Some act.Mark) = due.Mark
act_due code s t th (Some (act.Call function arguments into)) = enter_due code s t th (length th.below + 1) function
act_due code s t th (Some (act.Library call arguments into)) = parting_due (parting call th.top.made th.stripes) (library_due (caller code s t th) call (words_of th.top.registers arguments) th.top.made th.top.kept)
act_due code s t th (Some (act.Jump to)) = due.Quiet
act_due code s t th (Some (act.Branch on then_at else_at)) = due.Quiet
act_due code s t th (Some (act.Return value)) = return_due code t th (value_of th.top.registers value)
act_due code s t th (Some (act.Take region)) = take_due code th (region_of code th.top region)
act_due code s t th (Some (act.Give region)) = give_due code th region

-- thread 0 has begun at the start and enters `main` by a Mark; any other thread begins, and loads its argument first
abbrev pub begun_due : Code → SetupView → ℕ → Thread → ℕ → Due
begun_due code s zero th f = enter_due code s zero th 0 f
begun_due code s (suc k) th f = due.Load (argument_cell (suc k))

-- what is due in each phase of a thread's life; at last nothing
abbrev pub phase_due : Code → SetupView → ℕ → Thread → Phase → Due
phase_due code s t th phase.Fresh = due.Operate op.Begin (object.Slot t)
phase_due code s t th (phase.Begun f) = begun_due code s t th f
phase_due code s t th (phase.Loaded f w) = enter_due code s t th 0 f
phase_due code s t th phase.Running = act_due code s t th (act_at code th.top)
phase_due code s t th _ = due.Nothing

-- ---- limits, and stripes that are owed

-- any other event needs a count below the limit
abbrev pub limited : Bool → Due → Due
limited false d = d
limited true (due.Load c) = due.Trap trap.Limit
limited true (due.Store c w) = due.Trap trap.Limit
limited true due.Mark = due.Trap trap.Limit
limited true (due.Operate o obj) = if is_free_of_limit o then due.Operate o obj else due.Trap trap.Limit
limited true d = d

-- the least stripe that was revoked and is to be taken again
abbrev pub first_owed : List Stripe → Option Stripe
first_owed [] = None
first_owed (x ∷ xs) = if x.owed then Some x else first_owed xs

-- the operation that gets a revoked stripe back
abbrev pub retake : Stripe → Due
retake x = due.Operate op.Retake (object.Weak x.lock x.stripe)

-- while stripes are owed, the thread makes no access, no mark and no other operation on a stripe, but takes the least of
-- them again
abbrev pub owing : Option Stripe → Due → Due
owing None d = d
owing (Some x) (due.Load c) = retake x
owing (Some x) (due.Store c w) = retake x
owing (Some x) due.Mark = retake x
owing (Some x) (due.Operate o obj) = if is_weak (name_of o) then retake x else due.Operate o obj
owing (Some x) d = d

-- an operation that isn't an ending one needs room in the thread's list of entries
abbrev pub listed : Bool → Due → Due
listed true (due.Operate o obj) = if is_ending (name_of o) then due.Operate o obj else due.Trap trap.LogFull
listed _ d = d

-- what comes next
abbrev pub due_of : Code → SetupView → ℕ → Thread → Due
due_of code s t th = listed (nat_le most_entries th.entries) (owing (first_owed th.stripes) (limited (nat_le s.limit th.count) (phase_due code s t th th.phase)))

-- what others see of it; a trap shows as an operation at the halt
abbrev pub action_of : Due → Action
action_of due.Nothing = action.Ended
action_of due.Quiet = action.Quiet
action_of (due.Load c) = action.Load c
action_of (due.Store c w) = action.Store c w
action_of due.Mark = action.Mark
action_of (due.Operate o obj) = action.Operate o obj
action_of (due.Trap kind) = action.Operate op.TrapHere object.Halt

-- ---- the state after it

-- the thread in its frame, in which the registers and the place have changed
abbrev pub in_frame : Thread → Frame → Thread
in_frame th f = record th { top = f }

-- the thread with the result in its register; a trap changes nothing
abbrev pub computed : Thread → ℕ → Result ℕ Trap → Thread
computed th into (Ok w) = in_frame th (past (with_register th.top into w))
computed th into (Err t) = th

-- the number, or n where there is none
abbrev pub or_else : Option ℕ → ℕ → ℕ
or_else None n = n
or_else (Some m) n = m

-- the thread in its first frame of a function
abbrev pub entered : Code → SetupView → ℕ → Thread → List Frame → ℕ → List ℕ → Thread
entered code s t th below f arguments = record th {
  phase = phase.Running;
  arena = or_else (fitted code.sites (arena_end code s t) (objects_in code f) th.arena) th.arena;
  top = first_frame code f arguments th.arena;
  below = below;
}

-- the register that is to get a call's value
abbrev pub result_of : Option Act → Option ℕ
result_of (Some (act.Call function arguments into)) = into
result_of _ = None

-- back in the frame below, after its call
abbrev pub back_in : Code → Thread → ℕ → Option Frame → Thread
back_in code th value None = th
back_in code th value (Some f) = record th { top = past (given f (result_of (act_at code f)) value); below = take (length th.below - 1) th.below }

-- one more event of the same instruction is made, and its answer kept
abbrev pub one_made : Frame → ℤ → Frame
one_made f kept = record f { made = f.made + 1; kept = kept }

-- `main` halts the program; another thread ends after three events
abbrev pub end_onward : Bool → Thread → ℕ → Thread
end_onward true th made = record th { phase = phase.Halted }
end_onward false th zero = in_frame th (one_made th.top (pos 0))
end_onward false th (suc zero) = in_frame th (one_made th.top (pos 0))
end_onward false th (suc (suc n)) = record th { phase = phase.Ended }

-- after a `return`: on in the caller, or towards the thread's end
abbrev pub returned : Code → Thread → ℕ → Thread
returned code th value = if length th.below == 0 then end_onward (is_main code th.top.function) th th.top.made else back_in code th value (slice_get th.below (length th.below - 1))

-- the thread as the library says: within the call, past it, or ended
abbrev pub resumed : Thread → Option ℕ → Onward → Thread
resumed th into (onward.Stays kept) = in_frame th (one_made th.top kept)
resumed th into (onward.Gives w) = in_frame th (past (given th.top into w))
resumed th into onward.Ends = record th { phase = phase.Ended }

-- a condition holds where its word isn't 0 (C99 6.8.4.1)
abbrev pub branch_to : ℕ → ℕ → ℕ → ℕ
branch_to w then_at else_at = if w == 0 then else_at else then_at

-- after `malloc`: a pointer to the arena's next free cells, which are used up
abbrev pub allocated : Thread → ℕ → ℕ → ℕ → Thread
allocated th into site cells = record th { top = past (with_register th.top into (pointer_at site th.arena cells)); arena = th.arena + cells }

-- a call of the library, with the answer to its event
abbrev pub call_after : Code → SetupView → ℕ → Thread → LibraryCall → List ℕ → Option ℕ → ℤ → Thread
call_after code s t th call arguments into answer = resumed (record th { printed = th.printed + length (piece_of call (words_of th.top.registers arguments)) }) into (library_onward (caller code s t th) call (words_of th.top.registers arguments) th.top.made th.top.kept answer)

-- a Take or Give goes on once it has no operation left
abbrev pub on_unless : {A : Type 0} → Option A → Thread → Thread
on_unless None th = in_frame th (past th.top)
on_unless (Some x) th = th

-- the thread after its instruction, given the loaded number or the operation's answer
abbrev pub act_after : Code → SetupView → ℕ → Thread → Option Act → ℤ → Thread
act_after code s t th None answer = th
act_after code s t th (Some (act.Compute into work)) answer = computed th into (work_of s.slots code.sites (pointers_of code th.top) th.top.registers work)
act_after code s t th (Some (act.Alloc into site None)) answer = in_frame th (past th.top)
act_after code s t th (Some (act.Alloc into site (Some size))) answer = allocated th into site (cells_in (number (register th.top.registers size)))
act_after code s t th (Some (act.LoadCell into through)) answer = in_frame th (past (with_register th.top into (word answer)))
act_after code s t th (Some (act.StoreCell through from)) answer = in_frame th (past th.top)
act_after code s t th (Some act.Mark) answer = in_frame th (past th.top)
act_after code s t th (Some (act.Call function arguments into)) answer = entered code s t th (th.below ++ one_made th.top (pos 0) ∷ []) function (words_of th.top.registers arguments)
act_after code s t th (Some (act.Library call arguments into)) answer = left_after th (parting call th.top.made th.stripes) (call_after code s t th call arguments into answer)
act_after code s t th (Some (act.Jump to)) answer = in_frame th (jumped th.top to)
act_after code s t th (Some (act.Branch on then_at else_at)) answer = in_frame th (jumped th.top (branch_to (register th.top.registers on) then_at else_at))
act_after code s t th (Some (act.Return value)) answer = returned code th (value_of th.top.registers value)
act_after code s t th (Some (act.Take region)) answer = on_unless (lacked code th (region_of code th.top region)) (taken code th (region_of code th.top region) (lacked code th (region_of code th.top region)))
act_after code s t th (Some (act.Give region)) answer = on_unless (to_give code th region) (gave code th region)

-- thread 0 enters `main`; another one has its argument from its hand-off cell
abbrev pub begun_after : Code → SetupView → ℕ → Thread → ℕ → ℤ → Thread
begun_after code s zero th f answer = entered code s zero th [] f []
begun_after code s (suc k) th f answer = record th { phase = phase.Loaded f (word answer) }

-- the thread after a step that is no trap and no retake
abbrev pub phase_after : Code → SetupView → ℕ → Thread → Phase → ℤ → Thread
phase_after code s t th phase.Fresh answer = record th { phase = phase.Begun (count_in answer) }
phase_after code s t th (phase.Begun f) answer = begun_after code s t th f answer
phase_after code s t th (phase.Loaded f w) answer = entered code s t th [] f (w ∷ [])
phase_after code s t th phase.Running answer = act_after code s t th (act_at code th.top) answer
phase_after code s t th _ answer = th

-- an operation counts as an event unless it is one on a stripe, and as an entry unless it is an ending one
abbrev pub counted : Op → Thread → Thread
counted o th = record th {
  count = if is_weak (name_of o) then th.count else th.count + 1;
  entries = if is_ending (name_of o) then th.entries else th.entries + 1;
}

-- a load, store or mark counts as one event
abbrev pub one_more : Thread → Thread
one_more th = record th { count = th.count + 1 }

-- the stripe found at place i is owed or held; without one nothing changes
abbrev pub owed_at : Bool → List Stripe → ℕ → Option Stripe → List Stripe
owed_at owed xs i None = xs
owed_at owed xs i (Some x) = slice_set xs i (record x { owed = owed })

-- the stripe at this place, if there is one, is owed from now on, or held again
abbrev pub with_owed : Bool → List Stripe → Option ℕ → List Stripe
with_owed owed xs None = xs
with_owed owed xs (Some i) = owed_at owed xs i (slice_get xs i)

-- the first owed stripe is held again
abbrev pub repaid : List Stripe → List Stripe
repaid xs = with_owed false xs (position (λ x. x.owed) xs)

-- the state after what is due, with its answer
abbrev pub after_due : Code → SetupView → ℕ → Thread → Due → ℤ → Thread
after_due code s t th due.Nothing answer = th
after_due code s t th due.Quiet answer = phase_after code s t th th.phase answer
after_due code s t th (due.Load c) answer = one_more (phase_after code s t th th.phase answer)
after_due code s t th (due.Store c w) answer = one_more (phase_after code s t th th.phase answer)
after_due code s t th due.Mark answer = one_more (phase_after code s t th th.phase answer)
after_due code s t th (due.Operate op.Retake obj) answer = counted op.Retake (record th { stripes = repaid th.stripes })
after_due code s t th (due.Operate o obj) answer = counted o (phase_after code s t th th.phase answer)
after_due code s t th (due.Trap kind) answer = counted op.TrapHere (record th { phase = phase.Trapped kind (line_of code th.phase th.top) })

-- ---- what other threads' ends and wants do to a thread

-- the stripe is this one of this weak lock, held or owed
abbrev pub same_stripe : ℕ → ℕ → Stripe → Bool
same_stripe lock stripe x = (x.lock == lock) && (x.stripe == stripe)

-- the thread holds the stripe
abbrev pub holds : List Stripe → ℕ → ℕ → Bool
holds [] lock stripe = false
holds (x ∷ xs) lock stripe = (same_stripe lock stripe x && not x.owed) || holds xs lock stripe

-- a held stripe is owed from now on
abbrev pub lost : List Stripe → ℕ → ℕ → List Stripe
lost xs lock stripe = with_owed true xs (position (same_stripe lock stripe) xs)

-- the stripe was revoked
abbrev pub gave_up : Thread → ℕ → ℕ → Thread
gave_up th lock stripe = counted op.Revoke (record th { stripes = lost th.stripes lock stripe; revokes = th.revokes + 1 })

-- the thread was stopped, or closed before it began
abbrev pub stopped : Thread → Thread
stopped th = counted op.Stop (record th { phase = phase.Stopped })

-- a slot whose thread hasn't begun and never will
abbrev pub slot_closed : Thread → Thread
slot_closed th = counted op.Close (record th { phase = phase.Closed })

-- the thread makes no more events: ended, halted, trapped, stopped or closed
abbrev pub has_ended : Phase → Bool
has_ended phase.Fresh = false
has_ended (phase.Begun f) = false
has_ended (phase.Loaded f w) = false
has_ended phase.Running = false
has_ended _ = true

-- the thread runs or has run; till then it can be closed
abbrev pub has_begun : Phase → Bool
has_begun phase.Fresh = false
has_begun phase.Closed = false
has_begun _ = true

-- ---- one step

-- what the next step is
unfoldable pub action_at : Code → SetupView → ℕ → Thread → Action
action_at code s t th = action_of (due_of code s t th)

-- the state after it, with its answer
unfoldable pub stepped : Code → SetupView → ℕ → Thread → ℤ → Thread
stepped code s t th answer = after_due code s t th (due_of code s t th) answer
