-- What each line of a checkpoint must obey, for a code, a setup and the number of entries of a log: a judgement for each line of
-- the text, in their order. A line is judged by itself and those before it, a stripe also by the regions of its thread.
use Rattle.std.specs.Prelude.{◌≡◌, ℕ, zero, suc, ◌+◌, ◌*◌, ◌<◌, ◌^◌, ◌==◌, nat_lt, nat_le, max, ◌&&◌, ◌||◌, Bool, true, false, not, ℤ, pos, negsuc, List, [], ◌∷◌, ◌++◌, length, count_by, Option, Some, None, is_some, slice_get, if◌then◌else◌, Result, Ok, Err, IsTrue}
use Rattle.std.specs.List.{AllByRecursion, list_any, list_all}
use Rattle.rr_base.specs.declared.trap.Trap.{Trap}
use Rattle.rr_base.specs.declared.layout.CellKind.{CellKind}
use Rattle.rr_base.specs.declared.layout.CellKind.TheVariants as cell
use Rattle.rr_base.specs.declared.layout.Site.{Site}
use Rattle.sync_objects.specs.Setup.{SetupView}
use Rattle.sync_objects.specs.Names.{object_kind}
use Rattle.sync_objects.specs.Packing.{packed, unpacked}
use Rattle.sync_objects.specs.Start.{start_word}
use Rattle.sync_objects.specs.States.{LockState, Free, HeldBy, CondState, Epoch, BarrierState, Waits, RwState, Shared, SlotState, Idle, Closed, Begun, Ended, Joined, Shut, Started, ThreadsState, Counts, InputState, Position, StateOf}
use Rattle.sync_objects.specs.Words.{word_of}
use Rattle.sync_objects.specs.declared.kind.ObjKind.{ObjKind}
use Rattle.sync_objects.specs.declared.kind.ObjKind.TheVariants as kind
use Rattle.sync_objects.specs.declared.object.ObjId.{ObjId}
use Rattle.sync_objects.specs.declared.object.ObjId.TheVariants as object
use Rattle.word_semantics.specs.Library.{argument, is_misuse, is_serial, most_printed}
use Rattle.word_semantics.specs.Limits.{most_entries, most_frames, most_revokes}
use Rattle.word_semantics.specs.Pointers.{resolved}
use Rattle.word_semantics.specs.Registers.{words_of}
use Rattle.word_semantics.specs.Values.{number}
use Rattle.word_semantics.specs.declared.library_call.LibraryCall.{LibraryCall}
use Rattle.word_semantics.specs.declared.library_call.LibraryCall.TheVariants as call
use Rattle.flow_code.specs.declared.act.Act.{Act}
use Rattle.flow_code.specs.declared.act.Act.TheVariants as act
use Rattle.flow_code.specs.declared.code.Code.{Code}
use Rattle.flow_code.specs.Kinds.{may_start}
use Rattle.flow_code.specs.Next.{act_in, act_at}
use Rattle.flow_code.specs.Ranges.{most_made}
use Rattle.flow_code.specs.Threads.{arena_start, arena_end, instr_in, instr_at, is_main, registers_in}
use Rattle.thread_interpreter.specs.Flows.{most_extra}
use Rattle.thread_interpreter.specs.Parts.{frame_of}
use Rattle.thread_interpreter.specs.declared.part.FramePart.{FramePart}
use Rattle.thread_interpreter.specs.declared.part.StripePart.{StripePart}
use Rattle.thread_interpreter.specs.declared.part.RegionPart.{RegionPart}
use Rattle.core_run.specs.Kept.{most_operations}
use Rattle.core_run.specs.Words.{cells_of, has_object}
use Rattle.snapshots.specs.Text.{draft_of}
use Rattle.snapshots.specs.declared.draft.Draft.{Draft}
use Rattle.snapshots.specs.declared.draft.DraftThread.{DraftThread}
use Rattle.snapshots.specs.declared.draft.Head.{Head}
use Rattle.snapshots.specs.declared.draft.HeadPhase.{HeadPhase}
use Rattle.snapshots.specs.declared.draft.HeadPhase.TheVariants as phase
use Rattle.snapshots.specs.declared.snapshot.Snapshot.{Snapshot}

-- ---- orders

-- the number comes after the one before, if there is one
abbrev pub is_after : Option ℕ → ℕ → Bool
is_after None n = true
is_after (Some m) n = nat_lt m n

-- the number doesn't fall below the one before, if there is one
abbrev pub is_from : Option ℕ → ℕ → Bool
is_from None n = true
is_from (Some m) n = nat_le m n

-- ---- cells

-- the machine has the cell, which comes after the one before, and its word isn't 0
abbrev pub cell_fits : Code → SetupView → Option ℕ → ℕ × ℕ → Bool
cell_fits code s before c = nat_lt c.0 (cells_of code s) && (is_after before c.0 && not (c.1 == 0))

-- the cells one after another
abbrev pub cells_judged : Code → SetupView → Option ℕ → List (ℕ × ℕ) → List Bool
cells_judged code s before [] = []
cells_judged code s before (c ∷ cs) = cell_fits code s before c ∷ cells_judged code s (Some c.0) cs

-- ---- objects

-- the place of an object in the order of objects, for so many cells and locks: by kind, then by cell, lock and stripe, or slot
abbrev pub rank : ℕ → ℕ → ObjId → ℕ
rank cells locks (object.Mutex c) = c
rank cells locks (object.Cond c) = cells + c
rank cells locks (object.Barrier c) = 2 * cells + c
rank cells locks (object.Weak lock stripe) = 3 * cells + 8 * lock + stripe
rank cells locks (object.Slot k) = 3 * cells + 8 * locks + k
rank cells locks object.Threads = 3 * cells + 8 * locks + 16
rank cells locks object.Halt = 3 * cells + 8 * locks + 17
rank cells locks object.Input = 3 * cells + 8 * locks + 18
rank cells locks object.Output = 3 * cells + 8 * locks + 19
rank cells locks (object.Rw c) = 3 * cells + 8 * locks + 20 + c

-- it is free, or one of the slots' threads holds it
abbrev pub lock_fits : ℕ → LockState → Bool
lock_fits slots Free = true
lock_fits slots (HeldBy thread) = nat_lt thread slots

-- each signal was an operation
abbrev pub cond_fits : ℕ → CondState → Bool
cond_fits operations (Epoch epoch) = nat_le epoch operations

-- at most 16 threads meet there; none have come, or fewer than meet; each generation took an operation
abbrev pub barrier_fits : ℕ → BarrierState → Bool
barrier_fits operations (Waits count arrived generation) = nat_le count 16 && (nat_lt arrived (max count 1) && (nat_lt generation (2 ^ 22) && nat_le generation operations))

-- those who hold it are slots' threads
abbrev pub rw_fits : ℕ → RwState → Bool
rw_fits slots (Shared readers writer) = nat_lt readers (2 ^ slots) && lock_fits slots writer

-- a started function is one that a thread may run
abbrev pub slot_fits : Code → SlotState → Bool
slot_fits code Idle = true
slot_fits code Closed = true
slot_fits code Begun = true
slot_fits code Ended = true
slot_fits code Joined = true
slot_fits code Shut = true
slot_fits code (Started function) = may_start (slice_get code.functions function)

-- thread 0 is drawn, no more than the slots are, and only drawn ones live
abbrev pub threads_fit : ℕ → ThreadsState → Bool
threads_fit slots (Counts drawn live) = nat_le 1 drawn && (nat_le drawn slots && nat_le live drawn)

-- each byte that was read took an operation, and is one of the input
abbrev pub input_fits : ℕ → ℕ → InputState → Bool
input_fits operations len (Position position) = nat_le position operations && nat_le position len

-- an object of this kind can have this state after so many operations
abbrev pub state_fits : Code → SetupView → ℕ → (k : ObjKind) → StateOf k → Bool
state_fits code s operations kind.Mutex = lock_fits s.slots
state_fits code s operations kind.Cond = cond_fits operations
state_fits code s operations kind.Barrier = barrier_fits operations
state_fits code s operations kind.Rw = rw_fits s.slots
state_fits code s operations kind.Weak = lock_fits s.slots
state_fits code s operations kind.Slot = slot_fits code
state_fits code s operations kind.Threads = threads_fit s.slots
state_fits code s operations kind.Halt = λ x. true
state_fits code s operations kind.Input = input_fits operations (length s.input)
state_fits code s operations kind.Output = λ x. true

-- the number is that of a state of this kind, which an object can have after so many operations
abbrev pub number_fits : Code → SetupView → ℕ → ObjKind → ℕ → Bool
number_fits code s operations k state = (packed k (unpacked k state) == state) && state_fits code s operations k (unpacked k state)

-- the machine has the object, which comes after the one before and had at most 2^25 operations; its state is one that it can
-- have; and its word isn't the one at the start
abbrev pub object_fits : Code → SetupView → Option ℕ → ObjId × ℕ × ℕ → Bool
object_fits code s before o =
    has_object code s o.0
    && (is_after before (rank (cells_of code s) (length code.locks) o.0)
    && (nat_le o.1 most_operations
    && (number_fits code s o.1 (object_kind o.0) o.2
    && not (word_of o.1 o.2 == start_word o.0))))

-- the objects one after another
abbrev pub objects_judged : Code → SetupView → Option ℕ → List (ObjId × ℕ × ℕ) → List Bool
objects_judged code s before [] = []
objects_judged code s before (o ∷ os) = object_fits code s before o ∷ objects_judged code s (Some (rank (cells_of code s) (length code.locks) o.0)) os

-- ---- library calls of which some events are made

-- the number is from 0 to below the bound
abbrev pub is_below : ℕ → ℤ → Bool
is_below bound (pos n) = nat_lt n bound
is_below bound (negsuc n) = false

-- there is a cell
abbrev pub is_ok : Result ℕ Trap → Bool
is_ok (Ok c) = true
is_ok (Err t) = false

-- the pointer in argument k resolves, to a cell of this kind
abbrev pub leads : List Site → List ℕ → ℕ → CellKind → Bool
leads sites words k want = is_ok (resolved sites (argument words k) want)

-- pthread_create: the number that was drawn names a slot; until it is stored, the pointer for it leads there
abbrev pub create_fits : List Site → ℕ → List ℕ → ℕ → ℤ → Bool
create_fits sites slots words made kept = is_below slots kept && (nat_le 3 made || leads sites words 0 cell.Whole)

-- pthread_join: the argument names a slot until the result is loaded, and the pointer for the result leads there
abbrev pub join_fits : List Site → ℕ → List ℕ → ℕ → ℤ → Bool
join_fits sites slots words (suc zero) kept = is_misuse kept || (is_below slots (number (argument words 0)) && leads sites words 1 cell.Pointer)
join_fits sites slots words made kept = leads sites words 1 cell.Pointer

-- pthread_cond_wait: until it has woken, the condition is there and the epoch is one; the mutex is there to the end
abbrev pub wait_fits : List Site → List ℕ → ℕ → ℤ → Bool
wait_fits sites words made kept =
    ((made == 2) && is_misuse kept)
    || ((nat_le 3 made || (leads sites words 0 cell.Cond && is_below (2 ^ 32) kept)) && leads sites words 1 cell.Mutex)

-- pthread_barrier_wait: unless it was the last to come or a misuse, the barrier is there and the generation is one
abbrev pub barrier_wait_fits : List Site → List ℕ → ℤ → Bool
barrier_wait_fits sites words kept = is_misuse kept || (is_serial kept || (leads sites words 0 cell.Barrier && is_below (2 ^ 22) kept))

-- what the remaining events of a call name is there
abbrev pub call_goes_on : List Site → ℕ → LibraryCall → List ℕ → ℕ → ℤ → Bool
call_goes_on sites slots (call.Create function) words made kept = create_fits sites slots words made kept
call_goes_on sites slots call.Join words made kept = join_fits sites slots words made kept
call_goes_on sites slots call.CondWait words made kept = wait_fits sites words made kept
call_goes_on sites slots call.BarrierWait words made kept = barrier_wait_fits sites words kept
call_goes_on sites slots _ words made kept = true

-- ---- frames

-- the instruction is a Call of the function
abbrev pub calls : Option Act → ℕ → Bool
calls (Some (act.Call g arguments into)) f = g == f
calls _ f = false

-- the frame before, if there is one, stands at a Call of the function
abbrev pub is_called : Code → Option FramePart → ℕ → Bool
is_called code None f = true
is_called code (Some before) f = calls (act_at code (frame_of before)) f

-- in a library call of which some events are made, the others name what is there
abbrev pub goes_on : Code → SetupView → Option Act → FramePart → Bool
goes_on code s (Some (act.Library call arguments into)) f = (f.made == 0) || call_goes_on code.sites s.slots call (words_of f.registers arguments) f.made (number f.kept)
goes_on code s _ f = true

-- the frame stands at an instruction of a function, with that function's registers and at most 8 events made; the call goes on;
-- and the frame before stands at a Call of that function
abbrev pub frame_fits : Code → SetupView → Option FramePart → FramePart → Bool
frame_fits code s before f =
    is_some (instr_at code (frame_of f))
    && ((length f.registers == registers_in (slice_get code.functions f.function))
    && (nat_le f.made most_made
    && (goes_on code s (act_at code (frame_of f)) f
    && is_called code before f.function)))

-- the frames one after another
abbrev pub frames_judged : Code → SetupView → Option FramePart → List FramePart → List Bool
frames_judged code s before [] = []
frames_judged code s before (f ∷ fs) = frame_fits code s before f ∷ frames_judged code s (Some f) fs

-- ---- stripes and regions

-- the pair is among these
abbrev pub has_pair : List (ℕ × ℕ) → ℕ × ℕ → Bool
has_pair ps p = list_any (λ q. (q.0 == p.0) && (q.1 == p.1)) ps

-- in how many of these regions a stripe is
abbrev pub nesting_in : List RegionPart → ℕ × ℕ → ℕ
nesting_in rs p = count_by (λ r. has_pair r.stripes p) rs

-- the machine has the stripe, which comes after the one before; some region has it, and its number is how many have
abbrev pub stripe_fits : Code → SetupView → List RegionPart → Option ℕ → StripePart → Bool
stripe_fits code s regions before x =
    has_object code s (object.Weak x.lock x.stripe)
    && (is_after before (8 * x.lock + x.stripe)
    && (nat_le 1 x.nesting
    && (x.nesting == nesting_in regions (x.lock, x.stripe))))

-- the stripes one after another
abbrev pub stripes_judged : Code → SetupView → List RegionPart → Option ℕ → List StripePart → List Bool
stripes_judged code s regions before [] = []
stripes_judged code s regions before (x ∷ xs) = stripe_fits code s regions before x ∷ stripes_judged code s regions (Some (8 * x.lock + x.stripe)) xs

-- the instruction is a Take
abbrev pub is_take : Option Act → Bool
is_take (Some (act.Take region)) = true
is_take _ = false

-- the frame is there, and its function has a Take there
abbrev pub opens : Code → Option FramePart → ℕ → Bool
opens code None instr = false
opens code (Some f) instr = is_take (act_in (instr_in (slice_get code.functions f.function) instr))

-- no pair stands there twice
abbrev pub all_differ : List (ℕ × ℕ) → Bool
all_differ [] = true
all_differ (p ∷ ps) = not (has_pair ps p) && all_differ ps

-- the stripe is among these
abbrev pub is_among : List StripePart → ℕ × ℕ → Bool
is_among xs p = list_any (λ x. (x.lock == p.0) && (x.stripe == p.1)) xs

-- the region was opened by a Take in one of the frames, not below that of the region before; its stripes differ, and the thread
-- has each of them
abbrev pub region_fits : Code → List FramePart → List StripePart → Option ℕ → RegionPart → Bool
region_fits code frames stripes before r =
    opens code (slice_get frames r.frame) r.instr
    && (is_from before r.frame
    && (all_differ r.stripes
    && list_all (is_among stripes) r.stripes))

-- the regions one after another
abbrev pub regions_judged : Code → List FramePart → List StripePart → Option ℕ → List RegionPart → List Bool
regions_judged code frames stripes before [] = []
regions_judged code frames stripes before (r ∷ rs) = region_fits code frames stripes before r ∷ regions_judged code frames stripes (Some r.frame) rs

-- ---- threads

-- thread 0 begins with `main`, all others with a function that a thread may run
abbrev pub begins : Code → ℕ → ℕ → Bool
begins code zero f = is_main code f
begins code (suc k) f = may_start (slice_get code.functions f)

-- no lines follow
abbrev pub is_alone : Head → Bool
is_alone h = (h.frames == 0) && ((h.stripes == 0) && (h.regions == 0))

-- how far thread t is: only a thread that runs has frames, 1 to 1,000, and one that has ended has nothing; a trap has a number
-- from 1 to 18, and a line below 2^32
abbrev pub phase_fits : Code → ℕ → Head → HeadPhase → Bool
phase_fits code t h phase.Fresh = nat_le 1 t && (h.frames == 0)
phase_fits code t h (phase.Begun f) = begins code t f && (h.frames == 0)
phase_fits code t h phase.Running = nat_le 1 h.frames && nat_le h.frames most_frames
phase_fits code t h phase.Ended = is_alone h
phase_fits code t h (phase.Trapped kind line) = nat_le 1 kind && (nat_le kind 18 && (nat_lt line (2 ^ 32) && is_alone h))

-- the numbers of thread t are within their limits
abbrev pub head_fits : Code → SetupView → ℕ → Head → Bool
head_fits code s t h =
    (h.number == t)
    && (nat_le h.count (s.limit + most_extra)
    && (nat_le (arena_start code s t) h.arena
    && (nat_le h.arena (arena_end code s t)
    && (nat_le h.entries most_entries
    && (nat_le h.revokes most_revokes
    && (nat_le h.printed most_printed
    && phase_fits code t h h.phase))))))

-- the lines of thread t
abbrev pub thread_judged : Code → SetupView → ℕ → DraftThread → List Bool
thread_judged code s t d =
    head_fits code s t d.head
    ∷ (frames_judged code s None d.frames
    ++ (stripes_judged code s d.regions None d.stripes
    ++ regions_judged code d.frames d.stripes None d.regions))

-- those of all threads from t on
abbrev pub threads_judged : Code → SetupView → ℕ → List DraftThread → List Bool
threads_judged code s t [] = []
threads_judged code s t (d ∷ ds) = thread_judged code s t d ++ threads_judged code s (t + 1) ds

-- ---- the whole

-- whether each line of the draft's text is as it must be, for a log of n entries
abbrev pub judgements : Code → SetupView → ℕ → Draft → List Bool
judgements code s n d =
    true
    ∷ nat_le d.at n
    ∷ true
    ∷ (cells_judged code s None d.cells
    ++ (true
    ∷ (objects_judged code s None d.objects
    ++ threads_judged code s 0 d.threads)))

-- each of these judgements is true
abbrev pub AllFit : List Bool → Type 0
AllFit bs = AllByRecursion IsTrue bs

-- a thread has as many lines of each sort as its first line says, and its words have 64 bits
pub record IsThreadForm (d : DraftThread) : Type 0 where
  pub frames : length d.frames ≡ d.head.frames
  pub stripes : length d.stripes ≡ d.head.stripes
  pub regions : length d.regions ≡ d.head.regions
  pub kept : AllByRecursion (λ (f : FramePart). f.kept < 2 ^ 64) d.frames
  pub registers : AllByRecursion (λ (f : FramePart). AllByRecursion (λ w. w < 2 ^ 64) f.registers) d.frames

-- the draft has the form of a checkpoint of a run with so many slots
pub record IsForm (slots : ℕ) (d : Draft) : Type 0 where
  pub count : length d.threads ≡ slots
  pub words : AllByRecursion (λ (c : ℕ × ℕ). c.1 < 2 ^ 64) d.cells
  pub threads : AllByRecursion IsThreadForm d.threads

-- a run can go on from the snapshot by a log of n entries, as each line of its text says
pub record MeetsConditions (code : Code) (s : SetupView) (n : ℕ) (x : Snapshot) : Type 0 where
  pub form : IsForm s.slots (draft_of x)
  pub fits : AllFit (judgements code s n (draft_of x))
