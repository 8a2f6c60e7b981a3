-- A run can go on from a snapshot of which each line is as it must be.
use Rattle.std.proofs.Common.{◌≡◌, ℕ, zero, suc, ◌+◌, ◌-◌, ◌*◌, ◌^◌, ◌<◌, ◌≤◌, Bool, true, false, List, [], ◌∷◌, ◌++◌, length, map, take, Option, Some, None, refl, sym, ap, subst, ◌∙◌, arith}
use Rattle.std.specs.Prelude.{◌&&◌, ◌==◌, nat_lt, nat_le, not, max, slice_get, is_some, unwrap_or, IsTrue}
use Rattle.std.specs.List.{AllByRecursion}
use Rattle.std.specs.Option.{option_map}
use Rattle.std.proofs.lemmas.Bool.{and_parts, ltb-true, leb-true, eqb-true}
use Rattle.std.proofs.lemmas.List.{length-map, length-take}
use Rattle.std.proofs.lemmas.Option.{same_Some, slice_get-map, slice_get_within}
use Rattle.std.proofs.Math.Nat.{pow-le-pow_right}
use Rattle.sync_objects.specs.Setup.{SetupView, IsWithinLimits}
use Rattle.sync_objects.specs.Names.{object_kind}
use Rattle.sync_objects.specs.Packing.{packed, unpacked}
use Rattle.sync_objects.specs.Sound.{IsSoundLock, IsSoundState, IsSoundWord}
use Rattle.sync_objects.specs.Start.{start_word}
use Rattle.sync_objects.specs.States.{LockState, Free, HeldBy, Epoch, Waits, Shared, Idle, Closed, Begun, Ended, Joined, Shut, Started, Counts, Position, StateOf}
use Rattle.sync_objects.specs.Words.{word_of}
use Rattle.sync_objects.specs.declared.kind.ObjKind.{ObjKind}
use Rattle.sync_objects.specs.declared.kind.ObjKind.TheVariants as kind
use Rattle.sync_objects.specs.declared.object.ObjId.{ObjId}
use Rattle.sync_objects.proofs.Packings.{packed-fits}
use Rattle.sync_objects.proofs.Soundness.{word_is_sound}
use Rattle.word_semantics.specs.Library.{most_printed}
use Rattle.word_semantics.specs.Limits.{most_entries, most_frames, most_revokes}
use Rattle.flow_code.specs.declared.act.Instr.{Instr}
use Rattle.flow_code.specs.declared.code.Code.{Code}
use Rattle.flow_code.specs.declared.code.Function.{Function}
use Rattle.flow_code.specs.Kinds.{may_start}
use Rattle.flow_code.specs.Next.{act_at}
use Rattle.flow_code.specs.Ranges.{InRange, IsCounted, within, most_made}
use Rattle.flow_code.specs.Settle.{IsRunnable}
use Rattle.flow_code.specs.Threads.{Frame, arena_start, arena_end, instrs_in, instr_in, instr_at, registers_in}
use Rattle.thread_interpreter.specs.Flows.{most_extra}
use Rattle.thread_interpreter.specs.Parts.{frame_of, thread_of, top_in, below_in}
use Rattle.thread_interpreter.specs.Starts.{no_frame}
use Rattle.thread_interpreter.specs.declared.part.FramePart.{FramePart}
use Rattle.thread_interpreter.specs.declared.part.ThreadPart.{ThreadPart}
use Rattle.core_run.specs.Kept.{most_operations}
use Rattle.core_run.specs.Words.{cells_of, has_object}
use Rattle.order_log.proofs.Lists.{All_front, All_back}
use Rattle.snapshots.specs.declared.draft.Head.{Head}
use Rattle.snapshots.specs.declared.draft.HeadPhase.{HeadPhase}
use Rattle.snapshots.specs.declared.draft.HeadPhase.TheVariants as phase
use Rattle.snapshots.specs.declared.snapshot.Snapshot.{Snapshot}
use Rattle.snapshots.specs.Conditions.{AllFit, MeetsConditions, is_after, cell_fits, cells_judged, rank, lock_fits, slot_fits, state_fits, number_fits, object_fits, objects_judged, goes_on, is_called, frame_fits, frames_judged, stripes_judged, regions_judged, begins, is_alone, phase_fits, head_fits, thread_judged, threads_judged}
use Rattle.snapshots.specs.Snapshots.{IsListedObject, IsResumable}
use Rattle.snapshots.specs.Text.{head_of, thread_draft, threads_from}

-- ---- objects

-- a function that a thread may run is one of the code's
may_start_within : (fs : List Function) (f : ℕ) → may_start (slice_get fs f) ≡ true → f < length fs
may_start_within fs f e = by (slice_get fs f) refl e
  where
    by : (o : Option Function) → slice_get fs f ≡ o → may_start o ≡ true → f < length fs
    by None is h = cc
    by (Some g) is h = slice_get_within fs f g is

sound_lock : (slots : ℕ) (x : LockState) → slots ≤ 16 → lock_fits slots x ≡ true → IsSoundLock x
sound_lock slots Free few e = tt
sound_lock slots (HeldBy t) few e = let below = ltb-true t slots e in omega arith

sound_state : (code : Code) (s : SetupView) (n : ℕ) (k : ObjKind) (x : StateOf k) → IsRunnable code → s.slots ≤ 16 → state_fits code s n k x ≡ true → IsSoundState k n x
sound_state code s n kind.Mutex x run few e = sound_lock s.slots x few e
sound_state code s n kind.Cond (Epoch epoch) run few e = leb-true epoch n e
sound_state code s n kind.Barrier (Waits c a g) run few e =
    let p = and_parts (nat_le c 16) (nat_lt a (max c 1) && (nat_lt g (2 ^ 22) && nat_le g n)) e in
    let q = and_parts (nat_lt a (max c 1)) (nat_lt g (2 ^ 22) && nat_le g n) p.1 in
    let r = and_parts (nat_lt g (2 ^ 22)) (nat_le g n) q.1 in
    (leb-true c 16 p.0, ltb-true a (max c 1) q.0, ltb-true g (2 ^ 22) r.0, leb-true g n r.1)
sound_state code s n kind.Rw (Shared r w) run few e =
    let p = and_parts (nat_lt r (2 ^ s.slots)) (lock_fits s.slots w) e in
    let low = ltb-true r (2 ^ s.slots) p.0 in
    let high : 2 ^ s.slots ≤ 2 ^ 16 = pow-le-pow_right {n = 2} (omega arith) few in
    (omega arith, sound_lock s.slots w few p.1)
sound_state code s n kind.Weak x run few e = sound_lock s.slots x few e
sound_state code s n kind.Slot Idle run few e = tt
sound_state code s n kind.Slot Closed run few e = tt
sound_state code s n kind.Slot Begun run few e = tt
sound_state code s n kind.Slot Ended run few e = tt
sound_state code s n kind.Slot Joined run few e = tt
sound_state code s n kind.Slot Shut run few e = tt
sound_state code s n kind.Slot (Started f) run few e =
    let there = may_start_within code.functions f e in
    let functions = run.few_functions in
    omega arith
sound_state code s n kind.Threads (Counts d l) run few e =
    let p = and_parts (nat_le 1 d) (nat_le d s.slots && nat_le l d) e in
    let q = and_parts (nat_le d s.slots) (nat_le l d) p.1 in
    let drawn = leb-true d s.slots q.0 in
    (leb-true 1 d p.0, omega arith, leb-true l d q.1)
sound_state code s n kind.Halt x run few e = tt
sound_state code s n kind.Input (Position position) run few e = leb-true position n (and_parts (nat_le position n) (nat_le position (length s.input)) e).0
sound_state code s n kind.Output x run few e = tt

listed : (code : Code) (s : SetupView) (before : Option ℕ) (o : ObjId × ℕ × ℕ) → IsRunnable code → s.slots ≤ 16 → object_fits code s before o ≡ true → IsListedObject code s o
listed code s before o run few e =
    let k = object_kind o.0 in
    let after = is_after before (rank (cells_of code s) (length code.locks) o.0) in
    let other = not (word_of o.1 o.2 == start_word o.0) in
    let p = and_parts (has_object code s o.0) (after && (nat_le o.1 most_operations && (number_fits code s o.1 k o.2 && other))) e in
    let q = and_parts after (nat_le o.1 most_operations && (number_fits code s o.1 k o.2 && other)) p.1 in
    let r = and_parts (nat_le o.1 most_operations) (number_fits code s o.1 k o.2 && other) q.1 in
    let u = and_parts (number_fits code s o.1 k o.2) other r.1 in
    let v = and_parts (packed k (unpacked k o.2) == o.2) (state_fits code s o.1 k (unpacked k o.2)) u.0 in
    let is : packed k (unpacked k o.2) ≡ o.2 = eqb-true (packed k (unpacked k o.2)) o.2 v.0 in
    let sound = sound_state code s o.1 k (unpacked k o.2) run few v.1 in
    let most = leb-true o.1 most_operations r.0 in
    let small : o.1 < 2 ^ 32 = omega arith in
    record {
      there = p.0;
      few = most;
      short = subst (λ (z : ℕ). z < 2 ^ 32) is (packed-fits k o.1 (unpacked k o.2) small sound);
      sound = subst (λ (z : ℕ). IsSoundWord k (word_of o.1 z)) is (word_is_sound k o.1 (unpacked k o.2) small sound);
    }

objects_listed : (code : Code) (s : SetupView) (before : Option ℕ) (os : List (ObjId × ℕ × ℕ)) → IsRunnable code → s.slots ≤ 16 → AllFit (objects_judged code s before os)
    → (k : ℕ) (o : ObjId × ℕ × ℕ) → slice_get os k ≡ Some o → IsListedObject code s o
objects_listed code s before [] run few h k o e = cc
objects_listed code s before (x ∷ xs) run few h zero o e = subst (IsListedObject code s) (same_Some x o e) (listed code s before x run few h.0)
objects_listed code s before (x ∷ xs) run few h (suc k) o e = objects_listed code s (Some (rank (cells_of code s) (length code.locks) x.0)) xs run few h.1 k o e

-- ---- cells

cells_there : (code : Code) (s : SetupView) (before : Option ℕ) (cs : List (ℕ × ℕ)) → AllFit (cells_judged code s before cs) → (k : ℕ) (c : ℕ × ℕ) → slice_get cs k ≡ Some c → c.0 < cells_of code s
cells_there code s before [] h k c e = cc
cells_there code s before (x ∷ xs) h zero c e =
    let there = and_parts (nat_lt x.0 (cells_of code s)) (is_after before x.0 && not (x.1 == 0)) h.0 in
    subst (λ (z : ℕ × ℕ). z.0 < cells_of code s) (same_Some x c e) (ltb-true x.0 (cells_of code s) there.0)
cells_there code s before (x ∷ xs) h (suc k) c e = cells_there code s (Some x.0) xs h.1 k c e

-- ---- frames

-- the frame stands at an instruction, with few events of it made
record Stands (code : Code) (f : FramePart) : Type 0 where
  instr : is_some (instr_at code (frame_of f)) ≡ true
  few : f.made ≤ most_made

frames_stand : (code : Code) (s : SetupView) (before : Option FramePart) (fs : List FramePart) → AllFit (frames_judged code s before fs) → (k : ℕ) (f : FramePart) → slice_get fs k ≡ Some f → Stands code f
frames_stand code s before [] h k f e = cc
frames_stand code s before (x ∷ xs) h zero f e =
    let sized = length x.registers == registers_in (slice_get code.functions x.function) in
    let last = goes_on code s (act_at code (frame_of x)) x && is_called code before x.function in
    let p = and_parts (is_some (instr_at code (frame_of x))) (sized && (nat_le x.made most_made && last)) h.0 in
    let q = and_parts sized (nat_le x.made most_made && last) p.1 in
    let r = and_parts (nat_le x.made most_made) last q.1 in
    subst (Stands code) (same_Some x f e) (record { instr = p.0; few = leb-true x.made most_made r.0 })
frames_stand code s before (x ∷ xs) h (suc k) f e = frames_stand code s (Some x) xs h.1 k f e

instr_within : (o : Option Function) (i : ℕ) → is_some (instr_in o i) ≡ true → i < length (instrs_in o)
instr_within None i e = cc
instr_within (Some f) i e = by (slice_get f.instrs i) refl e
  where
    by : (x : Option Instr) → slice_get f.instrs i ≡ x → is_some x ≡ true → i < length f.instrs
    by None is h = cc
    by (Some y) is h = slice_get_within f.instrs i y is

taken_at : {X : Type 0} (n : ℕ) (xs : List X) (k : ℕ) (x : X) → slice_get (take n xs) k ≡ Some x → slice_get xs k ≡ Some x
taken_at zero xs k x e = cc
taken_at (suc n) [] k x e = cc
taken_at (suc n) (y ∷ ys) zero x e = e
taken_at (suc n) (y ∷ ys) (suc k) x e = taken_at n ys k x e

top_made : (code : Code) (fs : List FramePart) (k : ℕ) → ((i : ℕ) (f : FramePart) → slice_get fs i ≡ Some f → Stands code f) → (unwrap_or (slice_get (map frame_of fs) k) no_frame).made ≤ most_made
top_made code fs k stand = subst (λ (o : Option Frame). (unwrap_or o no_frame).made ≤ most_made) (sym (slice_get-map frame_of fs k)) (by (slice_get fs k) refl)
  where
    by : (o : Option FramePart) → slice_get fs k ≡ o → (unwrap_or (option_map frame_of o) no_frame).made ≤ most_made
    by None is = omega arith
    by (Some f) is = (stand k f is).few

callers_stand : (code : Code) (fs : List FramePart) (n : ℕ) → ((i : ℕ) (f : FramePart) → slice_get fs i ≡ Some f → Stands code f)
    → (k : ℕ) (f : Frame) → slice_get (take n (map frame_of fs)) k ≡ Some f → f.instr < length (instrs_in (slice_get code.functions f.function))
callers_stand code fs n stand k f e = by (slice_get fs k) refl (sym (slice_get-map frame_of fs k) ∙ taken_at n (map frame_of fs) k f e)
  where
    by : (o : Option FramePart) → slice_get fs k ≡ o → option_map frame_of o ≡ Some f → f.instr < length (instrs_in (slice_get code.functions f.function))
    by None is h = cc
    by (Some g) is h =
        subst (λ (z : Frame). z.instr < length (instrs_in (slice_get code.functions z.function))) (same_Some (frame_of g) f h) (instr_within (slice_get code.functions g.function) g.instr (stand k g is).instr)

-- ---- threads

alone_few : (h : Head) → is_alone h ≡ true → h.frames ≤ most_frames
alone_few h e = let none = eqb-true h.frames 0 (and_parts (h.frames == 0) ((h.stripes == 0) && (h.regions == 0)) e).0 in omega arith

few_frames : (code : Code) (t : ℕ) (h : Head) (p : HeadPhase) → phase_fits code t h p ≡ true → h.frames ≤ most_frames
few_frames code t h phase.Fresh e = let none = eqb-true h.frames 0 (and_parts (nat_le 1 t) (h.frames == 0) e).1 in omega arith
few_frames code t h (phase.Begun f) e = let none = eqb-true h.frames 0 (and_parts (begins code t f) (h.frames == 0) e).1 in omega arith
few_frames code t h phase.Running e = leb-true h.frames most_frames (and_parts (nat_le 1 h.frames) (nat_le h.frames most_frames) e).1
few_frames code t h phase.Ended e = alone_few h e
few_frames code t h (phase.Trapped k line) e =
    let p = and_parts (nat_le 1 k) (nat_le k 18 && (nat_lt line (2 ^ 32) && is_alone h)) e in
    let q = and_parts (nat_le k 18) (nat_lt line (2 ^ 32) && is_alone h) p.1 in
    alone_few h (and_parts (nat_lt line (2 ^ 32)) (is_alone h) q.1).1

few_below : (fs : List Frame) → length fs ≤ most_frames → length (below_in fs) + 1 ≤ most_frames
few_below fs few = let long = length-take (length fs - 1) fs in omega arith

range_of : (code : Code) (s : SetupView) (t : ℕ) (p : ThreadPart) → AllFit (thread_judged code s t (thread_draft t p)) → InRange code s most_extra t (thread_of p)
range_of code s t p h =
    let x = head_of t p in
    let l7 = phase_fits code t x x.phase in
    let l6 = nat_le x.printed most_printed && l7 in
    let l5 = nat_le x.revokes most_revokes && l6 in
    let l4 = nat_le x.entries most_entries && l5 in
    let l3 = nat_le x.arena (arena_end code s t) && l4 in
    let l2 = nat_le (arena_start code s t) x.arena && l3 in
    let l1 = nat_le x.count (s.limit + most_extra) && l2 in
    let c1 = and_parts (x.number == t) l1 h.0 in
    let c2 = and_parts (nat_le x.count (s.limit + most_extra)) l2 c1.1 in
    let c3 = and_parts (nat_le (arena_start code s t) x.arena) l3 c2.1 in
    let c4 = and_parts (nat_le x.arena (arena_end code s t)) l4 c3.1 in
    let c5 = and_parts (nat_le x.entries most_entries) l5 c4.1 in
    let c6 = and_parts (nat_le x.revokes most_revokes) l6 c5.1 in
    let c7 = and_parts (nat_le x.printed most_printed) l7 c6.1 in
    let rest = stripes_judged code s p.regions None p.stripes ++ regions_judged code p.frames p.stripes None p.regions in
    let stand = frames_stand code s None p.frames (All_front IsTrue (frames_judged code s None p.frames) rest h.1) in
    let long : length (map frame_of p.frames) ≡ length p.frames = length-map p.frames frame_of in
    let few : length p.frames ≤ most_frames = few_frames code t x x.phase c7.1 in
    record {
      counted = within (leb-true x.count (s.limit + most_extra) c2.0);
      few_entries = leb-true x.entries most_entries c5.0;
      few_revokes = leb-true x.revokes most_revokes c6.0;
      few_printed = leb-true x.printed most_printed c7.0;
      few_made = top_made code p.frames (length (map frame_of p.frames) - 1) stand;
      few_frames = few_below (map frame_of p.frames) (omega arith);
      room = leb-true x.arena (arena_end code s t) c4.0;
      callers = callers_stand code p.frames (length (map frame_of p.frames) - 1) stand;
    }

threads_at : (code : Code) (s : SetupView) (t : ℕ) (ps : List ThreadPart) → AllFit (threads_judged code s t (threads_from t ps)) → (k : ℕ) (p : ThreadPart) → slice_get ps k ≡ Some p → InRange code s most_extra (t + k) (thread_of p)
threads_at code s t [] h k p e = cc
threads_at code s t (q ∷ ps) h zero p e =
    let first = range_of code s t q (All_front IsTrue (thread_judged code s t (thread_draft t q)) (threads_judged code s (t + 1) (threads_from (t + 1) ps)) h) in
    let same : t ≡ t + 0 = omega arith in
    subst (λ (u : ℕ). InRange code s most_extra u (thread_of p)) same (subst (λ (z : ThreadPart). InRange code s most_extra t (thread_of z)) (same_Some q p e) first)
threads_at code s t (q ∷ ps) h (suc k) p e =
    let same : t + 1 + k ≡ t + suc k = omega arith in
    subst (λ (u : ℕ). InRange code s most_extra u (thread_of p)) same (threads_at code s (t + 1) ps (All_back IsTrue (thread_judged code s t (thread_draft t q)) (threads_judged code s (t + 1) (threads_from (t + 1) ps)) h) k p e)

length-threads_from : (t : ℕ) (ps : List ThreadPart) → length (threads_from t ps) ≡ length ps
length-threads_from t [] = refl
length-threads_from t (p ∷ ps) = let rest = length-threads_from (t + 1) ps in omega arith

-- ---- the whole

pub resumable : (code : Code) (s : SetupView) (n : ℕ) (x : Snapshot) → IsRunnable code → IsWithinLimits s → MeetsConditions code s n x → IsResumable code s n x
resumable code s n x run limits meets =
    let fits = meets.fits in
    let cells = cells_judged code s None x.cells in
    let objects = objects_judged code s None x.objects in
    let threads = threads_judged code s 0 (threads_from 0 x.threads) in
    let later = All_back IsTrue cells (true ∷ (objects ++ threads)) fits.1.1.1 in
    let long = length-threads_from 0 x.threads in
    let count = meets.form.count in
    record {
      within = leb-true x.at n fits.1.0;
      threads = sym long ∙ count;
      in_range = λ t p e. let same : 0 + t ≡ t = omega arith in subst (λ (u : ℕ). InRange code s most_extra u (thread_of p)) same (threads_at code s 0 x.threads (All_back IsTrue objects threads later.1) t p e);
      cells = cells_there code s None x.cells (All_front IsTrue cells (true ∷ (objects ++ threads)) fits.1.1.1);
      objects = objects_listed code s None x.objects run limits.few_slots (All_front IsTrue objects threads later.1);
    }
