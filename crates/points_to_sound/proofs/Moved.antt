-- What a step of the machine leaves of objects, cells and its thread.
use Rattle.std.proofs.Common.{◌≡◌, ◌≢◌, ℕ, zero, suc, ◌<◌, ◌^◌, ◌&&◌, nat_lt, nat_le, ◌⊎◌, inl, inr, ⊎_elim, Bool, true, false, if◌then◌else◌, List, [], ◌∷◌, length, map, Option, Some, None, refl, sym, ap, subst, ◌∙◌, ℤ, pos, arith}
use Rattle.std.specs.Prelude.{slice_get, slice_set}
use Rattle.std.proofs.lemmas.Bool.{true≢false, ltb-true, ltb-false}
use Rattle.std.proofs.lemmas.Option.{same_Some, slice_get_within}
use Rattle.rr_base.proofs.Lists.{slice_get-set_other, slice_set-get}
use Rattle.rr_base.specs.declared.trap.Trap.TheVariants as trap
use Rattle.sync_objects.specs.Setup.{SetupView}
use Rattle.sync_objects.specs.Names.{name_of, kind_of, object_kind}
use Rattle.sync_objects.specs.Packing.{shown}
use Rattle.sync_objects.specs.States.{Started}
use Rattle.sync_objects.specs.Table.{Moves, first_row, rows}
use Rattle.sync_objects.specs.declared.object.ObjId.{ObjId}
use Rattle.sync_objects.specs.declared.object.ObjId.TheVariants as object
use Rattle.sync_objects.specs.declared.operation.Op.{Op}
use Rattle.sync_objects.specs.declared.operation.Op.TheVariants as op
use Rattle.sync_objects.proofs.RowsOf.{begin_rows}
use Rattle.word_semantics.specs.Cells.{argument_cell, result_cell}
use Rattle.word_semantics.specs.Library.{count_in, slot_in}
use Rattle.word_semantics.specs.Limits.{most_frames}
use Rattle.word_semantics.specs.Values.{number}
use Rattle.word_semantics.specs.declared.event.Action.{Action}
use Rattle.word_semantics.specs.declared.event.Action.TheVariants as action
use Rattle.word_semantics.specs.declared.event.Due.{Due}
use Rattle.word_semantics.specs.declared.event.Due.TheVariants as due
use Rattle.word_semantics.specs.declared.library_call.LibraryCall.TheVariants as call
use Rattle.flow_code.specs.declared.act.Act.TheVariants as act
use Rattle.flow_code.specs.declared.code.Code.{Code}
use Rattle.flow_code.specs.declared.code.Function.{Function}
use Rattle.flow_code.specs.declared.thread.Phase.{Phase}
use Rattle.flow_code.specs.declared.thread.Phase.TheVariants as phase
use Rattle.flow_code.specs.Kinds.{have_kinds, library_value_fits, starts_fit, may_start}
use Rattle.word_semantics.specs.Kinds.{library_kinds}
use Rattle.flow_code.specs.Next.{action_of, act_at, mark_if, begun_due, phase_due, due_of, gave_up}
use Rattle.flow_code.specs.Settle.{settled, IsRunnable}
use Rattle.flow_code.specs.Valid.{is_valid}
use Rattle.flow_code.specs.Threads.{Thread, arena_end, objects_in, fitted}
use Rattle.flow_code.proofs.Dues.{access_by_code}
use Rattle.flow_code.proofs.Runnable.{valid_runnable}
use Rattle.flow_code.proofs.Settle.{action_is}
use Rattle.flow_code.proofs.ValidParts.{left, few_functions}
use Rattle.core_run.specs.Histories.{IsReachable}
use Rattle.core_run.specs.Machine.{Told, machine}
use Rattle.core_run.specs.Words.{cells_of, has_object}
use Rattle.core_run.proofs.Places.{place_past}
use Rattle.core_run.proofs.Reached.{kept}
use Rattle.run_theory.specs.Labels.{Label, label_thread}
use Rattle.run_theory.specs.Ordered.{Did, event_of}
use Rattle.run_theory.specs.Steps.{State, stepped}
use Rattle.lock_ownership.specs.Holders.{word_of_object}
use Rattle.lock_ownership.proofs.ObjectSteps.{made_fits, row_here}
use Rattle.lock_ownership.proofs.Stepping.{place, ComesTo, Makes, by_itself, by_revoke, by_stop, by_close, IsNoOperation, IsAccessStep, IsOperationStep, StepKind, HasStepped}
use Rattle.facts.specs.declared.constraint.Node.TheVariants.{Register, Ended}
use Rattle.points_to_sound.specs.Creations.{Creation, creation, slot_state, HandsOver}
use Rattle.points_to_sound.specs.Objects.{Object}
use Rattle.points_to_sound.specs.Pointing.{IsGood, IsStarted, GoodPhase, GoodThread, GoodRunning, GoodResults}
use Rattle.points_to_sound.specs.States.{marks_of, PointsWell}
use Rattle.points_to_sound.proofs.Acting.{Answers, Knows, Leaves}
use Rattle.points_to_sound.proofs.Beginning.{Begins, step_begins}
use Rattle.points_to_sound.proofs.CellSteps.{Shape, marks, loads, stores, shape_of}
use Rattle.points_to_sound.proofs.Creating.{Creates, none, stays, draws, hands, creating_at}
use Rattle.points_to_sound.proofs.Finding.{stands}
use Rattle.points_to_sound.proofs.Fitting.{stands_fit}
use Rattle.points_to_sound.proofs.Frames.{same_thread}
use Rattle.points_to_sound.proofs.Handing.{CreatedBy, before, drawn_now, creation_step, thread_within, comes_creates, was_creating}
use Rattle.points_to_sound.proofs.Layouts.{set_got, AreLaid}
use Rattle.points_to_sound.proofs.Settling.{Sets, Grows, Settling, Settled, Further, knows, settling_further, arrives_now, settled_good, object_high, stored_laid, stored_results, same_laid, same_results}
use Rattle.points_to_sound.proofs.Storing.{Writes, to_cell, to_argument, to_result, act_writes}
use Rattle.points_to_sound.proofs.ThreadSteps.{Arrives, DueAnswers, stepped_good}

-- ---- what is due, by what comes next

pub load_due_of : (d : Due) (c : ℕ) → action_of d ≡ action.Load c → d ≡ due.Load c
load_due_of due.Nothing c e = cc
load_due_of due.Quiet c e = cc
load_due_of (due.Load k) c e = let f : k ≡ c = cc in ap due.Load f
load_due_of (due.Store k w) c e = cc
load_due_of due.Mark c e = cc
load_due_of (due.Operate o obj) c e = cc
load_due_of (due.Trap kind) c e = cc

pub store_due_of : (d : Due) (c w : ℕ) → action_of d ≡ action.Store c w → d ≡ due.Store c w
store_due_of due.Nothing c w e = cc
store_due_of due.Quiet c w e = cc
store_due_of (due.Load k) c w e = cc
store_due_of (due.Store k v) c w e = let f : k ≡ c = cc in let g : v ≡ w = cc in ap (λ n. due.Store n v) f ∙ ap (due.Store c) g
store_due_of due.Mark c w e = cc
store_due_of (due.Operate o obj) c w e = cc
store_due_of (due.Trap kind) c w e = cc

mark_due_of : (d : Due) → action_of d ≡ action.Mark → d ≡ due.Mark
mark_due_of due.Nothing e = cc
mark_due_of due.Quiet e = cc
mark_due_of (due.Load k) e = cc
mark_due_of (due.Store k v) e = cc
mark_due_of due.Mark e = refl
mark_due_of (due.Operate o obj) e = cc
mark_due_of (due.Trap kind) e = cc

-- only a running thread stores
enter_stores_none : (full deep : Bool) (o : Option ℕ) (c w : ℕ) → (if full then due.Trap trap.Limit else if deep then due.Trap trap.Depth else mark_if o) ≡ due.Store c w → ⊥
enter_stores_none true deep o c w e = cc
enter_stores_none false true o c w e = cc
enter_stores_none false false None c w e = cc
enter_stores_none false false (Some a) c w e = cc

module _ (code : Code) (s : SetupView) (t : ℕ) (th : Thread) where
  begun_stores_none : (u f c w : ℕ) → begun_due code s u th f ≡ due.Store c w → ⊥
  begun_stores_none zero f c w e = enter_stores_none (nat_le s.limit th.count) (nat_le most_frames 0) (fitted code.sites (arena_end code s zero) (objects_in code f) th.arena) c w e
  begun_stores_none (suc u) f c w e = cc

  store_runs : (p : Phase) (c w : ℕ) → phase_due code s t th p ≡ due.Store c w → p ≡ phase.Running
  store_runs phase.Running c w e = refl
  store_runs phase.Fresh c w e = cc
  store_runs (phase.Begun f) c w e = absurd (begun_stores_none t f c w e)
  store_runs (phase.Loaded f v) c w e = absurd (enter_stores_none (nat_le s.limit th.count) (nat_le most_frames 0) (fitted code.sites (arena_end code s t) (objects_in code f) th.arena) c w e)
  store_runs phase.Ended c w e = cc
  store_runs phase.Halted c w e = cc
  store_runs (phase.Trapped kind line) c w e = cc
  store_runs phase.Stopped c w e = cc
  store_runs phase.Closed c w e = cc

-- ---- functions that threads are started with

found_within : (fs : List Function) (f : ℕ) → may_start (slice_get fs f) ≡ true → f < length fs
found_within fs f h = by (slice_get fs f) refl h
  where
    by : (o : Option Function) → slice_get fs f ≡ o → may_start o ≡ true → f < length fs
    by None e m = cc
    by (Some fn) e m = slice_get_within fs f fn e

pub started_small : (code : Code) → is_valid code ≡ true → (f : ℕ) → IsStarted code f → f < 2 ^ 20
started_small code valid f x =
    let z = stands code x.function x.instr (act.Library (call.Create f) x.arguments x.into) x.at in
    let fit = stands_fit code valid x.function x.instr (act.Library (call.Create f) x.arguments x.into) z in
    let starts = left (starts_fit code (call.Create f)) (have_kinds z.function x.arguments (library_kinds (call.Create f))) (left (starts_fit code (call.Create f) && have_kinds z.function x.arguments (library_kinds (call.Create f))) (library_value_fits z.function x.into (call.Create f)) fit) in
    let lt = found_within code.functions f starts in
    let few = few_functions code valid in
    omega arith

counted : (f : ℕ) → f < 2 ^ 20 → count_in (pos f) ≡ f
counted f lt = by (nat_lt f (2 ^ 32)) refl
  where
    by : (b : Bool) → nat_lt f (2 ^ 32) ≡ b → (if b then f else 0) ≡ f
    by true e = refl
    by false e = let ge = ltb-false f (2 ^ 32) e in absurd (omega arith)

-- ---- lists of marks

pub map_got : {X Y : Type 0} (f : X → Y) (xs : List X) (i : ℕ) (x : X) → slice_get xs i ≡ Some x → slice_get (map f xs) i ≡ Some (f x)
map_got f [] i x e = cc
map_got f (y ∷ xs) zero x e = ap (λ z. Some (f z)) (same_Some y x e)
map_got f (y ∷ xs) (suc i) x e = map_got f xs i x e

pub map_set : {X Y : Type 0} (f : X → Y) (xs : List X) (i : ℕ) (x : X) → map f (slice_set xs i x) ≡ slice_set (map f xs) i (f x)
map_set f [] i x = refl
map_set f (y ∷ xs) zero x = refl
map_set f (y ∷ xs) (suc i) x = ap (λ ys. f y ∷ ys) (map_set f xs i x)

pub map_long : {X Y : Type 0} (f : X → Y) (xs : List X) → length (map f xs) ≡ length xs
map_long f [] = refl
map_long f (y ∷ xs) = ap suc (map_long f xs)

slot_object : (obj : ObjId) → object_kind (object.Slot 0) ≡ object_kind obj → (k : ℕ) × (obj ≡ object.Slot k)
slot_object (object.Slot k) e = (k, refl)
slot_object _ e = cc

op_answers : (code : Code) (words : List ℕ) (o : Op) (obj : ObjId) (answer : ℤ) → (o ≡ op.Begin → IsStarted code (count_in answer)) → Answers code words (due.Operate o obj) answer
op_answers code words op.Begin obj answer f = f refl
op_answers code words _ obj answer f = tt

-- ---- one step

module _ (code : Code) (s : SetupView) (x : Sets code s) (st st1 : State Told) (l : Label) (reached : IsReachable code s st) (h : HasStepped code s st l st1) (e : stepped (machine code s) st l ≡ Some st1) (k : HandsOver code s st) (made : List Object) (g : PointsWell code s made st) where
  abbrev t : ℕ
  t = label_thread l

  abbrev th : Thread
  th = h.before.thread

  abbrev q : Thread
  q = h.after.thread

  abbrev z : Thread
  z = settled code s t th

  abbrev marks_now : List ℕ
  marks_now = marks_of st.threads

  run : IsRunnable code
  run = valid_runnable code x.valid

  pub lt : t < s.slots
  lt = thread_within code s run x.limits st st1 l reached h

  mark_is : slice_get marks_now t ≡ Some th.arena
  mark_is = map_got (λ (told : Told). told.thread.arena) st.threads t h.before h.stands

  pub marks_within : (j mark : ℕ) → slice_get marks_now j ≡ Some mark → j < s.slots
  marks_within j mark at = let w = slice_get_within marks_now j mark at in let n = map_long (λ (told : Told). told.thread.arena) st.threads in let m = (kept code s run x.limits st reached).threads in omega arith

  now_laid : AreLaid code s made st.words marks_now
  now_laid = record { laid = g.laid; cells = g.cells }

  arrives_of : (p : Phase) → th.phase ≡ p → Arrives code s made st.words t p
  arrives_of (phase.Begun f) i = λ w some at. g.arrived t f w h.before some h.stands i at
  arrives_of phase.Fresh i = tt
  arrives_of (phase.Loaded f w) i = tt
  arrives_of phase.Running i = tt
  arrives_of phase.Ended i = tt
  arrives_of phase.Halted i = tt
  arrives_of (phase.Trapped kind line) i = tt
  arrives_of phase.Stopped i = tt
  arrives_of phase.Closed i = tt

  abbrev IsSettled : Type 0
  IsSettled = Settled code s x t lt made marks_now st.words th z

  pub zs : IsSettled
  zs = settled_good code s x t lt made marks_now st.words th mark_is now_laid g.results (g.threads t h.before h.stands) (arrives_of th.phase refl)

  -- the thread after the step, and all that lies in cells
  pub record HasMoved : Type 0 where
    pub after : List Object
    pub grows : Grows code s made after
    pub laid : AreLaid code s after st1.words (slice_set marks_now t q.arena)
    pub results : GoodResults code s after st1.words
    pub good : GoodThread code s after q
    pub argument : (j v : ℕ) → j < s.slots → slice_get st1.words (argument_cell j) ≡ Some v → (slice_get st.words (argument_cell j) ≡ Some v) ⊎ ((f : ℕ) × (creation code th ≡ Some (record { slot = j; function = f; handed = false })))
    pub own : (y : Creation) (v : ℕ) → creation code q ≡ Some y → y.handed ≡ true → slice_get st1.words (argument_cell y.slot) ≡ Some v → IsGood code s after (Register y.function 0) v
    pub begun : (f : ℕ) → q.phase ≡ phase.Begun f → (th.phase ≡ phase.Begun f) ⊎ (slot_state code s st t ≡ Started f)
    pub later : IsAccessStep code s st.words st1.words (event_of (machine code s) st l) l th q → Grows code s zs.settling.after after

  -- ---- creations

  never : {P : Type 0} (y : Creation) → None ≡ Some y → P
  never y i = cc

  same_creation : (y v : Creation) → Some y ≡ Some v → y ≡ v
  same_creation y v i = cc

  was_own : (y : Creation) (v : ℕ) → creation code z ≡ Some y → y.handed ≡ true → slice_get st.words (argument_cell y.slot) ≡ Some v → IsGood code s made (Register y.function 0) v
  was_own y v c handed at = g.handed t v h.before y h.stands (was_creating code s t th y c) handed at

  created_few : (y : Creation) → creation code q ≡ Some y → CreatedBy code s run x.limits st st1 l reached h y → y.slot < s.slots
  created_few y i (before w was same) = subst (λ n. n < s.slots) (sym same) (k.creating t h.before w h.stands was).within
  created_few y i (drawn_now slot within now fresh) = within

  -- where no argument is stored
  own_unchanged : (d : Due) (answer : ℤ) (y : Creation) (v : ℕ) → Creates code s z q d answer → ((j w : ℕ) → d ≡ due.Store (argument_cell j) w → ⊥) → creation code q ≡ Some y → y.handed ≡ true → slice_get st.words (argument_cell y.slot) ≡ Some v → IsGood code s made (Register y.function 0) v
  own_unchanged d answer y v (none n) ns c handed at = never y (sym n ∙ c)
  own_unchanged d answer y v (stays n no_start) ns c handed at = was_own y v (sym n ∙ c) handed at
  own_unchanged d answer y v (draws f is ne n) ns c handed at = absurd (true≢false (sym handed ∙ sym (ap (λ (w : Creation). w.handed) (same_creation (record { slot = slot_in answer; function = f; handed = false }) y (sym n ∙ c)))))
  own_unchanged d answer y v (hands slot f w was is n) ns c handed at = absurd (ns slot w is)

  -- ---- a thread's own step

  comes_due : (a : Action) (answer : ℤ) → ComesTo code s l th a answer q → action_of (due_of code s t z) ≡ a
  comes_due a answer c = sym (action_is code s t z) ∙ c.comes

  begins_or : (a : Action) (answer : ℤ) (f : ℕ) → ComesTo code s l th a answer q → q.phase ≡ phase.Begun f → (th.phase ≡ phase.Begun f) ⊎ Begins code s t z answer f
  begins_or a answer f c p = ⊎_elim (λ i. inl (sym zs.phase ∙ i)) (λ b. inr b) (step_begins code s t z answer f (sym (ap (λ (y : Thread). y.phase) c.after) ∙ p))

  -- the words of cells and marks as they are when the step comes
  comes_leaves : (a : Action) (answer : ℤ) → ComesTo code s l th a answer q → ((kn : Knows code s t zs.settling.after st.words) → DueAnswers code s t zs.settling.after st.words kn z (due_of code s t z) answer) → Leaves code s t zs.settling.after z q
  comes_leaves a answer c answers =
      let kn = knows code s x t lt made marks_now st.words zs.settling.after (slice_set marks_now t z.arena) zs.settling.grows g.results zs.settling.laid in
      subst (Leaves code s t zs.settling.after z) (sym c.after)
      (stepped_good code s t zs.settling.after st.words kn z zs.settling.good (arrives_now code s x t lt made marks_now st.words th z zs (arrives_of th.phase refl)) answer (answers kn))

  settled_results : GoodResults code s zs.settling.after st.words
  settled_results j w few at = zs.settling.grows Ended w (g.results j w few at)

  -- where the words of cells stay as they are
  unchanged : (a : Action) (answer : ℤ) (c : ComesTo code s l th a answer q) → a ≢ action.Ended → Leaves code s t zs.settling.after z q → ((i : ℕ) → i < cells_of code s → slice_get st1.words i ≡ slice_get st.words i) → ((j w : ℕ) → due_of code s t z ≡ due.Store (argument_cell j) w → ⊥) → ((f : ℕ) → Begins code s t z answer f → slot_state code s st t ≡ Started f) → HasMoved
  unchanged a answer c ne leaves same ns begins =
      let marks_z = slice_set marks_now t z.arena in
      let within : (j mark : ℕ) → slice_get marks_z j ≡ Some mark → j < s.slots = λ j mark at. ⊎_elim (λ o. marks_within j mark o.1) (λ o. subst (λ n. n < s.slots) (sym o.0) lt) (set_got marks_now t j z.arena mark at) in
      let laid = same_laid code s t lt zs.settling.after st.words marks_z zs.settling.laid st1.words same within in
      let further = settling_further code s x t lt made marks_now st1.words th z q th.arena mark_is (record { after = zs.settling.after; grows = zs.settling.grows; laid = laid; good = zs.settling.good }) leaves in
      let moved = further.settling in
      let back : (j v : ℕ) → j < s.slots → slice_get st1.words (argument_cell j) ≡ Some v → slice_get st.words (argument_cell j) ≡ Some v = λ j v few at. sym (same (argument_cell j) (omega arith)) ∙ at in
      record {
        after = moved.after;
        grows = moved.grows;
        laid = moved.laid;
        results = λ j w few at. moved.grows Ended w (g.results j w few (sym (same (result_cell j) (omega arith)) ∙ at));
        good = moved.good;
        argument = λ j v few at. inl (back j v few at);
        own = λ y v i handed at. moved.grows (Register y.function 0) v (own_unchanged (due_of code s t z) answer y v (comes_creates code s run x.limits st st1 l reached h a answer c ne) ns i handed (back y.slot v (slot_few y i) at));
        begun = λ f p. ⊎_elim (λ i. inl i) (λ b. inr (begins f b)) (begins_or a answer f c p);
        later = λ b. further.later;
      }
    where
      slot_few : (y : Creation) → creation code q ≡ Some y → y.slot < s.slots
      slot_few y i = created_few y i (creation_step code s run x.limits st st1 l reached h y i)

  -- ---- marks and loads

  no_store : (d : Due) → (d ≡ due.Mark) ⊎ ((c : ℕ) × (d ≡ due.Load c)) → (j w : ℕ) → d ≡ due.Store (argument_cell j) w → ⊥
  no_store d (inl a) j w i = let n = sym a ∙ i in cc
  no_store d (inr a) j w i = let n = sym a.1 ∙ i in cc

  no_begin : (d : Due) (answer : ℤ) (f : ℕ) → (d ≡ due.Mark) ⊎ ((c : ℕ) × (d ≡ due.Load c)) → d ≡ due.Operate op.Begin (object.Slot t) → ⊥
  no_begin d answer f (inl a) i = let n = sym a ∙ i in cc
  no_begin d answer f (inr a) i = let n = sym a.1 ∙ i in cc

  marked : ComesTo code s l th action.Mark (pos 0) q → st1.words ≡ st.words → HasMoved
  marked c same =
      let d = mark_due_of (due_of code s t z) (comes_due action.Mark (pos 0) c) in
      unchanged action.Mark (pos 0) c (λ i. cc)
      (comes_leaves action.Mark (pos 0) c (λ kn. subst (λ y. DueAnswers code s t zs.settling.after st.words kn z y (pos 0)) (sym d) tt))
      (λ i few. ap (λ ws. slice_get ws i) same) (no_store (due_of code s t z) (inl d)) (λ f b. absurd (no_begin (due_of code s t z) (pos 0) f (inl d) b.begins))

  loaded : (c w : ℕ) → slice_get st.words c ≡ Some w → ComesTo code s l th (action.Load c) (number w) q → st1.words ≡ st.words → HasMoved
  loaded c w at come same =
      let d = load_due_of (due_of code s t z) c (comes_due (action.Load c) (number w) come) in
      unchanged (action.Load c) (number w) come (λ i. cc)
      (comes_leaves (action.Load c) (number w) come (λ kn. subst (λ y. DueAnswers code s t zs.settling.after st.words kn z y (number w)) (sym d) (w, at, refl)))
      (λ i few. ap (λ ws. slice_get ws i) same) (no_store (due_of code s t z) (inr (c, d))) (λ f b. absurd (no_begin (due_of code s t z) (number w) f (inr (c, d)) b.begins))

  -- ---- stores

  abbrev settled_objects : List Object
  settled_objects = zs.settling.after

  module _ (c w : ℕ) (come : ComesTo code s l th (action.Store c w) (pos 0) q) (same : st1.words ≡ slice_set st.words c w) where
    stores_due : due_of code s t z ≡ due.Store c w
    stores_due = store_due_of (due_of code s t z) c w (comes_due (action.Store c w) (pos 0) come)

    code_due : phase_due code s t z z.phase ≡ due.Store c w
    code_due = (access_by_code code s t z (due.Store c w) tt stores_due).0

    runs : z.phase ≡ phase.Running
    runs = store_runs code s t z z.phase c w code_due

    running : GoodRunning code s settled_objects z
    running = subst (GoodPhase code s settled_objects z) runs zs.settling.good

    writes : Writes code s t settled_objects z c w
    writes =
        act_writes code s t settled_objects st.words (knows code s x t lt made marks_now st.words settled_objects (slice_set marks_now t z.arena) zs.settling.grows g.results zs.settling.laid) z runs running (act_at code z.top) c w refl
        (ap (phase_due code s t z) (sym runs) ∙ code_due)

    -- the creation whose argument is stored
    creates_here : (f : ℕ) (arguments : List ℕ) (into : Option ℕ) → act_at code z.top ≡ Some (act.Library (call.Create f) arguments into) → z.top.made ≡ 1 → creation code z ≡ Some (record { slot = slot_in z.top.kept; function = f; handed = false })
    creates_here f arguments into at m = creating_at code s t z runs f arguments into 1 at m

    few_here : (f : ℕ) (arguments : List ℕ) (into : Option ℕ) → act_at code z.top ≡ Some (act.Library (call.Create f) arguments into) → z.top.made ≡ 1 → slot_in z.top.kept < s.slots
    few_here f arguments into at m = (k.creating t h.before (record { slot = slot_in z.top.kept; function = f; handed = false }) h.stands (was_creating code s t th (record { slot = slot_in z.top.kept; function = f; handed = false }) (creates_here f arguments into at m))).within

    leaves : Leaves code s t settled_objects z q
    leaves = comes_leaves (action.Store c w) (pos 0) come (λ kn. subst (λ y. DueAnswers code s t settled_objects st.words kn z y (pos 0)) (sym stores_due) tt)

    abbrev with_stored : Settling code s t made st1.words marks_now th z
    with_stored = record {
      after = settled_objects;
      grows = zs.settling.grows;
      laid = subst (λ ws. AreLaid code s settled_objects ws (slice_set marks_now t z.arena)) (sym same) (stored_laid code s t lt settled_objects st.words (slice_set marks_now t z.arena) zs.settling.laid z c w writes few_here);
      good = zs.settling.good;
    }

    further : Further code s x t lt made marks_now st1.words th z q with_stored
    further = settling_further code s x t lt made marks_now st1.words th z q th.arena mark_is with_stored leaves

    -- the argument's cell is the one that is stored
    argument_stored : (j : ℕ) → j < s.slots → argument_cell j ≡ c → Writes code s t settled_objects z c w → (f : ℕ) × (creation code z ≡ Some (record { slot = j; function = f; handed = false })) × IsGood code s settled_objects (Register f 0) w
    argument_stored j few is (to_cell o offset on within at good) = let high = object_high code s t lt settled_objects st.words (slice_set marks_now t z.arena) zs.settling.laid o c on (record { from = omega arith; to = omega arith }) in absurd (omega arith)
    argument_stored j few is (to_argument f arguments into at m c_is good) =
        let j_is : slot_in z.top.kept ≡ j = omega arith in
        (f, creates_here f arguments into at m ∙ ap (λ n. Some (record { slot = n; function = f; handed = false })) j_is, good)
    argument_stored j few is (to_result c_is good) = absurd (omega arith)

    got : (j v : ℕ) → slice_get st1.words (argument_cell j) ≡ Some v → ((argument_cell j ≡ c → ⊥) × (slice_get st.words (argument_cell j) ≡ Some v)) ⊎ ((argument_cell j ≡ c) × (w ≡ v))
    got j v at = set_got st.words c (argument_cell j) w v (subst (λ ws. slice_get ws (argument_cell j) ≡ Some v) same at)

    same_store : (a b v u : ℕ) → due.Store a v ≡ due.Store b u → a ≡ b
    same_store a b v u i = cc

    own_stored : (y : Creation) (v : ℕ) → creation code q ≡ Some y → y.handed ≡ true → y.slot < s.slots → slice_get st1.words (argument_cell y.slot) ≡ Some v → Creates code s z q (due_of code s t z) (pos 0) → IsGood code s settled_objects (Register y.function 0) v
    own_stored y v i handed few at (none n) = never y (sym n ∙ i)
    own_stored y v i handed few at (draws f is ne n) = let conflict = sym stores_due ∙ is in cc
    own_stored y v i handed few at (stays n ns) =
        ⊎_elim
        (λ o. zs.settling.grows (Register y.function 0) v (was_own y v (sym n ∙ i) handed o.1))
        (λ o. let a = argument_stored y.slot few o.0 writes in absurd (true≢false (sym handed ∙ sym (ap (λ (c : Creation). c.handed) (same_creation (record { slot = y.slot; function = a.0; handed = false }) y (sym a.1 ∙ sym n ∙ i))))))
        (got y.slot v at)
    own_stored y v i handed few at (hands slot f u was is n) =
        let y_is = same_creation (record { slot = slot; function = f; handed = true }) y (sym n ∙ i) in
        let slot_is : slot ≡ y.slot = ap (λ (c : Creation). c.slot) y_is in
        let c_is : c ≡ argument_cell slot = same_store c (argument_cell slot) w u (sym stores_due ∙ is) in
        let here : argument_cell y.slot ≡ c = omega arith in
        let a = argument_stored y.slot few here writes in
        let f_is : a.0 ≡ f = ap (λ (c : Creation). c.function) (same_creation (record { slot = y.slot; function = a.0; handed = false }) (record { slot = slot; function = f; handed = false }) (sym a.1 ∙ was)) in
        let w_is : w ≡ v = ⊎_elim (λ o. absurd (o.0 here)) (λ o. o.1) (got y.slot v at) in
        subst (λ n. IsGood code s settled_objects (Register n 0) v) (f_is ∙ ap (λ (c : Creation). c.function) y_is) (subst (IsGood code s settled_objects (Register a.0 0)) w_is a.2)

    stored_begun : (f : ℕ) → q.phase ≡ phase.Begun f → (th.phase ≡ phase.Begun f) ⊎ (slot_state code s st t ≡ Started f)
    stored_begun f p = ⊎_elim (λ i. inl i) (λ b. let conflict = sym stores_due ∙ b.begins in cc) (begins_or (action.Store c w) (pos 0) f come p)

    stored : HasMoved
    stored = record {
      after = further.settling.after;
      grows = further.settling.grows;
      laid = further.settling.laid;
      results = λ j v few at. further.later Ended v (subst (GoodResults code s settled_objects) (sym same) (stored_results code s t lt settled_objects st.words (slice_set marks_now t z.arena) zs.settling.laid z c w writes few_here settled_results) j v few at);
      good = further.settling.good;
      argument = λ j v few at. ⊎_elim
          (λ o. inl o.1)
          (λ o. let a = argument_stored j few o.0 writes in inr (a.0, was_creating code s t th (record { slot = j; function = a.0; handed = false }) a.1))
          (got j v at);
      own = λ y v i handed at. further.later (Register y.function 0) v (own_stored y v i handed (created_few y i (creation_step code s run x.limits st st1 l reached h y i)) at (comes_creates code s run x.limits st st1 l reached h (action.Store c w) (pos 0) come (λ n. cc)));
      begun = stored_begun;
      later = λ b. further.later;
    }

  -- ---- operations

  module _ (o : IsOperationStep code s st.words st1.words (event_of (machine code s) st l) l th q) where
    cells_same : (i : ℕ) → i < cells_of code s → slice_get st1.words i ≡ slice_get st.words i
    cells_same i few = let following = place_past (cells_of code s) o.obj in ap (λ ws. slice_get ws i) o.changes ∙ slice_get-set_other st.words (place code s o.obj) i o.new (λ n. absurd (omega arith))

    -- a begin finds its slot started
    begin_row : (j : ℕ) → o.op ≡ op.Begin → o.obj ≡ object.Slot j → (f : ℕ) × (slot_state code s st j ≡ Started f) × (o.answer ≡ pos f)
    begin_row j is on =
        let has : has_object code s (object.Slot j) ≡ true = ap (has_object code s) (sym on) ∙ o.has in
        let row = row_here code s (object.Slot j) run x.limits has st st1 l reached h o on in
        let b = begin_rows t (slot_state code s st j) (slot_state code s st1 j) o.answer (subst (λ p. first_row (rows p t) (shown (kind_of (name_of p)) (word_of_object code s (object.Slot j) st)) ≡ Moves (shown (kind_of (name_of p)) (word_of_object code s (object.Slot j) st1)) o.answer) is row) in
        (b.0, b.1, b.3)

    begin_started : o.op ≡ op.Begin → IsStarted code (count_in o.answer)
    begin_started is =
        let fits = (made_fits code s l th o.op o.obj o.answer q run x.limits o.makes).0 in
        let j = slot_object o.obj (ap (λ p. kind_of (name_of p)) (sym is) ∙ fits) in
        let b = begin_row j.0 is j.1 in
        let few : j.0 < s.slots = ltb-true j.0 s.slots (ap (has_object code s) (sym j.1) ∙ o.has) in
        let r = (g.ready j.0 b.0 few b.1).started in
        subst (IsStarted code) (sym (ap count_in b.2 ∙ counted b.0 (started_small code x.valid b.0 r))) r

    same_op : (p r : Op) (a b : ObjId) → action.Operate p a ≡ action.Operate r b → (p ≡ r) × (a ≡ b)
    same_op p r a b i = (cc, cc)

    by_own : ComesTo code s l th (action.Operate o.op o.obj) o.answer q → HasMoved
    by_own c =
        unchanged (action.Operate o.op o.obj) o.answer c (λ i. cc)
        (comes_leaves (action.Operate o.op o.obj) o.answer c (λ kn. answers kn (due_of code s t z) (comes_due (action.Operate o.op o.obj) o.answer c)))
        cells_same
        (λ j w i. let conflict = sym (comes_due (action.Operate o.op o.obj) o.answer c) ∙ ap action_of i in cc)
        (λ f b.
        let same = same_op o.op op.Begin o.obj (object.Slot t) (sym (comes_due (action.Operate o.op o.obj) o.answer c) ∙ ap action_of b.begins) in
        let r = begin_row t same.0 same.1 in
        let started = (g.ready t r.0 lt r.1).started in
        let f_is : f ≡ r.0 = b.function ∙ ap count_in r.2 ∙ counted r.0 (started_small code x.valid r.0 started) in
        r.1 ∙ ap Started (sym f_is))
      where
        answers : (kn : Knows code s t zs.settling.after st.words) (d : Due) → action_of d ≡ action.Operate o.op o.obj → DueAnswers code s t zs.settling.after st.words kn z d o.answer
        answers kn due.Nothing i = cc
        answers kn due.Quiet i = cc
        answers kn (due.Load n) i = cc
        answers kn (due.Store n w) i = cc
        answers kn due.Mark i = cc
        answers kn (due.Operate p b) i = let same = same_op p o.op b o.obj i in op_answers code st.words p b o.answer (λ is. begin_started (sym same.0 ∙ is))
        answers kn (due.Trap kind) i = tt

    no_access : IsAccessStep code s st.words st1.words (event_of (machine code s) st l) l th q → ⊥
    no_access b = subst IsNoOperation (same_Some b.what (Did t o.noted o.old o.answer) (sym b.happens ∙ o.happens)) b.no_operation

    -- what others make of the thread
    beside : q.arena ≡ th.arena → GoodThread code s made q → ((y : Creation) → creation code q ≡ Some y → creation code th ≡ Some y) → ((f : ℕ) → q.phase ≡ phase.Begun f → th.phase ≡ phase.Begun f) → HasMoved
    beside arena good creations begun =
        let laid = same_laid code s t lt made st.words marks_now now_laid st1.words cells_same marks_within in
        record {
          after = made;
          grows = λ n w i. i;
          laid = subst (AreLaid code s made st1.words) (sym (ap (slice_set marks_now t) arena ∙ slice_set-get marks_now t th.arena mark_is)) laid;
          results = same_results code s t lt made st.words marks_now now_laid st1.words cells_same marks_within g.results;
          good = good;
          argument = λ j v few at. inl (sym (cells_same (argument_cell j) (omega arith)) ∙ at);
          own = λ y v i handed at.
              let few = (k.creating t h.before y h.stands (creations y i)).within in
              g.handed t v h.before y h.stands (creations y i) handed (sym (cells_same (argument_cell y.slot) (omega arith)) ∙ at);
          begun = λ f p. inl (begun f p);
          later = λ b. absurd (no_access b);
        }

    good_now : GoodThread code s made th
    good_now = g.threads t h.before h.stands

    by_makes : Makes code s l th o.op o.obj o.answer q → HasMoved
    by_makes (by_itself c) = by_own c
    by_makes (by_revoke lock stripe m a b c) =
        beside (ap (λ (y : Thread). y.arena) c)
        (subst (GoodThread code s made) (sym c) (same_thread code s made th (gave_up th lock stripe) refl refl refl good_now))
        (λ y i. sym (ap (creation code) c) ∙ i) (λ f p. sym (ap (λ (y : Thread). y.phase) c) ∙ p)
    by_makes (by_stop m a b c) =
        beside (ap (λ (y : Thread). y.arena) c) (subst (GoodThread code s made) (sym c) tt)
        (λ y i. never y (sym (ap (creation code) c) ∙ i)) (λ f p. let n = sym (ap (λ (y : Thread). y.phase) c) ∙ p in cc)
    by_makes (by_close m a b c) =
        beside (ap (λ (y : Thread). y.arena) c) (subst (GoodThread code s made) (sym c) tt)
        (λ y i. never y (sym (ap (creation code) c) ∙ i)) (λ f p. let n = sym (ap (λ (y : Thread). y.phase) c) ∙ p in cc)

  by_shape : Shape code s st.words st1.words l th q → HasMoved
  by_shape (marks c same) = marked c same
  by_shape (loads c w at come same) = loaded c w at come same
  by_shape (stores c w come same) = stored c w come same

  pub has_moved : HasMoved
  has_moved = by_kind h.kind
    where
      by_kind : StepKind code s st.words st1.words (event_of (machine code s) st l) l th q → HasMoved
      by_kind (inl a) = by_shape (shape_of code s st st1 l h e a)
      by_kind (inr o) = by_makes o o.makes
