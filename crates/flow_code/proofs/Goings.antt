-- What is due in a thread by its code alone, with what becomes of the thread.
use Rattle.std.proofs.Common.{◌≡◌, ℕ, zero, suc, ◌+◌, ◌-◌, ◌≤◌, ◌⊎◌, inl, inr, ◌==◌, Bool, true, false, if◌then◌else◌, List, [], ◌∷◌, ◌++◌, length, drop, Option, Some, None, Result, Ok, Err, refl, sym, ap, subst, ◌∙◌, nat_le, ℤ, pos, arith, length-append}
use Rattle.std.specs.Prelude.{slice_get}
use Rattle.std.proofs.lemmas.Bool.{leb-true, leb-false}
use Rattle.sync_objects.specs.Setup.{SetupView, IsWithinLimits}
use Rattle.sync_objects.specs.Names.{name_of, is_ending}
use Rattle.sync_objects.specs.Sound.{IsInRange}
use Rattle.sync_objects.specs.declared.object.ObjId.TheVariants as object
use Rattle.sync_objects.specs.declared.operation.Op.{Op}
use Rattle.sync_objects.specs.declared.operation.Op.TheVariants as op
use Rattle.rr_base.specs.declared.trap.Trap.{Trap}
use Rattle.rr_base.specs.declared.trap.Trap.TheVariants as trap
use Rattle.flow_code.specs.declared.act.Act.{Act}
use Rattle.flow_code.specs.declared.act.Act.TheVariants as act
use Rattle.word_semantics.specs.declared.library_call.LibraryCall.{LibraryCall}
use Rattle.word_semantics.specs.declared.library_call.LibraryCall.TheVariants as call
use Rattle.flow_code.specs.declared.region.Region.{Region}
use Rattle.flow_code.specs.declared.thread.Stripe.{Stripe}
use Rattle.flow_code.specs.Holding.{region_of, lacked, take_or_quiet, give_or_quiet, taken, open_place, to_give, gives_at, parting, owes, parting_due, held, keeping, left_after}
use Rattle.flow_code.specs.declared.code.Code.{Code}
use Rattle.flow_code.specs.declared.thread.Phase.{Phase}
use Rattle.flow_code.specs.declared.thread.Phase.TheVariants as phase
use Rattle.word_semantics.specs.declared.event.Due.{Due}
use Rattle.word_semantics.specs.declared.event.Due.TheVariants as due
use Rattle.word_semantics.specs.declared.event.Onward.{Onward}
use Rattle.word_semantics.specs.declared.event.Onward.TheVariants as onward
use Rattle.word_semantics.specs.Values.{number, word}
use Rattle.word_semantics.specs.Pointers.{resolved}
use Rattle.flow_code.specs.Works.{is_pointer, work_of}
use Rattle.word_semantics.specs.Registers.{register}
use Rattle.word_semantics.specs.Library.{Caller, piece_of, library_due, library_onward, most_printed, count_in}
use Rattle.flow_code.specs.Threads.{Frame, Thread, OpenRegion, arena_end, is_main, objects_in, fitted}
use Rattle.word_semantics.specs.Cells.{size_of}
use Rattle.flow_code.specs.Next.{past, jumped, with_register, value_of, act_at, pointers_of, quiet_unless, load_due, store_due, malloc_due, mark_if, enter_due, end_due, return_due, caller, act_due, begun_due, phase_due, in_frame, computed, entered, one_made, end_onward, returned, back_in, resumed, branch_to, allocated, on_unless, act_after, begun_after, phase_after, counted, has_ended}
use Rattle.word_semantics.specs.Limits.{most_frames}
use Rattle.flow_code.specs.Ranges.{most_made}
use Rattle.word_semantics.specs.Registers.{words_of}
use Rattle.word_semantics.specs.Cells.{access_kind, is_size, cells_in}
use Rattle.word_semantics.specs.Library.{IsSoundCall}
use Rattle.word_semantics.proofs.Calls.{IsAsked, GoesOn, CallOperates, goes, ends_slot, leaves_all, CallGoes, call_goes}
use Rattle.flow_code.proofs.Shapes.{IsShaped, StandsIn, stands_in, each_more, framed, printed_more, in_phase, goes_shaped, entered_shaped, back_shaped}

-- what holds of both parts of a choice holds of it
either_each : {A : Type 0} (P : A → Type 0) (b : Bool) (x y : A) → (b ≡ true → P x) → (b ≡ false → P y) → P (if b then x else y)
either_each P true x y f g = f refl
either_each P false x y f g = g refl

-- once its first event is made, a call gives nothing more
parting_later : (c : LibraryCall) (made : ℕ) (xs : List Stripe) → parting c (made + 1) xs ≡ []
parting_later c made xs = let more : suc made ≡ made + 1 = omega arith in subst (λ n. parting c n xs ≡ []) more (by c)
  where
    by : (k : LibraryCall) → parting k (suc made) xs ≡ []
    by call.Exit = refl
    by _ = refl

-- the call that the instruction is, if it is one, is sound
abbrev pub IsSoundCallAt : Option Act → Type 0
IsSoundCallAt (Some (act.Library call arguments into)) = IsSoundCall call
IsSoundCallAt _ = Unit {0}

module _ (code : Code) (s : SetupView) (t : ℕ) (th : Thread) where
  -- the thread runs on
  pub record Runs (q : Thread) : Type 0 where
    pub lives : has_ended q.phase ≡ false
    pub shaped : IsShaped code s t th → IsShaped code s t q

  -- nothing but the frames, the arena, the stripes and the open regions has changed
  pub record StaysQuiet (q : Thread) : Type 0 where
    pub same_phase : q.phase ≡ th.phase
    pub same_printed : q.printed ≡ th.printed
    pub shaped : IsShaped code s t th → IsShaped code s t q

  -- an operation that isn't an ending one goes on; the last ones are the end of the slot, which leaving the live threads
  -- follows, and those that end the thread
  pub data ThreadOperates (o : Op) (q : Thread) : Type 0 where
    runs : is_ending (name_of o) ≡ false → Runs q → ThreadOperates o q
    slot_ends : o ≡ op.End → Runs q → phase_due code s t (counted op.End q) (counted op.End q).phase ≡ due.Operate op.Leave object.Threads → ThreadOperates o q
    thread_ends : (o ≡ op.Leave) ⊎ (o ≡ op.HaltAll) → has_ended q.phase ≡ true → (IsShaped code s t th → IsShaped code s t q) → ThreadOperates o q

  -- what is due by the code alone, where the thread becomes q
  abbrev pub ThreadGoes : Thread → Due → Type 0
  ThreadGoes q due.Nothing = (has_ended th.phase ≡ true) ⊎ ((th.phase ≡ phase.Running) × (act_at code th.top ≡ None))
  ThreadGoes q due.Quiet = StaysQuiet q
  ThreadGoes q (due.Load c) = Runs q
  ThreadGoes q (due.Store c w) = Runs q
  ThreadGoes q due.Mark = Runs q
  ThreadGoes q (due.Operate o obj) = IsAsked o obj × (IsWithinLimits s → IsSoundCallAt (act_at code th.top) → IsInRange o) × ThreadOperates o q
  ThreadGoes q (due.Trap kind) = Unit {0}

  in_frame_quiet : (f : Frame) → f.made ≡ 0 → StaysQuiet (in_frame th f)
  in_frame_quiet f e = record { same_phase = refl; same_printed = refl; shaped = framed code s t th f (omega arith) }

  in_frame_runs : (f : Frame) → th.phase ≡ phase.Running → f.made ≤ most_made → Runs (in_frame th f)
  in_frame_runs f run e = record { lives = ap has_ended run; shaped = framed code s t th f e }

  compute_goes : (into : ℕ) (r : Result ℕ Trap) → ThreadGoes (computed th into r) (quiet_unless r)
  compute_goes into (Ok w) = in_frame_quiet (past (with_register th.top into w)) refl
  compute_goes into (Err k) = tt

  malloc_goes : (into site unit : ℕ) (n : ℤ) → ThreadGoes (allocated th into site (cells_in n)) (malloc_due unit th.arena (arena_end code s t) n)
  malloc_goes into site unit n =
      either_each (ThreadGoes (allocated th into site (cells_in n))) (is_size unit n) (if nat_le (th.arena + cells_in n) (arena_end code s t) then due.Quiet else due.Trap trap.ArenaFull) (due.Trap trap.BadSize)
      (λ e. either_each (ThreadGoes (allocated th into site (cells_in n))) (nat_le (th.arena + cells_in n) (arena_end code s t)) due.Quiet (due.Trap trap.ArenaFull)
      (λ r. record {
        same_phase = refl;
        same_printed = refl;
        shaped = λ h. record { few_printed = h.few_printed; few_made = omega arith; few_frames = h.few_frames; room = leb-true (th.arena + cells_in n) (arena_end code s t) r; callers = h.callers };
      })
      (λ r. tt))
      (λ e. tt)

  load_goes : (q : Thread) (r : Result ℕ Trap) → Runs q → ThreadGoes q (load_due r)
  load_goes q (Ok c) h = h
  load_goes q (Err k) h = tt

  store_goes : (q : Thread) (w : ℕ) (r : Result ℕ Trap) → Runs q → ThreadGoes q (store_due r w)
  store_goes q w (Ok c) h = h
  store_goes q w (Err k) h = tt

  mark_goes : (q : Thread) (o : Option ℕ) → Runs q → ThreadGoes q (mark_if o)
  mark_goes q None h = tt
  mark_goes q (Some a) h = h

  enter_goes : (frames f : ℕ) (below : List Frame) (arguments : List ℕ) → length below ≡ frames → (IsShaped code s t th → (k : ℕ) (g : Frame) → slice_get below k ≡ Some g → StandsIn code g) →
      ThreadGoes (entered code s t th below f arguments) (enter_due code s t th frames f)
  enter_goes frames f below arguments n c =
      either_each (ThreadGoes (entered code s t th below f arguments)) (nat_le s.limit th.count) (due.Trap trap.Limit) (if nat_le most_frames frames then due.Trap trap.Depth else mark_if (fitted code.sites (arena_end code s t) (objects_in code f) th.arena))
      (λ e. tt)
      (λ e. either_each (ThreadGoes (entered code s t th below f arguments)) (nat_le most_frames frames) (due.Trap trap.Depth) (mark_if (fitted code.sites (arena_end code s t) (objects_in code f) th.arena))
      (λ r. tt)
      (λ r. let few = leb-false most_frames frames r in mark_goes (entered code s t th below f arguments) (fitted code.sites (arena_end code s t) (objects_in code f) th.arena) (record { lives = refl; shaped = λ h. entered_shaped code s t th below f arguments (omega arith) (c h) h })))

  back_quiet : (value : ℕ) (o : Option Frame) → StaysQuiet (back_in code th value o)
  back_quiet value None = record { same_phase = refl; same_printed = refl; shaped = λ h. h }
  back_quiet value (Some f) = record { same_phase = refl; same_printed = refl; shaped = back_shaped code s t th value (Some f) }

  end_goes : (v : Option ℕ) (m : Bool) (made : ℕ) → th.phase ≡ phase.Running → act_at code th.top ≡ Some (act.Return v) → (length th.below == 0) ≡ true → is_main code th.top.function ≡ m → th.top.made ≡ made →
      ThreadGoes (end_onward m th made) (end_due m t made (value_of th.top.registers v))
  end_goes v true made run at first main is =
      (record { fits = refl; own = refl; first = refl }, (λ l f. tt), thread_ends (inr refl) refl (in_phase code s t th phase.Halted))
  end_goes v false zero run at first main is = in_frame_runs (one_made th.top (pos 0)) run (omega (arith, is))
  end_goes v false (suc zero) run at first main is = (
    record { fits = refl; own = refl; first = refl },
    (λ l f. tt),
    slot_ends refl (in_frame_runs (one_made th.top (pos 0)) run (omega (arith, is)))
        (ap (phase_due code s t (counted op.End (in_frame th (one_made th.top (pos 0))))) run ∙ ap (act_due code s t (counted op.End (in_frame th (one_made th.top (pos 0))))) at ∙ next (length th.below == 0) (is_main code th.top.function) th.top.made first main is),
  )
    where
      next : (b m : Bool) (n : ℕ) → b ≡ true → m ≡ false → n ≡ 1 → (if b then end_due m t (n + 1) (value_of th.top.registers v) else due.Quiet) ≡ due.Operate op.Leave object.Threads
      next b m n e f g = rw (e, f, g) refl
  end_goes v false (suc (suc n)) run at first main is =
      (record { fits = refl; own = refl; first = refl }, (λ l f. tt), thread_ends (inl refl) refl (in_phase code s t th phase.Ended))

  return_goes : (v : Option ℕ) → th.phase ≡ phase.Running → act_at code th.top ≡ Some (act.Return v) → ThreadGoes (returned code th (value_of th.top.registers v)) (return_due code t th (value_of th.top.registers v))
  return_goes v run at = by (length th.below == 0) refl
    where
      by : (b : Bool) → (length th.below == 0) ≡ b →
          ThreadGoes (if b then end_onward (is_main code th.top.function) th th.top.made else back_in code th (value_of th.top.registers v) (slice_get th.below (length th.below - 1)))
          (if b then end_due (is_main code th.top.function) t th.top.made (value_of th.top.registers v) else due.Quiet)
      by true e = end_goes v (is_main code th.top.function) th.top.made run at e refl refl
      by false e = back_quiet (value_of th.top.registers v) (slice_get th.below (length th.below - 1))

  -- a call of the library, which has printed so far
  call_runs : (into : Option ℕ) (n made : ℕ) (o : Onward) → th.phase ≡ phase.Running → th.top.made ≡ made → (th.printed ≤ most_printed → n ≤ most_printed) → GoesOn made o → Runs (resumed (record th { printed = n }) into o)
  call_runs into n made (onward.Stays kept) run is p g = record {
    lives = ap has_ended run;
    shaped = λ h. goes_shaped code s t (record th { printed = n }) into (onward.Stays kept) (subst (λ z. z ≤ 2) (sym is) g) (printed_more code s t th n (p h.few_printed) h);
  }
  call_runs into n made (onward.Gives w) run is p g = record {
    lives = ap has_ended run;
    shaped = λ h. goes_shaped code s t (record th { printed = n }) into (onward.Gives w) tt (printed_more code s t th n (p h.few_printed) h);
  }
  call_runs into n made onward.Ends run is p g = absurd g

  call_quiet : (into : Option ℕ) (n w : ℕ) → n ≡ th.printed → StaysQuiet (resumed (record th { printed = n }) into (onward.Gives w))
  call_quiet into n w e = record {
    same_phase = refl;
    same_printed = e;
    shaped = λ h. goes_shaped code s t (record th { printed = n }) into (onward.Gives w) tt (printed_more code s t th n (subst (λ z. z ≤ most_printed) (sym e) h.few_printed) h);
  }

  module _ (c : LibraryCall) (arguments : List ℕ) (into : Option ℕ) (answer : ℤ) where
    -- the words of its arguments, what it leads to, and the thread after it
    abbrev given_words : List ℕ
    given_words = words_of th.top.registers arguments

    abbrev leads_to : Onward
    leads_to = library_onward (caller code s t th) c given_words th.top.made th.top.kept answer

    abbrev after_call : Onward → Thread
    after_call o = resumed (record th { printed = th.printed + length (piece_of c given_words) }) into o

    leave_next : (kept : ℤ) → th.phase ≡ phase.Running → act_at code th.top ≡ Some (act.Library c arguments into) →
        ((v : Caller) (k : ℤ) → library_due v c given_words (th.top.made + 1) k ≡ due.Operate op.Leave object.Threads) →
        phase_due code s t (counted op.End (after_call (onward.Stays kept))) (counted op.End (after_call (onward.Stays kept))).phase ≡ due.Operate op.Leave object.Threads
    leave_next kept run at h =
        ap (phase_due code s t (counted op.End (after_call (onward.Stays kept)))) run ∙ ap (act_due code s t (counted op.End (after_call (onward.Stays kept)))) at
        ∙ ap (λ z. parting_due z (library_due (caller code s t (counted op.End (after_call (onward.Stays kept)))) c given_words (th.top.made + 1) kept)) (parting_later c th.top.made th.stripes)
        ∙ h (caller code s t (counted op.End (after_call (onward.Stays kept)))) kept

    call_operates : (o : Op) → th.phase ≡ phase.Running → act_at code th.top ≡ Some (act.Library c arguments into) → CallOperates (caller code s t th) c given_words th.top.made th.top.kept answer o → ThreadOperates o (after_call leads_to)
    call_operates o run at (goes e h) = runs e (call_runs into _ th.top.made leads_to run refl h.prints h.goes_on)
    call_operates o run at (ends_slot e h) =
        subst (λ z. ThreadOperates o (after_call z)) (sym h.stays)
        (slot_ends e (call_runs into _ th.top.made (onward.Stays h.kept_next) run refl (λ p. let q = h.prints_nothing in omega arith) h.first) (leave_next h.kept_next run at h.leaves_next))
    call_operates o run at (leaves_all e h) =
        subst (λ z. ThreadOperates o (after_call z)) (sym h.ends)
        (thread_ends (inl e) refl (λ k. in_phase code s t (record th { printed = th.printed + length (piece_of c given_words) }) phase.Ended (printed_more code s t th (th.printed + length (piece_of c given_words)) (let q = h.prints_nothing in let r = k.few_printed in omega arith) k)))

    library_goes : (d : Due) → th.phase ≡ phase.Running → act_at code th.top ≡ Some (act.Library c arguments into) → CallGoes (caller code s t th) c given_words th.top.made th.top.kept answer d → ThreadGoes (after_call leads_to) d
    library_goes due.Nothing run at h = absurd h
    library_goes due.Quiet run at h = subst (λ z. StaysQuiet (after_call z)) (sym (h.gives answer)) (call_quiet into _ h.value (let q = h.prints_nothing in omega arith))
    library_goes (due.Load x) run at h = call_runs into _ th.top.made leads_to run refl h.prints h.goes_on
    library_goes (due.Store x v) run at h = call_runs into _ th.top.made leads_to run refl h.prints h.goes_on
    library_goes due.Mark run at h = absurd h
    library_goes (due.Operate o obj) run at h = (h.0, (λ l small. h.1 l (subst IsSoundCallAt at small)), call_operates o run at h.2)
    library_goes (due.Trap kind) run at h = tt

  -- a thread with other stripes and open regions is as before in all else
  held_runs : (xs : List Stripe) (rs : List OpenRegion) → th.phase ≡ phase.Running → Runs (record th { stripes = xs; regions = rs })
  held_runs xs rs run = record { lives = ap has_ended run; shaped = λ h. record { few_printed = h.few_printed; few_made = h.few_made; few_frames = h.few_frames; room = h.room; callers = h.callers } }

  held_quiet : (xs : List Stripe) (rs : List OpenRegion) → StaysQuiet (record th { stripes = xs; regions = rs })
  held_quiet xs rs = record { same_phase = refl; same_printed = refl; shaped = λ h. record { few_printed = h.few_printed; few_made = h.few_made; few_frames = h.few_frames; room = h.room; callers = h.callers } }

  -- the same where the thread goes on to its next instruction
  on_quiet : (rs : List OpenRegion) → StaysQuiet (record th { top = past th.top; regions = rs })
  on_quiet rs = record { same_phase = refl; same_printed = refl; shaped = λ h. record { few_printed = h.few_printed; few_made = omega arith; few_frames = h.few_frames; room = h.room; callers = h.callers } }

  -- an operation on a stripe
  weak_goes : (o : Op) (lock stripe : ℕ) (q : Thread) → IsAsked o (object.Weak lock stripe) → is_ending (name_of o) ≡ false → IsInRange o → Runs q → ThreadGoes q (due.Operate o (object.Weak lock stripe))
  weak_goes o lock stripe q a e r h = (a, (λ l f. r), runs e h)

  take_goes : (r : Option Region) (next : Option ℕ) → th.phase ≡ phase.Running → ThreadGoes (on_unless next (taken code th r next)) (take_or_quiet next)
  take_goes None None run = on_quiet th.regions
  take_goes (Some r) None run = on_quiet _
  take_goes None (Some n) run = weak_goes op.Take _ _ _ (record { fits = refl; own = refl; first = refl }) refl tt (held_runs th.stripes th.regions run)
  take_goes (Some r) (Some n) run = weak_goes op.Take _ _ _ (record { fits = refl; own = refl; first = refl }) refl tt (held_runs _ _ run)

  give_goes : (place : Option ℕ) (next : Option (ℕ × ℕ)) → th.phase ≡ phase.Running → ThreadGoes (on_unless next (gives_at th place next)) (give_or_quiet next)
  give_goes None None run = on_quiet th.regions
  give_goes (Some i) None run = on_quiet _
  give_goes None (Some n) run = weak_goes op.Give _ _ _ (record { fits = refl; own = refl; first = refl }) refl tt (held_runs th.stripes th.regions run)
  give_goes (Some i) (Some n) run = weak_goes op.Give _ _ _ (record { fits = refl; own = refl; first = refl }) refl tt (held_runs _ _ run)

  -- before its first event pthread_exit forgets what is owed and gives what is held
  parting_goes : (xs : List Stripe) (q : Thread) (d : Due) → th.phase ≡ phase.Running → ThreadGoes q d → ThreadGoes (left_after th xs q) (parting_due xs d)
  parting_goes [] q d run h = h
  parting_goes (x ∷ xs) q d run h = by (owes (x ∷ xs))
    where
      by : (b : Bool) → ThreadGoes (keeping th (if b then held (x ∷ xs) else drop 1 (x ∷ xs))) (if b then due.Quiet else due.Operate op.Give (object.Weak x.lock x.stripe))
      by true = held_quiet _ _
      by false = weak_goes op.Give _ _ _ (record { fits = refl; own = refl; first = refl }) refl tt (held_runs _ _ run)

  -- an instruction
  act_goes : (o : Option Act) (answer : ℤ) → th.phase ≡ phase.Running → act_at code th.top ≡ o → ThreadGoes (act_after code s t th o answer) (act_due code s t th o)
  act_goes None answer run at = inr (run, at)
  act_goes (Some (act.Compute into work)) answer run at = compute_goes into (work_of s.slots code.sites (pointers_of code th.top) th.top.registers work)
  act_goes (Some (act.Alloc into site None)) answer run at = in_frame_quiet (past th.top) refl
  act_goes (Some (act.Alloc into site (Some size))) answer run at = malloc_goes into site (size_of code.sites site) (number (register th.top.registers size))
  act_goes (Some (act.LoadCell into through)) answer run at = load_goes _ (resolved code.sites (register th.top.registers through) (access_kind (is_pointer (pointers_of code th.top) into))) (in_frame_runs (past (with_register th.top into (word answer))) run (omega arith))
  act_goes (Some (act.StoreCell through from)) answer run at = store_goes _ (register th.top.registers from) (resolved code.sites (register th.top.registers through) (access_kind (is_pointer (pointers_of code th.top) from))) (in_frame_runs (past th.top) run (omega arith))
  act_goes (Some act.Mark) answer run at = in_frame_runs (past th.top) run (omega arith)
  act_goes (Some (act.Call function arguments into)) answer run at =
      enter_goes (length th.below + 1) function (th.below ++ one_made th.top (pos 0) ∷ []) (words_of th.top.registers arguments) (length-append th.below (one_made th.top (pos 0) ∷ []))
      (λ h. each_more (StandsIn code) th.below (one_made th.top (pos 0)) h.callers (stands_in code th.top (act.Call function arguments into) at))
  act_goes (Some (act.Library call arguments into)) answer run at =
      parting_goes (parting call th.top.made th.stripes) _ (library_due (caller code s t th) call (words_of th.top.registers arguments) th.top.made th.top.kept) run
      (library_goes call arguments into answer (library_due (caller code s t th) call (words_of th.top.registers arguments) th.top.made th.top.kept) run at (call_goes (caller code s t th) call (words_of th.top.registers arguments) th.top.made th.top.kept answer))
  act_goes (Some (act.Jump to)) answer run at = in_frame_quiet (jumped th.top to) refl
  act_goes (Some (act.Branch on then_at else_at)) answer run at = in_frame_quiet (jumped th.top (branch_to (register th.top.registers on) then_at else_at)) refl
  act_goes (Some (act.Return value)) answer run at = return_goes value run at
  act_goes (Some (act.Take region)) answer run at = take_goes (region_of code th.top region) (lacked code th (region_of code th.top region)) run
  act_goes (Some (act.Give region)) answer run at = give_goes (open_place code th region) (to_give code th region) run

  empty_below : (k : ℕ) (g : Frame) → slice_get [] k ≡ Some g → StandsIn code g
  empty_below k g e = cc

-- what is due by the code alone, with what becomes of the thread
begun_goes : (code : Code) (s : SetupView) (t : ℕ) (th : Thread) (f : ℕ) (answer : ℤ) → ThreadGoes code s t th (begun_after code s t th f answer) (begun_due code s t th f)
begun_goes code s zero th f answer = enter_goes code s zero th 0 f [] [] refl (λ h. empty_below code s zero th)
begun_goes code s (suc k) th f answer = record { lives = refl; shaped = in_phase code s (suc k) th (phase.Loaded f (word answer)) }

goes_in : (code : Code) (s : SetupView) (t : ℕ) (th : Thread) (p : Phase) (answer : ℤ) → th.phase ≡ p → ThreadGoes code s t th (phase_after code s t th p answer) (phase_due code s t th p)
goes_in code s t th phase.Fresh answer e =
    (record { fits = refl; own = refl; first = refl }, (λ l f. tt), runs refl (record { lives = refl; shaped = in_phase code s t th (phase.Begun (count_in answer)) }))
goes_in code s t th (phase.Begun f) answer e = begun_goes code s t th f answer
goes_in code s t th (phase.Loaded f w) answer e = enter_goes code s t th 0 f [] (w ∷ []) refl (λ h. empty_below code s t th)
goes_in code s t th phase.Running answer e = act_goes code s t th (act_at code th.top) answer e refl
goes_in code s t th phase.Ended answer e = inl (ap has_ended e)
goes_in code s t th phase.Halted answer e = inl (ap has_ended e)
goes_in code s t th (phase.Trapped kind line) answer e = inl (ap has_ended e)
goes_in code s t th phase.Stopped answer e = inl (ap has_ended e)
goes_in code s t th phase.Closed answer e = inl (ap has_ended e)

pub thread_goes : (code : Code) (s : SetupView) (t : ℕ) (th : Thread) (d : Due) (answer : ℤ) → phase_due code s t th th.phase ≡ d → ThreadGoes code s t th (phase_after code s t th th.phase answer) d
thread_goes code s t th d answer e = subst (ThreadGoes code s t th (phase_after code s t th th.phase answer)) e (goes_in code s t th th.phase answer refl)
