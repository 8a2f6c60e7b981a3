-- Every step keeps the numbers of a thread in range, and so does what others do to it.
use Rattle.std.proofs.Common.{◌≡◌, ℕ, zero, suc, ◌+◌, ◌*◌, ◌^◌, ◌<◌, ◌≤◌, ◌⊎◌, inl, inr, ⊎_elim, Bool, true, false, if◌then◌else◌, List, [], ◌∷◌, length, Option, Some, None, refl, sym, ap, subst, ◌∙◌, ℤ, pos, arith}
use Rattle.std.proofs.lemmas.Bool.{true≢false, or_from}
use Rattle.sync_objects.specs.Setup.{SetupView, IsWithinLimits}
use Rattle.sync_objects.specs.Names.{name_of, is_ending, is_weak}
use Rattle.sync_objects.specs.declared.object.ObjId.{ObjId}
use Rattle.sync_objects.specs.declared.object.ObjId.TheVariants as object
use Rattle.sync_objects.specs.declared.operation.Op.{Op}
use Rattle.sync_objects.specs.declared.operation.Op.TheVariants as op
use Rattle.rr_base.specs.declared.trap.Trap.{Trap}
use Rattle.flow_code.specs.declared.act.Act.{Act}
use Rattle.flow_code.specs.declared.act.Act.TheVariants as act
use Rattle.flow_code.specs.declared.code.Code.{Code}
use Rattle.flow_code.specs.declared.thread.Phase.{Phase}
use Rattle.flow_code.specs.declared.thread.Phase.TheVariants as phase
use Rattle.flow_code.specs.declared.thread.Stripe.{Stripe}
use Rattle.word_semantics.specs.declared.event.Due.{Due}
use Rattle.word_semantics.specs.declared.event.Due.TheVariants as due
use Rattle.word_semantics.specs.declared.event.Action.TheVariants as action
use Rattle.word_semantics.specs.declared.library_call.LibraryCall.{LibraryCall}
use Rattle.word_semantics.specs.declared.library_call.LibraryCall.TheVariants as call
use Rattle.word_semantics.specs.Library.{library_due}
use Rattle.flow_code.specs.Holding.{region_of, lacked, take_or_quiet, give_or_quiet, to_give, parting, owes, parting_due}
use Rattle.flow_code.specs.Threads.{Thread, arena_end}
use Rattle.flow_code.specs.Next.{act_at, act_due, begun_due, phase_due, due_of, caller, lost, phase_after, counted, repaid, one_more, after_due, gave_up, stopped, slot_closed, has_ended, action_of, action_at, stepped}
use Rattle.word_semantics.specs.Limits.{most_entries, most_revokes, is_free_of_limit}
use Rattle.word_semantics.specs.Registers.{words_of}
use Rattle.flow_code.specs.Settle.{settled, IsRunnable}
use Rattle.flow_code.specs.Ranges.{IsCounted, within, leaving, over, InRange}
use Rattle.flow_code.proofs.Dues.{quiet_by_code, IsAccess, access_by_code, operate_by_code, operate_room, leave_due}
use Rattle.flow_code.proofs.Shapes.{IsShaped, in_phase}
use Rattle.flow_code.proofs.Goings.{ThreadOperates, runs, slot_ends, thread_ends, thread_goes}
use Rattle.flow_code.proofs.Counts.{KeepsRest, phase_keeps, stepped_is, access_after, runs_of, operate_after, ended_due, ended_action}
use Rattle.flow_code.proofs.Settle.{settled_keeps, action_is}

-- a thread that is about to leave the live threads is so as well once a stripe of it was revoked

no_take : (next : Option ℕ) (q : Due) → take_or_quiet next ≡ due.Operate op.Leave object.Threads → q ≡ due.Operate op.Leave object.Threads
no_take None q e = cc
no_take (Some n) q e = let differ : op.Take ≡ op.Leave = cc in cc

no_give : (next : Option (ℕ × ℕ)) (q : Due) → give_or_quiet next ≡ due.Operate op.Leave object.Threads → q ≡ due.Operate op.Leave object.Threads
no_give None q e = cc
no_give (Some x) q e = let differ : op.Give ≡ op.Leave = cc in cc

nothing_lost : (c : LibraryCall) (made : ℕ) (xs : List Stripe) (lock stripe : ℕ) → parting c made xs ≡ [] → parting c made (lost xs lock stripe) ≡ []
nothing_lost call.Exit zero xs lock stripe e = ap (λ z. lost z lock stripe) e
nothing_lost call.Exit (suc n) xs lock stripe e = refl
nothing_lost _ made xs lock stripe e = refl

leaves_none : (xs : List Stripe) (d : Due) → parting_due xs d ≡ due.Operate op.Leave object.Threads → (xs ≡ []) × (d ≡ due.Operate op.Leave object.Threads)
leaves_none [] d e = (refl, e)
leaves_none (x ∷ xs) d e = by (owes (x ∷ xs)) e
  where
    by : (b : Bool) → (if b then due.Quiet else due.Operate op.Give (object.Weak x.lock x.stripe)) ≡ due.Operate op.Leave object.Threads → (x ∷ xs ≡ []) × (d ≡ due.Operate op.Leave object.Threads)
    by true h = cc
    by false h = let differ : op.Give ≡ op.Leave = cc in cc

call_leaves : (c : LibraryCall) (made : ℕ) (xs : List Stripe) (lock stripe : ℕ) (d : Due) → parting_due (parting c made xs) d ≡ due.Operate op.Leave object.Threads → parting_due (parting c made (lost xs lock stripe)) d ≡ due.Operate op.Leave object.Threads
call_leaves c made xs lock stripe d e =
    let h = leaves_none (parting c made xs) d e in
    ap (λ z. parting_due z d) (nothing_lost c made xs lock stripe h.0) ∙ h.1

act_leaves : (code : Code) (s : SetupView) (t : ℕ) (th : Thread) (lock stripe : ℕ) (o : Option Act) → act_due code s t th o ≡ due.Operate op.Leave object.Threads → act_due code s t (gave_up th lock stripe) o ≡ due.Operate op.Leave object.Threads
act_leaves code s t th lock stripe None e = e
act_leaves code s t th lock stripe (Some (act.Compute into work)) e = e
act_leaves code s t th lock stripe (Some (act.Alloc into site None)) e = e
act_leaves code s t th lock stripe (Some (act.Alloc into site (Some size))) e = e
act_leaves code s t th lock stripe (Some (act.LoadCell into through)) e = e
act_leaves code s t th lock stripe (Some (act.StoreCell through from)) e = e
act_leaves code s t th lock stripe (Some act.Mark) e = e
act_leaves code s t th lock stripe (Some (act.Call function arguments into)) e = e
act_leaves code s t th lock stripe (Some (act.Library call arguments into)) e = call_leaves call th.top.made th.stripes lock stripe (library_due (caller code s t th) call (words_of th.top.registers arguments) th.top.made th.top.kept) e
act_leaves code s t th lock stripe (Some (act.Jump to)) e = e
act_leaves code s t th lock stripe (Some (act.Branch on then_at else_at)) e = e
act_leaves code s t th lock stripe (Some (act.Return value)) e = e
act_leaves code s t th lock stripe (Some (act.Take region)) e = no_take (lacked code th (region_of code th.top region)) _ e
act_leaves code s t th lock stripe (Some (act.Give region)) e = no_give (to_give code th region) _ e

begun_leaves : (code : Code) (s : SetupView) (t : ℕ) (th : Thread) (lock stripe : ℕ) (f : ℕ) → begun_due code s t (gave_up th lock stripe) f ≡ begun_due code s t th f
begun_leaves code s zero th lock stripe f = refl
begun_leaves code s (suc k) th lock stripe f = refl

pub phase_leaves : (code : Code) (s : SetupView) (t : ℕ) (th : Thread) (lock stripe : ℕ) (p : Phase) → phase_due code s t th p ≡ due.Operate op.Leave object.Threads → phase_due code s t (gave_up th lock stripe) p ≡ due.Operate op.Leave object.Threads
phase_leaves code s t th lock stripe phase.Fresh e = e
phase_leaves code s t th lock stripe (phase.Begun f) e = begun_leaves code s t th lock stripe f ∙ e
phase_leaves code s t th lock stripe (phase.Loaded f w) e = e
phase_leaves code s t th lock stripe phase.Running e = act_leaves code s t th lock stripe (act_at code th.top) e
phase_leaves code s t th lock stripe phase.Ended e = e
phase_leaves code s t th lock stripe phase.Halted e = e
phase_leaves code s t th lock stripe (phase.Trapped kind line) e = e
phase_leaves code s t th lock stripe phase.Stopped e = e
phase_leaves code s t th lock stripe phase.Closed e = e

module _ (code : Code) (s : SetupView) (extra t : ℕ) where
  pub shape_of : (th : Thread) → InRange code s extra t th → IsShaped code s t th
  shape_of th h = record { few_printed = h.few_printed; few_made = h.few_made; few_frames = h.few_frames; room = h.room; callers = h.callers }

  pub in_range : (th : Thread) → IsCounted code s extra t th → th.entries ≤ most_entries → th.revokes ≤ most_revokes → IsShaped code s t th → InRange code s extra t th
  in_range th c e r h = record { counted = c; few_entries = e; few_revokes = r; few_printed = h.few_printed; few_made = h.few_made; few_frames = h.few_frames; room = h.room; callers = h.callers }

  -- counting changes none of the other numbers
  counted_shaped : (o : Op) (q : Thread) → IsShaped code s t q → IsShaped code s t (counted o q)
  counted_shaped o q h = record { few_printed = h.few_printed; few_made = h.few_made; few_frames = h.few_frames; room = h.room; callers = h.callers }

  one_more_shaped : (q : Thread) → IsShaped code s t q → IsShaped code s t (one_more q)
  one_more_shaped q h = record { few_printed = h.few_printed; few_made = h.few_made; few_frames = h.few_frames; room = h.room; callers = h.callers }

  repaid_shaped : (th : Thread) → IsShaped code s t th → IsShaped code s t (record th { stripes = repaid th.stripes })
  repaid_shaped th h = record { few_printed = h.few_printed; few_made = h.few_made; few_frames = h.few_frames; room = h.room; callers = h.callers }

  leave_is : (o : Op) (obj : ObjId) → due.Operate op.Leave object.Threads ≡ due.Operate o obj → op.Leave ≡ o
  leave_is o obj e = cc

  -- a thread that hasn't ended and isn't about to leave is within the limit
  before_end : (th : Thread) → IsCounted code s extra t th → (has_ended th.phase ≡ true → ⊥) → (due_of code s t th ≡ due.Operate op.Leave object.Threads → ⊥) → th.count ≤ s.limit + extra
  before_end th (within h) e l = h
  before_end th (leaving h d) e l = absurd (l d)
  before_end th (over h d) e l = absurd (e d)

  pub not_ended : (th : Thread) → IsCounted code s extra t th → (has_ended th.phase ≡ true → ⊥) → th.count ≤ s.limit + extra + 1
  not_ended th (within h) e = omega arith
  not_ended th (leaving h d) e = h
  not_ended th (over h d) e = absurd (e d)

  -- an operation comes within the limit, and one event later where it is an ending one
  pub operation_count : (th : Thread) (o : Op) (obj : ObjId) → action_at code s t th ≡ action.Operate o obj → IsCounted code s extra t th → (th.count ≤ s.limit + extra + 1) × (is_ending (name_of o) ≡ false → th.count ≤ s.limit + extra)
  operation_count th o obj e (within h) = (omega arith, λ n. h)
  operation_count th o obj e (leaving h d) =
      let same : op.Leave ≡ o = leave_action (sym (ap action_of d) ∙ sym (action_is code s t th) ∙ e) in
      (h, λ n. absurd (true≢false (ap (λ z. is_ending (name_of z)) same ∙ n)))
    where
      leave_action : action.Operate op.Leave object.Threads ≡ action.Operate o obj → op.Leave ≡ o
      leave_action x = cc
  operation_count th o obj e (over h d) = let clash : action.Ended ≡ action.Operate o obj = sym (ended_action code s t th d) ∙ e in cc

  -- something is due in a thread that hasn't ended
  lives_on : (th : Thread) (d : Due) → due_of code s t th ≡ d → (d ≡ due.Nothing → ⊥) → has_ended th.phase ≡ true → ⊥
  lives_on th d e n h = n (sym e ∙ ended_due code s t th h)

  -- an operation that goes on leaves the count within the limit: one on a stripe doesn't raise it, and any other has room
  counted_within : (o : Op) (n : ℕ) → is_ending (name_of o) ≡ false → n ≤ s.limit + extra → (is_free_of_limit o ≡ false → n < s.limit) → (if is_weak (name_of o) then n else n + 1) ≤ s.limit + extra
  counted_within o n ends h below = by (is_weak (name_of o)) refl
    where
      by : (b : Bool) → is_weak (name_of o) ≡ b → (if b then n else n + 1) ≤ s.limit + extra
      by true e = h
      by false e = let more = below (or_from (is_ending (name_of o)) (is_weak (name_of o)) ends e) in omega arith

  counted_most : (o : Op) (n : ℕ) → (if is_weak (name_of o) then n else n + 1) ≤ n + 1
  counted_most o n = by (is_weak (name_of o))
    where
      by : (b : Bool) → (if b then n else n + 1) ≤ n + 1
      by true = omega arith
      by false = omega arith

  few_counted : (o : Op) (n : ℕ) → n ≤ most_entries → (is_ending (name_of o) ≡ false → n < most_entries) → (if is_ending (name_of o) then n else n + 1) ≤ most_entries
  few_counted o n h g = by (is_ending (name_of o)) refl
    where
      by : (b : Bool) → is_ending (name_of o) ≡ b → (if b then n else n + 1) ≤ most_entries
      by true e = h
      by false e = let room = g e in omega arith

  -- an operation of the thread's own code
  operated : (th q : Thread) (o : Op) (obj : ObjId) → InRange code s extra t th → due_of code s t th ≡ due.Operate o obj → (is_free_of_limit o ≡ false → th.count < s.limit) → KeepsRest th q → ThreadOperates code s t th o q → InRange code s extra t (counted o q)
  operated th q o obj h e below k (runs ends r) =
      let same = k.count in
      let here = before_end th h.counted (lives_on th (due.Operate o obj) e (λ n. cc)) (λ l. let o_is : op.Leave ≡ o = leave_is o obj (sym l ∙ e) in true≢false (ap (λ z. is_ending (name_of z)) o_is ∙ ends)) in
      in_range (counted o q) (within (counted_within o q.count ends (omega arith) (λ f. let more = below f in omega arith))) (few_counted o q.entries (subst (λ n. n ≤ most_entries) (sym k.entries) h.few_entries) (λ n. subst (λ m. m < most_entries) (sym k.entries) (operate_room code s t th o obj e n))) (subst (λ n. n ≤ most_revokes) (sym k.revokes) h.few_revokes) (counted_shaped o q (r.shaped (shape_of th h)))
  operated th q o obj h e below k (slot_ends is r next) =
      let count = counted_most o q.count in
      let same = k.count in
      let here = before_end th h.counted (lives_on th (due.Operate o obj) e (λ n. cc)) (λ l. let o_is : due.Operate op.Leave object.Threads ≡ due.Operate o obj = sym l ∙ e in cc) in
      in_range (counted o q) (leaving (omega arith) (leave_due code s t (counted o q) (subst (λ z. phase_due code s t (counted z q) (counted z q).phase ≡ due.Operate op.Leave object.Threads) (sym is) next))) (few_counted o q.entries (subst (λ n. n ≤ most_entries) (sym k.entries) h.few_entries) (λ n. subst (λ m. m < most_entries) (sym k.entries) (operate_room code s t th o obj e n))) (subst (λ n. n ≤ most_revokes) (sym k.revokes) h.few_revokes) (counted_shaped o q (r.shaped (shape_of th h)))
  operated th q o obj h e below k (thread_ends is ended shaped) =
      let count = counted_most o q.count in
      let same = k.count in
      let here = not_ended th h.counted (lives_on th (due.Operate o obj) e (λ n. cc)) in
      in_range (counted o q) (over (omega arith) ended) (few_counted o q.entries (subst (λ n. n ≤ most_entries) (sym k.entries) h.few_entries) (λ n. subst (λ m. m < most_entries) (sym k.entries) (operate_room code s t th o obj e n))) (subst (λ n. n ≤ most_revokes) (sym k.revokes) h.few_revokes) (counted_shaped o q (shaped (shape_of th h)))

  -- a stripe is taken again
  retaken : (th : Thread) (o : Op) (obj : ObjId) → InRange code s extra t th → due_of code s t th ≡ due.Operate o obj → o ≡ op.Retake → InRange code s extra t (counted op.Retake (record th { stripes = repaid th.stripes }))
  retaken th o obj h e is =
      let here = before_end th h.counted (lives_on th (due.Operate o obj) e (λ n. cc)) (λ l. let o_is : due.Operate op.Leave object.Threads ≡ due.Operate o obj = sym l ∙ e in cc) in
      let room = operate_room code s t th o obj e (ap (λ z. is_ending (name_of z)) is) in
      in_range (counted op.Retake (record th { stripes = repaid th.stripes })) (within here) (omega arith) h.few_revokes (counted_shaped op.Retake (record th { stripes = repaid th.stripes }) (repaid_shaped th (shape_of th h)))

  operate_in_range : (th : Thread) (o : Op) (obj : ObjId) (answer : ℤ) → due_of code s t th ≡ due.Operate o obj → InRange code s extra t th → InRange code s extra t (after_due code s t th (due.Operate o obj) answer)
  operate_in_range th o obj answer e h = by (operate_by_code code s t th o obj e)
    where
      plain : phase_due code s t th th.phase ≡ due.Operate o obj → (is_free_of_limit o ≡ false → th.count < s.limit) → InRange code s extra t (after_due code s t th (due.Operate o obj) answer)
      plain p below =
          let g = thread_goes code s t th (due.Operate o obj) answer p in
          subst (InRange code s extra t) (sym (operate_after code s t th o obj answer g.0.first)) (operated th (phase_after code s t th th.phase answer) o obj h e below (phase_keeps code s t th th.phase answer) g.2)

      by : (phase_due code s t th th.phase ≡ due.Operate o obj) × (is_free_of_limit o ≡ false → th.count < s.limit) ⊎ ((x : Stripe) × (o ≡ op.Retake) × (obj ≡ object.Weak x.lock x.stripe)) → InRange code s extra t (after_due code s t th (due.Operate o obj) answer)
      by (inl p) = plain p.0 p.1
      by (inr r) = subst (λ z. InRange code s extra t (after_due code s t th (due.Operate z obj) answer)) (sym r.1) (retaken th o obj h e r.1)

  access_in_range : (th : Thread) (d : Due) (answer : ℤ) → IsAccess d → due_of code s t th ≡ d → InRange code s extra t th → InRange code s extra t (after_due code s t th d answer)
  access_in_range th d answer a e h =
      let p = access_by_code code s t th d a e in
      let q = phase_after code s t th th.phase answer in
      let k = phase_keeps code s t th th.phase answer in
      let r = runs_of code s t th q d a (thread_goes code s t th d answer p.0) in
      let same = k.count in
      let room = p.1 in
      subst (InRange code s extra t) (sym (access_after code s t th d answer a))
      (in_range (one_more q) (within (omega arith)) (subst (λ n. n ≤ most_entries) (sym k.entries) h.few_entries) (subst (λ n. n ≤ most_revokes) (sym k.revokes) h.few_revokes) (one_more_shaped q (r.shaped (shape_of th h))))

  -- a quiet step changes no count, and none is due in a thread that has ended or is about to leave
  quiet_in_range : (th : Thread) (answer : ℤ) → due_of code s t th ≡ due.Quiet → InRange code s extra t th → InRange code s extra t (after_due code s t th due.Quiet answer)
  quiet_in_range th answer e h =
      let k = phase_keeps code s t th th.phase answer in
      let g = thread_goes code s t th due.Quiet answer (quiet_by_code code s t th e) in
      let here = before_end th h.counted (lives_on th due.Quiet e (λ n. cc)) (λ l. let d_is : due.Operate op.Leave object.Threads ≡ due.Quiet = sym l ∙ e in cc) in
      in_range (phase_after code s t th th.phase answer) (within (subst (λ n. n ≤ s.limit + extra) (sym k.count) here)) (subst (λ n. n ≤ most_entries) (sym k.entries) h.few_entries) (subst (λ n. n ≤ most_revokes) (sym k.revokes) h.few_revokes) (g.shaped (shape_of th h))

  trap_in_range : (th : Thread) (kind : Trap) (answer : ℤ) → due_of code s t th ≡ due.Trap kind → InRange code s extra t th → InRange code s extra t (after_due code s t th (due.Trap kind) answer)
  trap_in_range th kind answer e h =
      let here = not_ended th h.counted (lives_on th (due.Trap kind) e (λ n. cc)) in
      in_range (after_due code s t th (due.Trap kind) answer) (over (omega arith) refl) h.few_entries h.few_revokes (counted_shaped op.TrapHere _ (in_phase code s t th _ (shape_of th h)))

  due_in_range : (th : Thread) (d : Due) (answer : ℤ) → due_of code s t th ≡ d → InRange code s extra t th → InRange code s extra t (after_due code s t th d answer)
  due_in_range th due.Nothing answer e h = h
  due_in_range th due.Quiet answer e h = quiet_in_range th answer e h
  due_in_range th (due.Load c) answer e h = access_in_range th (due.Load c) answer tt e h
  due_in_range th (due.Store c w) answer e h = access_in_range th (due.Store c w) answer tt e h
  due_in_range th due.Mark answer e h = access_in_range th due.Mark answer tt e h
  due_in_range th (due.Operate o obj) answer e h = operate_in_range th o obj answer e h
  due_in_range th (due.Trap kind) answer e h = trap_in_range th kind answer e h

  -- each step keeps the numbers in range
  pub stepped_in_range : (th : Thread) (answer : ℤ) → InRange code s extra t th → InRange code s extra t (stepped code s t th answer)
  stepped_in_range th answer h = subst (InRange code s extra t) (sym (stepped_is code s t th (due_of code s t th) answer refl)) (due_in_range th (due_of code s t th) answer refl h)

  pub settled_in_range : (th : Thread) → InRange code s extra t th → InRange code s extra t (settled code s t th)
  settled_in_range th h = settled_keeps code s t (InRange code s extra t) (λ q e k. stepped_in_range q (pos 0) k) th h

  pub leave_by_code : (th : Thread) → due_of code s t th ≡ due.Operate op.Leave object.Threads → phase_due code s t th th.phase ≡ due.Operate op.Leave object.Threads
  leave_by_code th e = ⊎_elim (λ h. h.0) (λ h. let differ : op.Leave ≡ op.Retake = h.1 in cc) (operate_by_code code s t th op.Leave object.Threads e)

  -- a stripe was revoked
  gave_up_counted : (th : Thread) (lock stripe : ℕ) → IsCounted code s extra t th → IsCounted code s extra t (gave_up th lock stripe)
  gave_up_counted th lock stripe (within h) = within h
  gave_up_counted th lock stripe (leaving h d) = leaving h (leave_due code s t (gave_up th lock stripe) (phase_leaves code s t th lock stripe th.phase (leave_by_code th d)))
  gave_up_counted th lock stripe (over h e) = over h e

  pub gave_up_in_range : (th : Thread) (lock stripe : ℕ) → th.entries < most_entries → th.revokes < most_revokes → InRange code s extra t th → InRange code s extra t (gave_up th lock stripe)
  gave_up_in_range th lock stripe e r h =
      in_range (gave_up th lock stripe) (gave_up_counted th lock stripe h.counted) (omega arith) (omega arith)
      (record { few_printed = h.few_printed; few_made = h.few_made; few_frames = h.few_frames; room = h.room; callers = h.callers })

  -- the thread was stopped or closed
  pub stopped_in_range : (th : Thread) → has_ended th.phase ≡ false → InRange code s extra t th → InRange code s extra t (stopped th)
  stopped_in_range th lives h =
      let here = not_ended th h.counted (λ e. true≢false (sym e ∙ lives)) in
      in_range (stopped th) (over (omega arith) refl) h.few_entries h.few_revokes (counted_shaped op.Stop _ (in_phase code s t th phase.Stopped (shape_of th h)))

  pub shut_in_range : (th : Thread) → has_ended th.phase ≡ false → InRange code s extra t th → InRange code s extra t (slot_closed th)
  shut_in_range th lives h =
      let here = not_ended th h.counted (λ e. true≢false (sym e ∙ lives)) in
      in_range (slot_closed th) (over (omega arith) refl) h.few_entries h.few_revokes (counted_shaped op.Close _ (in_phase code s t th phase.Closed (shape_of th h)))

-- how great the numbers of a thread in range can be

pub count_fits : (code : Code) (s : SetupView) (extra t : ℕ) (th : Thread) → IsWithinLimits s → InRange code s extra t th → th.count ≤ 2 ^ 26 + extra + 2
count_fits code s extra t th l h = by h.counted
  where
    by : IsCounted code s extra t th → th.count ≤ 2 ^ 26 + extra + 2
    by (within c) = let few = l.few_events in omega arith
    by (leaving c d) = let few = l.few_events in omega arith
    by (over c e) = let few = l.few_events in omega arith

arena_bound : (slots cells globals t : ℕ) → slots ≤ 16 → cells ≤ 131072 → globals ≤ 2 ^ 20 → t < slots → 2 * slots + globals + t * cells + cells < 2 ^ 22
arena_bound slots cells globals t a b c d = grind arith

pub arena_end_fits : (code : Code) (s : SetupView) (t : ℕ) → IsRunnable code → IsWithinLimits s → t < s.slots → arena_end code s t < 2 ^ 22
arena_end_fits code s t r l lt = arena_bound s.slots s.cells (length code.globals) t l.few_slots l.few_cells r.few_globals lt

pub arena_fits : (code : Code) (s : SetupView) (extra t : ℕ) (th : Thread) → IsRunnable code → IsWithinLimits s → t < s.slots → InRange code s extra t th → th.arena < 2 ^ 22
arena_fits code s extra t th r l lt h = let few = arena_end_fits code s t r l lt in let room = h.room in omega arith
