-- What each instruction does to the frames of its thread and to their locks.
use Rattle.std.proofs.Common.{◌≡◌, ℕ, zero, suc, ◌+◌, ◌-◌, ◌==◌, ◌&&◌, Bool, true, false, if◌then◌else◌, ℤ, pos, List, [], ◌∷◌, length, take, reverse, Option, Some, None, Result, Ok, Err, refl, sym, ap, subst, ◌∙◌, arith, eq-eqb}
use Rattle.std.specs.Prelude.{slice_get, slice_set}
use Rattle.std.specs.List.{Contains}
use Rattle.std.proofs.lemmas.Bool.{and_parts, true≢false}
use Rattle.std.proofs.lemmas.List.{reverse-append}
use Rattle.sync_objects.specs.Setup.{SetupView}
use Rattle.sync_objects.specs.declared.object.ObjId.TheVariants as object
use Rattle.sync_objects.specs.declared.operation.Op.TheVariants as op
use Rattle.rr_base.specs.declared.trap.Trap.{Trap}
use Rattle.word_semantics.specs.declared.event.Due.{Due}
use Rattle.word_semantics.specs.declared.event.Due.TheVariants as due
use Rattle.word_semantics.specs.declared.event.Onward.{Onward}
use Rattle.word_semantics.specs.declared.event.Onward.TheVariants as onward
use Rattle.word_semantics.specs.declared.library_call.LibraryCall.{LibraryCall}
use Rattle.word_semantics.specs.Cells.{access_kind, size_of}
use Rattle.word_semantics.specs.Library.{library_due, library_onward, piece_of}
use Rattle.word_semantics.specs.Pointers.{resolved}
use Rattle.word_semantics.specs.Registers.{register, words_of}
use Rattle.word_semantics.specs.Values.{number}
use Rattle.flow_code.specs.declared.act.Act.{Act}
use Rattle.flow_code.specs.declared.act.Act.TheVariants as act
use Rattle.flow_code.specs.declared.act.Instr.{Instr}
use Rattle.flow_code.specs.declared.code.Code.{Code}
use Rattle.flow_code.specs.declared.code.Function.{Function}
use Rattle.flow_code.specs.declared.region.Region.{Region}
use Rattle.flow_code.specs.declared.thread.Stripe.{Stripe}
use Rattle.flow_code.specs.Holding.{region_of, lacked, take_or_quiet, taken, to_give, give_or_quiet, gives_at, gave, open_place, parting, owes, parting_due, left_after}
use Rattle.flow_code.specs.Kinds.{act_fits, have_kinds, library_value_fits, starts_fit}
use Rattle.word_semantics.specs.Kinds.{library_kinds}
use Rattle.flow_code.specs.Next.{act_in, act_at, act_due, past, jumped, given, value_of, pointers_of, quiet_unless, in_frame, computed, one_made, result_of, back_in, end_onward, resumed, call_after, on_unless, act_after, caller}
use Rattle.flow_code.specs.Threads.{Frame, Thread, instr_in, arena_end, is_main, first_frame}
use Rattle.flow_code.specs.Valid.{is_valid}
use Rattle.flow_code.specs.Works.{is_pointer, work_of}
use Rattle.flow_code.proofs.ValidParts.{function_is_fit, act_is_fit}
use Rattle.facts.specs.Blocks.{assigned, assigns, is_register}
use Rattle.facts.specs.Locks.{Points, after, successors, returns}
use Rattle.facts.specs.Summaries.{StandsAt, AreSolution, exits_of}
use Rattle.facts.specs.declared.locks.Held.{Held}
use Rattle.facts.specs.declared.locks.RelLocks.{RelLocks}
use Rattle.lockset_sound.specs.Frames.{so_far, call_so_far, IsCalledBy, Stack, ThreadStack}
use Rattle.lockset_sound.specs.Leading.{is_fixed, Holds, Mean}
use Rattle.lockset_sound.proofs.Calls.{LocksAfter, library_step}
use Rattle.lockset_sound.proofs.Known.{set_other, never}
use Rattle.lockset_sound.proofs.Means.{mean_more}
use Rattle.lockset_sound.proofs.NoUnlocks.{HasNoUnlock, load_none, store_none, malloc_none, enter_none, return_none}
use Rattle.lockset_sound.proofs.Passing.{More, Passes, more}
use Rattle.lockset_sound.proofs.Running.{KnownBelow, KnownThread, Stands, stands, below_is}
use Rattle.lockset_sound.proofs.Stacks.{is_own, is_simple, own_far, simple_own, simple_after, same_place, stack_more, stack_stays, stack_on, stack_calls, stack_returns}

given_kept : (f : Frame) (into : Option ℕ) (w r : ℕ) → is_register r into ≡ false → register (given f into w).registers r ≡ register f.registers r
given_kept f None w r e = refl
given_kept f (Some into) w r e = set_other f.registers into w r (λ q. true≢false (sym (eq-eqb into r (sym q)) ∙ e))

take_none : (o : Option ℕ) → HasNoUnlock (take_or_quiet o)
take_none None = tt
take_none (Some n) = refl

give_none : (o : Option (ℕ × ℕ)) → HasNoUnlock (give_or_quiet o)
give_none None = tt
give_none (Some x) = refl

parting_none : (x : Stripe) (ys : List Stripe) (d : Due) → HasNoUnlock (parting_due (x ∷ ys) d)
parting_none x ys d = by (owes (x ∷ ys))
  where
    by : (b : Bool) → HasNoUnlock (if b then due.Quiet else due.Operate op.Give (object.Weak x.lock x.stripe))
    by true = tt
    by false = refl

module _ (code : Code) (valid : is_valid code ≡ true) (s : SetupView) (tops : List (List Held)) (xs : List Points) (solves : AreSolution code tops xs) (long : length tops ≡ length code.functions) (t : ℕ) (th : Thread) (known : KnownThread code s.slots th) (now later : Holds) (h : ThreadStack code s.slots xs now th) where
  abbrev Goal : Thread → Type 0
  Goal q = ThreadStack code s.slots xs later q

  stays : More now later → Goal th
  stays held = stack_more code s.slots tops xs solves long th.top (reverse th.below) now later held h

  -- an instruction that is no call goes on
  goes : (a : Act) (x : Stands code th.top a) (to : ℕ) (qs : List ℕ) → is_simple a ≡ true → Contains (successors th.top.instr a) to → ((r : ℕ) → assigns r (Some a) ≡ false → register qs r ≡ register th.top.registers r) → More now later → Stack code s.slots xs later (record { function = th.top.function; instr = to; made = 0; kept = pos 0; registers = qs }) (reverse th.below)
  goes a x to qs simple next kept held =
      stack_on code s.slots tops xs solves long th.top to (pos 0) qs (reverse th.below) now later x.function x.instr x.here
      (subst (λ z. Contains (successors th.top.instr z) to) (sym x.is) next)
      (λ j fixed. kept j (ap (λ z. assigns j (Some z)) (sym x.is) ∙ never x.function th.top.instr x.instr j x.here.instr fixed))
      (λ l before m.
      subst (λ z. Mean code s.slots x.function th.top.registers z before later) (sym (simple_after (exits_of xs) x.function th.top.instr x.instr.act l (ap is_simple x.is ∙ simple)))
      (mean_more code s.slots x.function th.top.registers l before now later held
      (subst (λ z. Mean code s.slots x.function th.top.registers z before now) (own_far x.function th.top.instr x.instr.act th.top.made th.top.kept l (simple_own x.instr.act (ap is_simple x.is ∙ simple))) m)))
      h

  onward_at : (k : ℕ) → Contains ((k + 1) ∷ []) (k + 1)
  onward_at k = (0, omega arith, refl)

  set_kept : (a : Act) (into w : ℕ) → assigned a ≡ Some into → (r : ℕ) → assigns r (Some a) ≡ false → register (slice_set th.top.registers into w) r ≡ register th.top.registers r
  set_kept a into w e r n = set_other th.top.registers into w r (λ q. true≢false (sym (eq-eqb into r (sym q)) ∙ sym (ap (is_register r) e) ∙ n))

  on_goes : (o : Option ℕ) (q : Thread) → q.top ≡ th.top → q.below ≡ th.below → Goal th → Stack code s.slots xs later (past th.top) (reverse th.below) → Goal (on_unless o q)
  on_goes None q e b here next = subst (λ (z : Frame). Stack code s.slots xs later (past z) (reverse q.below)) (sym e) (subst (λ z. Stack code s.slots xs later (past th.top) (reverse z)) (sym b) next)
  on_goes (Some x) q e b here next = subst (λ (z : Frame). Stack code s.slots xs later z (reverse q.below)) (sym e) (subst (λ z. Stack code s.slots xs later th.top (reverse z)) (sym b) here)

  on_goes_pair : (o : Option (ℕ × ℕ)) (q : Thread) → q.top ≡ th.top → q.below ≡ th.below → Goal th → Stack code s.slots xs later (past th.top) (reverse th.below) → Goal (on_unless o q)
  on_goes_pair None q e b here next = subst (λ (z : Frame). Stack code s.slots xs later (past z) (reverse q.below)) (sym e) (subst (λ z. Stack code s.slots xs later (past th.top) (reverse z)) (sym b) next)
  on_goes_pair (Some x) q e b here next = subst (λ (z : Frame). Stack code s.slots xs later z (reverse q.below)) (sym e) (subst (λ z. Stack code s.slots xs later th.top (reverse z)) (sym b) here)

  taken_top : (r : Option Region) (o : Option ℕ) → (taken code th r o).top ≡ th.top
  taken_top None o = refl
  taken_top (Some r) None = refl
  taken_top (Some r) (Some n) = refl

  taken_below : (r : Option Region) (o : Option ℕ) → (taken code th r o).below ≡ th.below
  taken_below None o = refl
  taken_below (Some r) None = refl
  taken_below (Some r) (Some n) = refl

  gives_top : (p : Option ℕ) (o : Option (ℕ × ℕ)) → (gives_at th p o).top ≡ th.top
  gives_top None o = refl
  gives_top (Some i) o = refl

  gives_below : (p : Option ℕ) (o : Option (ℕ × ℕ)) → (gives_at th p o).below ≡ th.below
  gives_below None o = refl
  gives_below (Some i) o = refl

  -- ---- calls of the library

  call_goes : (c : LibraryCall) (args : List ℕ) (into : Option ℕ) (x : Stands code th.top (act.Library c args into)) (n : ℕ) (answer : ℤ) (o : Onward) → library_onward (caller code s t th) c (words_of th.top.registers args) th.top.made th.top.kept answer ≡ o → Passes (library_due (caller code s t th) c (words_of th.top.registers args) th.top.made th.top.kept) answer now later → Goal (resumed (record th { printed = n }) into o)
  call_goes c args into x n answer o e passes = by o e
    where
      fit : have_kinds x.function args (library_kinds c) ≡ true
      fit = (and_parts (starts_fit code c) (have_kinds x.function args (library_kinds c)) (and_parts (starts_fit code c && have_kinds x.function args (library_kinds c)) (library_value_fits x.function into c)
          (subst (λ a. act_fits code x.function a ≡ true) x.is (act_is_fit code x.function (function_is_fit code valid th.top.function x.function x.here.function) th.top.instr x.instr x.here.instr))).0).1

      following : (l : RelLocks) (before : Holds) → Mean code s.slots x.function th.top.registers (so_far x.function th.top.instr x.instr.act th.top.made th.top.kept l) before now → LocksAfter code s.slots x.function th.top.instr th.top.registers (known.0 x.function x.here.function) (caller code s t th) refl l before now later c args th.top.made th.top.kept (library_onward (caller code s t th) c (words_of th.top.registers args) th.top.made th.top.kept answer)
      following l before m =
          library_step code s.slots x.function th.top.instr th.top.registers (known.0 x.function x.here.function) (caller code s t th) refl l before now later c args th.top.made th.top.kept answer fit passes
          (subst (λ a. Mean code s.slots x.function th.top.registers (so_far x.function th.top.instr a th.top.made th.top.kept l) before now) x.is m)

      told : (l : RelLocks) (before : Holds) (o : Onward) → library_onward (caller code s t th) c (words_of th.top.registers args) th.top.made th.top.kept answer ≡ o → Mean code s.slots x.function th.top.registers (so_far x.function th.top.instr x.instr.act th.top.made th.top.kept l) before now → LocksAfter code s.slots x.function th.top.instr th.top.registers (known.0 x.function x.here.function) (caller code s t th) refl l before now later c args th.top.made th.top.kept o
      told l before o e m = subst (λ z. LocksAfter code s.slots x.function th.top.instr th.top.registers (known.0 x.function x.here.function) (caller code s t th) refl l before now later c args th.top.made th.top.kept z) e (following l before m)

      -- at the place where the thread stands
      at_place : (made : ℕ) (kept : ℤ) → ((l : RelLocks) (before : Holds) → Mean code s.slots x.function th.top.registers (so_far x.function th.top.instr x.instr.act th.top.made th.top.kept l) before now → Mean code s.slots x.function th.top.registers (call_so_far x.function th.top.instr c args made kept l) before later) → (fn : Function) (i : Instr) (l : RelLocks) (before : Holds) → StandsAt code th.top.function th.top.instr fn i → Mean code s.slots fn th.top.registers (so_far fn th.top.instr i.act th.top.made th.top.kept l) before now → Mean code s.slots fn th.top.registers (so_far fn th.top.instr i.act made kept l) before later
      at_place made kept turn fn i l before st m =
          let p = same_place code th.top.function th.top.instr x.function fn x.instr i x.here st in
          subst (λ (z : Instr). Mean code s.slots fn th.top.registers (so_far fn th.top.instr z.act made kept l) before later) p.instr
          (subst (λ z. Mean code s.slots z th.top.registers (so_far z th.top.instr x.instr.act made kept l) before later) p.function
          (subst (λ a. Mean code s.slots x.function th.top.registers (so_far x.function th.top.instr a made kept l) before later) (sym x.is)
          (turn l before
          (subst (λ z. Mean code s.slots z th.top.registers (so_far z th.top.instr x.instr.act th.top.made th.top.kept l) before now) (sym p.function)
          (subst (λ (z : Instr). Mean code s.slots fn th.top.registers (so_far fn th.top.instr z.act th.top.made th.top.kept l) before now) (sym p.instr) m)))))

      by : (o : Onward) → library_onward (caller code s t th) c (words_of th.top.registers args) th.top.made th.top.kept answer ≡ o → Goal (resumed (record th { printed = n }) into o)
      by (onward.Stays kept) g =
          let one : suc th.top.made ≡ th.top.made + 1 = omega arith in
          stack_stays code s.slots tops xs solves long th.top (th.top.made + 1) kept (reverse th.below) now later
          (at_place (th.top.made + 1) kept (λ l before m. subst (λ k. Mean code s.slots x.function th.top.registers (call_so_far x.function th.top.instr c args k kept l) before later) one (told l before (onward.Stays kept) g m))) h
      by onward.Ends g =
          stack_stays code s.slots tops xs solves long th.top th.top.made th.top.kept (reverse th.below) now later
          (at_place th.top.made th.top.kept (λ l before m. told l before onward.Ends g m)) h
      by (onward.Gives w) g = gives into refl
        where
          next : (qs : List ℕ) → ((r : ℕ) → is_register r into ≡ false → register qs r ≡ register th.top.registers r) → Stack code s.slots xs later (record { function = th.top.function; instr = th.top.instr + 1; made = 0; kept = pos 0; registers = qs }) (reverse th.below)
          next qs kept =
              stack_on code s.slots tops xs solves long th.top (th.top.instr + 1) (pos 0) qs (reverse th.below) now later x.function x.instr x.here
              (subst (λ a. Contains (successors th.top.instr a) (th.top.instr + 1)) (sym x.is) (onward_at th.top.instr))
              (λ j fixed. kept j (ap (λ z. assigns j (Some z)) (sym x.is) ∙ never x.function th.top.instr x.instr j x.here.instr fixed))
              (λ l before m. subst (λ a. Mean code s.slots x.function th.top.registers (after (exits_of xs) x.function th.top.instr a l) before later) (sym x.is) (told l before (onward.Gives w) g m))
              h

          gives : (o : Option ℕ) → into ≡ o → Goal (resumed (record th { printed = n }) o (onward.Gives w))
          gives None q = next th.top.registers (λ r e. refl)
          gives (Some r) q = next (slice_set th.top.registers r w) (λ j e. given_kept th.top (Some r) w j (sym (ap (is_register j) q) ∙ e))

  left_goes : (ys : List Stripe) (d : Due) (answer : ℤ) (q : Thread) → Passes (parting_due ys d) answer now later → (Passes d answer now later → Goal q) → Goal (left_after th ys q)
  left_goes [] d answer q p rest = rest p
  left_goes (y ∷ ys) d answer q p rest = stays (more (parting_due (y ∷ ys) d) answer now later (parting_none y ys d) p)

  -- ---- returns

  end_goes : (b : Bool) (made : ℕ) (a : Act) (x : Stands code th.top a) → is_own a ≡ true → More now later → Goal (end_onward b th made)
  end_goes b made a x own held = by b made
    where
      one : Goal (in_frame th (one_made th.top (pos 0)))
      one = stack_stays code s.slots tops xs solves long th.top (th.top.made + 1) (pos 0) (reverse th.below) now later
          (λ fn i l before st m.
          let p = same_place code th.top.function th.top.instr x.function fn x.instr i x.here st in
          let own2 : is_own i.act ≡ true = ap (λ (z : Instr). is_own z.act) (sym p.instr) ∙ ap is_own x.is ∙ own in
          mean_more code s.slots fn th.top.registers (so_far fn th.top.instr i.act (th.top.made + 1) (pos 0) l) before now later held
          (subst (λ z. Mean code s.slots fn th.top.registers z before now) (own_far fn th.top.instr i.act th.top.made th.top.kept l own2 ∙ sym (own_far fn th.top.instr i.act (th.top.made + 1) (pos 0) l own2)) m)) h

      by : (b : Bool) (made : ℕ) → Goal (end_onward b th made)
      by true made = stays held
      by false zero = one
      by false (suc zero) = one
      by false (suc (suc n)) = stays held

  back_goes : (a : Act) (x : Stands code th.top a) (value : ℕ) (o : Option Frame) → slice_get th.below (length th.below - 1) ≡ o → returns a ≡ true → More now later → Goal (back_in code th value o)
  back_goes a x value None e is held = stays held
  back_goes a x value (Some g) e is held = by (reverse (take (length th.below - 1) th.below)) (subst (Stack code s.slots xs now th.top) (below_is th.below g e) h) (subst (KnownBelow code s.slots) (below_is th.below g e) known.1)
    where
      by : (gs : List Frame) → Stack code s.slots xs now th.top (g ∷ gs) → KnownBelow code s.slots (g ∷ gs) → Stack code s.slots xs later (past (given g (result_of (act_at code g)) value)) gs
      by gs k below = subst (λ z. Stack code s.slots xs later (past (given g z value)) gs) (sym into_is) (gives c.into refl)
        where
          c : IsCalledBy code th.top g
          c = k.2.0

          into_is : result_of (act_at code g) ≡ c.into
          into_is = ap result_of (ap (λ z. act_in (instr_in z g.instr)) c.stands.function ∙ ap act_in c.stands.instr ∙ ap Some c.calls)

          next : (qs : List ℕ) → ((j : ℕ) → is_fixed c.caller j ≡ true → register qs j ≡ register g.registers j) → Stack code s.slots xs later (record { function = g.function; instr = g.instr + 1; made = 0; kept = pos 0; registers = qs }) gs
          next qs fixed =
              stack_returns code s.slots tops xs solves long th.top g c below.0 gs (pos 0) qs now later x.function x.instr x.here (ap returns x.is ∙ is) held fixed k.0 k.2.1 k.1 k.2.2 k.2.3

          gives : (z : Option ℕ) → c.into ≡ z → Stack code s.slots xs later (past (given g z value)) gs
          gives None q = next g.registers (λ j fixed. refl)
          gives (Some r) q = next (slice_set g.registers r value) (λ j fixed. given_kept g (Some r) value j (ap (is_register j) (sym q) ∙ ap (λ z. assigns j (Some z)) (sym c.calls) ∙ never c.caller g.instr c.instr j c.stands.instr fixed))

  -- ---- each instruction

  pub act_goes : (o : Option Act) (answer : ℤ) → act_at code th.top ≡ o → Passes (act_due code s t th o) answer now later → Goal (act_after code s t th o answer)
  act_goes None answer e p = absurd p
  act_goes (Some (act.Compute into w)) answer e p = by (work_of s.slots code.sites (pointers_of code th.top) th.top.registers w) p
    where
      by : (r : Result ℕ Trap) → Passes (quiet_unless r) answer now later → Goal (computed th into r)
      by (Err k) q = absurd q
      by (Ok v) q = goes (act.Compute into w) (stands code th.top (act.Compute into w) e) (th.top.instr + 1) (slice_set th.top.registers into v) refl (onward_at th.top.instr) (set_kept (act.Compute into w) into v refl) q
  act_goes (Some (act.Alloc into site None)) answer e p = goes (act.Alloc into site None) (stands code th.top (act.Alloc into site None) e) (th.top.instr + 1) th.top.registers refl (onward_at th.top.instr) (λ r n. refl) p
  act_goes (Some (act.Alloc into site (Some size))) answer e p =
      goes (act.Alloc into site (Some size)) (stands code th.top (act.Alloc into site (Some size)) e) (th.top.instr + 1) (slice_set th.top.registers into _) refl (onward_at th.top.instr) (set_kept (act.Alloc into site (Some size)) into _ refl)
      (more (act_due code s t th (Some (act.Alloc into site (Some size)))) answer now later (malloc_none (size_of code.sites site) th.arena (arena_end code s t) (number (register th.top.registers size))) p)
  act_goes (Some (act.LoadCell into through)) answer e p =
      goes (act.LoadCell into through) (stands code th.top (act.LoadCell into through) e) (th.top.instr + 1) (slice_set th.top.registers into _) refl (onward_at th.top.instr) (set_kept (act.LoadCell into through) into _ refl)
      (more (act_due code s t th (Some (act.LoadCell into through))) answer now later (load_none (resolved code.sites (register th.top.registers through) (access_kind (is_pointer (pointers_of code th.top) into)))) p)
  act_goes (Some (act.StoreCell through from)) answer e p =
      goes (act.StoreCell through from) (stands code th.top (act.StoreCell through from) e) (th.top.instr + 1) th.top.registers refl (onward_at th.top.instr) (λ r n. refl)
      (more (act_due code s t th (Some (act.StoreCell through from))) answer now later (store_none (resolved code.sites (register th.top.registers through) (access_kind (is_pointer (pointers_of code th.top) from))) (register th.top.registers from)) p)
  act_goes (Some act.Mark) answer e p = goes act.Mark (stands code th.top act.Mark e) (th.top.instr + 1) th.top.registers refl (onward_at th.top.instr) (λ r n. refl) p
  act_goes (Some (act.Call g args into)) answer e p =
      let x = stands code th.top (act.Call g args into) e in
      subst (Stack code s.slots xs later (first_frame code g (words_of th.top.registers args) th.arena)) (sym (reverse-append th.below (one_made th.top (pos 0) ∷ [])))
      (stack_calls code s.slots tops xs solves long valid th.top (reverse th.below) x.function x.instr g args into th.arena now later x.here x.is (more (act_due code s t th (Some (act.Call g args into))) answer now later (enter_none code s t th (length th.below + 1) g) p) h)
  act_goes (Some (act.Library c args into)) answer e p =
      left_goes (parting c th.top.made th.stripes) (library_due (caller code s t th) c (words_of th.top.registers args) th.top.made th.top.kept) answer (call_after code s t th c args into answer) p
      (λ q. call_goes c args into (stands code th.top (act.Library c args into) e) (th.printed + length (piece_of c (words_of th.top.registers args))) answer (library_onward (caller code s t th) c (words_of th.top.registers args) th.top.made th.top.kept answer) refl q)
  act_goes (Some (act.Jump to)) answer e p = goes (act.Jump to) (stands code th.top (act.Jump to) e) to th.top.registers refl (0, omega arith, refl) (λ r n. refl) p
  act_goes (Some (act.Branch on then_at else_at)) answer e p = by (register th.top.registers on == 0)
    where
      by : (b : Bool) → Goal (in_frame th (jumped th.top (if b then else_at else then_at)))
      by true = goes (act.Branch on then_at else_at) (stands code th.top (act.Branch on then_at else_at) e) else_at th.top.registers refl (1, omega arith, refl) (λ r n. refl) p
      by false = goes (act.Branch on then_at else_at) (stands code th.top (act.Branch on then_at else_at) e) then_at th.top.registers refl (0, omega arith, refl) (λ r n. refl) p
  act_goes (Some (act.Return value)) answer e p = by (length th.below == 0)
    where
      x : Stands code th.top (act.Return value)
      x = stands code th.top (act.Return value) e

      held : More now later
      held = more (act_due code s t th (Some (act.Return value))) answer now later (return_none code t th (value_of th.top.registers value)) p

      by : (b : Bool) → Goal (if b then end_onward (is_main code th.top.function) th th.top.made else back_in code th (value_of th.top.registers value) (slice_get th.below (length th.below - 1)))
      by true = end_goes (is_main code th.top.function) th.top.made (act.Return value) x refl held
      by false = back_goes (act.Return value) x (value_of th.top.registers value) (slice_get th.below (length th.below - 1)) refl refl held
  act_goes (Some (act.Take region)) answer e p =
      let r = region_of code th.top region in
      let o = lacked code th r in
      let held = more (act_due code s t th (Some (act.Take region))) answer now later (take_none o) p in
      on_goes o (taken code th r o) (taken_top r o) (taken_below r o) (stays held) (goes (act.Take region) (stands code th.top (act.Take region) e) (th.top.instr + 1) th.top.registers refl (onward_at th.top.instr) (λ r n. refl) held)
  act_goes (Some (act.Give region)) answer e p =
      let o = to_give code th region in
      let held = more (act_due code s t th (Some (act.Give region))) answer now later (give_none o) p in
      on_goes_pair o (gave code th region) (gives_top (open_place code th region) o) (gives_below (open_place code th region) o) (stays held) (goes (act.Give region) (stands code th.top (act.Give region) e) (th.top.instr + 1) th.top.registers refl (onward_at th.top.instr) (λ r n. refl) held)
