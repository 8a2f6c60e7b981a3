-- Each step of a thread keeps its frames as the conditions of a checkpoint want them.
use Rattle.std.proofs.Common.{◌≡◌, ℕ, zero, suc, ◌+◌, ◌-◌, ◌<◌, ◌⊎◌, inl, inr, ◌==◌, Bool, true, false, if◌then◌else◌, ℤ, pos, List, [], ◌∷◌, ◌++◌, length, take, Option, Some, None, refl, sym, ap, ◌∙◌, subst}
use Rattle.std.specs.Prelude.{◌&&◌, slice_get, Result, Ok, Err}
use Rattle.std.proofs.lemmas.Bool.{ltb-true, eq-eqb, and_parts}
use Rattle.rr_base.specs.declared.trap.Trap.{Trap}
use Rattle.sync_objects.specs.Setup.{SetupView}
use Rattle.sync_objects.specs.declared.object.ObjId.{ObjId}
use Rattle.sync_objects.specs.declared.object.ObjId.TheVariants as object
use Rattle.sync_objects.specs.declared.operation.Op.{Op}
use Rattle.sync_objects.specs.declared.operation.Op.TheVariants as op
use Rattle.word_semantics.specs.Cells.{cells_in}
use Rattle.word_semantics.specs.Library.{library_due, library_onward, piece_of}
use Rattle.word_semantics.specs.Limits.{is_free_of_limit}
use Rattle.word_semantics.specs.Pointers.{pointer_at}
use Rattle.word_semantics.specs.Registers.{register, words_of}
use Rattle.word_semantics.specs.Values.{number, word}
use Rattle.word_semantics.specs.declared.event.Due.{Due}
use Rattle.word_semantics.specs.declared.event.Due.TheVariants as due
use Rattle.word_semantics.specs.declared.event.Onward.{Onward}
use Rattle.word_semantics.specs.declared.event.Onward.TheVariants as onward
use Rattle.word_semantics.specs.declared.library_call.LibraryCall.{LibraryCall}
use Rattle.flow_code.specs.declared.act.Act.{Act}
use Rattle.flow_code.specs.declared.act.Act.TheVariants as act
use Rattle.flow_code.specs.declared.code.Code.{Code}
use Rattle.flow_code.specs.declared.code.Function.{Function}
use Rattle.flow_code.specs.declared.region.Region.{Region}
use Rattle.flow_code.specs.declared.thread.Phase.{Phase}
use Rattle.flow_code.specs.declared.thread.Phase.TheVariants as phase
use Rattle.flow_code.specs.declared.thread.Stripe.{Stripe}
use Rattle.flow_code.specs.Holding.{parting, parting_due, left_after, taken, lacked, region_of, gives_at, open_place, to_give, gave}
use Rattle.flow_code.specs.Kinds.{call_fits, has_register, has_instr}
use Rattle.flow_code.specs.Next.{computed, in_frame, past, jumped, given, with_register, branch_to, entered, one_made, result_of, back_in, end_onward, returned, resumed, call_after, on_unless, act_at, act_due, act_after, begun_after, phase_due, phase_after, after_due, due_of, stepped, caller, pointers_of, value_of}
use Rattle.flow_code.specs.Order.{is_end}
use Rattle.flow_code.specs.Settle.{settled}
use Rattle.flow_code.specs.Threads.{Frame, Thread, instrs_in, is_main}
use Rattle.flow_code.specs.Valid.{is_valid}
use Rattle.flow_code.specs.Works.{work_of}
use Rattle.flow_code.proofs.Counts.{stepped_is, operate_after, quiet_keeps}
use Rattle.flow_code.proofs.Dues.{quiet_by_code, access_by_code, operate_by_code}
use Rattle.flow_code.proofs.Goings.{thread_goes}
use Rattle.flow_code.proofs.Settle.{settled_keeps}
use Rattle.snapshots.specs.Conditions.{calls}
use Rattle.frame_sound.proofs.Calls.{Answers, Goes, Stays, stays}
use Rattle.frame_sound.proofs.Shapes.{IsThere, next_stands, fits_at, GoesAt, Running, Waiting, Chain, goes_past, goes_to, first_runs, one_more, one_less}

module _ (code : Code) (valid : is_valid code ≡ true) (s : SetupView) where
  abbrev pub Runs : Frame → Type 0
  Runs f = Running code s.slots f

  -- the frames of a thread that runs
  pub record Framed (th : Thread) : Type 0 where
    pub top : Runs th.top
    pub below : Chain code s.slots None th.below th.top.function

  abbrev pub Fact : Thread → Type 0
  Fact th = th.phase ≡ phase.Running → Framed th

  -- the functions that a thread is about to enter
  pub record Enters (th : Thread) : Type 0 where
    pub begun : (f : ℕ) → th.phase ≡ phase.Begun f → IsThere code f
    pub loaded : (f w : ℕ) → th.phase ≡ phase.Loaded f w → IsThere code f

  -- the same frames
  like : (th q : Thread) → q.top ≡ th.top → q.below ≡ th.below → Framed th → Framed q
  like th q e f h = record {
    top = subst (λ z. Runs z) (sym e) h.top;
    below = subst (λ (z : Frame). Chain code s.slots None q.below z.function) (sym e) (subst (λ zs. Chain code s.slots None zs th.top.function) (sym f) h.below);
  }

  -- another running frame of the same function
  changed : (th : Thread) (f : Frame) → f.function ≡ th.top.function → Runs f → Framed th → Framed (in_frame th f)
  changed th f e r h = record { top = r; below = subst (λ n. Chain code s.slots None th.below n) (sym e) h.below }

  enters : (t : ℕ) (th : Thread) (below : List Frame) (f : ℕ) (arguments : List ℕ) → IsThere code f → Chain code s.slots None below f → Framed (entered code s t th below f arguments)
  enters t th below f arguments there chain = record { top = first_runs code s.slots valid f arguments th.arena there; below = chain }

  module _ (t : ℕ) (th : Thread) (h : Framed th) where
    -- ---- on to the next instruction

    abbrev mine : Frame
    mine = th.top

    next : (a : Act) → act_at code mine ≡ Some a → is_end (Some a) ≡ false → (into : Option ℕ) (w : ℕ) → Runs (past (given mine into w))
    next a e straight into w = goes_past code s.slots mine into w (next_stands code valid mine a e straight) h.top.stands

    goes_on : (a : Act) → act_at code mine ≡ Some a → is_end (Some a) ≡ false → Framed (in_frame th (past mine))
    goes_on a e straight = changed th (past mine) refl (next a e straight None 0) h

    sets : (a : Act) → act_at code mine ≡ Some a → is_end (Some a) ≡ false → (into w : ℕ) → Framed (in_frame th (past (with_register mine into w)))
    sets a e straight into w = changed th (past (with_register mine into w)) refl (next a e straight (Some into) w) h

    computes : (into : ℕ) (a : Act) → act_at code mine ≡ Some a → is_end (Some a) ≡ false → (r : Result ℕ Trap) → Framed (computed th into r)
    computes into a e straight (Ok w) = sets a e straight into w
    computes into a e straight (Err k) = h

    unless : {A : Type 0} (a : Act) → act_at code mine ≡ Some a → is_end (Some a) ≡ false → (o : Option A) (q : Thread) → q.top ≡ mine → q.below ≡ th.below → Framed (on_unless o q)
    unless a e straight None q top below = record {
      top = subst (λ (z : Frame). Runs (past z)) (sym top) (next a e straight None 0);
      below = subst (λ (z : Frame). Chain code s.slots None q.below z.function) (sym top) (subst (λ zs. Chain code s.slots None zs mine.function) (sym below) h.below);
    }
    unless a e straight (Some x) q top below = like th q top below h

    taken_top : (r : Option Region) (o : Option ℕ) → (taken code th r o).top ≡ th.top
    taken_top None o = refl
    taken_top (Some r) None = refl
    taken_top (Some r) (Some n) = refl

    taken_below : (r : Option Region) (o : Option ℕ) → (taken code th r o).below ≡ th.below
    taken_below None o = refl
    taken_below (Some r) None = refl
    taken_below (Some r) (Some n) = refl

    gives_top : (p : Option ℕ) (o : Option (ℕ × ℕ)) → (gives_at th p o).top ≡ th.top
    gives_top None o = refl
    gives_top (Some i) o = refl

    gives_below : (p : Option ℕ) (o : Option (ℕ × ℕ)) → (gives_at th p o).below ≡ th.below
    gives_below None o = refl
    gives_below (Some i) o = refl

    -- ---- jumps

    within : (to : ℕ) (fn : Function) → slice_get code.functions mine.function ≡ Some fn → has_instr fn to ≡ true → to < length (instrs_in (slice_get code.functions mine.function))
    within to fn is fits = subst (λ o. to < length (instrs_in o)) (sym is) (ltb-true to (length fn.instrs) fits)

    jumps : (to : ℕ) → to < length (instrs_in (slice_get code.functions mine.function)) → Framed (in_frame th (jumped mine to))
    jumps to lt = changed th (jumped mine to) refl (goes_to code s.slots mine to lt h.top.stands) h

    branches : (then_at else_at w : ℕ) (fn : Function) → slice_get code.functions mine.function ≡ Some fn → has_instr fn then_at ≡ true → has_instr fn else_at ≡ true → Framed (in_frame th (jumped mine (branch_to w then_at else_at)))
    branches then_at else_at w fn is first straight = by (w == 0)
      where
        by : (b : Bool) → Framed (in_frame th (jumped mine (if b then else_at else then_at)))
        by true = jumps else_at (within else_at fn is straight)
        by false = jumps then_at (within then_at fn is first)

    -- ---- a call

    callee : (fn : Function) (f : ℕ) (arguments : List ℕ) (into : Option ℕ) (o : Option Function) → slice_get code.functions f ≡ o → call_fits fn arguments into o ≡ true → IsThere code f
    callee fn f arguments into None is fits = cc
    callee fn f arguments into (Some g) is fits = (g, is)

    called : (f : ℕ) (arguments : List ℕ) (into : Option ℕ) → act_at code mine ≡ Some (act.Call f arguments into) → Framed (entered code s t th (th.below ++ one_made mine (pos 0) ∷ []) f (words_of mine.registers arguments))
    called f arguments into e =
        let fits = fits_at code valid mine (act.Call f arguments into) e in
        let none : mine.made ≡ 0 = subst (λ o. GoesAt code s.slots o mine.made mine.kept mine.registers) e h.top.goes in
        let at : calls (act_at code mine) f ≡ true = ap (λ o. calls o f) e ∙ eq-eqb f f refl in
        enters t th (th.below ++ one_made mine (pos 0) ∷ []) f (words_of mine.registers arguments) (callee fits.0 f arguments into (slice_get code.functions f) refl fits.2)
        (one_more code s.slots None th.below (one_made mine (pos 0)) f h.below
        (record { stands = record { at = h.top.stands.at; whole = h.top.stands.whole }; made = ap (λ n. n + 1) none; callee = f; call = at })
        at)

    -- ---- a call of the library

    module _ (c : LibraryCall) (arguments : List ℕ) (into : Option ℕ) (e : act_at code mine ≡ Some (act.Library c arguments into)) where
      abbrev words : List ℕ
      words = words_of mine.registers arguments

      goes : Goes code.sites s.slots words c mine.made mine.kept
      goes = subst (λ o. GoesAt code s.slots o mine.made mine.kept mine.registers) e h.top.goes

      went : (n : ℕ) (o : Onward) → Stays code.sites s.slots words c (mine.made + 1) o → Fact (resumed (record th { printed = n }) into o)
      went n (onward.Stays kept) again = λ runs. changed (record th { printed = n }) (one_made mine kept) refl
          (record {
            stands = record { at = h.top.stands.at; whole = h.top.stands.whole };
            goes = subst (λ o. GoesAt code s.slots o (mine.made + 1) kept mine.registers) (sym e) (inr again);
          })
          (record { top = h.top; below = h.below })
      went n (onward.Gives w) again = λ runs. passed into (next (act.Library c arguments into) e refl into w)
        where
          passed : (r : Option ℕ) → Runs (past (given mine r w)) → Framed (in_frame (record th { printed = n }) (past (given mine r w)))
          passed None q = record { top = q; below = h.below }
          passed (Some r) q = record { top = q; below = h.below }
      went n onward.Ends again = λ runs. cc

      parts : (xs : List Stripe) (q : Thread) (d : Due) (answer : ℤ) → Answers (parting_due xs d) answer → (Answers d answer → Fact q) → Fact (left_after th xs q)
      parts [] q d answer a k = k a
      parts (x ∷ xs) q d answer a k = λ runs. record { top = h.top; below = h.below }

      pub library : (answer : ℤ) → Answers (parting_due (parting c mine.made th.stripes) (library_due (caller code s t th) c words mine.made mine.kept)) answer → Fact (left_after th (parting c mine.made th.stripes) (call_after code s t th c arguments into answer))
      library answer a =
          parts (parting c mine.made th.stripes) (call_after code s t th c arguments into answer) (library_due (caller code s t th) c words mine.made mine.kept) answer a
          (λ b. went (th.printed + length (piece_of c words)) (library_onward (caller code s t th) c words mine.made mine.kept answer)
          (stays code.sites s.slots words (caller code s t th) refl refl c mine.made mine.kept answer goes b))

    -- ---- a return

    -- one event more of the end of the thread's first function
    once : (value : Option ℕ) → act_at code mine ≡ Some (act.Return value) → Framed (in_frame th (one_made mine (pos 0)))
    once value e = changed th (one_made mine (pos 0)) refl (record { stands = record { at = h.top.stands.at; whole = h.top.stands.whole }; goes = subst (λ o. GoesAt code s.slots o (mine.made + 1) (pos 0) mine.registers) (sym e) tt }) h

    -- the frame below stands at a call, which isn't the last instruction
    after_call : (f : Frame) → Waiting code s.slots f → f.instr + 1 < length (instrs_in (slice_get code.functions f.function))
    after_call f w = by (act_at code f) refl w.call
      where
        by : (o : Option Act) → act_at code f ≡ o → calls o w.callee ≡ true → f.instr + 1 < length (instrs_in (slice_get code.functions f.function))
        by (Some (act.Call g arguments into)) e c = next_stands code valid f (act.Call g arguments into) e refl
        by _ e c = cc

    ends : (value : Option ℕ) → act_at code mine ≡ Some (act.Return value) → (b : Bool) (made : ℕ) → Fact (end_onward b th made)
    ends value e true made = λ runs. cc
    ends value e false zero = λ runs. once value e
    ends value e false (suc zero) = λ runs. once value e
    ends value e false (suc (suc n)) = λ runs. cc

    backs : (value : ℕ) (o : Option Frame) → slice_get th.below (length th.below - 1) ≡ o → Framed (back_in code th value o)
    backs value None is = h
    backs value (Some f) is =
        let l = one_less code s.slots th.below f mine.function is h.below in
        let r = goes_past code s.slots f (result_of (act_at code f)) value (after_call f l.0) l.0.stands in
        passed (result_of (act_at code f)) l.1 r
      where
        passed : (r : Option ℕ) → Chain code s.slots None (take (length th.below - 1) th.below) f.function → Runs (past (given f r value)) → Framed (record th { top = past (given f r value); below = take (length th.below - 1) th.below })
        passed None chain q = record { top = q; below = chain }
        passed (Some r) chain q = record { top = q; below = chain }

    returns : (value : Option ℕ) → act_at code mine ≡ Some (act.Return value) → Fact (returned code th (value_of mine.registers value))
    returns value e = by (length th.below == 0)
      where
        by : (b : Bool) → Fact (if b then end_onward (is_main code mine.function) th mine.made else back_in code th (value_of mine.registers value) (slice_get th.below (length th.below - 1)))
        by true = ends value e (is_main code mine.function) mine.made
        by false = λ runs. backs (value_of mine.registers value) (slice_get th.below (length th.below - 1)) refl

    -- ---- each instruction

    acts : (o : Option Act) (answer : ℤ) → act_at code mine ≡ o → Answers (act_due code s t th o) answer → Fact (act_after code s t th o answer)
    acts None answer e a = λ runs. h
    acts (Some (act.Compute into work)) answer e a = λ runs. computes into (act.Compute into work) e refl (work_of s.slots code.sites (pointers_of code mine) mine.registers work)
    acts (Some (act.Alloc into site None)) answer e a = λ runs. goes_on (act.Alloc into site None) e refl
    acts (Some (act.Alloc into site (Some size))) answer e a = λ runs. record {
      top = next (act.Alloc into site (Some size)) e refl (Some into) (pointer_at site th.arena (cells_in (number (register mine.registers size))));
      below = h.below;
    }
    acts (Some (act.LoadCell into through)) answer e a = λ runs. sets (act.LoadCell into through) e refl into (word answer)
    acts (Some (act.StoreCell through from)) answer e a = λ runs. goes_on (act.StoreCell through from) e refl
    acts (Some act.Mark) answer e a = λ runs. goes_on act.Mark e refl
    acts (Some (act.Call f arguments into)) answer e a = λ runs. called f arguments into e
    acts (Some (act.Library c arguments into)) answer e a = library c arguments into e answer a
    acts (Some (act.Jump to)) answer e a = λ runs. (let f = fits_at code valid mine (act.Jump to) e in jumps to (within to f.0 f.1 f.2))
    acts (Some (act.Branch on then_at else_at)) answer e a = λ runs.
        (let f = fits_at code valid mine (act.Branch on then_at else_at) e in
        let p = and_parts (has_register f.0 on && has_instr f.0 then_at) (has_instr f.0 else_at) f.2 in
        branches then_at else_at (register mine.registers on) f.0 f.1 (and_parts (has_register f.0 on) (has_instr f.0 then_at) p.0).1 p.1)
    acts (Some (act.Return value)) answer e a = returns value e
    acts (Some (act.Take region)) answer e a = λ runs.
        unless (act.Take region) e refl (lacked code th (region_of code mine region)) (taken code th (region_of code mine region) (lacked code th (region_of code mine region)))
        (taken_top (region_of code mine region) (lacked code th (region_of code mine region))) (taken_below (region_of code mine region) (lacked code th (region_of code mine region)))
    acts (Some (act.Give region)) answer e a = λ runs.
        unless (act.Give region) e refl (to_give code th region) (gave code th region)
        (gives_top (open_place code th region) (to_give code th region)) (gives_below (open_place code th region) (to_give code th region))

  -- ---- phases, and what is due

  begins : (t : ℕ) (th : Thread) (f : ℕ) (answer : ℤ) → IsThere code f → Fact (begun_after code s t th f answer)
  begins zero th f answer there = λ runs. enters 0 th [] f [] there tt
  begins (suc k) th f answer there = λ runs. cc

  module _ (t : ℕ) where
    phases : (th : Thread) (p : Phase) (answer : ℤ) → th.phase ≡ p → Enters th → Answers (phase_due code s t th p) answer → Fact th → Fact (phase_after code s t th p answer)
    phases th phase.Fresh answer e n a h = λ runs. cc
    phases th (phase.Begun f) answer e n a h = begins t th f answer (n.begun f e)
    phases th (phase.Loaded f w) answer e n a h = λ runs. enters t th [] f (w ∷ []) (n.loaded f w e) tt
    phases th phase.Running answer e n a h = acts t th (h e) (act_at code th.top) answer refl a
    phases th phase.Ended answer e n a h = h
    phases th phase.Halted answer e n a h = h
    phases th (phase.Trapped kind line) answer e n a h = h
    phases th phase.Stopped answer e n a h = h
    phases th phase.Closed answer e n a h = h

    by_code : (th : Thread) (d : Due) (answer : ℤ) → phase_due code s t th th.phase ≡ d → Enters th → Answers d answer → Fact th → Fact (phase_after code s t th th.phase answer)
    by_code th d answer e n a h = phases th th.phase answer refl n (subst (λ z. Answers z answer) (sym e) a) h

    operates : (th : Thread) (o : Op) (obj : ObjId) (answer : ℤ) → due_of code s t th ≡ due.Operate o obj → Enters th → Answers (due.Operate o obj) answer → Fact th → Fact (after_due code s t th (due.Operate o obj) answer)
    operates th o obj answer e n a h = by (operate_by_code code s t th o obj e)
      where
        by : (phase_due code s t th th.phase ≡ due.Operate o obj) × (is_free_of_limit o ≡ false → th.count < s.limit) ⊎ ((x : Stripe) × (o ≡ op.Retake) × (obj ≡ object.Weak x.lock x.stripe)) → Fact (after_due code s t th (due.Operate o obj) answer)
        by (inl q) =
            let g = thread_goes code s t th (due.Operate o obj) answer q.0 in
            let f = by_code th (due.Operate o obj) answer q.0 n a h in
            subst Fact (sym (operate_after code s t th o obj answer g.0.first)) (λ r. record { top = (f r).top; below = (f r).below })
        by (inr r) = subst (λ z. Fact (after_due code s t th (due.Operate z obj) answer)) (sym r.1) (λ runs. record { top = (h runs).top; below = (h runs).below })

    dues : (th : Thread) (d : Due) (answer : ℤ) → due_of code s t th ≡ d → Enters th → Answers d answer → Fact th → Fact (after_due code s t th d answer)
    dues th due.Nothing answer e n a h = h
    dues th due.Quiet answer e n a h = by_code th due.Quiet answer (quiet_by_code code s t th e) n a h
    dues th (due.Load c) answer e n a h = let f = by_code th (due.Load c) answer (access_by_code code s t th (due.Load c) tt e).0 n a h in λ r. record { top = (f r).top; below = (f r).below }
    dues th (due.Store c w) answer e n a h = let f = by_code th (due.Store c w) answer (access_by_code code s t th (due.Store c w) tt e).0 n a h in λ r. record { top = (f r).top; below = (f r).below }
    dues th due.Mark answer e n a h = let f = by_code th due.Mark answer (access_by_code code s t th due.Mark tt e).0 n a h in λ r. record { top = (f r).top; below = (f r).below }
    dues th (due.Operate o obj) answer e n a h = operates th o obj answer e n a h
    dues th (due.Trap kind) answer e n a h = λ runs. cc

    -- a step keeps the frames, whatever is answered to it that the table may answer
    pub steps : (th : Thread) (answer : ℤ) → Enters th → Answers (due_of code s t th) answer → Fact th → Fact (stepped code s t th answer)
    steps th answer n a h = subst Fact (sym (stepped_is code s t th (due_of code s t th) answer refl)) (dues th (due_of code s t th) answer refl n a h)

    -- a trap ends the thread
    pub traps : (th : Thread) (kind : Trap) (answer : ℤ) → due_of code s t th ≡ due.Trap kind → Fact (stepped code s t th answer)
    traps th kind answer e = subst Fact (sym (stepped_is code s t th (due.Trap kind) answer e)) (λ runs. cc)

    -- a quiet step changes no phase
    quietly : (th : Thread) → due_of code s t th ≡ due.Quiet → Enters th → Enters (stepped code s t th (pos 0))
    quietly th e n =
        let k = (quiet_keeps code s t th (pos 0) e).phase in
        record { begun = λ f g. n.begun f (sym k ∙ g); loaded = λ f w g. n.loaded f w (sym k ∙ g) }

    -- all quiet steps keep them
    pub settles : (th : Thread) → Enters th → Fact th → Fact (settled code s t th)
    settles th n h = (settled_keeps code s t (λ q. Enters q × Fact q) (λ q e k. (quietly q e k.0, steps q (pos 0) k.0 (subst (λ d. Answers d (pos 0)) (sym e) tt) k.1)) th (n, h)).1
