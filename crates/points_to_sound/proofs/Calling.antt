-- Calls and returns leave a thread's frames good.
use Rattle.std.proofs.Common.{◌≡◌, ℕ, zero, suc, ◌+◌, ◌-◌, ◌&&◌, ◌==◌, nat_le, not, Bool, true, false, if◌then◌else◌, List, [], ◌∷◌, ◌++◌, length, length-set, take, reverse, Option, Some, None, refl, sym, ap, subst, ◌∙◌, ℤ, pos, arith}
use Rattle.std.specs.Prelude.{slice_get}
use Rattle.std.specs.List.{Contains}
use Rattle.std.proofs.lemmas.Option.{same_Some}
use Rattle.std.proofs.lemmas.List.Elements.{Contains-append_left, Contains-append_right}
use Rattle.rr_base.specs.declared.trap.Trap.TheVariants as trap
use Rattle.sync_objects.specs.Setup.{SetupView}
use Rattle.word_semantics.specs.Limits.{most_frames}
use Rattle.word_semantics.specs.Registers.{register, words_of}
use Rattle.word_semantics.specs.declared.event.Due.TheVariants as due
use Rattle.flow_code.specs.declared.act.Act.TheVariants as act
use Rattle.flow_code.specs.declared.code.Code.{Code}
use Rattle.flow_code.specs.declared.code.Function.{Function}
use Rattle.flow_code.specs.declared.thread.Phase.TheVariants as phase
use Rattle.flow_code.specs.Kinds.{has_kind, have_kinds, formal_kinds, value_fits, call_fits}
use Rattle.flow_code.specs.Next.{past, given, value_of, act_at, in_frame, pointers_in, mark_if, enter_due, or_else, entered, result_of, back_in, one_made, end_onward, returned}
use Rattle.flow_code.specs.Threads.{Frame, Thread, arena_end, instrs_in, registers_in, is_main, is_main_in, objects_in, fitted, first_frame, with_arguments}
use Rattle.flow_code.specs.Works.{is_pointer}
use Rattle.flow_code.proofs.ValidParts.{left, right}
use Rattle.facts.specs.Blocks.{begins_block, constant_at}
use Rattle.facts.specs.PointsTo.{argument_constraints, result_constraints, constraints_of}
use Rattle.facts.specs.declared.constraint.Constraint.TheVariants.{Included}
use Rattle.facts.specs.declared.constraint.Node.TheVariants.{Register, Result}
use Rattle.points_to_sound.specs.Objects.{Object}
use Rattle.points_to_sound.specs.Pointing.{act_of, IsGood, nowhere, GoodRegisters, Calls, Linked, IsWhole, GoodFrames, HoldsConstants, GoodKept, GoodRunning, GoodPhase}
use Rattle.points_to_sound.proofs.Acting.{Answers, Knows, Leaves, leaves_same, next_is, in_place}
use Rattle.points_to_sound.proofs.Entering.{words_read, arguments_good, arguments_length, placed_length, objects_have_sites, objects_placed, none_at_entry}
use Rattle.points_to_sound.proofs.Finding.{first_of, constraint_of, argument_passed, Stands, stands}
use Rattle.points_to_sound.proofs.Fitting.{stands_fit, kind_is}
use Rattle.points_to_sound.proofs.Frames.{below_is, below_more, kept_zero, frames_stay}
use Rattle.points_to_sound.proofs.Laying.{Lays, lays_good}
use Rattle.points_to_sound.proofs.Moving.{good_included}
use Rattle.points_to_sound.proofs.Registers.{good_set, act_there, begins_after, none_at_begin}

-- ---- kinds of arguments

-- the kind of an argument's place
kind_of_argument : (f : Function) (rs : List ℕ) (ks : List Bool) (i r : ℕ) → have_kinds f rs ks ≡ true → slice_get rs i ≡ Some r → (b : Bool) × (slice_get ks i ≡ Some b) × (is_pointer f.pointers r ≡ b)
kind_of_argument f [] ks i r h e = cc
kind_of_argument f (q ∷ rs) [] i r h e = cc
kind_of_argument f (q ∷ rs) (k ∷ ks) zero r h e = (k, refl, subst (λ n. is_pointer f.pointers n ≡ k) (same_Some q r e) (kind_is f k q (left (has_kind f k q) (have_kinds f rs ks) h)))
kind_of_argument f (q ∷ rs) (k ∷ ks) (suc i) r h e = kind_of_argument f rs ks i r (right (has_kind f k q) (have_kinds f rs ks) h) e

taken_kind : (n : ℕ) (ks : List Bool) (i : ℕ) (b : Bool) → slice_get (take n ks) i ≡ Some b → is_pointer ks i ≡ b
taken_kind zero ks i b e = cc
taken_kind (suc n) [] i b e = cc
taken_kind (suc n) (k ∷ ks) zero b e = same_Some k b e
taken_kind (suc n) (k ∷ ks) (suc i) b e = taken_kind n ks i b e

module _ (code : Code) (s : SetupView) (t : ℕ) (made : List Object) (words : List ℕ) (x : Knows code s t made words) (th : Thread) where
  -- ---- entering

  enter_inv : (full deep : Bool) (o : Option ℕ) (answer : ℤ) → Answers code words (if full then due.Trap trap.Limit else if deep then due.Trap trap.Depth else mark_if o) answer → (to : ℕ) × (o ≡ Some to)
  enter_inv true deep o answer h = absurd h
  enter_inv false true o answer h = absurd h
  enter_inv false false None answer h = absurd h
  enter_inv false false (Some to) answer h = (to, refl)

  pub entered_good : (below : List Frame) (g frames : ℕ) (arguments : List ℕ) (answer : ℤ) → Answers code words (enter_due code s t th frames g) answer →
      ((r w : ℕ) → slice_get arguments r ≡ Some w → is_pointer (pointers_in (slice_get code.functions g)) r ≡ true → IsGood code s made (Register g r) w) →
      Linked code g (reverse below) → GoodFrames code s made (reverse below) → Leaves code s t made th (entered code s t th below g arguments)
  entered_good below g frames arguments answer h args link rest =
      let inv = enter_inv (nat_le s.limit th.count) (nat_le most_frames frames) (fitted code.sites (arena_end code s t) (objects_in code g) th.arena) answer h in
      let n = registers_in (slice_get code.functions g) in
      let p = objects_placed code s x.valid t x.low made g (objects_in code g) th.arena inv.0 (with_arguments n arguments) (objects_have_sites code s x.valid t x.low g) inv.1 (arguments_good code s made g n arguments args) in
      let arena : inv.0 ≡ or_else (fitted code.sites (arena_end code s t) (objects_in code g) th.arena) th.arena = sym (ap (λ o. or_else o th.arena) inv.1) in
      let whole : IsWhole code (first_frame code g arguments th.arena) = placed_length code.sites (objects_in code g) th.arena (with_arguments n arguments) ∙ arguments_length n arguments in
      record {
        after = p.after;
        lays = subst (Lays code s t made th.arena p.after) arena p.lays;
        good = record {
          frames = (p.good, link, whole, frames_stay code s made p.after (λ k w good. lays_good code s t made th.arena p.after inv.0 k w p.lays good) (reverse below) rest);
          constants = record { all = whole; constants = λ r z c. absurd (none_at_entry (instrs_in (slice_get code.functions g)) r z c) };
          kept = kept_zero code s p.after (first_frame code g arguments th.arena).registers (act_at code (first_frame code g arguments th.arena)) (pos 0);
        };
      }

  module _ (runs : th.phase ≡ phase.Running) (g : GoodRunning code s made th) where
    -- ---- calls

    passed : (h : ℕ) (arguments : List ℕ) (into : Option ℕ) (r w : ℕ) (fn : Function) (gn : Option Function) → slice_get code.functions th.top.function ≡ Some fn → slice_get code.functions h ≡ gn → call_fits fn arguments into gn ≡ true → act_at code th.top ≡ Some (act.Call h arguments into) → slice_get (words_of th.top.registers arguments) r ≡ Some w → is_pointer (pointers_in gn) r ≡ true → IsGood code s made (Register h r) w
    passed h arguments into r w fn None is_f is_g fit at e p = cc
    passed h arguments into r w fn (Some gn) is_f is_g fit at e p =
        let k = words_read th.top.registers arguments r w e in
        let kinds = right (not (is_main_in (Some gn))) (have_kinds fn arguments (formal_kinds gn)) (left (not (is_main_in (Some gn)) && have_kinds fn arguments (formal_kinds gn)) (value_fits fn into gn.gives_pointer) fit) in
        let b = kind_of_argument fn arguments (formal_kinds gn) r k.0 kinds k.1 in
        let pointer : is_pointer fn.pointers k.0 ≡ true = b.2 ∙ sym (taken_kind gn.formals gn.pointers r b.0 b.1) ∙ p in
        let there : is_pointer (pointers_in (slice_get code.functions th.top.function)) k.0 ≡ true = ap (λ o. is_pointer (pointers_in o) k.0) is_f ∙ pointer in
        let zero_r : 0 + r ≡ r = omega arith in
        let c = Contains-append_left (argument_constraints th.top.function arguments h 0) (result_constraints th.top.function h into) (Included (Register th.top.function k.0) (Register h (0 + r))) (argument_passed th.top.function h 0 arguments k.0 r k.1) in
        subst (IsGood code s made (Register h r)) k.2
        (good_included code s made (Register th.top.function k.0) (Register h r) (register th.top.registers k.0)
        (subst (λ j. Contains (constraints_of code) (Included (Register th.top.function k.0) (Register h j))) zero_r
        (constraint_of code th.top.function th.top.instr (act.Call h arguments into) (Included (Register th.top.function k.0) (Register h (0 + r))) at c))
        (g.frames.0 k.0 there))

    pub call_good : (h : ℕ) (arguments : List ℕ) (into : Option ℕ) (answer : ℤ) → act_at code th.top ≡ Some (act.Call h arguments into) → Answers code words (enter_due code s t th (length th.below + 1) h) answer → Leaves code s t made th (entered code s t th (th.below ++ one_made th.top (pos 0) ∷ []) h (words_of th.top.registers arguments))
    call_good h arguments into answer at a =
        let y = stands code th.top.function th.top.instr (act.Call h arguments into) at in
        let fit : call_fits y.function arguments into (slice_get code.functions h) ≡ true = stands_fit code x.valid th.top.function th.top.instr (act.Call h arguments into) y in
        let here = one_made th.top (pos 0) in
        let more = below_more th.below here in
        entered_good (th.below ++ here ∷ []) h (length th.below + 1) (words_of th.top.registers arguments) answer a
        (λ r w e p. passed h arguments into r w y.function (slice_get code.functions h) y.is_function refl fit at e p)
        (subst (Linked code h) (sym more) (record { arguments = arguments; into = into; at = at }))
        (subst (GoodFrames code s made) (sym more) (g.frames.0, g.frames.1, g.frames.2, g.frames.3))

    -- ---- returns

    -- what a function gives is good for its results
    given_good : (value : Option ℕ) (fn : Function) → slice_get code.functions th.top.function ≡ Some fn → value_fits fn value fn.gives_pointer ≡ true → fn.gives_pointer ≡ true → act_at code th.top ≡ Some (act.Return value) → IsGood code s made (Result th.top.function) (value_of th.top.registers value)
    given_good None fn is fit gives at = nowhere refl
    given_good (Some v) fn is fit gives at =
        let pointer : is_pointer fn.pointers v ≡ true = kind_is fn fn.gives_pointer v fit ∙ gives in
        good_included code s made (Register th.top.function v) (Result th.top.function) (register th.top.registers v)
        (constraint_of code th.top.function th.top.instr (act.Return (Some v)) (Included (Register th.top.function v) (Result th.top.function)) at (first_of (Included (Register th.top.function v) (Result th.top.function)) []))
        (g.frames.0 v (ap (λ o. is_pointer (pointers_in o) v) is ∙ pointer))

    pub result_good : (value : Option ℕ) (fn : Function) → slice_get code.functions th.top.function ≡ Some fn → fn.gives_pointer ≡ true → act_at code th.top ≡ Some (act.Return value) → IsGood code s made (Result th.top.function) (value_of th.top.registers value)
    result_good value fn is gives at =
        let y = stands code th.top.function th.top.instr (act.Return value) at in
        let same : y.function ≡ fn = same_Some y.function fn (sym y.is_function ∙ is) in
        given_good value fn is (subst (λ f. value_fits f value f.gives_pointer ≡ true) same (stands_fit code x.valid th.top.function th.top.instr (act.Return value) y)) gives at

    -- the register of the frame below that gets it
    back_registers : (value : Option ℕ) (f : Frame) (arguments : List ℕ) (into : Option ℕ) → act_at code th.top ≡ Some (act.Return value) → act_of code f.function f.instr ≡ Some (act.Call th.top.function arguments into) → GoodRegisters code s made f.function f.registers → GoodRegisters code s made f.function (given f into (value_of th.top.registers value)).registers
    back_registers value f arguments None at call good = good
    back_registers value f arguments (Some r) at call good =
        good_set code s made f.function f.registers r (value_of th.top.registers value) (λ p. from p (slice_get code.functions th.top.function) refl fit) good
      where
        y : Stands code f.function f.instr (act.Call th.top.function arguments (Some r))
        y = stands code f.function f.instr (act.Call th.top.function arguments (Some r)) call

        fit : call_fits y.function arguments (Some r) (slice_get code.functions th.top.function) ≡ true
        fit = stands_fit code x.valid f.function f.instr (act.Call th.top.function arguments (Some r)) y

        from : is_pointer (pointers_in (slice_get code.functions f.function)) r ≡ true → (o : Option Function) → slice_get code.functions th.top.function ≡ o → call_fits y.function arguments (Some r) o ≡ true → IsGood code s made (Register f.function r) (value_of th.top.registers value)
        from p None is h = cc
        from p (Some gn) is h =
            let k = kind_is y.function gn.gives_pointer r (right (not (is_main_in (Some gn)) && have_kinds y.function arguments (formal_kinds gn)) (value_fits y.function (Some r) gn.gives_pointer) h) in
            let gives : gn.gives_pointer ≡ true = sym k ∙ sym (ap (λ o. is_pointer (pointers_in o) r) y.is_function) ∙ p in
            good_included code s made (Result th.top.function) (Register f.function r) (value_of th.top.registers value)
            (constraint_of code f.function f.instr (act.Call th.top.function arguments (Some r)) (Included (Result th.top.function) (Register f.function r)) call
            (Contains-append_right (argument_constraints f.function arguments th.top.function 0) (Included (Result th.top.function) (Register f.function r) ∷ []) (Included (Result th.top.function) (Register f.function r)) (first_of (Included (Result th.top.function) (Register f.function r)) [])))
            (result_good value gn is gives at)

    given_length : (f : Frame) (into : Option ℕ) (w : ℕ) → length (given f into w).registers ≡ length f.registers
    given_length f None w = refl
    given_length f (Some r) w = length-set f.registers r w

    -- a block begins after a call
    following : (f : Frame) (c : Calls code f th.top.function) (r : ℕ) (z : ℤ) → constant_at (instrs_in (slice_get code.functions f.function)) (f.instr + 1) r ≡ Some z → ⊥
    following f c r z h = none_at_begin (instrs_in (slice_get code.functions f.function)) (f.instr + 1) r z
        (subst (λ k. begins_block (instrs_in (slice_get code.functions f.function)) k ≡ true) (sym (next_is f.instr)) (begins_after (instrs_in (slice_get code.functions f.function)) f.instr (act.Call th.top.function c.arguments c.into) (act_there (slice_get code.functions f.function) f.instr ∙ c.at) refl)) h

    -- the frame below goes on after its call
    given_past : (f : Frame) (into : Option ℕ) (w : ℕ) (fs : List Frame) → Calls code f th.top.function → GoodRegisters code s made f.function (given f into w).registers → IsWhole code f → Linked code f.function fs → GoodFrames code s made fs → GoodFrames code s made (past (given f into w) ∷ fs) × HoldsConstants code (past (given f into w))
    given_past f None w fs c good whole link rest = ((good, link, whole, rest), record { all = whole; constants = λ r z h. absurd (following f c r z h) })
    given_past f (Some q) w fs c good whole link rest = ((good, link, length-set f.registers q w ∙ whole, rest), record { all = length-set f.registers q w ∙ whole; constants = λ r z h. absurd (following f c r z h) })

    back_good : (value : Option ℕ) (o : Option Frame) → act_at code th.top ≡ Some (act.Return value) → slice_get th.below (length th.below - 1) ≡ o → Leaves code s t made th (back_in code th (value_of th.top.registers value) o)
    back_good value None at is = leaves_same code s t made th th refl (subst (GoodPhase code s made th) (sym runs) g)
    back_good value (Some f) at is =
        pop (subst (Linked code th.top.function) (below_is th.below f is) g.frames.1) (subst (GoodFrames code s made) (below_is th.below f is) g.frames.3)
      where
        pop : Calls code f th.top.function → GoodFrames code s made (f ∷ reverse (take (length th.below - 1) th.below)) → Leaves code s t made th (back_in code th (value_of th.top.registers value) (Some f))
        pop c fs =
            let into_is : result_of (act_at code f) ≡ c.into = ap result_of c.at in
            let v = value_of th.top.registers value in
            let p = given_past f c.into v (reverse (take (length th.below - 1) th.below)) c (back_registers value f c.arguments c.into at c.at fs.0) fs.2 fs.1 fs.3 in
            let q = subst (λ i. GoodFrames code s made (past (given f i v) ∷ reverse (take (length th.below - 1) th.below)) × HoldsConstants code (past (given f i v))) (sym into_is) p in
            leaves_same code s t made th (back_in code th (value_of th.top.registers value) (Some f)) refl
            (subst (GoodPhase code s made (back_in code th (value_of th.top.registers value) (Some f))) (sym runs)
            (record { frames = q.0; constants = q.1; kept = kept_zero code s made (past (given f (result_of (act_at code f)) v)).registers (act_at code (past (given f (result_of (act_at code f)) v))) (pos 0) }))

    -- the same frame after one event more of a return
    stays_good : (value : Option ℕ) → act_at code th.top ≡ Some (act.Return value) → Leaves code s t made th (in_frame th (one_made th.top (pos 0)))
    stays_good value at =
        in_place code s t made words x th runs g th.top.instr (th.top.made + 1) (pos 0) th.top.registers g.frames.0
        (record { all = g.constants.all; constants = g.constants.constants })
        (subst (λ o. GoodKept code s made th.top.registers o (th.top.made + 1) (pos 0)) (sym at) tt)

    end_good : (main : Bool) (n : ℕ) (value : Option ℕ) → act_at code th.top ≡ Some (act.Return value) → Leaves code s t made th (end_onward main th n)
    end_good true n value at = leaves_same code s t made th (end_onward true th n) refl tt
    end_good false zero value at = stays_good value at
    end_good false (suc zero) value at = stays_good value at
    end_good false (suc (suc n)) value at = leaves_same code s t made th (end_onward false th (suc (suc n))) refl tt

    pub return_good : (value : Option ℕ) → act_at code th.top ≡ Some (act.Return value) → Leaves code s t made th (returned code th (value_of th.top.registers value))
    return_good value at = by (length th.below == 0)
      where
        by : (b : Bool) → Leaves code s t made th (if b then end_onward (is_main code th.top.function) th th.top.made else back_in code th (value_of th.top.registers value) (slice_get th.below (length th.below - 1)))
        by true = end_good (is_main code th.top.function) th.top.made value at
        by false = back_good value (slice_get th.below (length th.below - 1)) at refl
