-- Frames whose locks mean what they say, as their thread goes on.
use Rattle.std.proofs.Common.{◌≡◌, ℕ, zero, suc, ◌+◌, ◌≤◌, Bool, true, false, ℤ, pos, List, [], ◌∷◌, length, map, Option, Some, None, refl, sym, ap, subst, ◌∙◌, arith}
use Rattle.std.specs.Prelude.{slice_get}
use Rattle.std.specs.List.{Contains}
use Rattle.std.proofs.lemmas.Bool.{leb-true, and_parts}
use Rattle.std.proofs.lemmas.Option.{same_Some, slice_get_within, get_or_from_slice_get}
use Rattle.rr_base.proofs.Lists.{slice_get_inside}
use Rattle.word_semantics.specs.Registers.{register, words_of}
use Rattle.flow_code.specs.declared.act.Act.{Act}
use Rattle.flow_code.specs.declared.act.Act.TheVariants as act
use Rattle.flow_code.specs.declared.act.Instr.{Instr}
use Rattle.flow_code.specs.declared.code.Code.{Code}
use Rattle.flow_code.specs.declared.code.Function.{Function}
use Rattle.flow_code.specs.Kinds.{act_fits, call_fits}
use Rattle.flow_code.specs.Next.{one_made}
use Rattle.flow_code.specs.Threads.{Frame, first_frame}
use Rattle.flow_code.specs.Valid.{is_valid}
use Rattle.flow_code.proofs.ValidParts.{function_is_fit, act_is_fit, registers_are_fit}
use Rattle.facts.specs.Locks.{Points, IsSolution, nothing, after, after_call, actuals_at, through, successors, returns}
use Rattle.facts.specs.Paths.{naming_at, actual_of}
use Rattle.facts.specs.Summaries.{StandsAt, AreSolution, exits_of}
use Rattle.facts.specs.declared.locks.Held.{Held}
use Rattle.facts.specs.declared.locks.LockPath.{LockPath}
use Rattle.facts.specs.declared.locks.Naming.{Naming}
use Rattle.facts.specs.declared.locks.Naming.TheVariants.{Unknown, Nowhere, Named}
use Rattle.facts.specs.declared.locks.RelLocks.{RelLocks}
use Rattle.lockset_sound.specs.Frames.{so_far, FrameMeans, IsCalledBy, Levels, Stack}
use Rattle.lockset_sound.specs.Leading.{is_fixed, Holds, Mean}
use Rattle.lockset_sound.proofs.Calls.{call_zero}
use Rattle.lockset_sound.proofs.Entering.{frame_locks, frame_handed}
use Rattle.lockset_sound.proofs.Known.{IsKnown, IsAt, named, nowhere}
use Rattle.lockset_sound.proofs.Means.{mean_below, mean_more, mean_nothing, mean_kept}
use Rattle.lockset_sound.proofs.Passing.{More}
use Rattle.lockset_sound.proofs.Running.{KnownAt}
use Rattle.lockset_sound.proofs.Through.{mean_through}

-- ---- lists

pub map_at : {A B : Type 0} (f : A → B) (xs : List A) (k : ℕ) (x : A) → slice_get xs k ≡ Some x → slice_get (map f xs) k ≡ Some (f x)
map_at f [] k x e = cc
map_at f (y ∷ xs) zero x e = ap (λ z. Some (f z)) (same_Some y x e)
map_at f (y ∷ xs) (suc k) x e = map_at f xs k x e

pub map_from : {A B : Type 0} (f : A → B) (xs : List A) (k : ℕ) (y : B) → slice_get (map f xs) k ≡ Some y → (x : A) × (slice_get xs k ≡ Some x) × (f x ≡ y)
map_from f [] k y e = cc
map_from f (x ∷ xs) zero y e = (x, refl, same_Some (f x) y e)
map_from f (x ∷ xs) (suc k) y e = map_from f xs k y e

-- ---- within one instruction

-- the instruction is no call of the library
abbrev pub is_own : Act → Bool
is_own (act.Library c args into) = false
is_own _ = true

-- and no call of a function either
abbrev pub is_simple : Act → Bool
is_simple (act.Library c args into) = false
is_simple (act.Call g args into) = false
is_simple _ = true

pub own_far : (f : Function) (k : ℕ) (a : Act) (made : ℕ) (kept : ℤ) (l : RelLocks) → is_own a ≡ true → so_far f k a made kept l ≡ l
own_far f k (act.Library c args into) made kept l e = cc
own_far f k _ made kept l e = refl

pub simple_own : (a : Act) → is_simple a ≡ true → is_own a ≡ true
simple_own (act.Library c args into) e = cc
simple_own _ e = refl

pub simple_after : (exits : List RelLocks) (f : Function) (k : ℕ) (a : Act) (l : RelLocks) → is_simple a ≡ true → after exits f k a l ≡ l
simple_after exits f k (act.Library c args into) l e = cc
simple_after exits f k (act.Call g args into) l e = cc
simple_after exits f k _ l e = refl

far_zero : (f : Function) (k : ℕ) (a : Act) (kept : ℤ) (l : RelLocks) → so_far f k a 0 kept l ≡ l
far_zero f k (act.Library c args into) kept l = call_zero f k c args kept l
far_zero f k _ kept l = refl

-- one instruction stands at a place
pub record SamePlace (f g : Function) (i j : Instr) : Type 0 where
  pub function : f ≡ g
  pub instr : i ≡ j

pub same_place : (code : Code) (n k : ℕ) (f g : Function) (i j : Instr) → StandsAt code n k f i → StandsAt code n k g j → SamePlace f g i j
same_place code n k f g i j a b =
    let e = same_Some f g (sym a.function ∙ b.function) in
    record { function = e; instr = same_Some i j (sym (subst (λ z. slice_get z.instrs k ≡ Some i) e a.instr) ∙ b.instr) }

module _ (code : Code) (slots : ℕ) (tops : List (List Held)) (xs : List Points) (solves : AreSolution code tops xs) (long : length tops ≡ length code.functions) where
  -- the points of a function are a solution
  pub solution_of : (n : ℕ) (f : Function) (x : Points) → slice_get code.functions n ≡ Some f → slice_get xs n ≡ Some x → (top : List Held) × IsSolution (exits_of xs) f top x
  solution_of n f x e g =
      let lt = slice_get_within code.functions n f e in
      let t = slice_get_inside tops n (omega arith) in
      (t.0, solves.each n f t.0 x e t.1 g)

  pub points_of : (n : ℕ) (f : Function) → slice_get code.functions n ≡ Some f → (x : Points) × (slice_get xs n ≡ Some x)
  points_of n f e =
      let lt = slice_get_within code.functions n f e in
      let same = solves.long in
      slice_get_inside xs n (omega arith)

  -- ---- one frame for another

  pub relevel : (f g : Frame) (before : Holds) (fs : List Frame) → g.function ≡ f.function → ((fn : Function) → slice_get code.functions f.function ≡ Some fn → (i : ℕ) → is_fixed fn i ≡ true → register g.registers i ≡ register f.registers i) → Levels code slots xs before f fs → Levels code slots xs before g fs
  relevel f g before [] e same h = tt
  relevel f g before (x ∷ fs) e same h =
      let c = h.0 in (
        record {
          caller = c.caller;
          called = c.called;
          instr = c.instr;
          arguments = c.arguments;
          into = c.into;
          stands = c.stands;
          calls = c.calls ∙ ap (λ n. act.Call n c.arguments c.into) (sym e);
          there = subst (λ n. slice_get code.functions n ≡ Some c.called) (sym e) c.there;
          handed = λ i fixed. same c.called c.there i fixed ∙ c.handed i fixed;
        },
        h.1,
        h.2,
        h.3,
      )

  pub stack_more : (f : Frame) (fs : List Frame) (now later : Holds) → More now later → Stack code slots xs now f fs → Stack code slots xs later f fs
  stack_more f fs now later held h = (h.0, λ fn i x l st ex el. mean_more code slots fn f.registers (so_far fn f.instr i.act f.made f.kept l) h.0 now later held (h.1 fn i x l st ex el), h.2)

  -- the thread has made more events of the instruction at which it stands
  pub stack_stays : (f : Frame) (made : ℕ) (kept : ℤ) (fs : List Frame) (now later : Holds) → ((fn : Function) (i : Instr) (l : RelLocks) (before : Holds) → StandsAt code f.function f.instr fn i → Mean code slots fn f.registers (so_far fn f.instr i.act f.made f.kept l) before now → Mean code slots fn f.registers (so_far fn f.instr i.act made kept l) before later) → Stack code slots xs now f fs → Stack code slots xs later (record { function = f.function; instr = f.instr; made = made; kept = kept; registers = f.registers }) fs
  stack_stays f made kept fs now later turn h =
      (h.0, λ fn i x l st ex el. turn fn i l h.0 st (h.1 fn i x l st ex el), relevel f (record { function = f.function; instr = f.instr; made = made; kept = kept; registers = f.registers }) h.0 fs refl (λ fn e i fixed. refl) h.2)

  -- the thread goes on to another instruction of its function
  pub stack_on : (f : Frame) (to : ℕ) (kept : ℤ) (qs : List ℕ) (fs : List Frame) (now later : Holds) (fn : Function) (i : Instr) → StandsAt code f.function f.instr fn i → Contains (successors f.instr i.act) to → ((j : ℕ) → is_fixed fn j ≡ true → register qs j ≡ register f.registers j) → ((l : RelLocks) (before : Holds) → Mean code slots fn f.registers (so_far fn f.instr i.act f.made f.kept l) before now → Mean code slots fn f.registers (after (exits_of xs) fn f.instr i.act l) before later) → Stack code slots xs now f fs → Stack code slots xs later (record { function = f.function; instr = to; made = 0; kept = kept; registers = qs }) fs
  stack_on f to kept qs fs now later fn i st next fixed turn h =
      (h.0, means, relevel f (record { function = f.function; instr = to; made = 0; kept = kept; registers = qs }) h.0 fs refl (λ g e j fx. fixed j (subst (λ z. is_fixed z j ≡ true) (same_Some g fn (sym e ∙ st.function)) fx)) h.2)
    where
      means : FrameMeans code slots xs (record { function = f.function; instr = to; made = 0; kept = kept; registers = qs }) h.0 later
      means g j x m there ex em =
          let same = same_Some fn g (sym st.function ∙ there.function) in
          let sol = solution_of f.function fn x st.function ex in
          let within = slice_get_within fn.instrs f.instr i st.instr in
          let size = sol.1.long in
          let l = slice_get_inside x.before f.instr (omega arith) in
          let below = sol.1.steps f.instr to i l.0 m st.instr next l.1 em in
          let first = turn l.0 h.0 (h.1 fn i x l.0 st ex l.1) in
          let second = mean_kept code slots fn f.registers qs fixed m h.0 later (mean_below code slots fn f.registers m (after (exits_of xs) fn f.instr i.act l.0) h.0 later below first) in
          subst (λ z. Mean code slots z qs (so_far g to j.act 0 kept m) h.0 later) same (subst (λ z. Mean code slots fn qs z h.0 later) (sym (far_zero g to j.act kept m)) second)

  -- ---- calls

  -- a frame begins with no locks of its own
  frame_means : (number : ℕ) (args : List ℕ) (arena : ℕ) (now : Holds) → FrameMeans code slots xs (first_frame code number args arena) now now
  frame_means number args arena now fn i x l st ex el =
      let sol = solution_of number fn x st.function ex in
      let rs = (first_frame code number args arena).registers in
      subst (λ z. Mean code slots fn rs z now now) (sym (far_zero fn (first_frame code number args arena).instr i.act (first_frame code number args arena).kept l))
      (mean_below code slots fn rs l nothing now now (frame_locks code slots number fn st.function args arena (exits_of xs) sol.0 x l sol.1 el) (mean_nothing code slots fn rs now))

  pub stack_starts : (number : ℕ) (args : List ℕ) (arena : ℕ) (now : Holds) → Stack code slots xs now (first_frame code number args arena) []
  stack_starts number args arena now = (now, frame_means number args arena now, tt)

  module _ (valid : is_valid code ≡ true) where
    call_there : (f : Function) (args : List ℕ) (into : Option ℕ) (o : Option Function) → call_fits f args into o ≡ true → (g : Function) × (o ≡ Some g)
    call_there f args into None e = cc
    call_there f args into (Some g) e = (g, refl)

    pub stack_calls : (f : Frame) (fs : List Frame) (fn : Function) (i : Instr) (number : ℕ) (args : List ℕ) (into : Option ℕ) (arena : ℕ) (now later : Holds) → StandsAt code f.function f.instr fn i → i.act ≡ act.Call number args into → More now later → Stack code slots xs now f fs → Stack code slots xs later (first_frame code number (words_of f.registers args) arena) (one_made f (pos 0) ∷ fs)
    stack_calls f fs fn i number args into arena now later st is held h =
        (later, frame_means number (words_of f.registers args) arena later, (called, h.0, below, relevel f (one_made f (pos 0)) h.0 fs refl (λ g e j fixed. refl) h.2))
      where
        fit : act_fits code fn i.act ≡ true
        fit = act_is_fit code fn (function_is_fit code valid f.function fn st.function) f.instr i st.instr

        to : (g : Function) × (slice_get code.functions number ≡ Some g)
        to = call_there fn args into (slice_get code.functions number) (subst (λ a. act_fits code fn a ≡ true) is fit)

        few : to.0.formals ≤ to.0.registers
        few = leb-true to.0.formals to.0.registers (and_parts _ _ (registers_are_fit code to.0 (function_is_fit code valid number to.0 to.1))).0

        called : IsCalledBy code (first_frame code number (words_of f.registers args) arena) (one_made f (pos 0))
        called = record {
          caller = fn;
          called = to.0;
          instr = i;
          arguments = args;
          into = into;
          stands = st;
          calls = is;
          there = to.1;
          handed = λ j fixed. frame_handed code slots number to.0 to.1 (words_of f.registers args) arena j few fixed;
        }

        below : FrameMeans code slots xs (one_made f (pos 0)) h.0 later
        below g j x l there ex el =
            let same = same_place code f.function f.instr fn g i j st there in
            let own : is_own j.act ≡ true = ap is_own (sym (ap (λ (z : Instr). z.act) same.instr) ∙ is) in
            subst (λ z. Mean code slots g f.registers z h.0 later) (own_far g f.instr j.act f.made f.kept l own ∙ sym (own_far g f.instr j.act (f.made + 1) (pos 0) l own))
            (mean_more code slots g f.registers (so_far g f.instr j.act f.made f.kept l) h.0 now later held (h.1 g j x l there ex el))

  -- ---- returns

  module _ (f g : Frame) (c : IsCalledBy code f g) (known : KnownAt code slots g.function g.instr g.registers) where
    seen : (i : ℕ) (p : LockPath) → slice_get (actuals_at c.caller g.instr c.arguments) i ≡ Some (Some p) → is_fixed c.called i ≡ true → IsAt code slots c.caller g.registers p (register f.registers i)
    seen i p e fixed =
        let r = map_from (λ z. actual_of (naming_at c.caller g.instr z)) c.arguments i (Some p) e in
        let given : register f.registers i ≡ register g.registers r.0 = c.handed i fixed ∙ get_or_from_slice_get (words_of g.registers c.arguments) i (register g.registers r.0) 0 (map_at (register g.registers) c.arguments i r.0 r.1) in
        subst (IsAt code slots c.caller g.registers p) (sym given) (by r.0 (naming_at c.caller g.instr r.0) refl r.2)
      where
        here : IsKnown code slots c.caller g.instr g.registers
        here = known c.caller c.stands.function

        by : (r : ℕ) (o : Naming) → naming_at c.caller g.instr r ≡ o → actual_of o ≡ Some p → IsAt code slots c.caller g.registers p (register g.registers r)
        by r Unknown h k = cc
        by r Nowhere h k = absurd (nowhere code slots c.caller g.instr g.registers here r h)
        by r (Named q) h k = subst (λ z. IsAt code slots c.caller g.registers z (register g.registers r)) (same_Some q p k) (named code slots c.caller g.instr g.registers here r q h)

    pub called_after : (l exit : RelLocks) (before entry now : Holds) → Mean code slots c.caller g.registers l before entry → Mean code slots c.called f.registers exit entry now → Mean code slots c.caller g.registers (through (actuals_at c.caller g.instr c.arguments) exit l) before now
    called_after l exit before entry now m n = mean_through code slots c.caller g.registers c.called f.registers (actuals_at c.caller g.instr c.arguments) seen exit l before entry now m n

    -- the locks that the called function's exit tells
    exit_means : (entry now later : Holds) (fn : Function) (i : Instr) (x : Points) → FrameMeans code slots xs f entry now → More now later → StandsAt code f.function f.instr fn i → returns i.act ≡ true → slice_get xs f.function ≡ Some x → Mean code slots c.called f.registers x.exit entry later
    exit_means entry now later fn i x means held st is ex =
        let sol = solution_of f.function fn x st.function ex in
        let within = slice_get_within fn.instrs f.instr i st.instr in
        let size = sol.1.long in
        let l = slice_get_inside x.before f.instr (omega arith) in
        let first = means fn i x l.0 st ex l.1 in
        let plain = subst (λ z. Mean code slots fn f.registers z entry now) (own_far fn f.instr i.act f.made f.kept l.0 (own i.act is)) first in
        subst (λ z. Mean code slots z f.registers x.exit entry later) (same_Some fn c.called (sym st.function ∙ c.there))
        (mean_below code slots fn f.registers x.exit l.0 entry later (sol.1.returned f.instr i l.0 st.instr is l.1) (mean_more code slots fn f.registers l.0 entry now later held plain))
      where
        own : (a : Act) → returns a ≡ true → is_own a ≡ true
        own (act.Library d args into) e = cc
        own _ e = refl

    pub stack_returns : (fs : List Frame) (kept : ℤ) (qs : List ℕ) (now later : Holds) (fn : Function) (i : Instr) → StandsAt code f.function f.instr fn i → returns i.act ≡ true → More now later → ((j : ℕ) → is_fixed c.caller j ≡ true → register qs j ≡ register g.registers j) → (entry before : Holds) → FrameMeans code slots xs f entry now → FrameMeans code slots xs g before entry → Levels code slots xs before g fs → Stack code slots xs later (record { function = g.function; instr = g.instr + 1; made = 0; kept = kept; registers = qs }) fs
    stack_returns fs kept qs now later fn i st is held fixed entry before means below levels =
        let x = points_of f.function fn st.function in
        let exit = exit_means entry now later fn i x.0 means held st is x.1 in
        let there : slice_get (exits_of xs) f.function ≡ Some x.0.exit = map_at (λ (z : Points). z.exit) xs f.function x.0 x.1 in
        stack_on g (g.instr + 1) kept qs fs entry later c.caller c.instr c.stands
        (subst (λ a. Contains (successors g.instr a) (g.instr + 1)) (sym c.calls) (0, omega arith, refl))
        fixed
        (λ l old m.
        subst (λ a. Mean code slots c.caller g.registers (after (exits_of xs) c.caller g.instr a l) old later) (sym c.calls)
        (subst (λ o. Mean code slots c.caller g.registers (after_call (actuals_at c.caller g.instr c.arguments) o l) old later) (sym there)
        (called_after l x.0.exit old entry later (subst (λ z. Mean code slots c.caller g.registers z old entry) (own_far c.caller g.instr c.instr.act g.made g.kept l (ap is_own c.calls)) m) exit)))
        (before, below, levels)
