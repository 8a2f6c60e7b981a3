-- A thread of a code as one of the code without weak locks: it stands where its frames stand there, and it has no stripes and
-- no regions.
use Rattle.std.proofs.Common.{◌≡◌, ℕ, suc, ◌+◌, Bool, true, false, List, [], length, map, Option, Some, None, refl, sym, ap, ◌∙◌, add-one, ℤ, pos}
use Rattle.std.specs.Prelude.{slice_get, option_map}
use Rattle.std.proofs.lemmas.Option.{slice_get-map}
use Rattle.flow_code.specs.declared.act.Act.{Act}
use Rattle.flow_code.specs.declared.act.Instr.{Instr}
use Rattle.flow_code.specs.declared.code.Code.{Code}
use Rattle.flow_code.specs.declared.code.Function.{Function}
use Rattle.flow_code.specs.declared.thread.Phase.{Phase}
use Rattle.flow_code.specs.declared.thread.Phase.TheVariants as phase
use Rattle.flow_code.specs.Threads.{Frame, Thread, instr_in, instr_at, line_in, line_of_function, line_of, is_main_in, is_main, instrs_in, registers_in, objects_in, placed, with_arguments, first_frame}
use Rattle.flow_code.specs.Next.{act_in, act_at, pointers_in}
use Rattle.weak_code.specs.Weakened.{retarget}
use Rattle.weak_code.specs.Stripped.{is_weak, plain_of, strip_function, strip}
use Rattle.erasure.proofs.Kept.{weak_at, moved_instr, kept_at, plain_next, plain_stays, plain_objects}

-- what a function has but for its instructions, loops and regions
kept_of : {X : Type 0} (g : Option Function → X) → ((fn : Function) → g (Some (strip_function fn)) ≡ g (Some fn)) → (fns : List Function) (f : ℕ) → g (slice_get (map strip_function fns) f) ≡ g (slice_get fns f)
kept_of {X} g same fns f = ap g (slice_get-map strip_function fns f) ∙ by (slice_get fns f)
  where
    by : (o : Option Function) → g (option_map strip_function o) ≡ g o
    by None = refl
    by (Some fn) = same fn

-- ---- one function's instructions

instr_kept : (o : Option Function) (k : ℕ) → weak_at (act_in (instr_in o k)) ≡ false → instr_in (option_map strip_function o) (plain_of (instrs_in o) k) ≡ option_map (moved_instr (plain_of (instrs_in o))) (instr_in o k)
instr_kept None k h = refl
instr_kept (Some fn) k h = kept_at (plain_of fn.instrs) fn.instrs k h

act_moved : (to : ℕ → ℕ) (o : Option Instr) → act_in (option_map (moved_instr to) o) ≡ option_map (retarget to) (act_in o)
act_moved to None = refl
act_moved to (Some i) = refl

line_moved : (to : ℕ → ℕ) (o : Option Instr) → line_in (option_map (moved_instr to) o) ≡ line_in o
line_moved to None = refl
line_moved to (Some i) = refl

next_in : (o : Option Function) (k : ℕ) (a : Act) → act_in (instr_in o k) ≡ Some a → is_weak a ≡ false → plain_of (instrs_in o) (k + 1) ≡ plain_of (instrs_in o) k + 1
next_in None k a e h = cc
next_in (Some fn) k a e h = ap (plain_of fn.instrs) (add-one k) ∙ by (slice_get fn.instrs k) refl e ∙ sym (add-one (plain_of fn.instrs k))
  where
    by : (i : Option Instr) → slice_get fn.instrs k ≡ i → act_in i ≡ Some a → plain_of fn.instrs (suc k) ≡ suc (plain_of fn.instrs k)
    by None at is = cc
    by (Some i) at is =
        let same : i.act ≡ a = cc in
        plain_next fn.instrs k i at (ap is_weak same ∙ h)

stays_in : (o : Option Function) (k : ℕ) → weak_at (act_in (instr_in o k)) ≡ true → plain_of (instrs_in o) (k + 1) ≡ plain_of (instrs_in o) k
stays_in None k h = refl
stays_in (Some fn) k h = ap (plain_of fn.instrs) (add-one k) ∙ plain_stays fn.instrs k h

-- a thread that begins, or runs and stands at no weak instruction
abbrev pub Stands : Phase → Bool → Type 0
Stands (phase.Begun f) weak = Unit {0}
Stands (phase.Loaded f v) weak = Unit {0}
Stands phase.Running weak = weak ≡ false
Stands _ weak = ⊥

abbrev pub frame_with : (function instr made : ℕ) (kept : ℤ) (registers : List ℕ) → Frame
frame_with function instr made kept registers = record { function = function; instr = instr; made = made; kept = kept; registers = registers }

module _ (w : Code) where
  abbrev pub instrs_of : ℕ → List Instr
  instrs_of f = instrs_in (slice_get w.functions f)

  -- a frame where it stands in the code without weak instructions
  abbrev pub bare_frame : Frame → Frame
  bare_frame a = record a { instr = plain_of (instrs_of a.function) a.instr }

  -- the thread there, with so many entries
  abbrev pub bare : ℕ → Thread → Thread
  bare entries th = record th { entries = entries; revokes = 0; top = bare_frame th.top; below = map bare_frame th.below; stripes = []; regions = [] }

  -- ---- what is the same in both codes

  pub same_pointers : (f : ℕ) → pointers_in (slice_get (strip w).functions f) ≡ pointers_in (slice_get w.functions f)
  same_pointers f = kept_of pointers_in (λ fn. refl) w.functions f

  pub same_registers : (f : ℕ) → registers_in (slice_get (strip w).functions f) ≡ registers_in (slice_get w.functions f)
  same_registers f = kept_of registers_in (λ fn. refl) w.functions f

  pub same_main : (f : ℕ) → is_main (strip w) f ≡ is_main w f
  same_main f = kept_of is_main_in (λ fn. refl) w.functions f

  same_line : (f : ℕ) → line_of_function (slice_get (strip w).functions f) ≡ line_of_function (slice_get w.functions f)
  same_line f = kept_of line_of_function (λ fn. refl) w.functions f

  -- ---- the instruction at which a frame stands

  bare_instr : (a : Frame) → weak_at (act_at w a) ≡ false → instr_at (strip w) (bare_frame a) ≡ option_map (moved_instr (plain_of (instrs_of a.function))) (instr_at w a)
  bare_instr a h = ap (λ o. instr_in o (plain_of (instrs_of a.function) a.instr)) (slice_get-map strip_function w.functions a.function) ∙ instr_kept (slice_get w.functions a.function) a.instr h

  pub bare_act : (a : Frame) → weak_at (act_at w a) ≡ false → act_at (strip w) (bare_frame a) ≡ option_map (retarget (plain_of (instrs_of a.function))) (act_at w a)
  bare_act a h = ap act_in (bare_instr a h) ∙ act_moved (plain_of (instrs_of a.function)) (instr_at w a)

  bare_line : (a : Frame) → weak_at (act_at w a) ≡ false → line_in (instr_at (strip w) (bare_frame a)) ≡ line_in (instr_at w a)
  bare_line a h = ap line_in (bare_instr a h) ∙ line_moved (plain_of (instrs_of a.function)) (instr_at w a)

  -- the line of a thread that begins or runs
  pub same_line_of : (p : Phase) (a : Frame) → Stands p (weak_at (act_at w a)) → line_of (strip w) p (bare_frame a) ≡ line_of w p a
  same_line_of (phase.Begun f) a h = same_line f
  same_line_of (phase.Loaded f v) a h = same_line f
  same_line_of phase.Running a h = bare_line a h
  same_line_of phase.Fresh a h = absurd h
  same_line_of phase.Ended a h = absurd h
  same_line_of phase.Halted a h = absurd h
  same_line_of (phase.Trapped kind line) a h = absurd h
  same_line_of phase.Stopped a h = absurd h
  same_line_of phase.Closed a h = absurd h

  pub next_place : (a : Frame) (x : Act) → act_at w a ≡ Some x → is_weak x ≡ false → plain_of (instrs_of a.function) (a.instr + 1) ≡ plain_of (instrs_of a.function) a.instr + 1
  next_place a x e h = next_in (slice_get w.functions a.function) a.instr x e h

  pub same_place : (a : Frame) → weak_at (act_at w a) ≡ true → plain_of (instrs_of a.function) (a.instr + 1) ≡ plain_of (instrs_of a.function) a.instr
  same_place a h = stays_in (slice_get w.functions a.function) a.instr h

  -- ---- the first frame of a function

  -- each function's objects are those that it has without weak instructions
  abbrev pub HasObjects : Type 0
  HasObjects = (f : ℕ) → objects_in (strip w) f ≡ objects_in w f

  pub bare_first : HasObjects → (f : ℕ) (arguments : List ℕ) (arena : ℕ) → first_frame (strip w) f arguments arena ≡ bare_frame (first_frame w f arguments arena)
  bare_first same f arguments arena =
      ap (λ os. frame_with f (length os) 0 (pos 0) (placed w.sites os arena (with_arguments (registers_in (slice_get (strip w).functions f)) arguments))) (same f)
      ∙ ap (λ n. frame_with f (length (objects_in w f)) 0 (pos 0) (placed w.sites (objects_in w f) arena (with_arguments n arguments))) (same_registers f)
      ∙ ap (λ k. frame_with f k 0 (pos 0) (placed w.sites (objects_in w f) arena (with_arguments (registers_in (slice_get w.functions f)) arguments))) (sym (plain_objects (instrs_of f)))
