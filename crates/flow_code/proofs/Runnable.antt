-- Valid code can be run.
use Rattle.std.proofs.Common.{◌≡◌, ℕ, zero, suc, ◌+◌, ◌<◌, ◌≤◌, ◌^◌, List, [], ◌∷◌, length, refl, sym, subst, add-zero, zero-add, arith, inl, inr, Option, Some, None, Bool, true, false}
use Rattle.std.specs.Prelude.{slice_get, ◌&&◌, ◌||◌, nat_lt}
use Rattle.std.proofs.lemmas.Bool.{ltb-true}
use Rattle.std.proofs.lemmas.Option.{slice_get_within}
use Rattle.flow_code.specs.declared.act.Act.{Act}
use Rattle.flow_code.specs.declared.act.Act.TheVariants as act
use Rattle.flow_code.specs.declared.act.Instr.{Instr}
use Rattle.word_semantics.specs.declared.library_call.LibraryCall.{LibraryCall}
use Rattle.word_semantics.specs.declared.library_call.LibraryCall.TheVariants as call
use Rattle.flow_code.specs.declared.code.Code.{Code}
use Rattle.flow_code.specs.declared.code.Function.{Function}
use Rattle.flow_code.specs.Threads.{instrs_in}
use Rattle.flow_code.specs.Next.{act_in}
use Rattle.flow_code.specs.Settle.{IsJump, IsSoundAct, IsRunnable}
use Rattle.word_semantics.specs.Library.{IsSoundCall}
use Rattle.flow_code.specs.Kinds.{may_start, starts_fit, act_fits}
use Rattle.flow_code.specs.Order.{is_mark, jump_fits, jumps_fit_at, jumps_fit, ends_in_itself}
use Rattle.flow_code.specs.Valid.{is_valid, function_fits}
use Rattle.flow_code.proofs.ValidParts.{left, right, some_is, few_functions, few_globals, function_is_fit, order_is_fit, act_is_fit}

-- ---- jumps

marked : (o : Option Act) → is_mark o ≡ true → o ≡ Some act.Mark
marked (Some act.Mark) h = refl
marked _ h = cc

jump_is : (is : List Instr) (at to : ℕ) → jump_fits is at to ≡ true → IsJump is at to
jump_is is at to h = by (nat_lt at to) refl h where
  by : (b : Bool) → nat_lt at to ≡ b → (b || is_mark (act_in (slice_get is to))) ≡ true → IsJump is at to
  by true e g = inl (ltb-true at to e)
  by false e g = inr (marked (act_in (slice_get is to)) g)

jumps_get : (is : List Instr) (at : ℕ) (rest : List Instr) (k : ℕ) (i : Instr) → jumps_fit is at rest ≡ true → slice_get rest k ≡ Some i → jumps_fit_at is (at + k) i.act ≡ true
jumps_get is at [] k i h e = cc
jumps_get is at (j ∷ rest) zero i h e =
    let here : jumps_fit_at is at j.act ≡ true = left (jumps_fit_at is at j.act) (jumps_fit is (at + 1) rest) h in
    let same : j ≡ i = some_is j i e in
    subst (λ n. jumps_fit_at is n i.act ≡ true) (sym (add-zero at)) (subst (λ x. jumps_fit_at is at x.act ≡ true) same here)
jumps_get is at (j ∷ rest) (suc k) i h e =
    let further : (at + 1) + k ≡ at + suc k = omega arith in
    subst (λ n. jumps_fit_at is n i.act ≡ true) further (jumps_get is (at + 1) rest k i (right (jumps_fit_at is at j.act) (jumps_fit is (at + 1) rest) h) e)

-- ---- calls that start a thread

started_within : (fs : List Function) (g : ℕ) (o : Option Function) → slice_get fs g ≡ o → may_start o ≡ true → g < length fs
started_within fs g None e h = cc
started_within fs g (Some f) e h = slice_get_within fs g f e

call_sound : (code : Code) → length code.functions ≤ 2 ^ 20 → (c : LibraryCall) → starts_fit code c ≡ true → IsSoundCall c
call_sound code few (call.Create g) h = let h : g < length code.functions = started_within code.functions g (slice_get code.functions g) refl h in omega arith
call_sound code few _ h = tt

-- ---- instructions

act_sound : (code : Code) (f : Function) → length code.functions ≤ 2 ^ 20 → (at : ℕ) (a : Act) → jumps_fit_at f.instrs at a ≡ true → act_fits code f a ≡ true → IsSoundAct f.instrs at (Some a)
act_sound code f few at (act.Jump to) jumps fits = jump_is f.instrs at to jumps
act_sound code f few at (act.Branch on then_at else_at) jumps fits =
    (jump_is f.instrs at then_at (left (jump_fits f.instrs at then_at) (jump_fits f.instrs at else_at) jumps), jump_is f.instrs at else_at (right (jump_fits f.instrs at then_at) (jump_fits f.instrs at else_at) jumps))
act_sound code f few at (act.Library c arguments into) jumps fits = call_sound code few c (left (starts_fit code c) _ (left _ _ fits))
act_sound code f few at _ jumps fits = tt

module _ (code : Code) (f : Function) (fits : function_fits code f ≡ true) where
  jumps_are : jumps_fit f.instrs 0 f.instrs ≡ true
  jumps_are = right (ends_in_itself f.instrs) _ (left (ends_in_itself f.instrs && jumps_fit f.instrs 0 f.instrs) _ (order_is_fit code f fits))

  instr_sound : length code.functions ≤ 2 ^ 20 → (at : ℕ) (o : Option Instr) → slice_get f.instrs at ≡ o → IsSoundAct f.instrs at (act_in o)
  instr_sound few at None e = tt
  instr_sound few at (Some i) e =
      let here : jumps_fit_at f.instrs (0 + at) i.act ≡ true = jumps_get f.instrs 0 f.instrs at i jumps_are e in
      act_sound code f few at i.act (subst (λ n. jumps_fit_at f.instrs n i.act ≡ true) (zero-add at) here) (act_is_fit code f fits at i e)

function_sound : (code : Code) → is_valid code ≡ true → (n at : ℕ) (o : Option Function) → slice_get code.functions n ≡ o → IsSoundAct (instrs_in o) at (act_in (slice_get (instrs_in o) at))
function_sound code valid n at None e = tt
function_sound code valid n at (Some f) e = instr_sound code f (function_is_fit code valid n f e) (few_functions code valid) at (slice_get f.instrs at) refl

pub valid_runnable : (code : Code) → is_valid code ≡ true → IsRunnable code
valid_runnable code valid = record {
  jumps = λ n at. function_sound code valid n at (slice_get code.functions n) refl;
  few_globals = few_globals code valid;
  few_functions = few_functions code valid;
}
