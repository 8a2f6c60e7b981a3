-- A code that can be run can be run without its weak locks.
use Rattle.std.proofs.Common.{◌≡◌, ℕ, zero, suc, ◌≤◌, inl, inr, Bool, true, false, List, [], ◌∷◌, Option, Some, None, refl, sym, ap, subst, ◌∙◌, arith}
use Rattle.std.specs.Prelude.{if◌then◌else◌, slice_get, option_map}
use Rattle.std.proofs.lemmas.List.{length-map}
use Rattle.std.proofs.lemmas.Option.{slice_get-map}
use Rattle.flow_code.specs.declared.act.Act.{Act}
use Rattle.flow_code.specs.declared.act.Act.TheVariants as act
use Rattle.flow_code.specs.declared.act.Instr.{Instr}
use Rattle.flow_code.specs.declared.code.Code.{Code}
use Rattle.flow_code.specs.declared.code.Function.{Function}
use Rattle.flow_code.specs.Next.{act_in}
use Rattle.flow_code.specs.Settle.{IsJump, IsSoundAct, IsRunnable}
use Rattle.flow_code.specs.Threads.{instrs_in}
use Rattle.weak_code.specs.Stripped.{is_weak, plain_of, stripped, strip_function, strip}
use Rattle.weak_code.specs.Weakened.{retarget}
use Rattle.erasure.proofs.Kept.{weak_at, moved_instr, kept_at, plain_next}

-- ---- places

-- what stands in the code without weak instructions stood in the code with them, at a place that became this one
pub record Stood (to : ℕ → ℕ) (is : List Instr) (x : ℕ) (j : Instr) : Type 0 where
  pub number : ℕ
  pub instr : Instr
  pub here : slice_get is number ≡ Some instr
  pub strong : is_weak instr.act ≡ false
  pub seat : plain_of is number ≡ x
  pub moved : moved_instr to instr ≡ j

stood : (to : ℕ → ℕ) (is : List Instr) (x : ℕ) (j : Instr) → slice_get (stripped to is) x ≡ Some j → Stood to is x j
stood to [] x j e = cc
stood to (i ∷ is) x j e = by (is_weak i.act) refl (λ y h. stood to is y j h) x e
  where
    by : (b : Bool) → is_weak i.act ≡ b → ((y : ℕ) → slice_get (stripped to is) y ≡ Some j → Stood to is y j) → (x : ℕ) → slice_get (if b then stripped to is else moved_instr to i ∷ stripped to is) x ≡ Some j → Stood to (i ∷ is) x j
    by true weak rest x e =
        let h = rest x e in
        record { number = suc h.number; instr = h.instr; here = h.here; strong = h.strong; seat = ap (λ b. if b then plain_of is h.number else suc (plain_of is h.number)) weak ∙ h.seat; moved = h.moved }
    by false strong rest zero e = record { number = 0; instr = i; here = refl; strong = strong; seat = refl; moved = cc }
    by false strong rest (suc x) e =
        let h = rest x e in
        record { number = suc h.number; instr = h.instr; here = h.here; strong = h.strong; seat = ap (λ b. if b then plain_of is h.number else suc (plain_of is h.number)) strong ∙ ap suc h.seat; moved = h.moved }

-- a later place stays no earlier one
plain_grows : (is : List Instr) (m n : ℕ) → m ≤ n → plain_of is m ≤ plain_of is n
plain_grows [] m n le = omega arith
plain_grows (i ∷ is) zero n le = omega arith
plain_grows (i ∷ is) (suc m) zero le = absurd (omega (arith, le))
plain_grows (i ∷ is) (suc m) (suc n) le = by (is_weak i.act) (plain_grows is m n (omega (arith, le)))
  where
    by : (b : Bool) → plain_of is m ≤ plain_of is n → (if b then plain_of is m else suc (plain_of is m)) ≤ (if b then plain_of is n else suc (plain_of is n))
    by true h = h
    by false h = omega (arith, h)

-- ---- jumps

mark_moved : (to : ℕ → ℕ) (o : Option Instr) → act_in o ≡ Some act.Mark → act_in (option_map (moved_instr to) o) ≡ Some act.Mark
mark_moved to None e = cc
mark_moved to (Some i) e =
    let mark : i.act ≡ act.Mark = cc in
    ap (λ a. Some (retarget to a)) mark

module _ (is : List Instr) where
  abbrev plain_instrs : List Instr
  plain_instrs = stripped (plain_of is) is

  jump_plain : (k to : ℕ) (i : Instr) → slice_get is k ≡ Some i → is_weak i.act ≡ false → IsJump is k to → IsJump plain_instrs (plain_of is k) (plain_of is to)
  jump_plain k to i e strong (inl lt) =
      let next = plain_next is k i e strong in
      let grows = plain_grows is (suc k) to (omega (arith, lt)) in
      inl (omega (arith, next, grows))
  jump_plain k to i e strong (inr mark) =
      inr (ap act_in (kept_at (plain_of is) is to (ap weak_at mark)) ∙ mark_moved (plain_of is) (slice_get is to) mark)

  act_plain : (k : ℕ) (i : Instr) (a : Act) → slice_get is k ≡ Some i → is_weak i.act ≡ false → i.act ≡ a → IsSoundAct is k (Some a) → IsSoundAct plain_instrs (plain_of is k) (Some (retarget (plain_of is) a))
  act_plain k i (act.Jump to) e strong same h = jump_plain k to i e strong h
  act_plain k i (act.Branch on then_at else_at) e strong same h = (jump_plain k then_at i e strong h.0, jump_plain k else_at i e strong h.1)
  act_plain k i (act.Library c arguments into) e strong same h = h
  act_plain k i (act.Compute into work) e strong same h = tt
  act_plain k i (act.Alloc into site size) e strong same h = tt
  act_plain k i (act.LoadCell into through) e strong same h = tt
  act_plain k i (act.StoreCell through from) e strong same h = tt
  act_plain k i act.Mark e strong same h = tt
  act_plain k i (act.Call function arguments into) e strong same h = tt
  act_plain k i (act.Return value) e strong same h = tt
  act_plain k i (act.Take r) e strong same h = tt
  act_plain k i (act.Give r) e strong same h = tt

  instr_plain : ((k : ℕ) → IsSoundAct is k (act_in (slice_get is k))) → (x : ℕ) (o : Option Instr) → slice_get plain_instrs x ≡ o → IsSoundAct plain_instrs x (act_in o)
  instr_plain sound x None e = tt
  instr_plain sound x (Some j) e =
      let h = stood (plain_of is) is x j e in
      let here : IsSoundAct is h.number (Some h.instr.act) = subst (λ o. IsSoundAct is h.number (act_in o)) h.here (sound h.number) in
      let there = act_plain h.number h.instr h.instr.act h.here h.strong refl here in
      subst (λ y. IsSoundAct plain_instrs y (Some j.act)) h.seat (subst (λ a. IsSoundAct plain_instrs (plain_of is h.number) (Some a)) (ap (λ (z : Instr). z.act) h.moved) there)

-- ---- functions

function_plain : (o : Option Function) → ((k : ℕ) → IsSoundAct (instrs_in o) k (act_in (slice_get (instrs_in o) k))) → (x : ℕ) →
    IsSoundAct (instrs_in (option_map strip_function o)) x (act_in (slice_get (instrs_in (option_map strip_function o)) x))
function_plain None h x = tt
function_plain (Some fn) h x = instr_plain fn.instrs h x (slice_get (stripped (plain_of fn.instrs) fn.instrs) x) refl

pub strip_runs : (code : Code) → IsRunnable code → IsRunnable (strip code)
strip_runs code runs = record {
  jumps = λ f x.
      subst (λ (o : Option Function). IsSoundAct (instrs_in o) x (act_in (slice_get (instrs_in o) x))) (sym (slice_get-map strip_function code.functions f))
      (function_plain (slice_get code.functions f) (λ k. runs.jumps f k) x);
  few_globals = runs.few_globals;
  few_functions = let same = length-map code.functions strip_function in let few = runs.few_functions in omega (arith, same, few);
}
