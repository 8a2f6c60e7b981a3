-- How many instructions code has.
use Rattle.std.proofs.Common.{◌≡◌, ℕ, suc, ◌+◌, Bool, true, false, if◌then◌else◌, pos, List, [], ◌∷◌, ◌++◌, length, Option, Some, None, refl, ap, arith, length-append}
use Rattle.flow_code.specs.declared.act.Act.TheVariants as act
use Rattle.word_semantics.specs.declared.library_call.LibraryCall.{LibraryCall}
use Rattle.flow_code.specs.declared.work.Work.TheVariants as work
use Rattle.rr_base.specs.declared.position.Position.{Position}
use Rattle.core_tree.specs.Core as core
use Rattle.core_tree.specs.Core.{Exp, null, load, unary, binary, move, advance, member, between, to_pointer, to_number, copy, both, either, conditional, comma, set_register, store, change_register, change_cell, call, library, allocate, Exps, no_exp, and_exp, Statement, block, compute, branch, branch_else, while_loop, do_loop, for_loop, break_at, continue_at, gives, Statements, no_statement, and_statement, Arrival, arrives}
use Rattle.flow_lower.specs.Lowered.{held, instr, one, computes, gives_nothing, library_size, library_code, width, exp_size, exps_size, exp_code, exps_code, value_registers, statement_kinds, maybe_kinds, statement_size, statements_size, statement_code, statements_code, maybe_size, test_size, maybe_code, test_code, objects_code, arrivals_code}

pub joined : {X : Type 0} (xs ys : List X) (m n : ℕ) → length xs ≡ m → length ys ≡ n → length (xs ++ ys) ≡ m + n
joined xs ys m n d e = omega (arith, length-append xs ys, d, e)

pub following : {X : Type 0} (x : X) (xs : List X) (n : ℕ) → length xs ≡ n → length (x ∷ xs) ≡ 1 + n
following x xs n e = omega (arith, e)

pub library_length : (at : Position) (r : ℕ) (c : LibraryCall) (args : List ℕ) → length (library_code at r c args) ≡ library_size c
library_length at r c args = by (gives_nothing c)
  where
    by : (b : Bool) → length (if b then instr at (act.Library c args None) ∷ computes at r (work.Constant (pos 0)) else one at (act.Library c args (Some r))) ≡ (if b then 2 else 1)
    by true = refl
    by false = refl

mutual
  pub exp_length : (first : ℕ) (e : Exp) (r pc : ℕ) → length (exp_code first e r pc) ≡ exp_size e
  exp_length first (core.number z at) r pc = refl
  exp_length first (null at) r pc = refl
  exp_length first (core.register n pointer at) r pc = refl
  exp_length first (core.object n at) r pc = refl
  exp_length first (core.global address at) r pc = refl
  exp_length first (load a pointer at) r pc = joined _ _ _ _ (exp_length first a (r + 1) pc) refl
  exp_length first (unary o a at) r pc = joined _ _ _ _ (exp_length first a (r + 1) pc) refl
  exp_length first (member a by at) r pc = joined _ _ _ _ (exp_length first a (r + 1) pc) refl
  exp_length first (to_pointer a at) r pc = joined _ _ _ _ (exp_length first a (r + 1) pc) refl
  exp_length first (to_number a at) r pc = joined _ _ _ _ (exp_length first a (r + 1) pc) refl
  exp_length first (copy a at) r pc = joined _ _ _ _ (exp_length first a (r + 1) pc) refl
  exp_length first (set_register n a at) r pc = joined _ _ _ _ (exp_length first a (r + 1) pc) refl
  exp_length first (allocate site a at) r pc = joined _ _ _ _ (exp_length first a (r + 1) pc) refl
  exp_length first (binary o a b at) r pc = joined _ _ _ _ (exp_length first a (r + 1) pc) (joined _ _ _ _ (exp_length first b (r + 1 + width a) (pc + exp_size a)) refl)
  exp_length first (move a b element back at) r pc = joined _ _ _ _ (exp_length first a (r + 1) pc) (joined _ _ _ _ (exp_length first b (r + 1 + width a) (pc + exp_size a)) refl)
  exp_length first (advance a b element at) r pc = joined _ _ _ _ (exp_length first a (r + 1) pc) (joined _ _ _ _ (exp_length first b (r + 1 + width a) (pc + exp_size a)) refl)
  exp_length first (between a b element at) r pc = joined _ _ _ _ (exp_length first a (r + 1) pc) (joined _ _ _ _ (exp_length first b (r + 1 + width a) (pc + exp_size a)) refl)
  exp_length first (comma a b at) r pc = joined _ _ _ _ (exp_length first a (r + 1) pc) (joined _ _ _ _ (exp_length first b (r + 1 + width a) (pc + exp_size a)) refl)
  exp_length first (store a b at) r pc = joined _ _ _ _ (exp_length first a (r + 1) pc) (joined _ _ _ _ (exp_length first b (r + 1 + width a) (pc + exp_size a)) refl)
  exp_length first (both a b at) r pc = joined _ _ _ _ (exp_length first a (r + 1) pc) (following (instr at (act.Branch (held first a (r + 1)) (pc + exp_size a + 1) (pc + exp_size a + 1 + exp_size b + 3))) _ _ (joined _ _ _ _ (exp_length first b (r + 1 + width a) (pc + exp_size a + 1)) refl))
  exp_length first (either a b at) r pc = joined _ _ _ _ (exp_length first a (r + 1) pc) (following (instr at (act.Branch (held first a (r + 1)) (pc + exp_size a + 1 + exp_size b + 1) (pc + exp_size a + 1))) _ _ (joined _ _ _ _ (exp_length first b (r + 1 + width a) (pc + exp_size a + 1)) refl))
  exp_length first (conditional a b c at) r pc =
      let yes' = pc + exp_size a + 1 in
      let no' = yes' + exp_size b + 2 in
      let copied = computes at r (work.Copy (held first c (r + 1 + width a + width b))) in
      let last = exp_code first c (r + 1 + width a + width b) no' ++ copied in
      let jumped = instr at (act.Jump (no' + exp_size c + 1)) ∷ last in
      let e_last : length last ≡ exp_size c + 1 = joined (exp_code first c (r + 1 + width a + width b) no') copied _ _ (exp_length first c (r + 1 + width a + width b) no') refl in
      let e_jumped : length jumped ≡ 1 + (exp_size c + 1) = following (instr at (act.Jump (no' + exp_size c + 1))) last _ e_last in
      joined _ _ _ _ (exp_length first a (r + 1) pc) (following (instr at (act.Branch (held first a (r + 1)) yes' no')) _ _ (joined _ _ _ _ (exp_length first b (r + 1 + width a) yes') (following (instr at (act.Compute r (work.Copy (held first b (r + 1 + width a))))) jumped _ e_jumped)))
  exp_length first (change_register n c b old at) r pc = following (instr at (act.Compute (r + 1) (work.Copy n))) _ _ (joined _ _ _ _ (exp_length first b (r + 3) (pc + 1)) refl)
  exp_length first (change_cell a loaded c b old at) r pc = joined _ _ _ _ (exp_length first a (r + 3) pc) (following (instr loaded (act.LoadCell (r + 1) (held first a (r + 3)))) _ _ (joined _ _ _ _ (exp_length first b (r + 3 + width a) (pc + exp_size a + 1)) refl))
  exp_length first (call f es pointer at) r pc = joined _ _ _ _ (exps_length first es (r + 1) pc) refl
  exp_length first (library c es at) r pc = joined _ _ _ _ (exps_length first es (r + 1) pc) (library_length at r c (value_registers first (r + 1) es))

  pub exps_length : (first : ℕ) (es : Exps) (r pc : ℕ) → length (exps_code first es r pc) ≡ exps_size es
  exps_length first no_exp r pc = refl
  exps_length first (and_exp e es) r pc = joined _ _ _ _ (exp_length first e r pc) (exps_length first es (r + width e) (pc + exp_size e))

pub maybe_length : (first : ℕ) (e : Option Exp) (r pc : ℕ) → length (maybe_code first e r pc) ≡ maybe_size e
maybe_length first None r pc = refl
maybe_length first (Some e) r pc = exp_length first e r pc

pub test_length : (first : ℕ) (at : Position) (e : Option Exp) (r pc out : ℕ) → length (test_code first at e r pc out) ≡ test_size e
test_length first at None r pc out = refl
test_length first at (Some e) r pc out = joined _ _ _ _ (exp_length first e r pc) refl

mutual
  pub statement_length : (first : ℕ) (a : Statement) (r pc out on : ℕ) → length (statement_code first a r pc out on) ≡ statement_size a
  statement_length first (block ss) r pc out on = statements_length first ss r pc out on
  statement_length first (compute e) r pc out on = exp_length first e r pc
  statement_length first (branch e a at) r pc out on =
      let yes' = pc + exp_size e + 1 in
      let code_a = statement_code first a (r + width e) yes' out on in
      joined (exp_code first e r pc) (instr at (act.Branch (held first e r) yes' (yes' + statement_size a)) ∷ code_a) _ _ (exp_length first e r pc)
      (following (instr at (act.Branch (held first e r) yes' (yes' + statement_size a))) code_a _ (statement_length first a (r + width e) yes' out on))
  statement_length first (branch_else e a b at) r pc out on =
      let yes' = pc + exp_size e + 1 in
      let no' = yes' + statement_size a + 1 in
      let code_b = statement_code first b (r + width e + length (statement_kinds a)) no' out on in
      let code_a = statement_code first a (r + width e) yes' out on ++ (instr at (act.Jump (no' + statement_size b)) ∷ code_b) in
      joined (exp_code first e r pc) (instr at (act.Branch (held first e r) yes' no') ∷ code_a) _ _ (exp_length first e r pc)
      (following (instr at (act.Branch (held first e r) yes' no')) code_a _
      (joined (statement_code first a (r + width e) yes' out on) (instr at (act.Jump (no' + statement_size b)) ∷ code_b) _ _ (statement_length first a (r + width e) yes' out on)
      (following (instr at (act.Jump (no' + statement_size b))) code_b _ (statement_length first b (r + width e + length (statement_kinds a)) no' out on))))
  statement_length first (while_loop e a at) r pc out on =
      let body = pc + 1 + exp_size e + 1 in
      let end = body + statement_size a + 1 in
      let code_a = statement_code first a (r + width e) body end (body + statement_size a) ++ one at (act.Jump pc) in
      following (instr at act.Mark) (exp_code first e r (pc + 1) ++ (instr at (act.Branch (held first e r) body end) ∷ code_a)) _
      (joined (exp_code first e r (pc + 1)) (instr at (act.Branch (held first e r) body end) ∷ code_a) _ _ (exp_length first e r (pc + 1))
      (following (instr at (act.Branch (held first e r) body end)) code_a _
      (joined (statement_code first a (r + width e) body end (body + statement_size a)) (one at (act.Jump pc)) _ _ (statement_length first a (r + width e) body end (body + statement_size a)) refl)))
  statement_length first (do_loop a e at) r pc out on =
      let test = pc + 1 + statement_size a in
      let end = test + exp_size e + 1 in
      let x = r + length (statement_kinds a) in
      let code_e = exp_code first e x test ++ one at (act.Branch (held first e x) pc end) in
      following (instr at act.Mark) (statement_code first a r (pc + 1) end test ++ code_e) _
      (joined (statement_code first a r (pc + 1) end test) code_e _ _ (statement_length first a r (pc + 1) end test)
      (joined (exp_code first e x test) (one at (act.Branch (held first e x) pc end)) _ _ (exp_length first e x test) refl))
  statement_length first (for_loop start test step a at) r pc out on =
      let mark = pc + statement_size start in
      let body = mark + 1 + test_size test in
      let last = body + statement_size a in
      let end = last + maybe_size step + 1 in
      let tested = r + length (statement_kinds start) in
      let inner = tested + length (maybe_kinds test) in
      let stepped = inner + length (statement_kinds a) in
      let code_s = maybe_code first step stepped last ++ one at (act.Jump mark) in
      let code_a = statement_code first a inner body end last ++ code_s in
      let code_t = test_code first at test tested (mark + 1) end ++ code_a in
      joined (statement_code first start r pc out on) (instr at act.Mark ∷ code_t) _ _ (statement_length first start r pc out on)
      (following (instr at act.Mark) code_t _
      (joined (test_code first at test tested (mark + 1) end) code_a _ _ (test_length first at test tested (mark + 1) end)
      (joined (statement_code first a inner body end last) code_s _ _ (statement_length first a inner body end last)
      (joined (maybe_code first step stepped last) (one at (act.Jump mark)) _ _ (maybe_length first step stepped last) refl))))
  statement_length first (break_at at) r pc out on = refl
  statement_length first (continue_at at) r pc out on = refl
  statement_length first (gives None at) r pc out on = refl
  statement_length first (gives (Some e) at) r pc out on = joined _ _ _ _ (exp_length first e r pc) refl

  pub statements_length : (first : ℕ) (ss : Statements) (r pc out on : ℕ) → length (statements_code first ss r pc out on) ≡ statements_size ss
  statements_length first no_statement r pc out on = refl
  statements_length first (and_statement a ss) r pc out on = joined _ _ _ _ (statement_length first a r pc out on) (statements_length first ss (r + length (statement_kinds a)) (pc + statement_size a) out on)

pub objects_length : (at : Position) (r : ℕ) (sites : List ℕ) → length (objects_code at r sites) ≡ length sites
objects_length at r [] = refl
objects_length at r (site ∷ more) = ap suc (objects_length at (r + 1) more)

pub arrivals_length : (first : ℕ) (arrivals : List Arrival) → length (arrivals_code first arrivals) ≡ length arrivals
arrivals_length first [] = refl
arrivals_length first (arrives n k at ∷ more) = ap suc (arrivals_length first more)
