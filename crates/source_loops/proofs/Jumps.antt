-- Where the jumps of a statement's code go: to its own places, to the one right after them, or to where its loop is left for
-- or continued.
use Rattle.std.proofs.Common.{ℕ, ◌+◌, ◌≤◌, Bool, true, false, if◌then◌else◌, pos, List, [], ◌∷◌, ◌++◌, length, Option, Some, None, arith}
use Rattle.flow_code.specs.declared.act.Act.{Act}
use Rattle.flow_code.specs.declared.act.Act.TheVariants as act
use Rattle.flow_code.specs.declared.act.Instr.{Instr}
use Rattle.flow_code.specs.declared.work.Work.TheVariants as work
use Rattle.word_semantics.specs.declared.library_call.LibraryCall.{LibraryCall}
use Rattle.rr_base.specs.declared.position.Position.{Position}
use Rattle.core_tree.specs.Core as core
use Rattle.core_tree.specs.Core.{Exp, null, load, unary, binary, move, advance, member, between, to_pointer, to_number, copy, both, either, conditional, comma, set_register, store, change_register, change_cell, call, library, allocate, Exps, no_exp, and_exp, Statement, block, compute, branch, branch_else, while_loop, do_loop, for_loop, break_at, continue_at, gives, Statements, no_statement, and_statement}
use Rattle.flow_lower.specs.Lowered.{held, instr, one, computes, gives_nothing, library_code, truth_code, width, value_registers, exp_size, exps_size, maybe_size, test_size, statement_size, statements_size, exp_code, exps_code, maybe_code, test_code, return_code, statement_kinds, maybe_kinds, statement_code, statements_code}

-- each place to which the act may jump is such a one
abbrev pub ActJumps : (ℕ → Type 0) → Act → Type 0
ActJumps P (act.Jump to) = P to
ActJumps P (act.Branch on then_at else_at) = P then_at × P else_at
ActJumps P _ = Unit {0}

abbrev pub Jumps : (ℕ → Type 0) → List Instr → Type 0
Jumps P [] = Unit {0}
Jumps P (i ∷ is) = ActJumps P i.act × Jumps P is

pub joined : (P : ℕ → Type 0) (is js : List Instr) → Jumps P is → Jumps P js → Jumps P (is ++ js)
joined P [] js h k = k
joined P (i ∷ is) js h k = (h.0, joined P is js h.1 k)

-- such are the places from one to another
module _ (P : ℕ → Type 0) (lo hi : ℕ) (inside : (k : ℕ) → lo ≤ k → k ≤ hi → P k) (first : ℕ) where
  truth_jumps : (at : Position) (r x pc : ℕ) → lo ≤ pc → pc + 4 ≤ hi → Jumps P (truth_code at r x pc)
  truth_jumps at r x pc l h = ((inside (pc + 1) (omega (arith, l)) (omega (arith, h)), inside (pc + 3) (omega (arith, l)) (omega (arith, h))), (tt, (inside (pc + 4) (omega (arith, l)) h, (tt, tt))))

  library_jumps : (at : Position) (r : ℕ) (c : LibraryCall) (arguments : List ℕ) → Jumps P (library_code at r c arguments)
  library_jumps at r c arguments = by (gives_nothing c)
    where
      by : (b : Bool) → Jumps P (if b then instr at (act.Library c arguments None) ∷ computes at r (work.Constant (pos 0)) else one at (act.Library c arguments (Some r)))
      by true = (tt, (tt, tt))
      by false = (tt, tt)

  mutual
    pub exp_jumps : (e : Exp) (r pc : ℕ) → lo ≤ pc → pc + exp_size e ≤ hi → Jumps P (exp_code first e r pc)
    exp_jumps (core.number z at) r pc l h = (tt, tt)
    exp_jumps (null at) r pc l h = (tt, tt)
    exp_jumps (core.register n pointer at) r pc l h = tt
    exp_jumps (core.object n at) r pc l h = tt
    exp_jumps (core.global address at) r pc l h = (tt, tt)
    exp_jumps (load e pointer at) r pc l h = joined P _ _ (exp_jumps e (r + 1) pc l (omega (arith, h))) (tt, tt)
    exp_jumps (unary o e at) r pc l h = joined P _ _ (exp_jumps e (r + 1) pc l (omega (arith, h))) (tt, tt)
    exp_jumps (binary o a b at) r pc l h = joined P _ _ (exp_jumps a (r + 1) pc l (omega (arith, h))) (joined P _ _ (exp_jumps b (r + 1 + width a) (pc + exp_size a) (omega (arith, l)) (omega (arith, h))) (tt, tt))
    exp_jumps (move a b element back at) r pc l h = joined P _ _ (exp_jumps a (r + 1) pc l (omega (arith, h))) (joined P _ _ (exp_jumps b (r + 1 + width a) (pc + exp_size a) (omega (arith, l)) (omega (arith, h))) (tt, tt))
    exp_jumps (advance a b element at) r pc l h = joined P _ _ (exp_jumps a (r + 1) pc l (omega (arith, h))) (joined P _ _ (exp_jumps b (r + 1 + width a) (pc + exp_size a) (omega (arith, l)) (omega (arith, h))) (tt, tt))
    exp_jumps (member a by at) r pc l h = joined P _ _ (exp_jumps a (r + 1) pc l (omega (arith, h))) (tt, tt)
    exp_jumps (between a b element at) r pc l h = joined P _ _ (exp_jumps a (r + 1) pc l (omega (arith, h))) (joined P _ _ (exp_jumps b (r + 1 + width a) (pc + exp_size a) (omega (arith, l)) (omega (arith, h))) (tt, tt))
    exp_jumps (to_pointer a at) r pc l h = joined P _ _ (exp_jumps a (r + 1) pc l (omega (arith, h))) (tt, tt)
    exp_jumps (to_number a at) r pc l h = joined P _ _ (exp_jumps a (r + 1) pc l (omega (arith, h))) (tt, tt)
    exp_jumps (copy a at) r pc l h = joined P _ _ (exp_jumps a (r + 1) pc l (omega (arith, h))) (tt, tt)
    exp_jumps (both a b at) r pc l h =
        let second = pc + exp_size a + 1 in
        let tested = second + exp_size b in
        joined P _ _ (exp_jumps a (r + 1) pc l (omega (arith, h))) (
          (inside second (omega (arith, l)) (omega (arith, h)), inside (tested + 3) (omega (arith, l)) (omega (arith, h))),
          joined P _ _ (exp_jumps b (r + 1 + width a) second (omega (arith, l)) (omega (arith, h))) (truth_jumps at r (held first b (r + 1 + width a)) tested (omega (arith, l)) (omega (arith, h))),
        )
    exp_jumps (either a b at) r pc l h =
        let second = pc + exp_size a + 1 in
        let tested = second + exp_size b in
        joined P _ _ (exp_jumps a (r + 1) pc l (omega (arith, h))) (
          (inside (tested + 1) (omega (arith, l)) (omega (arith, h)), inside second (omega (arith, l)) (omega (arith, h))),
          joined P _ _ (exp_jumps b (r + 1 + width a) second (omega (arith, l)) (omega (arith, h))) (truth_jumps at r (held first b (r + 1 + width a)) tested (omega (arith, l)) (omega (arith, h))),
        )
    exp_jumps (conditional a b c at) r pc l h =
        let yes' = pc + exp_size a + 1 in
        let no' = yes' + exp_size b + 2 in
        joined P _ _ (exp_jumps a (r + 1) pc l (omega (arith, h))) (
          (inside yes' (omega (arith, l)) (omega (arith, h)), inside no' (omega (arith, l)) (omega (arith, h))),
          joined P _ _ (exp_jumps b (r + 1 + width a) yes' (omega (arith, l)) (omega (arith, h))) (
            tt,
            (
              inside (no' + exp_size c + 1) (omega (arith, l)) (omega (arith, h)),
              joined P _ _ (exp_jumps c (r + 1 + width a + width b) no' (omega (arith, l)) (omega (arith, h))) (tt, tt),
            ),
          ),
        )
    exp_jumps (comma a b at) r pc l h = joined P _ _ (exp_jumps a (r + 1) pc l (omega (arith, h))) (joined P _ _ (exp_jumps b (r + 1 + width a) (pc + exp_size a) (omega (arith, l)) (omega (arith, h))) (tt, tt))
    exp_jumps (set_register n a at) r pc l h = joined P _ _ (exp_jumps a (r + 1) pc l (omega (arith, h))) (tt, (tt, tt))
    exp_jumps (store a b at) r pc l h = joined P _ _ (exp_jumps a (r + 1) pc l (omega (arith, h))) (joined P _ _ (exp_jumps b (r + 1 + width a) (pc + exp_size a) (omega (arith, l)) (omega (arith, h))) (tt, (tt, tt)))
    exp_jumps (change_register n c b old at) r pc l h = (tt, joined P _ _ (exp_jumps b (r + 3) (pc + 1) (omega (arith, l)) (omega (arith, h))) (tt, (tt, (tt, tt))))
    exp_jumps (change_cell a loaded c b old at) r pc l h =
        joined P _ _ (exp_jumps a (r + 3) pc l (omega (arith, h))) (tt, joined P _ _ (exp_jumps b (r + 3 + width a) (pc + exp_size a + 1) (omega (arith, l)) (omega (arith, h))) (tt, (tt, (tt, tt))))
    exp_jumps (call f es pointer at) r pc l h = joined P _ _ (exps_jumps es (r + 1) pc l (omega (arith, h))) (tt, tt)
    exp_jumps (library c es at) r pc l h = joined P _ _ (exps_jumps es (r + 1) pc l (omega (arith, h))) (library_jumps at r c (value_registers first (r + 1) es))
    exp_jumps (allocate site a at) r pc l h = joined P _ _ (exp_jumps a (r + 1) pc l (omega (arith, h))) (tt, tt)

    pub exps_jumps : (es : Exps) (r pc : ℕ) → lo ≤ pc → pc + exps_size es ≤ hi → Jumps P (exps_code first es r pc)
    exps_jumps no_exp r pc l h = tt
    exps_jumps (and_exp e es) r pc l h = joined P _ _ (exp_jumps e r pc l (omega (arith, h))) (exps_jumps es (r + width e) (pc + exp_size e) (omega (arith, l)) (omega (arith, h)))

  pub maybe_jumps : (e : Option Exp) (r pc : ℕ) → lo ≤ pc → pc + maybe_size e ≤ hi → Jumps P (maybe_code first e r pc)
  maybe_jumps None r pc l h = tt
  maybe_jumps (Some e) r pc l h = exp_jumps e r pc l h

  pub test_jumps : (at : Position) (e : Option Exp) (r pc out : ℕ) → lo ≤ pc → pc + test_size e ≤ hi → P out → Jumps P (test_code first at e r pc out)
  test_jumps at None r pc out l h o = tt
  test_jumps at (Some e) r pc out l h o = joined P _ _ (exp_jumps e r pc l (omega (arith, h))) ((inside (pc + exp_size e + 1) (omega (arith, l)) (omega (arith, h)), o), tt)

  return_jumps : (at : Position) (e : Option Exp) (r pc : ℕ) → lo ≤ pc → pc + maybe_size e ≤ hi → Jumps P (return_code first at e r pc)
  return_jumps at None r pc l h = (tt, tt)
  return_jumps at (Some e) r pc l h = joined P _ _ (exp_jumps e r pc l h) (tt, tt)

  mutual
    pub statement_jumps : (s : Statement) (r pc out on : ℕ) → lo ≤ pc → pc + statement_size s ≤ hi → P out → P on → Jumps P (statement_code first s r pc out on)
    statement_jumps (block ss) r pc out on l h o c = statements_jumps ss r pc out on l h o c
    statement_jumps (compute e) r pc out on l h o c = exp_jumps e r pc l h
    statement_jumps (branch e a at) r pc out on l h o c =
        let yes' = pc + exp_size e + 1 in
        joined P _ _ (exp_jumps e r pc l (omega (arith, h))) (
          (inside yes' (omega (arith, l)) (omega (arith, h)), inside (yes' + statement_size a) (omega (arith, l)) (omega (arith, h))),
          statement_jumps a (r + width e) yes' out on (omega (arith, l)) (omega (arith, h)) o c,
        )
    statement_jumps (branch_else e a b at) r pc out on l h o c =
        let yes' = pc + exp_size e + 1 in
        let no' = yes' + statement_size a + 1 in
        joined P _ _ (exp_jumps e r pc l (omega (arith, h))) (
          (inside yes' (omega (arith, l)) (omega (arith, h)), inside no' (omega (arith, l)) (omega (arith, h))),
          joined P _ _ (statement_jumps a (r + width e) yes' out on (omega (arith, l)) (omega (arith, h)) o c) (
            inside (no' + statement_size b) (omega (arith, l)) (omega (arith, h)),
            statement_jumps b (r + width e + length (statement_kinds a)) no' out on (omega (arith, l)) (omega (arith, h)) o c,
          ),
        )
    statement_jumps (while_loop e a at) r pc out on l h o c =
        let body = pc + 1 + exp_size e + 1 in
        let end = body + statement_size a + 1 in
        let end_in : P end = inside end (omega (arith, l)) (omega (arith, h)) in (
          tt,
          joined P _ _ (exp_jumps e r (pc + 1) (omega (arith, l)) (omega (arith, h))) (
            (inside body (omega (arith, l)) (omega (arith, h)), end_in),
            joined P _ _ (statement_jumps a (r + width e) body end (body + statement_size a) (omega (arith, l)) (omega (arith, h)) end_in (inside (body + statement_size a) (omega (arith, l)) (omega (arith, h))))
                (inside pc l (omega (arith, h)), tt),
          ),
        )
    statement_jumps (do_loop a e at) r pc out on l h o c =
        let test = pc + 1 + statement_size a in
        let end = test + exp_size e + 1 in
        let end_in : P end = inside end (omega (arith, l)) (omega (arith, h)) in (
          tt,
          joined P _ _ (statement_jumps a r (pc + 1) end test (omega (arith, l)) (omega (arith, h)) end_in (inside test (omega (arith, l)) (omega (arith, h))))
              (joined P _ _ (exp_jumps e (r + length (statement_kinds a)) test (omega (arith, l)) (omega (arith, h))) ((inside pc l (omega (arith, h)), end_in), tt)),
        )
    statement_jumps (for_loop start test step a at) r pc out on l h o c =
        let mark = pc + statement_size start in
        let body = mark + 1 + test_size test in
        let last = body + statement_size a in
        let end = last + maybe_size step + 1 in
        let tested = r + length (statement_kinds start) in
        let inner = tested + length (maybe_kinds test) in
        let stepped = inner + length (statement_kinds a) in
        let end_in : P end = inside end (omega (arith, l)) (omega (arith, h)) in
        joined P _ _ (statement_jumps start r pc out on l (omega (arith, h)) o c) (
          tt,
          joined P _ _ (test_jumps at test tested (mark + 1) end (omega (arith, l)) (omega (arith, h)) end_in)
              (joined P _ _ (statement_jumps a inner body end last (omega (arith, l)) (omega (arith, h)) end_in (inside last (omega (arith, l)) (omega (arith, h))))
              (joined P _ _ (maybe_jumps step stepped last (omega (arith, l)) (omega (arith, h))) (inside mark (omega (arith, l)) (omega (arith, h)), tt))),
        )
    statement_jumps (break_at at) r pc out on l h o c = (o, tt)
    statement_jumps (continue_at at) r pc out on l h o c = (c, tt)
    statement_jumps (gives e at) r pc out on l h o c = return_jumps at e r pc l (omega (arith, h))

    pub statements_jumps : (ss : Statements) (r pc out on : ℕ) → lo ≤ pc → pc + statements_size ss ≤ hi → P out → P on → Jumps P (statements_code first ss r pc out on)
    statements_jumps no_statement r pc out on l h o c = tt
    statements_jumps (and_statement a ss) r pc out on l h o c =
        joined P _ _ (statement_jumps a r pc out on l (omega (arith, h)) o c)
        (statements_jumps ss (r + length (statement_kinds a)) (pc + statement_size a) out on (omega (arith, l)) (omega (arith, h)) o c)
