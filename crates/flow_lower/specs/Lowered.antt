-- The code of a core tree.
use Rattle.std.specs.Prelude.{ℕ, ◌+◌, Bool, true, false, if◌then◌else◌, pos, List, [], ◌∷◌, ◌++◌, length, map, replicate, Option, Some, None}
use Rattle.flow_code.specs.declared.act.Act.TheVariants as act
use Rattle.flow_code.specs.declared.act.Instr.{Instr}
use Rattle.flow_code.specs.declared.work.Work.TheVariants as work
use Rattle.flow_code.specs.declared.code.Code.{Code}
use Rattle.flow_code.specs.declared.code.Function.{Function as FlowFunction}
use Rattle.rr_base.specs.declared.position.Position.{Position}
use Rattle.core_tree.specs.Core as core
use Rattle.core_tree.specs.Core.{Exp, null, register, object, global, load, unary, binary, move, advance, member, between, to_pointer, to_number, copy, both, either, conditional, comma, set_register, store, change_register, change_cell, call, library, allocate, Exps, no_exp, and_exp, Statement, block, compute, branch, branch_else, while_loop, do_loop, for_loop, break_at, continue_at, gives, Statements, no_statement, and_statement, Arrival, arrives, Function, Program}
use Rattle.lowering_parts.specs.Kept.{statement_kept}
use Rattle.lowering_parts.specs.Loops.{statement_loops}
pub use Rattle.lowering_parts.specs.Kinds.{exp_kinds, exps_kinds, width, maybe_kinds, statement_kinds, statements_kinds}
pub use Rattle.lowering_parts.specs.Pieces.{instr, one, computes, unary_work, change_work, truth_code, library_code}
pub use Rattle.lowering_parts.specs.Sizes.{gives_nothing, library_size, exp_size, exps_size, maybe_size, test_size, statement_size, statements_size}

-- ---- expressions

-- The register that has the value of an expression, where those from r on are free. The addresses of the function's objects
-- are in the registers from `first` on.
abbrev pub held : (first : ℕ) → Exp → (r : ℕ) → ℕ
held first (register n pointer at) r = n
held first (object n at) r = first + n
held first _ r = r

-- those of the values of some expressions
abbrev pub value_registers : (first : ℕ) → ℕ → Exps → List ℕ
value_registers first r no_exp = []
value_registers first r (and_exp e es) = held first e r ∷ value_registers first (r + width e) es

abbrev mutual
  -- The code from the place pc on. The registers from r on are free.
  pub exp_code : (first : ℕ) → Exp → (r pc : ℕ) → List Instr
  exp_code first (core.number z at) r pc = computes at r (work.Constant z)
  exp_code first (null at) r pc = computes at r (work.Constant (pos 0))
  exp_code first (register n pointer at) r pc = []
  exp_code first (object n at) r pc = []
  exp_code first (global address at) r pc = computes at r (work.Address address)
  exp_code first (load e pointer at) r pc = exp_code first e (r + 1) pc ++ one at (act.LoadCell r (held first e (r + 1)))
  exp_code first (unary o e at) r pc = exp_code first e (r + 1) pc ++ computes at r (unary_work o (held first e (r + 1)))
  exp_code first (binary o a b at) r pc = exp_code first a (r + 1) pc ++ (exp_code first b (r + 1 + width a) (pc + exp_size a) ++ computes at r (work.Binary o (held first a (r + 1)) (held first b (r + 1 + width a))))
  exp_code first (move a b element back at) r pc = exp_code first a (r + 1) pc ++ (exp_code first b (r + 1 + width a) (pc + exp_size a) ++ computes at r (work.Move (held first a (r + 1)) (held first b (r + 1 + width a)) element back))
  exp_code first (advance a b element at) r pc = exp_code first a (r + 1) pc ++ (exp_code first b (r + 1 + width a) (pc + exp_size a) ++ computes at r (work.Move (held first b (r + 1 + width a)) (held first a (r + 1)) element false))
  exp_code first (member a by at) r pc = exp_code first a (r + 1) pc ++ computes at r (work.Member (held first a (r + 1)) by)
  exp_code first (between a b element at) r pc = exp_code first a (r + 1) pc ++ (exp_code first b (r + 1 + width a) (pc + exp_size a) ++ computes at r (work.Between (held first a (r + 1)) (held first b (r + 1 + width a)) element))
  exp_code first (to_pointer a at) r pc = exp_code first a (r + 1) pc ++ computes at r (work.ToPointer (held first a (r + 1)))
  exp_code first (to_number a at) r pc = exp_code first a (r + 1) pc ++ computes at r (work.ToNumber (held first a (r + 1)))
  exp_code first (copy a at) r pc = exp_code first a (r + 1) pc ++ computes at r (work.Copy (held first a (r + 1)))
  exp_code first (both a b at) r pc =
      let second = pc + exp_size a + 1 in
      let tested = second + exp_size b in
      exp_code first a (r + 1) pc ++ (instr at (act.Branch (held first a (r + 1)) second (tested + 3)) ∷ (exp_code first b (r + 1 + width a) second ++ truth_code at r (held first b (r + 1 + width a)) tested))
  exp_code first (either a b at) r pc =
      let second = pc + exp_size a + 1 in
      let tested = second + exp_size b in
      exp_code first a (r + 1) pc ++ (instr at (act.Branch (held first a (r + 1)) (tested + 1) second) ∷ (exp_code first b (r + 1 + width a) second ++ truth_code at r (held first b (r + 1 + width a)) tested))
  exp_code first (conditional a b c at) r pc =
      let yes' = pc + exp_size a + 1 in
      let no' = yes' + exp_size b + 2 in
      exp_code first a (r + 1) pc ++ (instr at (act.Branch (held first a (r + 1)) yes' no') ∷
      (exp_code first b (r + 1 + width a) yes' ++ (instr at (act.Compute r (work.Copy (held first b (r + 1 + width a)))) ∷ instr at (act.Jump (no' + exp_size c + 1)) ∷
      (exp_code first c (r + 1 + width a + width b) no' ++ computes at r (work.Copy (held first c (r + 1 + width a + width b)))))))
  exp_code first (comma a b at) r pc = exp_code first a (r + 1) pc ++ (exp_code first b (r + 1 + width a) (pc + exp_size a) ++ computes at r (work.Copy (held first b (r + 1 + width a))))
  exp_code first (set_register n a at) r pc = exp_code first a (r + 1) pc ++ (instr at (act.Compute n (work.Copy (held first a (r + 1)))) ∷ computes at r (work.Copy (held first a (r + 1))))
  exp_code first (store a b at) r pc = exp_code first a (r + 1) pc ++ (exp_code first b (r + 1 + width a) (pc + exp_size a) ++ (instr at (act.StoreCell (held first a (r + 1)) (held first b (r + 1 + width a))) ∷ computes at r (work.Copy (held first b (r + 1 + width a)))))
  -- the register is read before the operand, and assigned after it, so its word is copied
  exp_code first (change_register n c b old at) r pc =
      instr at (act.Compute (r + 1) (work.Copy n)) ∷ (exp_code first b (r + 3) (pc + 1) ++
      (instr at (act.Compute (r + 2) (change_work c (r + 1) (held first b (r + 3)))) ∷ instr at (act.Compute n (work.Copy (r + 2))) ∷ computes at r (work.Copy (if old then r + 1 else r + 2))))
  exp_code first (change_cell a loaded c b old at) r pc =
      exp_code first a (r + 3) pc ++ (instr loaded (act.LoadCell (r + 1) (held first a (r + 3))) ∷ (exp_code first b (r + 3 + width a) (pc + exp_size a + 1) ++
      (instr at (act.Compute (r + 2) (change_work c (r + 1) (held first b (r + 3 + width a)))) ∷ instr at (act.StoreCell (held first a (r + 3)) (r + 2)) ∷ computes at r (work.Copy (if old then r + 1 else r + 2)))))
  exp_code first (call f es pointer at) r pc = exps_code first es (r + 1) pc ++ one at (act.Call f (value_registers first (r + 1) es) (Some r))
  exp_code first (library c es at) r pc = exps_code first es (r + 1) pc ++ library_code at r c (value_registers first (r + 1) es)
  exp_code first (allocate site a at) r pc = exp_code first a (r + 1) pc ++ one at (act.Alloc r site (Some (held first a (r + 1))))

  pub exps_code : (first : ℕ) → Exps → (r pc : ℕ) → List Instr
  exps_code first no_exp r pc = []
  exps_code first (and_exp e es) r pc = exp_code first e r pc ++ exps_code first es (r + width e) (pc + exp_size e)

-- ---- statements

-- nothing for the missing last part of a `for`
abbrev pub maybe_code : (first : ℕ) → Option Exp → (r pc : ℕ) → List Instr
maybe_code first None r pc = []
maybe_code first (Some e) r pc = exp_code first e r pc

-- the body follows; where the condition doesn't hold, the loop is left for the place `out`
abbrev pub test_code : (first : ℕ) → Position → Option Exp → (r pc out : ℕ) → List Instr
test_code first at None r pc out = []
test_code first at (Some e) r pc out = exp_code first e r pc ++ one at (act.Branch (held first e r) (pc + exp_size e + 1) out)

-- a `return` with or without a value (C99 6.8.6.4)
abbrev pub return_code : (first : ℕ) → Position → Option Exp → (r pc : ℕ) → List Instr
return_code first at None r pc = one at (act.Return None)
return_code first at (Some e) r pc = exp_code first e r pc ++ one at (act.Return (Some (held first e r)))

abbrev mutual
  -- a loop round it is left for the place `out`, and continued at the place `on`
  pub statement_code : (first : ℕ) → Statement → (r pc out on : ℕ) → List Instr
  statement_code first (block ss) r pc out on = statements_code first ss r pc out on
  statement_code first (compute e) r pc out on = exp_code first e r pc
  -- nothing is jumped over after it
  statement_code first (branch e a at) r pc out on =
      let yes' = pc + exp_size e + 1 in
      exp_code first e r pc ++ (instr at (act.Branch (held first e r) yes' (yes' + statement_size a)) ∷ statement_code first a (r + width e) yes' out on)
  statement_code first (branch_else e a b at) r pc out on =
      let yes' = pc + exp_size e + 1 in
      let no' = yes' + statement_size a + 1 in
      exp_code first e r pc ++ (instr at (act.Branch (held first e r) yes' no') ∷
      (statement_code first a (r + width e) yes' out on ++ (instr at (act.Jump (no' + statement_size b)) ∷
      statement_code first b (r + width e + length (statement_kinds a)) no' out on)))
  statement_code first (while_loop e a at) r pc out on =
      let body = pc + 1 + exp_size e + 1 in
      let end = body + statement_size a + 1 in
      instr at act.Mark ∷ (exp_code first e r (pc + 1) ++ (instr at (act.Branch (held first e r) body end) ∷
      (statement_code first a (r + width e) body end (body + statement_size a) ++ one at (act.Jump pc))))
  statement_code first (do_loop a e at) r pc out on =
      let test = pc + 1 + statement_size a in
      let end = test + exp_size e + 1 in
      instr at act.Mark ∷ (statement_code first a r (pc + 1) end test ++
      (exp_code first e (r + length (statement_kinds a)) test ++ one at (act.Branch (held first e (r + length (statement_kinds a))) pc end)))
  statement_code first (for_loop start test step a at) r pc out on =
      let mark = pc + statement_size start in
      let body = mark + 1 + test_size test in
      let last = body + statement_size a in
      let end = last + maybe_size step + 1 in
      let tested = r + length (statement_kinds start) in
      let inner = tested + length (maybe_kinds test) in
      let stepped = inner + length (statement_kinds a) in
      statement_code first start r pc out on ++ (instr at act.Mark ∷
      (test_code first at test tested (mark + 1) end ++
      (statement_code first a inner body end last ++
      (maybe_code first step stepped last ++ one at (act.Jump mark)))))
  statement_code first (break_at at) r pc out on = one at (act.Jump out)
  statement_code first (continue_at at) r pc out on = one at (act.Jump on)
  statement_code first (gives e at) r pc out on = return_code first at e r pc

  pub statements_code : (first : ℕ) → Statements → (r pc out on : ℕ) → List Instr
  statements_code first no_statement r pc out on = []
  statements_code first (and_statement s ss) r pc out on =
      statement_code first s r pc out on ++ statements_code first ss (r + length (statement_kinds s)) (pc + statement_size s) out on

-- ---- functions

-- the objects of a function are made before all else, each with its address in a register of its own
abbrev pub objects_code : Position → ℕ → List ℕ → List Instr
objects_code at r [] = []
objects_code at r (site ∷ more) = instr at (act.Alloc r site None) ∷ objects_code at (r + 1) more

-- then each formal that is kept in cells is stored
abbrev pub arrivals_code : (first : ℕ) → List Arrival → List Instr
arrivals_code first [] = []
arrivals_code first (arrives n k at ∷ more) = instr at (act.StoreCell (first + k) n) ∷ arrivals_code first more

-- the body with all copies that are needed
abbrev pub body_kept : Function → Statement
body_kept f = statement_kept f.body

-- outside of loops nothing is left or continued
abbrev pub body_code : Function → List Instr
body_code f =
    let first = length f.pointers in
    let pc = length f.objects + length f.arrivals in
    let end = pc + statement_size (body_kept f) in
    objects_code f.place first f.objects ++
    (arrivals_code first f.arrivals ++
    (statement_code first (body_kept f) (first + length f.objects) pc end end ++ one f.place (act.Return None)))

-- whether each register is a pointer: first the named, then addresses, then values
abbrev pub function_kinds : Function → List Bool
function_kinds f = f.pointers ++ (replicate (length f.objects) true ++ statement_kinds (body_kept f))

-- a function in flow code, still without regions for weak locks
abbrev pub function_code : Function → FlowFunction
function_code f = record {
  name = f.name;
  line = f.place.line;
  formals = f.formals;
  registers = length (function_kinds f);
  pointers = function_kinds f;
  gives_pointer = f.gives_pointer;
  instrs = body_code f;
  loops = statement_loops f.body (length f.objects + length f.arrivals);
  regions = [];
}

-- a program in flow code, where no weak lock is placed yet
abbrev pub lowered : Program → Code
lowered p = record {
  functions = map function_code p.functions;
  sites = p.sites;
  globals = p.globals;
  global_kinds = p.global_kinds;
  global_bases = p.global_bases;
  locks = [];
}
