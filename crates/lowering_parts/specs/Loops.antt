-- The counted loops of a function: each `for` whose condition is `i < b`, where i is a register and b a number or a register,
-- and whose last part raises i by a number. The body may still change i or b.
use Rattle.std.specs.Prelude.{ℕ, ◌+◌, ◌-◌, ◌==◌, ◌&&◌, false, if◌then◌else◌, ℤ, pos, int_lt, List, [], ◌++◌, Option, Some, None, option_to_list, option_and_then}
use Rattle.std.specs.Option.{option_zip}
use Rattle.flow_code.specs.declared.code.LoopInfo.{LoopInfo}
use Rattle.flow_code.specs.declared.region.Bound.{Bound}
use Rattle.flow_code.specs.declared.region.Bound.TheVariants as bound
use Rattle.word_semantics.specs.declared.operator.BinaryOp.TheVariants as binary_op
use Rattle.core_tree.specs.declared.value.Change.TheVariants as change
use Rattle.core_tree.specs.Core as core
use Rattle.core_tree.specs.Core.{Exp, register, binary, set_register, change_register, Statement, block, compute, branch, branch_else, while_loop, do_loop, for_loop, break_at, continue_at, gives, Statements, no_statement, and_statement}
use Rattle.lowering_parts.specs.Kept.{kept, maybe_kept, statement_kept}
use Rattle.lowering_parts.specs.Sizes.{exp_size, maybe_size, test_size, statement_size}

infixl 10 ◌>>=◌
abbrev ◌>>=◌ : {A B : Type 0} → Option A → (A → Option B) → Option B
o >>= f = option_and_then f o

-- ---- the form of a counted loop

-- the step of a counted loop must be written as a number
abbrev pub number_of : Exp → Option ℤ
number_of (core.number z at) = Some z
number_of _ = None

-- a register that is no pointer
abbrev pub register_of : Exp → Option ℕ
register_of (register n false at) = Some n
register_of _ = None

-- what the counter is compared with: a number, or a register without a pointer
abbrev pub bound_of : Exp → Option Bound
bound_of (core.number z at) = Some (bound.Number z)
bound_of (register n false at) = Some (bound.Register n)
bound_of _ = None

-- of `i < b`: i and b
abbrev pub limit_of : Exp → Option (ℕ × Bound)
limit_of (binary binary_op.Less a b at) = option_zip (register_of a) (bound_of b)
limit_of _ = None

-- of `i + c`: i and c
abbrev pub sum_of : Exp → Option (ℕ × ℤ)
sum_of (binary binary_op.Add a b at) = option_zip (register_of a) (number_of b)
sum_of _ = None

-- of `i++`, `++i`, `i += c` and `i = i + c`: c
abbrev pub step_of : (i : ℕ) → Exp → Option ℤ
step_of i (change_register n (change.Compute binary_op.Add) e old at) = if n == i then number_of e else None
step_of i (set_register n e at) = do
  s ← sum_of e
  if n == i && s.0 == i then Some s.1 else None
step_of i _ = None

-- its Mark is at the place `mark`, its body from the place `first` on, and the jump back at the place `back`
abbrev pub loop_of : (test step : Option Exp) → (mark first back : ℕ) → Option LoopInfo
loop_of test step mark first back = do
  condition ← test
  last_part ← step
  limit ← limit_of condition
  by ← step_of limit.0 last_part
  if int_lt (pos 0) by then Some (record { at = mark; first = first; last = back - 1; counter = limit.0; bound = limit.1; step = by }) else None

-- ---- statements

-- how many instructions there are with all copies that are needed
abbrev pub lowered_size : Statement → ℕ
lowered_size s = statement_size (statement_kept s)

abbrev mutual
  -- in the order of the text, where the code of the statement begins at the place pc
  pub statement_loops : Statement → (pc : ℕ) → List LoopInfo
  statement_loops (block ss) pc = statements_loops ss pc
  statement_loops (compute e) pc = []
  statement_loops (branch e a at) pc = statement_loops a (pc + exp_size (kept e) + 1)
  statement_loops (branch_else e a b at) pc =
      let yes' = pc + exp_size (kept e) + 1 in
      statement_loops a yes' ++ statement_loops b (yes' + lowered_size a + 1)
  statement_loops (while_loop e a at) pc = statement_loops a (pc + 1 + exp_size (kept e) + 1)
  statement_loops (do_loop a e at) pc = statement_loops a (pc + 1)
  statement_loops (for_loop start test step a at) pc =
      let mark = pc + lowered_size start in
      let body = mark + 1 + test_size (maybe_kept test) in
      let back = body + lowered_size a + maybe_size (maybe_kept step) in
      statement_loops start pc ++ (option_to_list (loop_of test step mark body back) ++ statement_loops a body)
  statement_loops (break_at at) pc = []
  statement_loops (continue_at at) pc = []
  statement_loops (gives e at) pc = []

  pub statements_loops : Statements → (pc : ℕ) → List LoopInfo
  statements_loops no_statement pc = []
  statements_loops (and_statement s ss) pc = statement_loops s pc ++ statements_loops ss (pc + lowered_size s)
