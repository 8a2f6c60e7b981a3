-- Where the word of a register is copied. A formal or local that is a register and is read is that register itself. Its word
-- is copied only where it is an operand and a later operand assigns the register, before the operator has taken the word.
use Rattle.std.specs.Prelude.{ℕ, ◌==◌, ◌||◌, Bool, false, if◌then◌else◌, Option, Some, None}
use Rattle.rr_base.specs.declared.position.Position.{Position}
use Rattle.core_tree.specs.Core as core
use Rattle.core_tree.specs.Core.{Exp, null, register, object, global, load, unary, binary, move, advance, member, between, to_pointer, to_number, copy, both, either, conditional, comma, set_register, store, change_register, change_cell, call, library, allocate, Exps, no_exp, and_exp, Statement, block, compute, branch, branch_else, while_loop, do_loop, for_loop, break_at, continue_at, gives, Statements, no_statement, and_statement}

-- a part of the expression assigns register n
abbrev mutual
  pub assigns : (n : ℕ) → Exp → Bool
  assigns n (core.number z at) = false
  assigns n (null at) = false
  assigns n (register m pointer at) = false
  assigns n (object m at) = false
  assigns n (global address at) = false
  assigns n (load e pointer at) = assigns n e
  assigns n (unary o e at) = assigns n e
  assigns n (binary o a b at) = assigns n a || assigns n b
  assigns n (move a b element back at) = assigns n a || assigns n b
  assigns n (advance a b element at) = assigns n a || assigns n b
  assigns n (member a by at) = assigns n a
  assigns n (between a b element at) = assigns n a || assigns n b
  assigns n (to_pointer a at) = assigns n a
  assigns n (to_number a at) = assigns n a
  assigns n (copy a at) = assigns n a
  assigns n (both a b at) = assigns n a || assigns n b
  assigns n (either a b at) = assigns n a || assigns n b
  assigns n (conditional a b c at) = assigns n a || (assigns n b || assigns n c)
  assigns n (comma a b at) = assigns n a || assigns n b
  assigns n (set_register m a at) = m == n || assigns n a
  assigns n (store a b at) = assigns n a || assigns n b
  assigns n (change_register m c b old at) = m == n || assigns n b
  assigns n (change_cell a loaded c b old at) = assigns n a || assigns n b
  assigns n (call f es pointer at) = any_assigns n es
  assigns n (library c es at) = any_assigns n es
  assigns n (allocate site a at) = assigns n a

  pub any_assigns : (n : ℕ) → Exps → Bool
  any_assigns n no_exp = false
  any_assigns n (and_exp e es) = assigns n e || any_assigns n es

-- the expression is a register that these assign
abbrev pub loses : Exp → (assigned : ℕ → Bool) → Bool
loses (register n pointer at) assigned = assigned n
loses _ assigned = false

-- the expression, or a copy of it
abbrev pub copied_if : Bool → Position → Exp → Exp
copied_if lost at e = if lost then copy e at else e

-- the expression with all copies that are needed
abbrev mutual
  pub kept : Exp → Exp
  kept (core.number z at) = core.number z at
  kept (null at) = null at
  kept (register n pointer at) = register n pointer at
  kept (object n at) = object n at
  kept (global address at) = global address at
  kept (load e pointer at) = load (kept e) pointer at
  kept (unary o e at) = unary o (kept e) at
  kept (binary o a b at) = binary o (copied_if (loses a (λ n. assigns n b)) at (kept a)) (kept b) at
  kept (move a b element back at) = move (copied_if (loses a (λ n. assigns n b)) at (kept a)) (kept b) element back at
  kept (advance a b element at) = advance (copied_if (loses a (λ n. assigns n b)) at (kept a)) (kept b) element at
  kept (member a by at) = member (kept a) by at
  kept (between a b element at) = between (copied_if (loses a (λ n. assigns n b)) at (kept a)) (kept b) element at
  kept (to_pointer a at) = to_pointer (kept a) at
  kept (to_number a at) = to_number (kept a) at
  kept (copy a at) = copy (kept a) at
  -- what is tested is taken before the next operand
  kept (both a b at) = both (kept a) (kept b) at
  kept (either a b at) = either (kept a) (kept b) at
  kept (conditional a b c at) = conditional (kept a) (kept b) (kept c) at
  kept (comma a b at) = comma (kept a) (kept b) at
  kept (set_register n a at) = set_register n (kept a) at
  kept (store a b at) = store (copied_if (loses a (λ n. assigns n b)) at (kept a)) (kept b) at
  kept (change_register n c b old at) = change_register n c (kept b) old at
  kept (change_cell a loaded c b old at) = change_cell (copied_if (loses a (λ n. assigns n b)) at (kept a)) loaded c (kept b) old at
  kept (call f es pointer at) = call f (all_kept at es) pointer at
  kept (library c es at) = library c (all_kept at es) at
  kept (allocate site a at) = allocate site (kept a) at

  -- the arguments of the call at the position
  pub all_kept : Position → Exps → Exps
  all_kept at no_exp = no_exp
  all_kept at (and_exp e es) = and_exp (copied_if (loses e (λ n. any_assigns n es)) at (kept e)) (all_kept at es)

-- an operand before another one, and before others
abbrev pub before : Position → Exp → Exp → Exp
before at a b = copied_if (loses a (λ n. assigns n b)) at (kept a)

-- for an argument of a call, which later arguments may assign
abbrev pub before_all : Position → Exp → Exps → Exp
before_all at e es = copied_if (loses e (λ n. any_assigns n es)) at (kept e)

-- of a part that a `for` or a `return` may leave out
abbrev pub maybe_kept : Option Exp → Option Exp
maybe_kept None = None
maybe_kept (Some e) = Some (kept e)

abbrev mutual
  pub statement_kept : Statement → Statement
  statement_kept (block ss) = block (statements_kept ss)
  statement_kept (compute e) = compute (kept e)
  statement_kept (branch e a at) = branch (kept e) (statement_kept a) at
  statement_kept (branch_else e a b at) = branch_else (kept e) (statement_kept a) (statement_kept b) at
  statement_kept (while_loop e a at) = while_loop (kept e) (statement_kept a) at
  statement_kept (do_loop a e at) = do_loop (statement_kept a) (kept e) at
  statement_kept (for_loop start test step a at) = for_loop (statement_kept start) (maybe_kept test) (maybe_kept step) (statement_kept a) at
  statement_kept (break_at at) = break_at at
  statement_kept (continue_at at) = continue_at at
  statement_kept (gives e at) = gives (maybe_kept e) at

  pub statements_kept : Statements → Statements
  statements_kept no_statement = no_statement
  statements_kept (and_statement s ss) = and_statement (statement_kept s) (statements_kept ss)
