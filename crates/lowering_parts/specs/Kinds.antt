-- How many registers the values of an expression and its parts need, and which of these are pointers.
use Rattle.std.specs.Prelude.{ℕ, Bool, true, false, List, [], ◌∷◌, ◌++◌, length, Option, Some, None}
use Rattle.core_tree.specs.Core as core
use Rattle.core_tree.specs.Core.{Exp, null, register, object, global, load, unary, binary, move, advance, member, between, to_pointer, to_number, copy, both, either, conditional, comma, set_register, store, change_register, change_cell, call, library, allocate, Exps, no_exp, and_exp, Statement, block, compute, branch, branch_else, while_loop, do_loop, for_loop, break_at, continue_at, gives, Statements, no_statement, and_statement}
use Rattle.core_tree.specs.Meaning.{is_pointer, is_pointer_change}

-- The value of an expression comes first, then those of its parts. That of a named register is this register, and that of an
-- object the register which has its address.
abbrev mutual
  pub exp_kinds : Exp → List Bool
  exp_kinds (core.number z at) = false ∷ []
  exp_kinds (null at) = true ∷ []
  exp_kinds (register n pointer at) = []
  exp_kinds (object n at) = []
  exp_kinds (global address at) = true ∷ []
  exp_kinds (load e pointer at) = pointer ∷ exp_kinds e
  exp_kinds (unary o e at) = false ∷ exp_kinds e
  exp_kinds (binary o a b at) = false ∷ (exp_kinds a ++ exp_kinds b)
  exp_kinds (move a b element back at) = true ∷ (exp_kinds a ++ exp_kinds b)
  exp_kinds (advance a b element at) = true ∷ (exp_kinds a ++ exp_kinds b)
  exp_kinds (member a by at) = true ∷ exp_kinds a
  exp_kinds (between a b element at) = false ∷ (exp_kinds a ++ exp_kinds b)
  exp_kinds (to_pointer a at) = true ∷ exp_kinds a
  exp_kinds (to_number a at) = false ∷ exp_kinds a
  exp_kinds (copy a at) = is_pointer a ∷ exp_kinds a
  exp_kinds (both a b at) = false ∷ (exp_kinds a ++ exp_kinds b)
  exp_kinds (either a b at) = false ∷ (exp_kinds a ++ exp_kinds b)
  exp_kinds (conditional a b c at) = is_pointer b ∷ (exp_kinds a ++ (exp_kinds b ++ exp_kinds c))
  exp_kinds (comma a b at) = is_pointer b ∷ (exp_kinds a ++ exp_kinds b)
  exp_kinds (set_register n a at) = is_pointer a ∷ exp_kinds a
  exp_kinds (store a b at) = is_pointer b ∷ (exp_kinds a ++ exp_kinds b)
  -- the word before and the word after have registers too
  exp_kinds (change_register n c b old at) = is_pointer_change c ∷ is_pointer_change c ∷ is_pointer_change c ∷ exp_kinds b
  exp_kinds (change_cell a loaded c b old at) = is_pointer_change c ∷ is_pointer_change c ∷ is_pointer_change c ∷ (exp_kinds a ++ exp_kinds b)
  exp_kinds (call f es pointer at) = pointer ∷ exps_kinds es
  exp_kinds (library c es at) = false ∷ exps_kinds es
  exp_kinds (allocate site a at) = true ∷ exp_kinds a

  pub exps_kinds : Exps → List Bool
  exps_kinds no_exp = []
  exps_kinds (and_exp e es) = exp_kinds e ++ exps_kinds es

-- how many registers of its own an expression takes
abbrev pub width : Exp → ℕ
width e = length (exp_kinds e)

-- a part that isn't there needs no register
abbrev pub maybe_kinds : Option Exp → List Bool
maybe_kinds None = []
maybe_kinds (Some e) = exp_kinds e

abbrev mutual
  pub statement_kinds : Statement → List Bool
  statement_kinds (block ss) = statements_kinds ss
  statement_kinds (compute e) = exp_kinds e
  statement_kinds (branch e a at) = exp_kinds e ++ statement_kinds a
  statement_kinds (branch_else e a b at) = exp_kinds e ++ (statement_kinds a ++ statement_kinds b)
  statement_kinds (while_loop e a at) = exp_kinds e ++ statement_kinds a
  statement_kinds (do_loop a e at) = statement_kinds a ++ exp_kinds e
  statement_kinds (for_loop start test step a at) = statement_kinds start ++ (maybe_kinds test ++ (statement_kinds a ++ maybe_kinds step))
  statement_kinds (break_at at) = []
  statement_kinds (continue_at at) = []
  statement_kinds (gives e at) = maybe_kinds e

  pub statements_kinds : Statements → List Bool
  statements_kinds no_statement = []
  statements_kinds (and_statement s ss) = statement_kinds s ++ statements_kinds ss
