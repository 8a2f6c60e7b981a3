-- How many instructions the code of a core tree has.
use Rattle.std.specs.Prelude.{ℕ, ◌+◌, Bool, true, false, if◌then◌else◌, Option, Some, None}
use Rattle.word_semantics.specs.declared.library_call.LibraryCall.{LibraryCall}
use Rattle.word_semantics.specs.declared.library_call.LibraryCall.TheVariants as library_call
use Rattle.core_tree.specs.Core as core
use Rattle.core_tree.specs.Core.{Exp, null, register, object, global, load, unary, binary, move, advance, member, between, to_pointer, to_number, copy, both, either, conditional, comma, set_register, store, change_register, change_cell, call, library, allocate, Exps, no_exp, and_exp, Statement, block, compute, branch, branch_else, while_loop, do_loop, for_loop, break_at, continue_at, gives, Statements, no_statement, and_statement}

-- whether a call of the library gives nothing
abbrev pub gives_nothing : LibraryCall → Bool
gives_nothing library_call.Exit = true
gives_nothing library_call.Free = true
gives_nothing _ = false

-- one more where a register gets 0 in place of an answer
abbrev pub library_size : LibraryCall → ℕ
library_size c = if gives_nothing c then 2 else 1

abbrev mutual
  pub exp_size : Exp → ℕ
  exp_size (core.number z at) = 1
  exp_size (null at) = 1
  -- the value is there already
  exp_size (register n pointer at) = 0
  exp_size (object n at) = 0
  exp_size (global address at) = 1
  exp_size (load e pointer at) = exp_size e + 1
  exp_size (unary o e at) = exp_size e + 1
  exp_size (binary o a b at) = exp_size a + (exp_size b + 1)
  exp_size (move a b element back at) = exp_size a + (exp_size b + 1)
  exp_size (advance a b element at) = exp_size a + (exp_size b + 1)
  exp_size (member a by at) = exp_size a + 1
  exp_size (between a b element at) = exp_size a + (exp_size b + 1)
  exp_size (to_pointer a at) = exp_size a + 1
  exp_size (to_number a at) = exp_size a + 1
  exp_size (copy a at) = exp_size a + 1
  exp_size (both a b at) = exp_size a + (1 + (exp_size b + 4))
  exp_size (either a b at) = exp_size a + (1 + (exp_size b + 4))
  exp_size (conditional a b c at) = exp_size a + (1 + (exp_size b + (1 + (1 + (exp_size c + 1)))))
  exp_size (comma a b at) = exp_size a + (exp_size b + 1)
  exp_size (set_register n a at) = exp_size a + 2
  exp_size (store a b at) = exp_size a + (exp_size b + 2)
  exp_size (change_register n c b old at) = 1 + (exp_size b + 3)
  exp_size (change_cell a loaded c b old at) = exp_size a + (1 + (exp_size b + 3))
  exp_size (call f es pointer at) = exps_size es + 1
  exp_size (library c es at) = exps_size es + library_size c
  exp_size (allocate site a at) = exp_size a + 1

  pub exps_size : Exps → ℕ
  exps_size no_exp = 0
  exps_size (and_exp e es) = exp_size e + exps_size es

-- no instruction for a part that isn't there
abbrev pub maybe_size : Option Exp → ℕ
maybe_size None = 0
maybe_size (Some e) = exp_size e

-- a condition that isn't there needs no branch
abbrev pub test_size : Option Exp → ℕ
test_size None = 0
test_size (Some e) = exp_size e + 1

abbrev mutual
  pub statement_size : Statement → ℕ
  statement_size (block ss) = statements_size ss
  statement_size (compute e) = exp_size e
  statement_size (branch e a at) = exp_size e + (1 + statement_size a)
  statement_size (branch_else e a b at) = exp_size e + (1 + (statement_size a + (1 + statement_size b)))
  statement_size (while_loop e a at) = 1 + (exp_size e + (1 + (statement_size a + 1)))
  statement_size (do_loop a e at) = 1 + (statement_size a + (exp_size e + 1))
  statement_size (for_loop start test step a at) = statement_size start + (1 + (test_size test + (statement_size a + (maybe_size step + 1))))
  statement_size (break_at at) = 1
  statement_size (continue_at at) = 1
  statement_size (gives e at) = maybe_size e + 1

  pub statements_size : Statements → ℕ
  statements_size no_statement = 0
  statements_size (and_statement s ss) = statement_size s + statements_size ss
