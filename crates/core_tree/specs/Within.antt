-- What a core tree names is there.
use Rattle.std.specs.Prelude.{◌≡◌, ℕ, ◌+◌, ◌<◌, Bool, List, [], ◌∷◌, length, slice_get, Option, Some, None}
use Rattle.core_tree.specs.Core as core
use Rattle.core_tree.specs.Core.{Exp, null, register, object, global, load, unary, binary, move, advance, member, between, to_pointer, to_number, copy, both, either, conditional, comma, set_register, store, change_register, change_cell, call, library, allocate, Exps, no_exp, and_exp, Statement, block, compute, branch, branch_else, while_loop, do_loop, for_loop, break_at, continue_at, gives, Statements, no_statement, and_statement, Arrival, arrives, Function, Program}
use Rattle.core_tree.specs.Meaning.{main_of}

-- Objects, and functions with types of pointers to functions, of which there are so many, and registers, of which it is told whether they are pointers. A register
-- that is read or changed is of the kind that the tree says.
abbrev mutual
  pub IsWithinExp : (registers : List Bool) (objects functions : ℕ) → Exp → Type 0
  IsWithinExp rs os fs (core.number z at) = Unit {0}
  IsWithinExp rs os fs (null at) = Unit {0}
  IsWithinExp rs os fs (register n pointer at) = slice_get rs n ≡ Some pointer
  IsWithinExp rs os fs (object n at) = n < os
  IsWithinExp rs os fs (global address at) = Unit {0}
  IsWithinExp rs os fs (load e pointer at) = IsWithinExp rs os fs e
  IsWithinExp rs os fs (unary o e at) = IsWithinExp rs os fs e
  IsWithinExp rs os fs (binary o a b at) = IsWithinExp rs os fs a × IsWithinExp rs os fs b
  IsWithinExp rs os fs (move a b element back at) = IsWithinExp rs os fs a × IsWithinExp rs os fs b
  IsWithinExp rs os fs (advance a b element at) = IsWithinExp rs os fs a × IsWithinExp rs os fs b
  IsWithinExp rs os fs (member a by at) = IsWithinExp rs os fs a
  IsWithinExp rs os fs (between a b element at) = IsWithinExp rs os fs a × IsWithinExp rs os fs b
  IsWithinExp rs os fs (to_pointer a at) = IsWithinExp rs os fs a
  IsWithinExp rs os fs (to_number a at) = IsWithinExp rs os fs a
  IsWithinExp rs os fs (copy a at) = IsWithinExp rs os fs a
  IsWithinExp rs os fs (both a b at) = IsWithinExp rs os fs a × IsWithinExp rs os fs b
  IsWithinExp rs os fs (either a b at) = IsWithinExp rs os fs a × IsWithinExp rs os fs b
  IsWithinExp rs os fs (conditional a b c at) = IsWithinExp rs os fs a × IsWithinExp rs os fs b × IsWithinExp rs os fs c
  IsWithinExp rs os fs (comma a b at) = IsWithinExp rs os fs a × IsWithinExp rs os fs b
  IsWithinExp rs os fs (set_register n a at) = (n < length rs) × IsWithinExp rs os fs a
  IsWithinExp rs os fs (store a b at) = IsWithinExp rs os fs a × IsWithinExp rs os fs b
  IsWithinExp rs os fs (change_register n c b old at) = (n < length rs) × IsWithinExp rs os fs b
  IsWithinExp rs os fs (change_cell a loaded c b old at) = IsWithinExp rs os fs a × IsWithinExp rs os fs b
  IsWithinExp rs os fs (call f es pointer at) = (f < fs) × AreWithin rs os fs es
  IsWithinExp rs os fs (library c es at) = AreWithin rs os fs es
  IsWithinExp rs os fs (allocate site a at) = IsWithinExp rs os fs a

  pub AreWithin : (registers : List Bool) (objects functions : ℕ) → Exps → Type 0
  AreWithin rs os fs no_exp = Unit {0}
  AreWithin rs os fs (and_exp e es) = IsWithinExp rs os fs e × AreWithin rs os fs es

-- of a part that a `for` or a `return` may leave out
abbrev pub IsWithinMaybe : (registers : List Bool) (objects functions : ℕ) → Option Exp → Type 0
IsWithinMaybe rs os fs None = Unit {0}
IsWithinMaybe rs os fs (Some e) = IsWithinExp rs os fs e

abbrev mutual
  pub IsWithinStatement : (registers : List Bool) (objects functions : ℕ) → Statement → Type 0
  IsWithinStatement rs os fs (block ss) = AreWithinStatements rs os fs ss
  IsWithinStatement rs os fs (compute e) = IsWithinExp rs os fs e
  IsWithinStatement rs os fs (branch e a at) = IsWithinExp rs os fs e × IsWithinStatement rs os fs a
  IsWithinStatement rs os fs (branch_else e a b at) = IsWithinExp rs os fs e × IsWithinStatement rs os fs a × IsWithinStatement rs os fs b
  IsWithinStatement rs os fs (while_loop e a at) = IsWithinExp rs os fs e × IsWithinStatement rs os fs a
  IsWithinStatement rs os fs (do_loop a e at) = IsWithinStatement rs os fs a × IsWithinExp rs os fs e
  IsWithinStatement rs os fs (for_loop start test step a at) = IsWithinStatement rs os fs start × IsWithinMaybe rs os fs test × IsWithinMaybe rs os fs step × IsWithinStatement rs os fs a
  IsWithinStatement rs os fs (break_at at) = Unit {0}
  IsWithinStatement rs os fs (continue_at at) = Unit {0}
  IsWithinStatement rs os fs (gives e at) = IsWithinMaybe rs os fs e

  pub AreWithinStatements : (registers : List Bool) (objects functions : ℕ) → Statements → Type 0
  AreWithinStatements rs os fs no_statement = Unit {0}
  AreWithinStatements rs os fs (and_statement a ss) = IsWithinStatement rs os fs a × AreWithinStatements rs os fs ss

-- each formal that is kept in cells has its register and its object
abbrev pub AreWithinArrivals : (registers objects : ℕ) → List Arrival → Type 0
AreWithinArrivals rs os [] = Unit {0}
AreWithinArrivals rs os (arrives n k at ∷ more) = (n < rs) × (k < os) × AreWithinArrivals rs os more

-- in a program of so many functions and types of pointers to them; the formals that arrive, then the body
abbrev pub IsWithinFunction : ℕ → Function → Type 0
IsWithinFunction fs f = AreWithinArrivals (length f.pointers) (length f.objects) f.arrivals × IsWithinStatement f.pointers (length f.objects) fs f.body

-- each function's registers, objects and functions are there, and so is `main`
pub record IsWithin (p : Program) : Type 0 where
  pub main : main_of p < length p.functions
  pub functions : (i : ℕ) (f : Function) → slice_get p.functions i ≡ Some f → IsWithinFunction (length p.functions + length p.pointers) f
