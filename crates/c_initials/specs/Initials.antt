-- The first values of a block's objects (C99 6.7.8): a store for each cell, one after another, all at the `=`. Braces that
-- end early leave the remaining cells 0. A mutex, a condition variable, a barrier or a read-write lock starts without a store.
use Rattle.std.specs.Prelude.{ℕ, ◌+◌, ◌-◌, pos, List, [], ◌∷◌, ◌++◌, drop, Option, Some, None}
use Rattle.rr_base.specs.declared.layout.CellKind.{CellKind}
use Rattle.rr_base.specs.declared.layout.CellKind.TheVariants as cell
use Rattle.c_tree.specs.Tree.{Exp, Init, value, braces, mutex_start, cond_start, rwlock_start, Inits, no_init, and_init}
use Rattle.c_types.specs.declared.types.ObjectType.{ObjectType}
use Rattle.c_types.specs.Types.{kinds_of_type}
use Rattle.c_types.specs.Scopes.{Known, cells_of_some}
use Rattle.c_types.specs.Standing.{Target, no_target}
use Rattle.c_programs.specs.Initials.{part_at, part_type, value_target}
use Rattle.rr_base.specs.declared.position.Position.{Position}
use Rattle.core_tree.specs.Core as core
use Rattle.c_operators.specs.declared.home.Home.{Home}
use Rattle.c_operators.specs.declared.home.Home.TheVariants as home
use Rattle.c_operators.specs.Context.{Source, Context}
use Rattle.c_operators.specs.declared.denoted.WordKind.{WordKind}
use Rattle.c_operators.specs.declared.denoted.WordKind.TheVariants as kind
use Rattle.c_values.specs.Expressions.{kind_of_type, wanted_of}

-- no cells where the type has a fault
abbrev pub kinds_of_some : Source → Option ObjectType → List CellKind
kinds_of_some s None = []
kinds_of_some s (Some t) = kinds_of_type s.kinds t

-- ---- an object in cells, by its number

-- the cell so far in the object gets the word
abbrev pub cell_stored : ℕ → Position → ℕ → core.Exp → core.Statement
cell_stored k at offset e = core.compute (core.store (core.member (core.object k at) offset at) e at)

-- cells of mutexes, conditions, barriers and read-write locks get no store
abbrev pub cell_cleared : ℕ → Position → ℕ → CellKind → List core.Statement
cell_cleared k at offset cell.Whole = cell_stored k at offset (core.number (pos 0) at) ∷ []
cell_cleared k at offset cell.Pointer = cell_stored k at offset (core.null at) ∷ []
cell_cleared k at offset _ = []

-- cells of these kinds from the offset on
abbrev pub cleared : ℕ → Position → ℕ → List CellKind → List core.Statement
cleared k at offset [] = []
cleared k at offset (c ∷ cs) = cell_cleared k at offset c ++ cleared k at (offset + 1) cs

-- what lies from the offset on of a part of the type that begins at the other offset
abbrev pub rest_cleared : Source → ℕ → Position → Option ObjectType → ℕ → ℕ → List core.Statement
rest_cleared s k at t begin offset = cleared k at offset (drop (offset - begin) (kinds_of_some s t))

-- of an array its element, of a struct its member with the number i
abbrev pub type_of_part : Known → Option ObjectType → ℕ → Option ObjectType
type_of_part known t i = part_type (part_at known t i)

abbrev mutual
  -- a part of the type that begins at the offset
  pub started : Context → ℕ → Position → Option ObjectType → ℕ → Init → List core.Statement
  started h k at t offset (value e) = cell_stored k at offset (wanted_of h (kind_of_type t) no_target e) ∷ []
  started h k at t offset (braces is trailing context) = parts_started h k at t offset 0 offset is
  started h k at t offset (mutex_start context) = []
  started h k at t offset (cond_start context) = []
  started h k at t offset (rwlock_start context) = []

  -- its parts from the one with the number i on, the first of which lies at the second offset
  pub parts_started : Context → ℕ → Position → Option ObjectType → ℕ → ℕ → ℕ → Inits → List core.Statement
  parts_started h k at t begin i offset no_init = rest_cleared h.source k at t begin offset
  parts_started h k at t begin i offset (and_init x is) =
      started h k at (type_of_part h.known t i) offset x
      ++ parts_started h k at t begin (i + 1) (offset + cells_of_some h.source.whole (type_of_part h.known t i)) is

-- ---- a register: braces may stand round its value

-- what a register gets where its braces are empty
abbrev pub zero_word : WordKind → Position → core.Exp
zero_word kind.Number at = core.number (pos 0) at
zero_word kind.Pointer at = core.null at
zero_word kind.Function at = core.number (pos 0) at

abbrev mutual
  pub first_word : Context → WordKind → Target → Position → Init → core.Exp
  first_word h k w at (value e) = wanted_of h k w e
  first_word h k w at (braces is trailing context) = first_of_braces h k at is
  first_word h k w at (mutex_start context) = zero_word k at
  first_word h k w at (cond_start context) = zero_word k at
  first_word h k w at (rwlock_start context) = zero_word k at

  pub first_of_braces : Context → WordKind → Position → Inits → core.Exp
  first_of_braces h k at no_init = zero_word k at
  first_of_braces h k at (and_init i is) = first_word h k no_target at i

-- ---- either

-- a single value goes to the first cell, and braces fill all
abbrev pub object_begun : Context → ℕ → Option ObjectType → Init → Position → List core.Statement
object_begun h k t (value e) at = core.compute (core.store (core.object k at) (wanted_of h (kind_of_type t) (value_target t) e) at) ∷ []
object_begun h k t (braces is trailing context) at = parts_started h k at t 0 0 0 is
object_begun h k t (mutex_start context) at = []
object_begun h k t (cond_start context) at = []
object_begun h k t (rwlock_start context) at = []

-- the local of the type that is kept there starts as something
abbrev pub begun : Context → Option Home → Option ObjectType → Init → Position → List core.Statement
begun h None t i at = []
begun h (Some (home.Register n)) t i at = core.compute (core.set_register n (first_word h (kind_of_type t) (value_target t) at i) at) ∷ []
begun h (Some (home.Object k)) t i at = object_begun h k t i at
