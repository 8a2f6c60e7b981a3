-- Declarations of objects and statements (C99 6.7, 6.8), and which rules they break.
use Rattle.std.specs.Prelude.{ℕ, ◌+◌, nat_lt, Bool, true, false, not, List, [], ◌∷◌, ◌++◌, Option, Some, None}
use Rattle.rr_base.specs.Texts.{Text}
use Rattle.c_tree.specs.declared.name.Name.{Name}
use Rattle.c_tree.specs.declared.ctype.Specifier.{Specifier}
use Rattle.c_tree.specs.Tree.{Exp, Declared, Object, plain, initialised, Declares, declares, Start, start_declares, start_computes, Statement, block, compute, break_at, continue_at, gives, branch, branch_else, while_loop, do_loop, for_loop, Parts, no_part, and_declares, and_does}
use Rattle.rr_base.specs.declared.position.Position.{Position}
use Rattle.c_types.specs.declared.types.ObjectType.{ObjectType}
use Rattle.c_types.specs.declared.library.StarredType.{StarredType}
use Rattle.c_types.specs.declared.fault.Found.{Found}
use Rattle.c_types.specs.declared.fault.FaultKind.TheVariants as fault
use Rattle.c_types.specs.Found.{where_it_comes}
use Rattle.c_types.specs.Scopes.{Known, variable, cells_of_some, declare, opened}
use Rattle.c_types.specs.Operands.{Operand, operand_of, is_scalar, accepts}
use Rattle.c_types.specs.Library.{starred_type}
use Rattle.c_types.specs.Standing.{no_target, is_main, standing}
use Rattle.c_rules.specs.Faults.{name_place, mismatch, expression_faults, go_faults}
use Rattle.c_names.specs.Sources.{most_global_cells, declared_name, declared_by, global_cells_with}
use Rattle.c_programs.specs.Declarators.{declared_type, declarator_faults, taken_faults, size_faults}
use Rattle.c_programs.specs.Initials.{start_faults}

-- ---- objects

-- of an object; 0 where its type isn't known
abbrev pub cells_of_declared : Known → Specifier → Declared → ℕ
cells_of_declared known s d = cells_of_some known (declared_type known s d)

-- known after the declaration of an object of this type
abbrev pub with_object : Known → Bool → Text → Option ObjectType → Known
with_object known is_global name t =
    record (declare known name (variable t)) { global_cells = global_cells_with is_global known.global_cells (cells_of_some known t) }

-- known after its declarator, where its scope begins
abbrev pub after_declared : Known → Bool → Specifier → Declared → Known
after_declared known is_global s d = with_object known is_global (declared_name d).text (declared_type known s d)

-- no global is named `main`, and all globals together have at most so many cells
abbrev pub global_name_faults : Bool → ℕ → Name → List Found
global_name_faults true cells name =
    mismatch (is_main name.text) (name_place name)
    ++ where_it_comes (nat_lt most_global_cells cells) fault.GlobalsTooLarge (name_place name)
global_name_faults false cells name = []

-- of one declared object, but for what it starts as
abbrev pub declared_faults : Known → Bool → Specifier → Declared → List Found
declared_faults known is_global s d =
    declarator_faults known s d
    ++ taken_faults known (declared_name d)
    ++ size_faults (cells_of_declared known s d) (declared_name d)
    ++ global_name_faults is_global (global_cells_with true known.global_cells (cells_of_declared known s d)) (declared_name d)

-- the name is known already in what the object starts as (C99 6.2.1)
abbrev pub object_faults : Known → Bool → Specifier → Object → List Found
object_faults known is_global s (plain d) = declared_faults known is_global s d
object_faults known is_global s (initialised d i at) =
    declared_faults known is_global s d
    ++ start_faults (after_declared known is_global s d) is_global (declared_type known s d) at i

-- of one declaration's objects, each of which sees those before it
abbrev pub objects_faults : Known → Bool → Specifier → List Object → List Found
objects_faults known is_global s [] = []
objects_faults known is_global s (o ∷ os) = object_faults known is_global s o ++ objects_faults (after_declared known is_global s (declared_by o)) is_global s os

-- known after the whole declaration
abbrev pub after_objects : Known → Bool → Specifier → List Object → Known
after_objects known is_global s [] = known
after_objects known is_global s (o ∷ os) = after_objects (after_declared known is_global s (declared_by o)) is_global s os

-- a declaration in a block
abbrev pub declares_faults : Known → Declares → List Found
declares_faults known (declares s os at) = objects_faults known false s os

-- known in the rest of the block
abbrev pub after_declares : Known → Declares → Known
after_declares known (declares s os at) = after_objects known false s os

-- ---- statements

-- an expression for what it does
abbrev pub computed_faults : Known → Option Exp → List Found
computed_faults known None = []
computed_faults known (Some e) = expression_faults known e ++ go_faults (standing known no_target e) e

-- a condition, at the word of its statement
abbrev pub condition_faults : Known → Position → Exp → List Found
condition_faults known at e = expression_faults known e ++ mismatch (not (is_scalar (operand_of (standing known no_target e)))) at

-- the condition of a `for`, which may be left out (C99 6.8.5.3)
abbrev pub test_faults : Known → Position → Option Exp → List Found
test_faults known at None = []
test_faults known at (Some e) = condition_faults known at e

-- a function gives what its result accepts; where that isn't known some type would do
abbrev pub gives_fit : Option StarredType → Operand → Bool
gives_fit None a = is_scalar a
gives_fit (Some t) a = accepts (starred_type t) a

-- without a value it is allowed in each function
abbrev pub return_faults : Known → Option StarredType → Position → Option Exp → List Found
return_faults known result at None = []
return_faults known result at (Some e) = expression_faults known e ++ mismatch (not (gives_fit result (operand_of (standing known no_target e)))) at

-- the declaration of a `for` has a scope round the whole statement
abbrev pub start_of_for_faults : Known → Start → List Found
start_of_for_faults known (start_declares d) = declares_faults known d
start_of_for_faults known (start_computes e) = computed_faults known e

-- known in the rest of a `for`
abbrev pub after_start : Known → Start → Known
after_start known (start_declares d) = after_declares known d
after_start known (start_computes e) = known

abbrev mutual
  -- in a function with this result, inside of a loop or not
  pub statement_faults : Known → Option StarredType → Bool → Statement → List Found
  statement_faults known result in_loop (block ps at) = parts_faults (opened known) result in_loop ps
  statement_faults known result in_loop (compute e at) = computed_faults known e
  statement_faults known result in_loop (break_at at) = mismatch (not in_loop) at
  statement_faults known result in_loop (continue_at at) = mismatch (not in_loop) at
  statement_faults known result in_loop (gives e at) = return_faults known result at e
  statement_faults known result in_loop (branch e a at) = condition_faults known at e ++ statement_faults known result in_loop a
  statement_faults known result in_loop (branch_else e a b at) =
      condition_faults known at e ++ statement_faults known result in_loop a ++ statement_faults known result in_loop b
  statement_faults known result in_loop (while_loop e a at) = condition_faults known at e ++ statement_faults known result true a
  statement_faults known result in_loop (do_loop a e at) = statement_faults known result true a ++ condition_faults known at e
  statement_faults known result in_loop (for_loop start test next a at) =
      start_of_for_faults (opened known) start
      ++ test_faults (after_start (opened known) start) at test
      ++ computed_faults (after_start (opened known) start) next
      ++ statement_faults (after_start (opened known) start) result true a

  -- what stands in a block, one after another
  pub parts_faults : Known → Option StarredType → Bool → Parts → List Found
  parts_faults known result in_loop no_part = []
  parts_faults known result in_loop (and_declares d ps) = declares_faults known d ++ parts_faults (after_declares known d) result in_loop ps
  parts_faults known result in_loop (and_does s ps) = statement_faults known result in_loop s ++ parts_faults known result in_loop ps

-- known after what stands in a block
abbrev pub after_parts : Known → Parts → Known
after_parts known no_part = known
after_parts known (and_declares d ps) = after_parts (after_declares known d) ps
after_parts known (and_does s ps) = after_parts known ps
