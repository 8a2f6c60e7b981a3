-- The core tree of statements (C99 6.8). A declaration in a block is the statements that give its objects their first
-- values.
use Rattle.std.specs.Prelude.{Bool, true, false, List, [], ◌∷◌, ◌++◌, Option, Some, None}
use Rattle.rr_base.specs.declared.position.Position.{Position}
use Rattle.c_tree.specs.declared.ctype.Specifier.{Specifier}
use Rattle.c_tree.specs.Tree.{Exp, Declared, Object, plain, initialised, Declares, declares, Start, start_declares, start_computes, Statement, block, compute, break_at, continue_at, gives, branch, branch_else, while_loop, do_loop, for_loop, Parts, no_part, and_declares, and_does}
use Rattle.c_types.specs.Scopes.{opened}
use Rattle.c_types.specs.Standing.{no_target}
use Rattle.c_names.specs.Sources.{declared_name, declared_by}
use Rattle.c_programs.specs.Declarators.{declared_type}
use Rattle.c_programs.specs.Statements.{after_declared, after_declares, after_start}
use Rattle.c_numbers.specs.Numbered.{inside}
use Rattle.c_locals.specs.Addresses.{after_name, after_declaration, after_for_start, past_statement}
use Rattle.core_tree.specs.Core as core
use Rattle.c_operators.specs.declared.denoted.WordKind.{WordKind}
use Rattle.c_operators.specs.declared.denoted.WordKind.TheVariants as kind
use Rattle.c_operators.specs.Denoted.{position_of}
use Rattle.c_operators.specs.Context.{Context, home_of}
use Rattle.c_values.specs.Expressions.{value_of, wanted_of}
use Rattle.c_initials.specs.Initials.{begun}

-- ---- places

-- in a block or `for`, whose names hide those outside (C99 6.2.1)
abbrev pub context_inside : Context → Context
context_inside h = record h { known = opened h.known; numbers = inside h.numbers }

-- behind the declarator, where the new name is seen already
abbrev pub here_after_object : Context → Specifier → Declared → Context
here_after_object h s d = record h { known = after_declared h.known false s d; numbers = after_name h.numbers d }

-- behind all of the declaration's names
abbrev pub here_after_declares : Context → Declares → Context
here_after_declares h d = record h { known = after_declares h.known d; numbers = after_declaration h.numbers d }

-- in the rest of a `for`, where the names of its head are seen
abbrev pub here_after_start : Context → Start → Context
here_after_start h s = record h { known = after_start h.known s; numbers = after_for_start h.numbers s }

-- after a statement the numbers of its locals are used
abbrev pub context_after : Context → Statement → Context
context_after h s = record h { numbers = past_statement h.numbers s }

-- ---- declarations

-- the scope of a name begins after its declarator, so before its first value
abbrev pub object_elaborated : Context → Specifier → Object → List core.Statement
object_elaborated h s (plain d) = []
object_elaborated h s (initialised d i at) =
    begun (here_after_object h s d) (home_of (here_after_object h s d) (declared_name d).text) (declared_type h.known s d) i (position_of at)

-- from left to right, each behind the names before it
abbrev pub objects_elaborated : Context → Specifier → List Object → List core.Statement
objects_elaborated h s [] = []
objects_elaborated h s (o ∷ os) = object_elaborated h s o ++ objects_elaborated (here_after_object h s (declared_by o)) s os

-- the stores of a declaration's first values
abbrev pub declares_elaborated : Context → Declares → List core.Statement
declares_elaborated h (declares s os at) = objects_elaborated h s os

-- ---- statements

-- where it stands
abbrev pub own_place : Statement → Position
own_place (block ps at) = at
own_place (compute e at) = at
own_place (break_at at) = at
own_place (continue_at at) = at
own_place (gives e at) = at
own_place (branch e a at) = at
own_place (branch_else e a b at) = at
own_place (while_loop e a at) = at
own_place (do_loop a e at) = at
own_place (for_loop start test next a at) = at

-- statements as the single one that a branch or loop can hold
abbrev pub block_of : List core.Statement → core.Statement
block_of ss = core.block (core.listed_statements ss)

-- an expression statement; where it is empty, an empty block (C99 6.8.3)
abbrev pub computed : Context → Option Exp → core.Statement
computed h None = block_of []
computed h (Some e) = core.compute (value_of h e)

-- of the test or last part of a `for`, either of which may be missing
abbrev pub maybe_value : Context → Option Exp → Option core.Exp
maybe_value h None = None
maybe_value h (Some e) = Some (value_of h e)

-- what a function gives, which is no pointer to functions
abbrev pub kind_given : Bool → WordKind
kind_given true = kind.Pointer
kind_given false = kind.Number

-- of a `return`: a pointer where the function's result is one
abbrev pub given : Context → Option Exp → Option core.Exp
given h None = None
given h (Some e) = Some (wanted_of h (kind_given h.frame.gives_pointer) no_target e)

-- the first part of a `for`, a declaration or an expression
abbrev pub start_elaborated : Context → Start → core.Statement
start_elaborated h (start_declares d) = block_of (declares_elaborated h d)
start_elaborated h (start_computes e) = computed h e

abbrev mutual
  pub elaborated : Context → Statement → core.Statement
  elaborated h (block ps at) = block_of (all_elaborated (context_inside h) ps)
  elaborated h (compute e at) = computed h e
  elaborated h (break_at at) = core.break_at (position_of at)
  elaborated h (continue_at at) = core.continue_at (position_of at)
  elaborated h (gives e at) = core.gives (given h e) (position_of at)
  elaborated h (branch e a at) = core.branch (value_of h e) (elaborated h a) (position_of at)
  elaborated h (branch_else e a b at) = core.branch_else (value_of h e) (elaborated h a) (elaborated (context_after h a) b) (position_of at)
  elaborated h (while_loop e a at) = core.while_loop (value_of h e) (elaborated h a) (position_of at)
  elaborated h (do_loop a e at) = core.do_loop (elaborated h a) (value_of (context_after h a) e) (position_of at)
  elaborated h (for_loop start test next a at) =
      core.for_loop (start_elaborated (context_inside h) start) (maybe_value (here_after_start (context_inside h) start) test) (maybe_value (here_after_start (context_inside h) start) next) (elaborated (here_after_start (context_inside h) start) a) (position_of at)

  -- what stands in a block, one after another
  pub all_elaborated : Context → Parts → List core.Statement
  all_elaborated h no_part = []
  all_elaborated h (and_declares d ps) = declares_elaborated h d ++ all_elaborated (here_after_declares h d) ps
  all_elaborated h (and_does s ps) = elaborated h s ∷ all_elaborated (context_after h s) ps
