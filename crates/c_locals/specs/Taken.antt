-- Which names of the file stand as values anywhere in a source: among them are the functions to which pointers may point
-- (C99 6.3.2.1). They count also in the operand of `sizeof` and in what nothing reaches. The name in a call is no value, nor
-- is the function with which a thread starts.
use Rattle.std.specs.Prelude.{ℕ, ◌+◌, ◌==◌, Bool, true, false, if◌then◌else◌, List, [], ◌∷◌, Option, Some, None}
use Rattle.rr_base.specs.Texts.{Text}
use Rattle.c_tree.specs.Tree.{Exp, comma, assign, conditional, binary, prefix, sizeof_exp, sizeof_type, cast, index, member, arrow, post_increment, post_decrement, named, call, number, letter, text, null, paren, Exps, no_exp, and_exp, Formal, Declared, declared, declared_pointer, Init, value, braces, mutex_start, cond_start, rwlock_start, Inits, no_init, and_init, Object, plain, initialised, Declares, declares, Start, start_declares, start_computes, Statement, block, compute, break_at, continue_at, gives, branch, branch_else, while_loop, do_loop, for_loop, Parts, no_part, and_declares, and_does, Code, defined, prototype, Fields, fields, Outer, structure, function, objects}
use Rattle.c_types.specs.declared.library.LibraryName.{LibraryName}
use Rattle.c_types.specs.declared.library.LibraryName.TheVariants as library
use Rattle.c_types.specs.Library.{library_named}
use Rattle.c_types.specs.Scopes.{with_text}
use Rattle.c_names.specs.Sources.{declared_by, listed_params}
use Rattle.c_numbers.specs.Numbered.{Numbered, number_seen, inside}
use Rattle.c_locals.specs.Addresses.{after_name, after_declaration, after_for_start, past_statement, numbered_from}

-- ---- expressions

-- one name more, unless a local or formal hides it
abbrev pub with_free : Option ℕ → List Text → Text → List Text
with_free None names name = with_text names name
with_free (Some n) names name = names

-- of the library's calls only `pthread_create` takes a function
abbrev pub takes_function : Option LibraryName → Bool
takes_function (Some library.Create) = true
takes_function _ = false

-- the place of the function with which a thread starts among the arguments of `pthread_create`: it is the third one
abbrev pub thread_function : ℕ
thread_function = 2

-- the names, and those that stand as values in an expression
abbrev mutual
  pub with_taken : Numbered → List Text → Exp → List Text
  with_taken known names (comma e es at) = with_all_taken known (with_taken known names e) es
  with_taken known names (assign a op b at) = with_taken known (with_taken known names a) b
  with_taken known names (conditional a b c at) = with_taken known (with_taken known (with_taken known names a) b) c
  with_taken known names (binary a op b at) = with_taken known (with_taken known names a) b
  with_taken known names (prefix op a at) = with_taken known names a
  with_taken known names (sizeof_exp a at) = with_taken known names a
  with_taken known names (sizeof_type t at) = names
  with_taken known names (cast t a at) = with_taken known names a
  with_taken known names (index a b at) = with_taken known (with_taken known names a) b
  with_taken known names (member a name at) = with_taken known names a
  with_taken known names (arrow a name at) = with_taken known names a
  with_taken known names (post_increment a at) = with_taken known names a
  with_taken known names (post_decrement a at) = with_taken known names a
  with_taken known names (named name at) = with_free (number_seen known.scopes name) names name
  with_taken known names (call name es at) =
      if takes_function (library_named name) then with_create_taken known names 0 es else with_all_taken known names es
  with_taken known names (number n at) = names
  with_taken known names (letter n at) = names
  with_taken known names (text bytes at) = names
  with_taken known names (null at) = names
  with_taken known names (paren a at) = with_taken known names a

  pub with_all_taken : Numbered → List Text → Exps → List Text
  with_all_taken known names no_exp = names
  with_all_taken known names (and_exp e es) = with_all_taken known (with_taken known names e) es

  -- of the arguments of `pthread_create` from this place on, the function with which the thread starts is no value
  pub with_create_taken : Numbered → List Text → ℕ → Exps → List Text
  with_create_taken known names place no_exp = names
  with_create_taken known names place (and_exp e es) =
      with_create_taken known (if place == thread_function then names else with_taken known names e) (place + 1) es

-- an expression that is left out has no names
abbrev pub with_maybe_taken : Numbered → List Text → Option Exp → List Text
with_maybe_taken known names None = names
with_maybe_taken known names (Some e) = with_taken known names e

-- the names in the lengths of an array
abbrev pub with_lengths_taken : Numbered → List Text → List Exp → List Text
with_lengths_taken known names [] = names
with_lengths_taken known names (e ∷ es) = with_lengths_taken known (with_taken known names e) es

-- ---- declarations

abbrev mutual
  pub with_initial_taken : Numbered → List Text → Init → List Text
  with_initial_taken known names (value e) = with_taken known names e
  with_initial_taken known names (braces is trailing at) = with_initials_taken known names is
  with_initial_taken known names (mutex_start at) = names
  with_initial_taken known names (cond_start at) = names
  with_initial_taken known names (rwlock_start at) = names

  pub with_initials_taken : Numbered → List Text → Inits → List Text
  with_initials_taken known names no_init = names
  with_initials_taken known names (and_init i is) = with_initials_taken known (with_initial_taken known names i) is

-- of a declarator only its lengths hold expressions
abbrev pub with_declared_taken : Numbered → List Text → Declared → List Text
with_declared_taken known names (declared stars name lengths) = with_lengths_taken known names lengths
with_declared_taken known names (declared_pointer stars name ps) = names

-- in its first value an object's own name is seen (C99 6.2.1)
abbrev pub with_object_taken : Numbered → List Text → Object → List Text
with_object_taken known names (plain d) = with_declared_taken known names d
with_object_taken known names (initialised d i at) = with_initial_taken (after_name known d) (with_declared_taken known names d) i

-- each object sees those before it
abbrev pub with_objects_taken : Numbered → List Text → List Object → List Text
with_objects_taken known names [] = names
with_objects_taken known names (o ∷ os) = with_objects_taken (after_name known (declared_by o)) (with_object_taken known names o) os

-- the names in a declaration in a block
abbrev pub with_declares_taken : Numbered → List Text → Declares → List Text
with_declares_taken known names (declares s os at) = with_objects_taken known names os

-- ---- statements

-- the names in the first clause of a `for`
abbrev pub with_start_taken : Numbered → List Text → Start → List Text
with_start_taken known names (start_declares d) = with_declares_taken known names d
with_start_taken known names (start_computes e) = with_maybe_taken known names e

-- what stands in the parentheses of a `for`
abbrev pub with_for_taken : Numbered → List Text → Start → Option Exp → Option Exp → List Text
with_for_taken known names start test next =
    with_maybe_taken (after_for_start known start) (with_maybe_taken (after_for_start known start) (with_start_taken known names start) test) next

abbrev mutual
  pub with_statement_taken : Numbered → List Text → Statement → List Text
  with_statement_taken known names (block ps at) = with_parts_taken (inside known) names ps
  with_statement_taken known names (compute e at) = with_maybe_taken known names e
  with_statement_taken known names (break_at at) = names
  with_statement_taken known names (continue_at at) = names
  with_statement_taken known names (gives e at) = with_maybe_taken known names e
  with_statement_taken known names (branch e a at) = with_statement_taken known (with_taken known names e) a
  with_statement_taken known names (branch_else e a b at) =
      with_statement_taken (past_statement known a) (with_statement_taken known (with_taken known names e) a) b
  with_statement_taken known names (while_loop e a at) = with_statement_taken known (with_taken known names e) a
  with_statement_taken known names (do_loop a e at) = with_taken (past_statement known a) (with_statement_taken known names a) e
  with_statement_taken known names (for_loop start test next a at) =
      with_statement_taken (after_for_start (inside known) start) (with_for_taken (inside known) names start test next) a

  pub with_parts_taken : Numbered → List Text → Parts → List Text
  with_parts_taken known names no_part = names
  with_parts_taken known names (and_declares d ps) = with_parts_taken (after_declaration known d) (with_declares_taken known names d) ps
  with_parts_taken known names (and_does s ps) = with_parts_taken (past_statement known s) (with_statement_taken known names s) ps

-- ---- a source

-- at file level no local or formal hides a name
abbrev pub at_file_level : Numbered
at_file_level = record { next = 0; scopes = [] }

-- the names in the lengths of some members
abbrev pub with_members_taken : List Text → List Declared → List Text
with_members_taken names [] = names
with_members_taken names (d ∷ ds) = with_members_taken (with_declared_taken at_file_level names d) ds

-- the names in the lengths of a struct's members
abbrev pub with_fields_taken : List Text → List Fields → List Text
with_fields_taken names [] = names
with_fields_taken names (fields s ds at ∷ fs) = with_fields_taken (with_members_taken names ds) fs

-- a prototype takes no name
abbrev pub with_code_taken : List Text → List Formal → Code → List Text
with_code_taken names ps prototype = names
with_code_taken names ps (defined parts at) = with_parts_taken (numbered_from 0 ps) names parts

-- the names in a declaration or a definition at file level
abbrev pub with_outer_taken : List Text → Outer → List Text
with_outer_taken names (structure name fs) = with_fields_taken names fs
with_outer_taken names (function is_static s stars name ps code) = with_code_taken names (listed_params ps) code
with_outer_taken names (objects is_static s os at) = with_objects_taken at_file_level names os

-- the names in these, in the order of the text
abbrev pub with_outers_taken : List Text → List Outer → List Text
with_outers_taken names [] = names
with_outers_taken names (o ∷ os) = with_outers_taken (with_outer_taken names o) os

-- the names of the file that stand as values in a source, each once
abbrev pub program_taken : List Outer → List Text
program_taken os = with_outers_taken [] os
