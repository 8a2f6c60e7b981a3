-- Which functions threads start with (POSIX pthread_create).
use Rattle.std.specs.Prelude.{Bool, ◌||◌, List, [], ◌∷◌, Option, Some, None}
use Rattle.rr_base.specs.Texts.{Text}
use Rattle.c_tree.specs.Tree.{Exp, comma, assign, conditional, binary, prefix, sizeof_exp, sizeof_type, cast, index, member, arrow, post_increment, post_decrement, named, call, number, letter, text, null, paren, Exps, no_exp, and_exp, Init, value, braces, mutex_start, cond_start, rwlock_start, Inits, no_init, and_init, Object, plain, initialised, Declares, declares, Start, start_declares, start_computes, Statement, block, compute, break_at, continue_at, gives, branch, branch_else, while_loop, do_loop, for_loop, Parts, no_part, and_declares, and_does, Code, defined, prototype, Outer, structure, function, objects}
use Rattle.c_types.specs.declared.library.LibraryName.{LibraryName}
use Rattle.c_types.specs.declared.library.LibraryName.TheVariants as library
use Rattle.c_types.specs.Library.{library_named}
use Rattle.c_types.specs.Scopes.{has_name, with_text}
use Rattle.c_types.specs.Standing.{is_main}
use Rattle.c_names.specs.Started.{third_name}

-- the function that this call starts a thread with, if it does
abbrev pub started_by : Option LibraryName → Exps → Option Text
started_by (Some library.Create) es = third_name es
started_by _ es = None

-- one name more, unless it is there already
abbrev pub with_maybe : List Text → Option Text → List Text
with_maybe names None = names
with_maybe names (Some name) = with_text names name

-- the names, and those of the functions that an expression starts threads with. The operand of `sizeof` isn't evaluated
-- (C99 6.5.3.4)
abbrev mutual
  pub with_starts : List Text → Exp → List Text
  with_starts names (comma e es at) = with_all_starts (with_starts names e) es
  with_starts names (assign a op b at) = with_starts (with_starts names a) b
  with_starts names (conditional a b c at) = with_starts (with_starts (with_starts names a) b) c
  with_starts names (binary a op b at) = with_starts (with_starts names a) b
  with_starts names (prefix op a at) = with_starts names a
  with_starts names (sizeof_exp a at) = names
  with_starts names (sizeof_type t at) = names
  with_starts names (cast t a at) = with_starts names a
  with_starts names (index a b at) = with_starts (with_starts names a) b
  with_starts names (member a name at) = with_starts names a
  with_starts names (arrow a name at) = with_starts names a
  with_starts names (post_increment a at) = with_starts names a
  with_starts names (post_decrement a at) = with_starts names a
  with_starts names (named name at) = names
  with_starts names (call name es at) = with_all_starts (with_maybe names (started_by (library_named name) es)) es
  with_starts names (number n at) = names
  with_starts names (letter n at) = names
  with_starts names (text bytes at) = names
  with_starts names (null at) = names
  with_starts names (paren a at) = with_starts names a

  pub with_all_starts : List Text → Exps → List Text
  with_all_starts names no_exp = names
  with_all_starts names (and_exp e es) = with_all_starts (with_starts names e) es

-- an expression that is left out starts no thread
abbrev pub with_maybe_starts : List Text → Option Exp → List Text
with_maybe_starts names None = names
with_maybe_starts names (Some e) = with_starts names e

abbrev mutual
  pub with_initial_starts : List Text → Init → List Text
  with_initial_starts names (value e) = with_starts names e
  with_initial_starts names (braces is trailing at) = with_initials_starts names is
  with_initial_starts names (mutex_start at) = names
  with_initial_starts names (cond_start at) = names
  with_initial_starts names (rwlock_start at) = names

  pub with_initials_starts : List Text → Inits → List Text
  with_initials_starts names no_init = names
  with_initials_starts names (and_init i is) = with_initials_starts (with_initial_starts names i) is

-- the length of an array is constant, so it starts nothing
abbrev pub with_object_starts : List Text → Object → List Text
with_object_starts names (plain d) = names
with_object_starts names (initialised d i at) = with_initial_starts names i

-- the starts in the first values of these objects
abbrev pub with_objects_starts : List Text → List Object → List Text
with_objects_starts names [] = names
with_objects_starts names (o ∷ os) = with_objects_starts (with_object_starts names o) os

-- the starts in a declaration of locals
abbrev pub with_declares_starts : List Text → Declares → List Text
with_declares_starts names (declares s os at) = with_objects_starts names os

-- the starts in the first clause of a `for`
abbrev pub with_start_starts : List Text → Start → List Text
with_start_starts names (start_declares d) = with_declares_starts names d
with_start_starts names (start_computes e) = with_maybe_starts names e

abbrev mutual
  pub with_statement_starts : List Text → Statement → List Text
  with_statement_starts names (block ps at) = with_parts_starts names ps
  with_statement_starts names (compute e at) = with_maybe_starts names e
  with_statement_starts names (break_at at) = names
  with_statement_starts names (continue_at at) = names
  with_statement_starts names (gives e at) = with_maybe_starts names e
  with_statement_starts names (branch e a at) = with_statement_starts (with_starts names e) a
  with_statement_starts names (branch_else e a b at) = with_statement_starts (with_statement_starts (with_starts names e) a) b
  with_statement_starts names (while_loop e a at) = with_statement_starts (with_starts names e) a
  with_statement_starts names (do_loop a e at) = with_starts (with_statement_starts names a) e
  with_statement_starts names (for_loop start test next a at) =
      with_statement_starts (with_maybe_starts (with_maybe_starts (with_start_starts names start) test) next) a

  pub with_parts_starts : List Text → Parts → List Text
  with_parts_starts names no_part = names
  with_parts_starts names (and_declares d ps) = with_parts_starts (with_declares_starts names d) ps
  with_parts_starts names (and_does s ps) = with_parts_starts (with_statement_starts names s) ps

-- a prototype starts no thread
abbrev pub with_code_starts : List Text → Code → List Text
with_code_starts names prototype = names
with_code_starts names (defined parts at) = with_parts_starts names parts

-- the first value of a global is constant, so it starts nothing
abbrev pub with_outer_starts : List Text → Outer → List Text
with_outer_starts names (structure name fs) = names
with_outer_starts names (function is_static s stars name ps code) = with_code_starts names code
with_outer_starts names (objects is_static s os at) = names

-- the starts in all functions, in the order of the text
abbrev pub with_outers_starts : List Text → List Outer → List Text
with_outers_starts names [] = names
with_outers_starts names (o ∷ os) = with_outers_starts (with_outer_starts names o) os

-- the functions that threads of a source start with, each once
abbrev pub program_starts : List Outer → List Text
program_starts os = with_outers_starts [] os

-- a thread begins with `main`, and with what a `pthread_create` names
abbrev pub is_root_among : List Text → Text → Bool
is_root_among starts name = is_main name || has_name starts name
