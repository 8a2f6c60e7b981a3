-- To which locals and formals `&` is applied anywhere: they are kept in cells (C99 6.5.3.2). The locals and the formals
-- of definitions are numbered from 0 in the order of the text.
use Rattle.std.specs.Prelude.{ℕ, ◌+◌, ◌==◌, Bool, true, false, ◌||◌, List, [], ◌∷◌, ◌++◌, length, slice_index_or, Option, Some, None}
use Rattle.c_tree.specs.declared.name.Name.{Name}
use Rattle.c_tree.specs.Tree.{Exp, comma, assign, conditional, binary, prefix, sizeof_exp, sizeof_type, cast, index, member, arrow, post_increment, post_decrement, named, call, number, letter, text, null, paren, Exps, no_exp, and_exp, Formal, Declared, declared, declared_pointer, Init, value, braces, mutex_start, cond_start, rwlock_start, Inits, no_init, and_init, Object, plain, initialised, Declares, declares, Start, start_declares, start_computes, Statement, block, compute, break_at, continue_at, gives, branch, branch_else, while_loop, do_loop, for_loop, Parts, no_part, and_declares, and_does, Code, defined, prototype, Outer, structure, function, objects}
use Rattle.c_types.specs.Constants.{is_address}
use Rattle.c_names.specs.Sources.{declared_name, listed_params, param_name, declared_by}
use Rattle.c_numbers.specs.Numbered.{Numbered, number_seen, following, number_name, inside}

-- ---- expressions

-- a number or none, as a list
abbrev pub maybe_listed : Option ℕ → List ℕ
maybe_listed None = []
maybe_listed (Some n) = n ∷ []

-- the operand of `&`, through parentheses
abbrev pub number_of_operand : Numbered → Exp → List ℕ
number_of_operand known (named name at) = maybe_listed (number_seen known.scopes name)
number_of_operand known (paren e at) = number_of_operand known e
number_of_operand known _ = []

-- the operand counts only if the operator is `&`
abbrev pub where_address : Bool → List ℕ → List ℕ
where_address true ns = ns
where_address false ns = []

abbrev mutual
  pub addressed : Numbered → Exp → List ℕ
  addressed known (comma e es at) = addressed known e ++ all_addressed known es
  addressed known (assign a op b at) = addressed known a ++ addressed known b
  addressed known (conditional a b c at) = addressed known a ++ addressed known b ++ addressed known c
  addressed known (binary a op b at) = addressed known a ++ addressed known b
  addressed known (prefix op a at) = where_address (is_address op) (number_of_operand known a) ++ addressed known a
  addressed known (sizeof_exp a at) = addressed known a
  addressed known (sizeof_type t at) = []
  addressed known (cast t a at) = addressed known a
  addressed known (index a b at) = addressed known a ++ addressed known b
  addressed known (member a name at) = addressed known a
  addressed known (arrow a name at) = addressed known a
  addressed known (post_increment a at) = addressed known a
  addressed known (post_decrement a at) = addressed known a
  addressed known (named name at) = []
  addressed known (call name es at) = all_addressed known es
  addressed known (number n at) = []
  addressed known (letter n at) = []
  addressed known (text bytes at) = []
  addressed known (null at) = []
  addressed known (paren a at) = addressed known a

  pub all_addressed : Numbered → Exps → List ℕ
  all_addressed known no_exp = []
  all_addressed known (and_exp e es) = addressed known e ++ all_addressed known es

-- an expression that is left out has no `&`
abbrev pub maybe_addressed : Numbered → Option Exp → List ℕ
maybe_addressed known None = []
maybe_addressed known (Some e) = addressed known e

-- an `&` in the lengths of an array
abbrev pub lengths_addressed : Numbered → List Exp → List ℕ
lengths_addressed known [] = []
lengths_addressed known (e ∷ es) = addressed known e ++ lengths_addressed known es

-- ---- declarations

abbrev mutual
  pub initial_addressed : Numbered → Init → List ℕ
  initial_addressed known (value e) = addressed known e
  initial_addressed known (braces is trailing at) = initials_addressed known is
  initial_addressed known (mutex_start at) = []
  initial_addressed known (cond_start at) = []
  initial_addressed known (rwlock_start at) = []

  pub initials_addressed : Numbered → Inits → List ℕ
  initials_addressed known no_init = []
  initials_addressed known (and_init i is) = initial_addressed known i ++ initials_addressed known is

-- of a declarator only its lengths may hold an `&`
abbrev pub declared_addressed : Numbered → Declared → List ℕ
declared_addressed known (declared stars name lengths) = lengths_addressed known lengths
declared_addressed known (declared_pointer stars name ps) = []

-- from the end of its declarator on a name is seen (C99 6.2.1)
abbrev pub after_name : Numbered → Declared → Numbered
after_name known d = number_name known (declared_name d)

-- in its first value an object's own name is seen
abbrev pub object_addressed : Numbered → Object → List ℕ
object_addressed known (plain d) = declared_addressed known d
object_addressed known (initialised d i at) = declared_addressed known d ++ initial_addressed (after_name known d) i

-- each object sees those before it
abbrev pub objects_addressed : Numbered → List Object → List ℕ
objects_addressed known [] = []
objects_addressed known (o ∷ os) = object_addressed known o ++ objects_addressed (after_name known (declared_by o)) os

-- each object of a declaration takes the next number
abbrev pub after_names : Numbered → List Object → Numbered
after_names known [] = known
after_names known (o ∷ os) = after_names (after_name known (declared_by o)) os

-- an `&` in the lengths and first values of a declaration
abbrev pub declares_addressed : Numbered → Declares → List ℕ
declares_addressed known (declares s os at) = objects_addressed known os

-- its names are seen, and their numbers are used
abbrev pub after_declaration : Numbered → Declares → Numbered
after_declaration known (declares s os at) = after_names known os

-- ---- statements

-- an `&` in the first clause of a `for`
abbrev pub start_addressed : Numbered → Start → List ℕ
start_addressed known (start_declares d) = declares_addressed known d
start_addressed known (start_computes e) = maybe_addressed known e

-- what the first clause declares is seen in all the `for` (C99 6.8.5.3)
abbrev pub after_for_start : Numbered → Start → Numbered
after_for_start known (start_declares d) = after_declaration known d
after_for_start known (start_computes e) = known

-- what stands in the parentheses of a `for`
abbrev pub for_addressed : Numbered → Start → Option Exp → Option Exp → List ℕ
for_addressed known start test next =
    start_addressed known start
    ++ maybe_addressed (after_for_start known start) test
    ++ maybe_addressed (after_for_start known start) next

-- each object that is declared takes one number
abbrev pub count_of_declares : Declares → ℕ
count_of_declares (declares s os at) = length os

-- how many locals a `for` declares in its first clause
abbrev pub count_of_start : Start → ℕ
count_of_start (start_declares d) = count_of_declares d
count_of_start (start_computes e) = 0

-- how many locals a statement declares
abbrev mutual
  pub count_of_locals : Statement → ℕ
  count_of_locals (block ps at) = count_of_parts ps
  count_of_locals (compute e at) = 0
  count_of_locals (break_at at) = 0
  count_of_locals (continue_at at) = 0
  count_of_locals (gives e at) = 0
  count_of_locals (branch e a at) = count_of_locals a
  count_of_locals (branch_else e a b at) = count_of_locals a + count_of_locals b
  count_of_locals (while_loop e a at) = count_of_locals a
  count_of_locals (do_loop a e at) = count_of_locals a
  count_of_locals (for_loop start test next a at) = count_of_start start + count_of_locals a

  pub count_of_parts : Parts → ℕ
  count_of_parts no_part = 0
  count_of_parts (and_declares d ps) = count_of_declares d + count_of_parts ps
  count_of_parts (and_does s ps) = count_of_locals s + count_of_parts ps

-- after a statement its locals aren't seen, and their numbers are used
abbrev pub past_statement : Numbered → Statement → Numbered
past_statement known s = following known (count_of_locals s)

-- after what stands in a block its own names are seen
abbrev pub past_parts : Numbered → Parts → Numbered
past_parts known no_part = known
past_parts known (and_declares d ps) = past_parts (after_declaration known d) ps
past_parts known (and_does s ps) = past_parts (past_statement known s) ps

abbrev mutual
  pub statement_addressed : Numbered → Statement → List ℕ
  statement_addressed known (block ps at) = parts_addressed (inside known) ps
  statement_addressed known (compute e at) = maybe_addressed known e
  statement_addressed known (break_at at) = []
  statement_addressed known (continue_at at) = []
  statement_addressed known (gives e at) = maybe_addressed known e
  statement_addressed known (branch e a at) = addressed known e ++ statement_addressed known a
  statement_addressed known (branch_else e a b at) = addressed known e ++ statement_addressed known a ++ statement_addressed (past_statement known a) b
  statement_addressed known (while_loop e a at) = addressed known e ++ statement_addressed known a
  statement_addressed known (do_loop a e at) = statement_addressed known a ++ addressed (past_statement known a) e
  statement_addressed known (for_loop start test next a at) =
      for_addressed (inside known) start test next
      ++ statement_addressed (after_for_start (inside known) start) a

  pub parts_addressed : Numbered → Parts → List ℕ
  parts_addressed known no_part = []
  parts_addressed known (and_declares d ps) = declares_addressed known d ++ parts_addressed (after_declaration known d) ps
  parts_addressed known (and_does s ps) = statement_addressed known s ++ parts_addressed (past_statement known s) ps

-- ---- a source

-- each formal of a definition has a number, also one without a name
abbrev pub after_formal : Numbered → Option Name → Numbered
after_formal known None = following known 1
after_formal known (Some name) = number_name known name

-- the formals take numbers in their order
abbrev pub after_formals : Numbered → List Formal → Numbered
after_formals known [] = known
after_formals known (p ∷ ps) = after_formals (after_formal known (param_name p)) ps

-- a function's own names
abbrev pub numbered_from : ℕ → List Formal → Numbered
numbered_from n ps = after_formals (record { next = n; scopes = [] ∷ [] }) ps

-- a definition has numbers for its formals and its locals
abbrev pub count_of_code : List Formal → Code → ℕ
count_of_code ps prototype = 0
count_of_code ps (defined parts at) = length ps + count_of_parts parts

-- where its first formal has the number n; a prototype has no `&`
abbrev pub code_addressed : ℕ → List Formal → Code → List ℕ
code_addressed n ps prototype = []
code_addressed n ps (defined parts at) = parts_addressed (numbered_from n ps) parts

-- how many numbers it uses: globals and members have none
abbrev pub count_of_outer : Outer → ℕ
count_of_outer (structure name fs) = 0
count_of_outer (function is_static s stars name ps code) = count_of_code (listed_params ps) code
count_of_outer (objects is_static s os at) = 0

-- only a function's body sees locals; its first formal has the number n
abbrev pub outer_addressed : ℕ → Outer → List ℕ
outer_addressed n (structure name fs) = []
outer_addressed n (function is_static s stars name ps code) = code_addressed n (listed_params ps) code
outer_addressed n (objects is_static s os at) = []

-- numbers run on from each function to the next
abbrev pub outers_addressed : ℕ → List Outer → List ℕ
outers_addressed n [] = []
outers_addressed n (o ∷ os) = outer_addressed n o ++ outers_addressed (n + count_of_outer o) os

-- the numbers of those to which `&` is applied
abbrev pub program_addressed : List Outer → List ℕ
program_addressed os = outers_addressed 0 os

-- whether the number is in the list
abbrev pub is_among : List ℕ → ℕ → Bool
is_among [] n = false
is_among (m ∷ ms) n = (m == n) || is_among ms n

-- a number past the end has no mark
abbrev pub is_marked : List Bool → ℕ → Bool
is_marked marks n = slice_index_or marks n false
