-- What has cells of its own: each global, each local or formal that is kept in cells, each `malloc`, in the order of the
-- text (C99 6.2.4, 7.20.3.3).
use Rattle.std.specs.Prelude.{ℕ, ◌+◌, Bool, true, false, not, ◌&&◌, ◌||◌, List, [], ◌∷◌, ◌++◌, length, Option, Some, None, is_some}
use Rattle.rr_base.specs.Texts.{Text}
use Rattle.c_tree.specs.declared.name.Name.{Name}
use Rattle.c_tree.specs.declared.ctype.Specifier.{Specifier}
use Rattle.c_tree.specs.Tree.{Exp, comma, assign, conditional, binary, prefix, sizeof_exp, sizeof_type, cast, index, member, arrow, post_increment, post_decrement, named, call, number, letter, text, null, paren, Exps, no_exp, and_exp, Formal, Declared, declared, declared_pointer, Init, value, braces, mutex_start, cond_start, rwlock_start, Inits, no_init, and_init, Object, plain, initialised, Declares, declares, Start, start_declares, start_computes, Statement, block, compute, break_at, continue_at, gives, branch, branch_else, while_loop, do_loop, for_loop, Parts, no_part, and_declares, and_does, Code, defined, prototype, Fields, fields, Outer, structure, function, objects}
use Rattle.rr_base.specs.declared.position.Position.{Position}
use Rattle.c_rules.specs.Faults.{name_place}
use Rattle.c_types.specs.declared.types.ObjectType.{ObjectType}
use Rattle.c_types.specs.declared.library.LibraryName.{LibraryName}
use Rattle.c_types.specs.declared.library.LibraryName.TheVariants as library
use Rattle.c_types.specs.Library.{library_named}
use Rattle.c_types.specs.Scopes.{Known, seen, type_named, opened}
use Rattle.c_types.specs.Standing.{Target, no_target, target_of, assigned_target, cast_target, standing}
use Rattle.c_names.specs.Sources.{declared_name, listed_params, param_name, declared_by}
use Rattle.c_names.specs.Signatures.{signature_of}
use Rattle.c_names.specs.Known.{known_at_start}
use Rattle.c_programs.specs.Declarators.{declared_type, param_type, after_param, after_params}
use Rattle.c_programs.specs.Initials.{value_target}
use Rattle.c_programs.specs.Statements.{after_declared, after_declares, after_start}
use Rattle.c_programs.specs.Programs.{after_outer, after_function}
use Rattle.c_locals.specs.Addresses.{program_addressed, is_among, count_of_locals, count_of_start, count_of_declares, count_of_outer}
use Rattle.c_locals.specs.Kept.{is_kept_declared, is_kept_formal}

-- what holds cells
pub data Holder : Type 0 where
  a_global : Text → Holder
  -- of a function, by the names of both
  a_local : Text → Text → Holder
  an_allocation : Holder

-- with its type, where that has no fault
pub record Spot : Type 0 where
  pub holder : Holder
  pub at : Position
  pub of : Option ObjectType

-- short for the record: the holder, its place, its type
abbrev pub spot_at : Holder → Position → Option ObjectType → Spot
spot_at holder at t = record { holder = holder; at = at; of = t }

-- what is declared stands where its name does
abbrev pub spot_named : Holder → Name → Option ObjectType → Spot
spot_named holder name t = spot_at holder (name_place name) t

-- ---- allocations

-- what a `malloc` is to make, where the context tells it
abbrev pub type_of_target : Target → Option ObjectType
type_of_target (target_of t) = Some t
type_of_target _ = None

-- of the library's calls only `malloc` makes cells
abbrev pub is_malloc_call : Option LibraryName → Bool
is_malloc_call (Some library.Malloc) = true
is_malloc_call _ = false

-- the library's `malloc`, not a name of the source that hides it
abbrev pub is_malloc : Known → Text → Bool
is_malloc known name = not (is_some (seen known name)) && is_malloc_call (library_named name)

-- a call of `malloc` has cells of its own, at its place
abbrev pub where_malloc : Bool → Target → Position → List Spot
where_malloc true w at = spot_at an_allocation at (type_of_target w) ∷ []
where_malloc false w at = []

abbrev mutual
  -- the calls of `malloc` in an expression, each by what it is to make an object of
  pub allocations : Known → Target → Exp → List Spot
  allocations known w (comma e es at) = allocations known no_target e ++ all_allocations known es
  allocations known w (assign a op b at) = allocations known no_target a ++ allocations known (assigned_target op (standing known no_target a)) b
  allocations known w (conditional a b c at) = allocations known no_target a ++ allocations known no_target b ++ allocations known no_target c
  allocations known w (binary a op b at) = allocations known no_target a ++ allocations known no_target b
  allocations known w (prefix op a at) = allocations known no_target a
  allocations known w (sizeof_exp a at) = allocations known no_target a
  allocations known w (sizeof_type t at) = []
  allocations known w (cast t a at) = allocations known (cast_target (type_named known t) t.stars) a
  allocations known w (index a b at) = allocations known no_target a ++ allocations known no_target b
  allocations known w (member a name at) = allocations known no_target a
  allocations known w (arrow a name at) = allocations known no_target a
  allocations known w (post_increment a at) = allocations known no_target a
  allocations known w (post_decrement a at) = allocations known no_target a
  allocations known w (named name at) = []
  allocations known w (call name es at) = where_malloc (is_malloc known name) w at ++ all_allocations known es
  allocations known w (number n at) = []
  allocations known w (letter n at) = []
  allocations known w (text bytes at) = []
  allocations known w (null at) = []
  allocations known w (paren a at) = allocations known w a

  pub all_allocations : Known → Exps → List Spot
  all_allocations known no_exp = []
  all_allocations known (and_exp e es) = allocations known no_target e ++ all_allocations known es

-- an expression that is left out allocates nothing
abbrev pub maybe_allocations : Known → Option Exp → List Spot
maybe_allocations known None = []
maybe_allocations known (Some e) = allocations known no_target e

-- the calls of `malloc` in the lengths of an array
abbrev pub lengths_allocations : Known → List Exp → List Spot
lengths_allocations known [] = []
lengths_allocations known (e ∷ es) = allocations known no_target e ++ lengths_allocations known es

abbrev mutual
  pub initial_allocations : Known → Target → Init → List Spot
  initial_allocations known w (value e) = allocations known w e
  initial_allocations known w (braces is trailing at) = initials_allocations known is
  initial_allocations known w (mutex_start at) = []
  initial_allocations known w (cond_start at) = []
  initial_allocations known w (rwlock_start at) = []

  pub initials_allocations : Known → Inits → List Spot
  initials_allocations known no_init = []
  initials_allocations known (and_init i is) = initial_allocations known no_target i ++ initials_allocations known is

-- ---- objects

-- one spot, or none for what has no cells
abbrev pub where_kept : Bool → Spot → List Spot
where_kept true spot = spot ∷ []
where_kept false spot = []

-- where an object stands: at file level, or in a function, where the numbers of those are given to which `&` is applied
pub data Where : Type 0 where
  file_level : Where
  in_function : Text → List ℕ → Where

-- a name at file level is a global, in a function a local
abbrev pub holder_in : Where → Text → Holder
holder_in file_level name = a_global name
holder_in (in_function f ns) name = a_local f name

-- each global has cells, a local by its type or by `&`
abbrev pub is_cell_in : Where → ℕ → Bool → Bool
is_cell_in file_level n by_type = true
is_cell_in (in_function f ns) n by_type = by_type || is_among ns n

-- at file level, where names have static storage (C99 6.2.4)
abbrev pub is_global_level : Where → Bool
is_global_level file_level = true
is_global_level (in_function f ns) = false

-- the lengths of its arrays, of which an object may have none
abbrev pub declared_lengths : Declared → List Exp
declared_lengths (declared stars name lengths) = lengths
declared_lengths (declared_pointer stars name ps) = []

-- the object with the number n, then the calls in its lengths
abbrev pub declared_spots : Where → Known → ℕ → Specifier → Declared → List Spot
declared_spots here known n s d =
    where_kept (is_cell_in here n (is_kept_declared s d)) (spot_named (holder_in here (declared_name d).text) (declared_name d) (declared_type known s d))
    ++ lengths_allocations known (declared_lengths d)

-- in its first value an object's own name is seen (C99 6.2.1)
abbrev pub initialised_spots : Where → Known → ℕ → Specifier → Declared → Init → List Spot
initialised_spots here known n s d i =
    declared_spots here known n s d
    ++ initial_allocations (after_declared known (is_global_level here) s d) (value_target (declared_type known s d)) i

-- what an object has, with or without a first value
abbrev pub object_spots : Where → Known → ℕ → Specifier → Object → List Spot
object_spots here known n s (plain d) = declared_spots here known n s d
object_spots here known n s (initialised d i at) = initialised_spots here known n s d i

-- each sees those before it; the first has the number n
abbrev pub objects_spots : Where → Known → ℕ → Specifier → List Object → List Spot
objects_spots here known n s [] = []
objects_spots here known n s (o ∷ os) = object_spots here known n s o ++ objects_spots here (after_declared known (is_global_level here) s (declared_by o)) (n + 1) s os

-- all objects of a declaration; the first has the number n
abbrev pub declares_spots : Where → Known → ℕ → Declares → List Spot
declares_spots here known n (declares s os at) = objects_spots here known n s os

-- ---- statements

-- the first clause of a `for`; its first local has the number n
abbrev pub start_spots : Where → Known → ℕ → Start → List Spot
start_spots here known n (start_declares d) = declares_spots here known n d
start_spots here known n (start_computes e) = maybe_allocations known e

-- what stands in the parentheses of a `for`
abbrev pub for_spots : Where → Known → ℕ → Start → Option Exp → Option Exp → List Spot
for_spots here known n start test next =
    start_spots here known n start
    ++ maybe_allocations (after_start known start) test
    ++ maybe_allocations (after_start known start) next

abbrev mutual
  pub statement_spots : Where → Known → ℕ → Statement → List Spot
  statement_spots here known n (block ps at) = parts_spots here (opened known) n ps
  statement_spots here known n (compute e at) = maybe_allocations known e
  statement_spots here known n (break_at at) = []
  statement_spots here known n (continue_at at) = []
  statement_spots here known n (gives e at) = maybe_allocations known e
  statement_spots here known n (branch e a at) = allocations known no_target e ++ statement_spots here known n a
  statement_spots here known n (branch_else e a b at) =
      allocations known no_target e ++ statement_spots here known n a ++ statement_spots here known (n + count_of_locals a) b
  statement_spots here known n (while_loop e a at) = allocations known no_target e ++ statement_spots here known n a
  statement_spots here known n (do_loop a e at) = statement_spots here known n a ++ allocations known no_target e
  statement_spots here known n (for_loop start test next a at) =
      for_spots here (opened known) n start test next
      ++ statement_spots here (after_start (opened known) start) (n + count_of_start start) a

  pub parts_spots : Where → Known → ℕ → Parts → List Spot
  parts_spots here known n no_part = []
  parts_spots here known n (and_declares d ps) = declares_spots here known n d ++ parts_spots here (after_declares known d) (n + count_of_declares d) ps
  parts_spots here known n (and_does s ps) = statement_spots here known n s ++ parts_spots here known (n + count_of_locals s) ps

-- ---- a source

-- the calls of `malloc` in the lengths of members
abbrev pub members_allocations : Known → List Declared → List Spot
members_allocations known [] = []
members_allocations known (d ∷ ds) = lengths_allocations known (declared_lengths d) ++ members_allocations known ds

-- members have no cells of their own, but for calls in their lengths
abbrev pub fields_allocations : Known → List Fields → List Spot
fields_allocations known [] = []
fields_allocations known (fields s ds at ∷ fs) = members_allocations known ds ++ fields_allocations known fs

-- a formal without a name has no cells
abbrev pub formal_spot : Where → Known → ℕ → Formal → Option Name → List Spot
formal_spot here known n p None = []
formal_spot here known n p (Some name) =
    where_kept (is_cell_in here n (is_kept_formal p)) (spot_named (holder_in here name.text) name (param_type known p))

-- the formals of a definition
abbrev pub formals_spots : Where → Known → ℕ → List Formal → List Spot
formals_spots here known n [] = []
formals_spots here known n (p ∷ ps) = formal_spot here known n p (param_name p) ++ formals_spots here (after_param known p) (n + 1) ps

-- formals come before the body; the first has the number n
abbrev pub definition_spots : Where → Known → ℕ → List Formal → Parts → List Spot
definition_spots here known n ps parts = formals_spots here known n ps ++ parts_spots here (after_params known ps) (n + length ps) parts

-- a prototype has no cells
abbrev pub code_spots : Where → Known → ℕ → List Formal → Code → List Spot
code_spots here known n ps prototype = []
code_spots here known n ps (defined parts at) = definition_spots here (opened known) n ps parts

-- `ns` are the numbers to which `&` is applied, n the next
abbrev pub outer_spots : List ℕ → Known → ℕ → Outer → List Spot
outer_spots ns known n (structure name fs) = fields_allocations known fs
outer_spots ns known n (function is_static s stars name ps code) =
    code_spots (in_function name.text ns) (after_function known name (signature_of known s stars ps) code) n (listed_params ps) code
outer_spots ns known n (objects is_static s os at) = objects_spots file_level known n s os

-- each sees what is declared before it; the first begins with the number n
abbrev pub outers_spots : List ℕ → Known → ℕ → List Outer → List Spot
outers_spots ns known n [] = []
outers_spots ns known n (o ∷ os) = outer_spots ns known n o ++ outers_spots ns (after_outer known o) (n + count_of_outer o) os

-- all that has cells in a source, in the order of the text
abbrev pub program_spots : List Outer → List Spot
program_spots os = outers_spots (program_addressed os) (known_at_start os) 0 os

-- what is declared at the end of the source
abbrev pub known_after : Known → List Outer → Known
known_after known [] = known
known_after known (o ∷ os) = known_after (after_outer known o) os
