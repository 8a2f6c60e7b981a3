-- What each expression is (C99 6.5): a place, a value, or without a type where it has a fault in it.
use Rattle.std.specs.Prelude.{ℕ, ◌==◌, Bool, true, false, not, ◌&&◌, ◌||◌, if◌then◌else◌, ℤ, List, [], ◌∷◌, replicate, Option, Some, None, is_some, codes}
use Rattle.std.specs.Str.{bytes_eq}
use Rattle.rr_base.specs.Texts.{Text}
use Rattle.c_tree.specs.declared.expr.PrefixOp.{PrefixOp}
use Rattle.c_tree.specs.declared.expr.PrefixOp.TheVariants as prefix_op
use Rattle.c_tree.specs.declared.expr.AssignOp.{AssignOp}
use Rattle.c_tree.specs.declared.expr.AssignOp.TheVariants as assign_op
use Rattle.c_types.specs.declared.types.BaseType.{BaseType}
use Rattle.c_types.specs.declared.types.BaseType.TheVariants as base
use Rattle.c_types.specs.declared.types.Layer.{Layer}
use Rattle.c_types.specs.declared.types.Layer.TheVariants as layer
use Rattle.c_types.specs.declared.types.ObjectType.{ObjectType}
use Rattle.c_types.specs.declared.library.StarredType.{StarredType}
use Rattle.c_types.specs.declared.library.Wanted.{Wanted}
use Rattle.c_types.specs.declared.library.Wanted.TheVariants as wants
use Rattle.c_types.specs.declared.library.LibraryName.{LibraryName}
use Rattle.c_types.specs.declared.library.LibraryName.TheVariants as library
use Rattle.c_types.specs.declared.names.Signature.{Signature}
use Rattle.c_tree.specs.Tree.{Exp, comma, assign, conditional, binary, prefix, sizeof_exp, sizeof_type, cast, index, member, arrow, post_increment, post_decrement, named, call, number, letter, text, null, paren, Exps, no_exp, and_exp}
use Rattle.c_types.specs.Numbers.{is_zero}
use Rattle.c_types.specs.Constants.{constant_named}
use Rattle.c_types.specs.Types.{bare, pointer_to}
use Rattle.c_types.specs.Scopes.{Known, Meaning, variable, function_of, seen, has_name, type_named, member_of, is_complete}
use Rattle.c_types.specs.Signatures.{type_numbered, signature_numbered}
use Rattle.c_types.specs.Operands.{Standing, no_type, zero_literal, null_literal, a_value, a_place, Operand, whole, pointing, function_operand, no_operand, operand_of, type_operand, type_value, as_value, is_void, is_typed, is_whole, is_scalar, is_movable, settled, int_value, binary_standing, accepts, moves, assigns, can_choose, chosen}
use Rattle.c_types.specs.Library.{starred_type, an_int, wanted_by, given_by, library_named}
use Rattle.c_types.specs.Format.{conversions}

-- ---- `malloc`: what it is to make an object of

-- the object's type comes from the pointer that takes the result
pub data Target : Type 0 where
  no_target : Target
  -- there is one, whose type isn't known for a fault
  some_target : Target
  target_of : ObjectType → Target

-- a `void *` or no pointer says nothing of the object's type
abbrev pub layered_target : List Layer → BaseType → Target
layered_target [] b = no_target
layered_target (layer.Pointer ∷ ls) b = if is_void (record { layers = ls; base = b }) then no_target else target_of (record { layers = ls; base = b })
layered_target (layer.Array n ∷ ls) b = no_target

-- what a pointer of the type is to point to
abbrev pub type_target : ObjectType → Target
type_target t = layered_target t.layers t.base

-- the right side of an assignment
abbrev pub assigned_target : AssignOp → Standing → Target
assigned_target assign_op.Assign no_type = some_target
assigned_target assign_op.Assign (a_place t) = type_target t
assigned_target _ s = no_target

-- the operand of a cast
abbrev pub cast_target : Option ObjectType → ℕ → Target
cast_target (Some t) stars = type_target t
cast_target None stars = if stars == 0 then no_target else some_target

-- the call gives a typed pointer, and has a fault without a target
abbrev pub malloc_standing : Target → Standing
malloc_standing no_target = no_type
malloc_standing some_target = no_type
malloc_standing (target_of t) = a_value (pointer_to t)

-- ---- parts

-- the object that a unary `*` gives; none through a `void *` (C99 6.5.3.2)
abbrev pub pointee : Operand → Standing
pointee (pointing t) = if is_void t then no_type else a_place t
pointee _ = no_type

-- the number of the functions' type, where the type is a pointer to functions
abbrev pub layered_function : List Layer → BaseType → Option ℕ
layered_function [] (base.Function k) = Some k
layered_function [] _ = None
layered_function (l ∷ ls) b = None

-- no number of a pointer to objects or of an array
abbrev pub type_function : ObjectType → Option ℕ
type_function t = layered_function t.layers t.base

-- no pointer points to these, and no array has them
abbrev pub points_to_functions : ObjectType → Bool
points_to_functions t = is_some (type_function t)

-- only an object has one, a function and a value none (C99 6.5.3.2); nor has a pointer to functions here
abbrev pub address : Standing → Standing
address (a_place t) = if points_to_functions t then no_type else a_value (pointer_to t)
address _ = no_type

-- `++` and `--`
abbrev pub stepped : Standing → Standing
stepped (a_place t) = if moves t whole then type_value t else no_type
stepped _ = no_type

-- a number where the operator takes the operand and this has no fault
abbrev pub made_int : Bool → Operand → Standing
made_int allowed a = if allowed && is_typed a then int_value else no_type

-- the type of a prefix operator's result (C99 6.5.3)
abbrev pub prefix_standing : PrefixOp → Standing → Standing
prefix_standing prefix_op.Address s = address s
prefix_standing prefix_op.Indirect s = pointee (operand_of s)
prefix_standing prefix_op.Plus s = made_int (is_whole (operand_of s)) (operand_of s)
prefix_standing prefix_op.Minus s = made_int (is_whole (operand_of s)) (operand_of s)
prefix_standing prefix_op.Not s = made_int (is_scalar (operand_of s)) (operand_of s)
prefix_standing prefix_op.Complement s = made_int (is_whole (operand_of s)) (operand_of s)
prefix_standing prefix_op.Increment s = stepped s
prefix_standing prefix_op.Decrement s = stepped s

-- the type of `a ? b : c`, whose `a` is scalar (C99 6.5.15)
abbrev pub conditional_standing : Operand → Operand → Operand → Standing
conditional_standing a b c = if is_scalar a && is_typed a then settled (can_choose b c) b c (chosen b c) else no_type

-- the type of the object after the assignment, as a value (C99 6.5.16)
abbrev pub assign_standing : AssignOp → Standing → Operand → Standing
assign_standing o (a_place t) a = if assigns o t a && is_typed a then type_value t else no_type
assign_standing o _ a = no_type

-- the operand of `sizeof` has a size
abbrev pub is_sized : Known → Standing → Bool
is_sized known no_type = true
is_sized known zero_literal = true
is_sized known null_literal = true
is_sized known (a_value t) = is_complete known t
is_sized known (a_place t) = is_complete known t

-- `sizeof e`: a number, if `e` has a size (C99 6.5.3.4)
abbrev pub sizeof_standing : Known → Standing → Standing
sizeof_standing known s = made_int (is_sized known s) (operand_of s)

-- `sizeof (type)`: a number, if the type is complete (C99 6.5.3.4)
abbrev pub sizeof_type_standing : Known → Option ObjectType → Standing
sizeof_type_standing known None = no_type
sizeof_type_standing known (Some t) = if is_complete known t then int_value else no_type

-- casts go between Int and pointers to objects
abbrev pub casts_to : Option ObjectType → ℕ → Bool
casts_to (Some t) stars = is_scalar (type_operand t)
casts_to None stars = not (stars == 0)

-- a number or a pointer to objects
abbrev pub can_cast : Operand → Bool
can_cast no_operand = false
can_cast (function_operand k) = false
can_cast _ = true

-- the type of `(type) e`, between numbers and pointers (C99 6.5.4)
abbrev pub cast_standing : Option ObjectType → ℕ → Operand → Standing
cast_standing None stars a = no_type
cast_standing (Some t) stars a = if casts_to (Some t) stars && can_cast a && is_typed a then type_value t else no_type

-- a pointer and a number, in either order (C99 6.5.2.1)
abbrev pub can_index : Operand → Operand → Bool
can_index a b = (is_movable a && is_whole b) || (is_whole a && is_movable b)

-- the object to which the one of the two that is a pointer points
abbrev pub element_place : Operand → Operand → Standing
element_place (pointing t) b = a_place t
element_place a (pointing t) = a_place t
element_place a b = no_type

-- the type of `a[b]`, which is the place `*(a + b)`
abbrev pub index_standing : Operand → Operand → Standing
index_standing a b = settled (can_index a b) a b (element_place a b)

-- ---- members

-- the number of the struct, where the type is one itself
abbrev pub layered_struct : List Layer → BaseType → Option ℕ
layered_struct [] (base.Struct k) = Some k
layered_struct [] _ = None
layered_struct (l ∷ ls) b = None

-- no number of a pointer to a struct or of an array of them
abbrev pub type_struct : ObjectType → Option ℕ
type_struct t = layered_struct t.layers t.base

-- the struct that stands before a `.`, and the one to which what stands before a `->` points
abbrev pub struct_of : Standing → Option ℕ
struct_of (a_value t) = type_struct t
struct_of (a_place t) = type_struct t
struct_of _ = None

-- for `->`, where an array of structs counts as a pointer too
abbrev pub pointed_struct : Operand → Option ℕ
pointed_struct (pointing t) = type_struct t
pointed_struct _ = None

-- what a look-up of a member gives as a place
abbrev pub place_by : Option (Option ObjectType) → Standing
place_by None = no_type
place_by (Some None) = no_type
place_by (Some (Some t)) = a_place t

-- the type of `.name` and `->name`, in the struct of this number (C99 6.5.2.3)
abbrev pub member_standing : Known → Option ℕ → Text → Standing
member_standing known None name = no_type
member_standing known (Some k) name = place_by (member_of known k name)

-- ---- names

-- a constant of the library is a number and no literal `0`
abbrev pub constant_standing : Option ℤ → Standing
constant_standing None = no_type
constant_standing (Some n) = int_value

-- no call, no thread and no pointer may begin `main` again
abbrev pub is_main : Text → Bool
is_main name = bytes_eq name (codes "main")

-- calls and pointers may use the function: it isn't `main`, and is defined somewhere in the file
abbrev pub can_be_used : Known → Text → Bool
can_be_used known name = not (is_main name) && has_name known.defined name

-- a pointer to the functions whose type has this number
abbrev pub function_value : Bool → Option ℕ → Standing
function_value true (Some k) = a_value (bare (base.Function k))
function_value true None = no_type
function_value false k = no_type

-- a function's name alone is a pointer to the function (C99 6.3.2.1)
abbrev pub named_standing : Known → Text → Option Meaning → Option ℤ → Standing
named_standing known name (Some (variable None)) constant = no_type
named_standing known name (Some (variable (Some t))) constant = a_place t
named_standing known name (Some (function_of f)) constant = function_value (can_be_used known name) (type_numbered known f)
named_standing known name None constant = constant_standing constant

-- ---- calls

-- the call wants these arguments, and gives this
pub data Callee : Type 0 where
  no_callee : Callee
  callee : List Wanted → Standing → Callee

-- none where there is nothing to call
abbrev pub callee_wants : Callee → List Wanted
callee_wants no_callee = []
callee_wants (callee ws s) = ws

-- where the arguments fit
abbrev pub callee_gives : Callee → Standing
callee_gives no_callee = no_type
callee_gives (callee ws s) = s

-- by whether the arguments fit
abbrev pub call_standing : Callee → Bool → Standing
call_standing no_callee fit = no_type
call_standing (callee ws s) fit = if fit then s else no_type

-- what a call of a source's function gives, if that is known
abbrev pub given_type : Option StarredType → Standing
given_type None = no_type
given_type (Some t) = type_value (starred_type t)

-- what a `printf` wants, by its format
abbrev pub printf_callee : Option ℕ → Callee
printf_callee None = no_callee
printf_callee (Some n) = callee (wants.Text ∷ replicate n an_int) int_value

-- how many conversions a literal format has; none where it can't be told
abbrev pub format_of : Exps → Option ℕ
format_of (and_exp (text bytes at) es) = conversions bytes
format_of _ = None

-- `printf` goes by its format, and `malloc` by its target
abbrev pub some_library_callee : LibraryName → Target → Option ℕ → Callee
some_library_callee library.PrintFormat w format = printf_callee format
some_library_callee library.Malloc w format = callee (wanted_by library.Malloc) (malloc_standing w)
some_library_callee c w format = callee (wanted_by c) (type_value (bare (given_by c)))

-- there is nothing to call without such a name in the library
abbrev pub library_callee : Option LibraryName → Target → Option ℕ → Callee
library_callee None w format = no_callee
library_callee (Some c) w format = some_library_callee c w format

-- it can be called only where the flag says so
abbrev pub function_callee : Bool → Signature → Callee
function_callee false f = no_callee
function_callee true f = callee f.params (given_type f.result)

-- what is called through a pointer of a type, if it points to functions
abbrev pub signature_by : Known → Option ℕ → Option Signature
signature_by known None = None
signature_by known (Some k) = signature_numbered known k

-- what is called through a variable of this type
abbrev pub pointed_signature : Known → Option ObjectType → Option Signature
pointed_signature known None = None
pointed_signature known (Some t) = signature_by known (type_function t)

-- a variable is called only where it points to functions
abbrev pub pointer_callee : Option Signature → Callee
pointer_callee None = no_callee
pointer_callee (Some f) = callee f.params (given_type f.result)

-- what a call wants and gives; a declared name goes before the library's
abbrev pub callee_of : Known → Target → Text → Option ℕ → Option Meaning → Callee
callee_of known w name format (Some (variable t)) = pointer_callee (pointed_signature known t)
callee_of known w name format (Some (function_of f)) = function_callee (can_be_used known name) f
callee_of known w name format None = library_callee (library_named name) w format

-- `void *`, what a thread takes and gives
abbrev pub is_pointer_to_void : StarredType → Bool
is_pointer_to_void t = (t.stars == 1) && is_void (bare t.base)

-- one parameter only, a `void *`
abbrev pub wants_pointer_to_void : List Wanted → Bool
wants_pointer_to_void (wants.Fits t ∷ []) = is_pointer_to_void t
wants_pointer_to_void _ = false

-- the result is a `void *`, and known
abbrev pub gives_pointer_to_void : Option StarredType → Bool
gives_pointer_to_void None = false
gives_pointer_to_void (Some t) = is_pointer_to_void t

-- a thread can begin with a function of these types
abbrev pub has_root_types : Signature → Bool
has_root_types f = gives_pointer_to_void f.result && wants_pointer_to_void f.params

-- a name that means a function of the form `void *f(void *)`
abbrev pub is_root_type : Option Meaning → Bool
is_root_type (Some (function_of f)) = has_root_types f
is_root_type _ = false

-- the third argument of `pthread_create`: a defined function's name, not in parentheses
abbrev pub is_root : Known → Exp → Bool
is_root known (named name at) = is_root_type (seen known name) && can_be_used known name
is_root known _ = false

-- a string literal, which may stand only as an argument that wants one
abbrev pub is_text : Exp → Bool
is_text (text bytes at) = true
is_text _ = false

-- the literals `0` and `NULL`, as attributes are passed
abbrev pub is_null : Standing → Bool
is_null zero_literal = true
is_null null_literal = true
is_null _ = false

-- the argument has no fault, and is what is wanted
abbrev pub fits_wanted : Known → Wanted → Exp → Standing → Bool
fits_wanted known (wants.Fits t) e s = accepts (starred_type t) (operand_of s) && is_typed (operand_of s)
fits_wanted known wants.Anything e s = is_typed (operand_of s)
fits_wanted known wants.Attribute e s = is_null s
fits_wanted known wants.Root e s = is_root known e
fits_wanted known wants.Text e s = is_text e

-- ---- a value that is let go, as a statement or before a comma

-- a number or a pointer may be dropped, and so may what a `void` call gives
abbrev pub is_kept_base : BaseType → Bool
is_kept_base base.Int = true
is_kept_base base.Void = true
is_kept_base (base.Function k) = true
is_kept_base _ = false

-- a pointer or an array may always be dropped
abbrev pub layered_can_go : List Layer → BaseType → Bool
layered_can_go [] b = is_kept_base b
layered_can_go (l ∷ ls) b = true

-- it is no struct, mutex, condition variable, barrier or read-write lock
abbrev pub can_go : Standing → Bool
can_go (a_value t) = layered_can_go t.layers t.base
can_go (a_place t) = layered_can_go t.layers t.base
can_go _ = true

-- it has no type where its value can't be dropped
abbrev pub let_go : Standing → Standing
let_go s = if can_go s then s else no_type

-- after another one
abbrev pub following : Standing → Standing → Standing
following no_type s = no_type
following _ s = s

-- a written `0` is a null pointer constant too (C99 6.3.2.3)
abbrev pub number_standing : ℤ → Standing
number_standing n = if is_zero n then zero_literal else int_value

-- ---- expressions

abbrev mutual
  pub standing : Known → Target → Exp → Standing
  standing known w (comma e es at) = last_standing known (let_go (standing known no_target e)) es
  standing known w (assign a op b at) = assign_standing op (standing known no_target a) (operand_of (standing known (assigned_target op (standing known no_target a)) b))
  standing known w (conditional a b c at) = conditional_standing (operand_of (standing known no_target a)) (operand_of (standing known no_target b)) (operand_of (standing known no_target c))
  standing known w (binary a op b at) = binary_standing op (operand_of (standing known no_target a)) (operand_of (standing known no_target b))
  standing known w (prefix op a at) = prefix_standing op (standing known no_target a)
  standing known w (sizeof_exp a at) = sizeof_standing known (standing known no_target a)
  standing known w (sizeof_type t at) = sizeof_type_standing known (type_named known t)
  standing known w (cast t a at) = cast_standing (type_named known t) t.stars (operand_of (standing known (cast_target (type_named known t) t.stars) a))
  standing known w (index a b at) = index_standing (operand_of (standing known no_target a)) (operand_of (standing known no_target b))
  standing known w (member a name at) = member_standing known (struct_of (standing known no_target a)) name.text
  standing known w (arrow a name at) = member_standing known (pointed_struct (operand_of (standing known no_target a))) name.text
  standing known w (post_increment a at) = stepped (standing known no_target a)
  standing known w (post_decrement a at) = stepped (standing known no_target a)
  standing known w (named name at) = named_standing known name (seen known name) (constant_named name)
  standing known w (call name es at) = call_standing (callee_of known w name (format_of es) (seen known name)) (fit_wanted known (callee_wants (callee_of known w name (format_of es) (seen known name))) es)
  standing known w (number n at) = number_standing n
  standing known w (letter n at) = int_value
  standing known w (text bytes at) = no_type
  standing known w (null at) = null_literal
  standing known w (paren a at) = standing known w a

  -- the last expression after a comma
  pub last_standing : Known → Standing → Exps → Standing
  last_standing known s no_exp = as_value s
  last_standing known s (and_exp e es) = last_standing known (following s (let_go (standing known no_target e))) es

  -- as many arguments as are wanted, each of which fits
  pub fit_wanted : Known → List Wanted → Exps → Bool
  fit_wanted known [] no_exp = true
  fit_wanted known [] (and_exp e es) = false
  fit_wanted known (w ∷ ws) no_exp = false
  fit_wanted known (w ∷ ws) (and_exp e es) = fits_wanted known w e (standing known no_target e) && fit_wanted known ws es
