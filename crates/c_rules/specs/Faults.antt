-- The faults of an expression: each where its rule is broken, at the place that goes with the rule.
use Rattle.std.specs.Prelude.{ℕ, suc, ◌+◌, ◌==◌, nat_lt, Bool, true, false, not, ◌&&◌, ◌||◌, if◌then◌else◌, List, [], ◌∷◌, ◌++◌, length, Option, Some, None, is_some, is_none}
use Rattle.rr_base.specs.Texts.{Text}
use Rattle.c_tree.specs.declared.name.Name.{Name}
use Rattle.c_tree.specs.declared.ctype.Specifier.{Specifier}
use Rattle.c_tree.specs.declared.ctype.Specifier.TheVariants as specifier
use Rattle.c_tree.specs.declared.ctype.CType.{CType}
use Rattle.c_tree.specs.declared.expr.PrefixOp.{PrefixOp}
use Rattle.c_tree.specs.declared.expr.PrefixOp.TheVariants as prefix_op
use Rattle.c_tree.specs.declared.expr.AssignOp.{AssignOp}
use Rattle.c_types.specs.declared.types.BaseType.TheVariants as base
use Rattle.c_types.specs.declared.types.ObjectType.{ObjectType}
use Rattle.c_types.specs.declared.names.Signature.{Signature}
use Rattle.c_types.specs.declared.library.Wanted.{Wanted}
use Rattle.c_types.specs.declared.library.Wanted.TheVariants as wants
use Rattle.c_types.specs.declared.library.LibraryName.{LibraryName}
use Rattle.c_types.specs.declared.library.LibraryName.TheVariants as library
use Rattle.c_types.specs.declared.fault.FaultKind.TheVariants as fault
use Rattle.c_types.specs.declared.fault.Found.{Found}
use Rattle.c_types.specs.Found.{where_it_comes, found_at}
use Rattle.c_tree.specs.Tree.{Exp, comma, assign, conditional, binary, prefix, sizeof_exp, sizeof_type, cast, index, member, arrow, post_increment, post_decrement, named, call, number, letter, text, null, paren, Exps, no_exp, and_exp}
use Rattle.rr_base.specs.declared.position.Position.{Position}
use Rattle.rr_base.specs.Positions.{position_at}
use Rattle.c_types.specs.Constants.{constant_named}
use Rattle.c_types.specs.Types.{bare, int_type, pointer_to}
use Rattle.c_types.specs.Scopes.{Known, Meaning, variable, function_of, seen, has_name, struct_numbered, type_named, member_of}
use Rattle.c_types.specs.Operands.{Standing, no_type, zero_literal, null_literal, a_value, a_place, Operand, any_operand, whole, pointing, operand_of, is_void, is_whole, is_scalar, accepts, moves, assigns, assigns_some, takes, can_choose}
use Rattle.c_types.specs.Library.{starred_type, wanted_by, library_named}
use Rattle.c_types.specs.Standing.{Target, no_target, assigned_target, cast_target, points_to_functions, pointed_signature, is_sized, casts_to, can_cast, can_index, struct_of, pointed_struct, is_main, is_root, is_text, is_null, can_go, printf_callee, format_of, callee_wants, standing}

-- ---- places

-- that of the operator, or of the called name or word
abbrev pub own_place : Exp → Position
own_place (comma e es at) = at
own_place (assign a op b at) = at
own_place (conditional a b c at) = at
own_place (binary a op b at) = at
own_place (prefix op a at) = at
own_place (sizeof_exp a at) = at
own_place (sizeof_type t at) = at
own_place (cast t a at) = at
own_place (index a b at) = at
own_place (member a name at) = at
own_place (arrow a name at) = at
own_place (post_increment a at) = at
own_place (post_decrement a at) = at
own_place (named name at) = at
own_place (call name es at) = at
own_place (number n at) = at
own_place (letter n at) = at
own_place (text bytes at) = at
own_place (null at) = at
own_place (paren a at) = at

-- where the text of the expression begins
abbrev pub first_place : Exp → Position
first_place (comma e es at) = first_place e
first_place (assign a op b at) = first_place a
first_place (conditional a b c at) = first_place a
first_place (binary a op b at) = first_place a
first_place (prefix op a at) = at
first_place (sizeof_exp a at) = at
first_place (sizeof_type t at) = at
first_place (cast t a at) = at
first_place (index a b at) = first_place a
first_place (member a name at) = first_place a
first_place (arrow a name at) = first_place a
first_place (post_increment a at) = first_place a
first_place (post_decrement a at) = first_place a
first_place (named name at) = at
first_place (call name es at) = at
first_place (number n at) = at
first_place (letter n at) = at
first_place (text bytes at) = at
first_place (null at) = at
first_place (paren a at) = at

-- faults of a declaration stand at the declared name
abbrev pub name_place : Name → Position
name_place name = name.at

-- a wrong type at this place, where it comes
abbrev pub mismatch : Bool → Position → List Found
mismatch comes at = where_it_comes comes fault.TypeMismatch at

-- ---- names of types

-- a struct that the file doesn't define, or that isn't defined yet where its size is needed
abbrev pub lacks_struct_by : Known → Bool → Option ℕ → Bool
lacks_struct_by known needs_size None = true
lacks_struct_by known needs_size (Some k) = needs_size && not (nat_lt k (length known.structs))

-- it names a struct that can't be used at this place
abbrev pub is_unknown_struct : Known → Bool → Name → Bool
is_unknown_struct known needs_size name = lacks_struct_by known needs_size (struct_numbered known name.text)

-- only a struct can be unknown; the flag says whether its size is needed
abbrev pub specifier_faults : Known → Bool → Specifier → List Found
specifier_faults known needs_size (specifier.Struct name at) = where_it_comes (is_unknown_struct known needs_size name) fault.UnknownName (name_place name)
specifier_faults known needs_size (specifier.Int at) = []
specifier_faults known needs_size (specifier.Long second int at) = []
specifier_faults known needs_size (specifier.Void at) = []
specifier_faults known needs_size (specifier.PthreadT at) = []
specifier_faults known needs_size (specifier.PthreadMutexT at) = []
specifier_faults known needs_size (specifier.PthreadCondT at) = []
specifier_faults known needs_size (specifier.PthreadBarrierT at) = []
specifier_faults known needs_size (specifier.PthreadRwlockT at) = []

-- not where the type isn't known
abbrev pub is_some_void : Option ObjectType → Bool
is_some_void None = false
is_some_void (Some t) = is_void t

-- ---- operators

-- what isn't a place whatever its parts are
abbrev pub name_can_be_place : Option Meaning → Text → Bool
name_can_be_place (Some (variable t)) name = true
name_can_be_place (Some (function_of f)) name = false
name_can_be_place None name = not (is_some (constant_named name)) && not (is_some (library_named name))

-- of the prefix operators only `*` gives a place
abbrev pub is_indirect : PrefixOp → Bool
is_indirect prefix_op.Indirect = true
is_indirect _ = false

-- its form allows a place; whether the types do is another fault
abbrev pub can_be_place : Known → Exp → Bool
can_be_place known (prefix op a at) = is_indirect op
can_be_place known (index a b at) = true
can_be_place known (member a name at) = can_be_place known a
can_be_place known (arrow a name at) = true
can_be_place known (named name at) = name_can_be_place (seen known name) name
can_be_place known (paren a at) = can_be_place known a
can_be_place known _ = false

-- a `NULL` counts as a `void *`; none where there is a fault
abbrev pub standing_type : Standing → Option ObjectType
standing_type no_type = None
standing_type zero_literal = Some int_type
standing_type null_literal = Some (pointer_to (bare base.Void))
standing_type (a_value t) = Some t
standing_type (a_place t) = Some t

-- where the left side's type isn't known, some type would do
abbrev pub assigns_to : AssignOp → Option ObjectType → Operand → Bool
assigns_to op None a = assigns_some op a
assigns_to op (Some t) a = assigns op t a

-- `++` and `--` can apply; also where the type isn't known
abbrev pub steps : Option ObjectType → Bool
steps None = true
steps (Some t) = moves t whole

-- unary `*` may go through it: a pointer, but no `void *`
abbrev pub can_follow : Operand → Bool
can_follow any_operand = true
can_follow (pointing t) = not (is_void t)
can_follow _ = false

-- no pointer may point to a pointer to functions
abbrev pub can_be_pointed_to : Standing → Bool
can_be_pointed_to (a_place t) = not (points_to_functions t)
can_be_pointed_to _ = true

-- the constraints on types; that of a place is judged apart (C99 6.5.3)
abbrev pub prefix_takes : PrefixOp → Standing → Bool
prefix_takes prefix_op.Address s = can_be_pointed_to s
prefix_takes prefix_op.Indirect s = can_follow (operand_of s)
prefix_takes prefix_op.Plus s = is_whole (operand_of s)
prefix_takes prefix_op.Minus s = is_whole (operand_of s)
prefix_takes prefix_op.Not s = is_scalar (operand_of s)
prefix_takes prefix_op.Complement s = is_whole (operand_of s)
prefix_takes prefix_op.Increment s = steps (standing_type s)
prefix_takes prefix_op.Decrement s = steps (standing_type s)

-- `&`, `++` and `--` want an lvalue (C99 6.5.2.4, 6.5.3)
abbrev pub needs_place : PrefixOp → Bool
needs_place prefix_op.Address = true
needs_place prefix_op.Increment = true
needs_place prefix_op.Decrement = true
needs_place _ = false

-- what should be a place is none
abbrev pub place_faults : Bool → Position → List Found
place_faults is_place at = where_it_comes (not is_place) fault.NotPlace at

-- ---- members

-- no struct stands before the operator
abbrev pub lacks_struct : Operand → Option ℕ → Bool
lacks_struct any_operand k = false
lacks_struct a k = is_none k

-- the struct has no such member, or isn't defined yet
abbrev pub lacks_member : Known → Option ℕ → Text → Bool
lacks_member known None name = false
lacks_member known (Some k) name = is_none (member_of known k name)

-- no struct stands at the operator, no such member at the name
abbrev pub member_faults : Known → Operand → Option ℕ → Name → Position → List Found
member_faults known a k name at = mismatch (lacks_struct a k) at ++ where_it_comes (lacks_member known k name.text) fault.UnknownName (name_place name)

-- ---- names

-- a constant has none, and a library call is no value
abbrev pub undeclared_faults : Text → Position → List Found
undeclared_faults name at =
    if is_some (constant_named name) then []
    else (if is_some (library_named name) then found_at fault.TypeMismatch at ∷ [] else found_at fault.UnknownName at ∷ [])

-- `main` is no value, and an undefined function is unknown
abbrev pub named_faults : Known → Option Meaning → Text → Position → List Found
named_faults known (Some (variable t)) name at = []
named_faults known (Some (function_of f)) name at =
    where_it_comes (is_main name) fault.BadCall at ++ where_it_comes (not (has_name known.defined name)) fault.UnknownName at
named_faults known None name at = undeclared_faults name at

-- ---- calls

-- how many arguments a call passes
abbrev pub count_of : Exps → ℕ
count_of no_exp = 0
count_of (and_exp e es) = suc (count_of es)

-- a call with more or fewer arguments than are wanted (C99 6.5.2.2)
abbrev pub count_faults : ℕ → ℕ → Position → List Found
count_faults many count at = where_it_comes (not (many == count)) fault.BadCall at

-- the first argument is a string literal, as a format must be
abbrev pub begins_with_text : Exps → Bool
begins_with_text (and_exp (text bytes at) es) = true
begins_with_text _ = false

-- the arguments that a call wants. A `printf` wants those of its conversions, and a text alone where they are out of the profile.
abbrev pub printf_wants : Option ℕ → List Wanted
printf_wants None = wants.Text ∷ []
printf_wants (Some n) = callee_wants (printf_callee (Some n))

-- those of `printf` go by how many conversions its format has
abbrev pub some_library_wants : LibraryName → Option ℕ → List Wanted
some_library_wants library.PrintFormat format = printf_wants format
some_library_wants c format = wanted_by c

-- nothing is wanted where no call has the name
abbrev pub library_wants : Option LibraryName → Option ℕ → List Wanted
library_wants None format = []
library_wants (Some c) format = some_library_wants c format

-- nothing is wanted where the variable doesn't point to functions
abbrev pub pointer_wants : Option Signature → List Wanted
pointer_wants None = []
pointer_wants (Some f) = f.params

-- what the arguments are judged by; surplus ones as expressions only
abbrev pub wants_of : Known → Text → Option ℕ → Option Meaning → List Wanted
wants_of known name format (Some (variable t)) = pointer_wants (pointed_signature known t)
wants_of known name format (Some (function_of f)) = f.params
wants_of known name format None = library_wants (library_named name) format

-- no pointer type tells what a `malloc` is to make
abbrev pub has_no_target : Target → Bool
has_no_target no_target = true
has_no_target _ = false

-- a format whose conversions are out of the profile has this fault alone
abbrev pub printf_count_faults : Bool → Option ℕ → ℕ → Position → List Found
printf_count_faults true None many at = []
printf_count_faults true (Some n) many at = count_faults many (n + 1) at
printf_count_faults false format many at = where_it_comes (many == 0) fault.BadCall at

-- a `malloc` without a target is out of the profile
abbrev pub library_call_faults : LibraryName → Target → Bool → Option ℕ → ℕ → Position → List Found
library_call_faults library.Malloc w is_format format many at = where_it_comes (has_no_target w) fault.OutOfProfile at ++ count_faults many 1 at
library_call_faults library.PrintFormat w is_format format many at = printf_count_faults is_format format many at
library_call_faults c w is_format format many at = count_faults many (length (wanted_by c)) at

-- the name isn't declared: a library call, a constant, or unknown
abbrev pub unseen_call_faults : Option LibraryName → Text → Target → Bool → Option ℕ → ℕ → Position → List Found
unseen_call_faults (Some c) name w is_format format many at = library_call_faults c w is_format format many at
unseen_call_faults None name w is_format format many at = if is_some (constant_named name) then found_at fault.TypeMismatch at ∷ [] else found_at fault.UnknownName at ∷ []

-- a variable is called only where it points to functions
abbrev pub pointer_call_faults : Option Signature → ℕ → Position → List Found
pointer_call_faults None many at = mismatch true at
pointer_call_faults (Some f) many at = count_faults many (length f.params) at

-- the faults of a call that stand at the called name, but for those of its arguments' types
abbrev pub callee_faults : Known → Text → Target → Bool → Option ℕ → ℕ → Position → Option Meaning → List Found
callee_faults known name w is_format format many at (Some (variable t)) = pointer_call_faults (pointed_signature known t) many at
callee_faults known name w is_format format many at (Some (function_of f)) =
    where_it_comes (is_main name) fault.BadCall at ++ where_it_comes (not (has_name known.defined name)) fault.UnknownName at ++ count_faults many (length f.params) at
callee_faults known name w is_format format many at None = unseen_call_faults (library_named name) name w is_format format many at

-- a text with conversions out of the profile
abbrev pub format_faults : Bool → Option LibraryName → Option Meaning → Option ℕ → Position → List Found
format_faults true (Some library.PrintFormat) None None at = found_at fault.OutOfProfile at ∷ []
format_faults _ _ _ _ at = []

-- the name of a function that a thread is to begin with
abbrev pub root_name_faults : Known → Option Meaning → Text → Position → List Found
root_name_faults known (Some (variable t)) name at = []
root_name_faults known (Some (function_of f)) name at = where_it_comes (not (has_name known.defined name)) fault.UnknownName at
root_name_faults known None name at = where_it_comes (not (is_some (constant_named name)) && not (is_some (library_named name))) fault.UnknownName at

-- where the start of a thread is a name that nothing declares or defines
abbrev pub root_faults : Known → Exp → List Found
root_faults known (named name at) = root_name_faults known (seen known name) name at
root_faults known _ = []

-- the faults of an argument for what is wanted
abbrev pub argument_faults : Known → Wanted → Exp → Standing → Position → List Found
argument_faults known (wants.Fits t) e s at = mismatch (not (accepts (starred_type t) (operand_of s))) at
argument_faults known wants.Anything e s at = []
argument_faults known wants.Attribute e s at = where_it_comes (not (is_null s)) fault.OutOfProfile (first_place e)
argument_faults known wants.Root e s at = where_it_comes (not (is_root known e)) fault.BadRoot (first_place e) ++ root_faults known e
argument_faults known wants.Text e s at = where_it_comes (not (is_text e)) fault.OutOfProfile (first_place e)

-- a name alone, without parentheses
abbrev pub is_named : Exp → Bool
is_named (named name at) = true
is_named _ = false

-- the argument is judged as an expression too: a text that is wanted isn't, nor the name of a function
abbrev pub is_judged : Wanted → Exp → Bool
is_judged (wants.Fits t) e = true
is_judged wants.Anything e = true
is_judged wants.Attribute e = true
is_judged wants.Root e = not (is_named e)
is_judged wants.Text e = not (is_text e)

-- its own faults count only where it is judged
abbrev pub where_judged : Bool → List Found → List Found
where_judged true own = own
where_judged false own = []

-- its own ones as an expression, where it is judged as one, and those for what is wanted
abbrev pub one_argument_faults : Known → Wanted → Position → Exp → List Found → List Found
one_argument_faults known w at e own = where_judged (is_judged w e) own ++ argument_faults known w e (standing known no_target e) at

-- ---- expressions

-- the constraints on the operands of `?:` (C99 6.5.15)
abbrev pub condition_takes : Operand → Operand → Operand → Bool
condition_takes a b c = is_scalar a && can_choose b c

-- of a value that is let go
abbrev pub go_faults : Standing → Exp → List Found
go_faults s e = mismatch (not (can_go s)) (own_place e)

-- of `++` and `--`
abbrev pub step_faults : Known → Exp → Standing → Position → List Found
step_faults known a s at = place_faults (can_be_place known a) at ++ mismatch (not (steps (standing_type s))) at

-- for faults in a format; (0, 0) without an argument, never shown
abbrev pub place_of_first : Exps → Position
place_of_first no_exp = position_at 0 0
place_of_first (and_exp e es) = own_place e

-- `void` has no size, nor a struct before its definition
abbrev pub sizeof_type_faults : Known → CType → Position → List Found
sizeof_type_faults known t at = mismatch (is_some_void (type_named known t)) at ++ specifier_faults known (t.stars == 0) t.specifier

-- the operand must be a number or a pointer to objects too; the size of a struct doesn't matter
abbrev pub cast_faults : Known → CType → Operand → Position → List Found
cast_faults known t a at = mismatch (not (casts_to (type_named known t) t.stars && can_cast a)) at ++ specifier_faults known false t.specifier

-- the left side is a place, and takes the right one (C99 6.5.16)
abbrev pub assign_faults : Known → AssignOp → Exp → Standing → Operand → Position → List Found
assign_faults known op a s b at = place_faults (can_be_place known a) at ++ mismatch (not (assigns_to op (standing_type s) b)) at

-- of the operator itself, not of its operand
abbrev pub prefix_faults : Known → PrefixOp → Exp → Standing → Position → List Found
prefix_faults known op a s at = place_faults (not (needs_place op) || can_be_place known a) at ++ mismatch (not (prefix_takes op s)) at

-- at the called name and in its format, but for the arguments' own
abbrev pub call_faults : Known → Target → Text → Exps → Position → List Found
call_faults known w name es at =
    callee_faults known name w (begins_with_text es) (format_of es) (count_of es) at (seen known name)
    ++ format_faults (begins_with_text es) (library_named name) (seen known name) (format_of es) (place_of_first es)

abbrev mutual
  pub faults : Known → Target → Exp → List Found
  faults known w (comma e es at) = faults known no_target e ++ go_faults (standing known no_target e) e ++ rest_faults known es
  faults known w (assign a op b at) =
      faults known no_target a
      ++ faults known (assigned_target op (standing known no_target a)) b
      ++ assign_faults known op a (standing known no_target a) (operand_of (standing known (assigned_target op (standing known no_target a)) b)) at
  faults known w (conditional a b c at) =
      faults known no_target a ++ faults known no_target b ++ faults known no_target c
      ++ mismatch (not (condition_takes (operand_of (standing known no_target a)) (operand_of (standing known no_target b)) (operand_of (standing known no_target c)))) at
  faults known w (binary a op b at) =
      faults known no_target a ++ faults known no_target b
      ++ mismatch (not (takes op (operand_of (standing known no_target a)) (operand_of (standing known no_target b)))) at
  faults known w (prefix op a at) = faults known no_target a ++ prefix_faults known op a (standing known no_target a) at
  faults known w (sizeof_exp a at) = faults known no_target a ++ mismatch (not (is_sized known (standing known no_target a))) at
  faults known w (sizeof_type t at) = sizeof_type_faults known t at
  faults known w (cast t a at) =
      faults known (cast_target (type_named known t) t.stars) a
      ++ cast_faults known t (operand_of (standing known (cast_target (type_named known t) t.stars) a)) at
  faults known w (index a b at) =
      faults known no_target a ++ faults known no_target b
      ++ mismatch (not (can_index (operand_of (standing known no_target a)) (operand_of (standing known no_target b)))) at
  faults known w (member a name at) =
      faults known no_target a
      ++ member_faults known (operand_of (standing known no_target a)) (struct_of (standing known no_target a)) name at
  faults known w (arrow a name at) =
      faults known no_target a
      ++ member_faults known (operand_of (standing known no_target a)) (pointed_struct (operand_of (standing known no_target a))) name at
  faults known w (post_increment a at) = faults known no_target a ++ step_faults known a (standing known no_target a) at
  faults known w (post_decrement a at) = faults known no_target a ++ step_faults known a (standing known no_target a) at
  faults known w (named name at) = named_faults known (seen known name) name at
  faults known w (call name es at) = call_faults known w name es at ++ arguments_faults known (wants_of known name (format_of es) (seen known name)) at es
  faults known w (number n at) = []
  faults known w (letter n at) = []
  faults known w (text bytes at) = found_at fault.BadCall at ∷ []
  faults known w (null at) = []
  faults known w (paren a at) = faults known w a

  -- of the expressions after a comma
  pub rest_faults : Known → Exps → List Found
  rest_faults known no_exp = []
  rest_faults known (and_exp e es) = faults known no_target e ++ go_faults (standing known no_target e) e ++ rest_faults known es

  pub arguments_faults : Known → List Wanted → Position → Exps → List Found
  arguments_faults known ws at no_exp = []
  arguments_faults known [] at (and_exp e es) = faults known no_target e ++ arguments_faults known [] at es
  arguments_faults known (w ∷ ws) at (and_exp e es) =
      one_argument_faults known w at e (faults known no_target e) ++ arguments_faults known ws at es

-- of an expression that stands for itself
abbrev pub expression_faults : Known → Exp → List Found
expression_faults known e = faults known no_target e
