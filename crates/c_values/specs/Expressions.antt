-- The core tree of an expression (C99 6.5). One that is constant, and whose computing doesn't trap, is its value.
use Rattle.std.specs.Prelude.{ℕ, Bool, true, false, if◌then◌else◌, pos, List, [], ◌∷◌, ◌++◌, Option, Some, None, Ok, Err}
use Rattle.rr_base.specs.Texts.{Text}
use Rattle.word_semantics.specs.declared.operator.BinaryOp.TheVariants as flow
use Rattle.c_tree.specs.Tree.{Exp, comma, assign, conditional, binary, prefix, sizeof_exp, sizeof_type, cast, index, member, arrow, post_increment, post_decrement, named, call, number, letter, text, null, paren, Exps, no_exp, and_exp}
use Rattle.rr_base.specs.declared.position.Position.{Position}
use Rattle.c_types.specs.declared.types.ObjectType.{ObjectType}
use Rattle.c_types.specs.declared.library.Wanted.{Wanted}
use Rattle.c_types.specs.Numbers.{Computed, is_zero}
use Rattle.c_types.specs.Constants.{is_constant}
use Rattle.c_constants.specs.Values.{value_here}
use Rattle.c_types.specs.Scopes.{Known, Meaning, variable, function_of, seen, function_numbered, type_named}
use Rattle.c_types.specs.Operands.{a_place, operand_of, type_operand}
use Rattle.c_types.specs.Library.{library_named}
use Rattle.c_types.specs.Standing.{Target, no_target, assigned_target, cast_target, struct_of, pointed_struct, type_function, standing, format_of}
use Rattle.c_rules.specs.Faults.{wants_of}
use Rattle.core_tree.specs.Core as core
use Rattle.c_operators.specs.declared.home.Home.{Home}
use Rattle.c_operators.specs.declared.home.Home.TheVariants as home
use Rattle.c_operators.specs.declared.denoted.WordKind.{WordKind}
use Rattle.c_operators.specs.declared.denoted.WordKind.TheVariants as kind
use Rattle.c_operators.specs.Denoted.{position_of, Denoted, denoted_register, denoted_cells, denoted_zero, denoted_null, denoted_value, Part, part_by, is_pointing, kind_of, value_by, value_in, wanted_in}
use Rattle.c_operators.specs.Context.{Context, site_at, home_of, global_named, offset_in, function_word}
use Rattle.c_operators.specs.Operators.{binary_in, conditional_in, index_in, stepped_in, assigned_in, prefix_in, cast_in, member_in, arrow_in}
use Rattle.c_operators.specs.Commas.{with_last, joined}
use Rattle.c_values.specs.Calls.{operand_for, library_called, function_called, pointer_called}

-- ---- constants

-- where computing the constant traps, the expression stays, and traps when it runs
abbrev pub constant_by : Bool → Computed → Position → Denoted → Denoted
constant_by true (Ok n) at h = denoted_value (core.number n at)
constant_by true (Err t) at h = h
constant_by false c at h = h

-- what is constant is its value
abbrev pub folded : Known → Exp → Position → Denoted → Denoted
folded known e at h = constant_by (is_constant e) (value_here known e) at h

-- ---- names

-- a formal or local where the function keeps it
abbrev pub denoted_in : Home → Position → Denoted
denoted_in (home.Register n) at = denoted_register n at
denoted_in (home.Object n) at = denoted_cells (core.object n at) at

-- a formal or local, or a global
abbrev pub variable_denoted : Context → Text → Option Home → Position → Denoted
variable_denoted h name (Some x) at = denoted_in x at
variable_denoted h name None at = denoted_cells (core.global (global_named h.source name) at) at

-- a function's name is a pointer to the function; an unknown name gives no value
abbrev pub named_denoted : Context → Text → Option Meaning → Position → Denoted
named_denoted h name (Some (variable t)) at = variable_denoted h name (home_of h name) at
named_denoted h name (Some (function_of f)) at = denoted_value (core.number (pos (function_word (function_numbered h.known name))) at)
named_denoted h name None at = denoted_zero at

-- whether an object of the type gives a pointer where it is an operand
abbrev pub is_pointer_type : Option ObjectType → Bool
is_pointer_type None = false
is_pointer_type (Some t) = is_pointing (type_operand t)

-- what the word of an object of the type is
abbrev pub kind_of_type : Option ObjectType → WordKind
kind_of_type None = kind.Number
kind_of_type (Some t) = kind_of (type_operand t)

-- ---- calls

-- the word that a variable holds; one with a fault holds none
abbrev pub held_word : Context → Text → Option ObjectType → Position → core.Exp
held_word h name None at = core.number (pos 0) at
held_word h name (Some t) at = value_by (a_place t) (variable_denoted h name (home_of h name) at)

-- the number of the functions' type, where a variable points to functions
abbrev pub function_held : Option ObjectType → Option ℕ
function_held None = None
function_held (Some t) = type_function t

-- a call, by what its name means there
abbrev pub called : Context → Text → Option Meaning → Exps → List core.Exp → Position → core.Exp
called h name (Some (function_of f)) es arguments at = function_called h.known name f arguments at
called h name (Some (variable t)) es arguments at = pointer_called h.known (function_held t) (held_word h name t at) arguments at
called h name None es arguments at = library_called h.known (site_at h.source.sites at) (library_named name) es arguments at

-- ---- expressions

-- `e` alone, or `e` and then the rest behind its commas
abbrev pub with_tail : core.Exp → Option core.Exp → Position → core.Exp
with_tail e None at = e
with_tail e (Some tail) at = core.comma e tail at

abbrev mutual
  pub denoted : Context → Target → Exp → Denoted
  denoted h w (comma e es at) = denoted_value (with_tail (value_by (standing h.known no_target e) (denoted h no_target e)) (tail_of h es [] (position_of at)) (position_of at))
  denoted h w (assign a op b at) =
      denoted_value (assigned_in h.source op (part_by (standing h.known no_target a) (denoted h no_target a)) (part_by (standing h.known (assigned_target op (standing h.known no_target a)) b) (denoted h (assigned_target op (standing h.known no_target a)) b)) (position_of at))
  denoted h w (conditional a b c at) =
      folded h.known (conditional a b c at) (position_of at) (denoted_value (conditional_in (part_by (standing h.known no_target a) (denoted h no_target a)) (part_by (standing h.known no_target b) (denoted h no_target b)) (part_by (standing h.known no_target c) (denoted h no_target c)) (position_of at)))
  denoted h w (binary a op b at) =
      folded h.known (binary a op b at) (position_of at) (denoted_value (binary_in h.source op (part_by (standing h.known no_target a) (denoted h no_target a)) (part_by (standing h.known no_target b) (denoted h no_target b)) (position_of at)))
  denoted h w (prefix op a at) =
      folded h.known (prefix op a at) (position_of at) (prefix_in h.source op (part_by (standing h.known no_target a) (denoted h no_target a)) (position_of at))
  denoted h w (sizeof_exp a at) = folded h.known (sizeof_exp a at) (position_of at) (denoted_zero (position_of at))
  denoted h w (sizeof_type t at) = folded h.known (sizeof_type t at) (position_of at) (denoted_zero (position_of at))
  denoted h w (cast t a at) =
      folded h.known (cast t a at) (position_of at) (denoted_value (cast_in (is_pointer_type (type_named h.known t)) (part_by (standing h.known (cast_target (type_named h.known t) t.stars) a) (denoted h (cast_target (type_named h.known t) t.stars) a)) (position_of at)))
  denoted h w (index a b at) = index_in h.source (part_by (standing h.known no_target a) (denoted h no_target a)) (part_by (standing h.known no_target b) (denoted h no_target b)) (position_of at)
  denoted h w (member a name at) = member_in (denoted h no_target a) (offset_in h.source (struct_of (standing h.known no_target a)) name.text) (position_of at)
  denoted h w (arrow a name at) = arrow_in (part_by (standing h.known no_target a) (denoted h no_target a)) (offset_in h.source (pointed_struct (operand_of (standing h.known no_target a))) name.text) (position_of at)
  denoted h w (post_increment a at) = denoted_value (stepped_in h.source flow.Add (part_by (standing h.known no_target a) (denoted h no_target a)) true (position_of at))
  denoted h w (post_decrement a at) = denoted_value (stepped_in h.source flow.Subtract (part_by (standing h.known no_target a) (denoted h no_target a)) true (position_of at))
  denoted h w (named name at) = folded h.known (named name at) (position_of at) (named_denoted h name (seen h.known name) (position_of at))
  denoted h w (call name es at) =
      denoted_value (called h name (seen h.known name) es (arguments h (wants_of h.known name (format_of es) (seen h.known name)) es) (position_of at))
  denoted h w (number n at) = if is_zero n then denoted_zero (position_of at) else denoted_value (core.number n (position_of at))
  denoted h w (letter n at) = denoted_value (core.number (pos n) (position_of at))
  denoted h w (text bytes at) = denoted_zero (position_of at)
  denoted h w (null at) = denoted_null (position_of at)
  denoted h w (paren a at) = denoted h w a

  -- expressions with commas between them, after those so far: each is computed
  pub tail_of : Context → Exps → List (Option core.Exp) → Position → Option core.Exp
  tail_of h no_exp so_far at = joined so_far None at
  tail_of h (and_exp e es) so_far at = tail_of h es (with_last (value_by (standing h.known no_target e) (denoted h no_target e)) so_far at) at

  -- the operands of a call, each as it is wanted
  pub arguments : Context → List Wanted → Exps → List core.Exp
  arguments h [] es = []
  arguments h (x ∷ xs) no_exp = []
  arguments h (x ∷ xs) (and_exp e es) = operand_for x (part_by (standing h.known no_target e) (denoted h no_target e)) ++ arguments h xs es

-- an expression with both its type and what stands for it
abbrev pub part : Context → Target → Exp → Part
part h w e = part_by (standing h.known w e) (denoted h w e)

-- the word of an expression
abbrev pub value_of : Context → Exp → core.Exp
value_of h e = value_in (part h no_target e)

-- for a returned or stored value, where its type says which word is wanted
abbrev pub wanted_of : Context → WordKind → Target → Exp → core.Exp
wanted_of h k w e = wanted_in k (part h w e)
