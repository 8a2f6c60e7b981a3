-- What objects start as (C99 6.7.8), and which rules that breaks. Every mismatch of types stands at the `=`.
use Rattle.std.specs.Prelude.{ℕ, ◌+◌, nat_lt, Bool, true, false, not, ◌&&◌, ◌||◌, if◌then◌else◌, List, [], ◌∷◌, ◌++◌, Option, Some, None, is_none}
use Rattle.c_tree.specs.Tree.{Exp, named, prefix, paren, number, null, Init, value, braces, mutex_start, cond_start, rwlock_start, Inits, no_init, and_init}
use Rattle.rr_base.specs.declared.position.Position.{Position}
use Rattle.c_types.specs.declared.types.BaseType.{BaseType}
use Rattle.c_types.specs.declared.types.BaseType.TheVariants as base
use Rattle.c_types.specs.declared.types.Layer.{Layer}
use Rattle.c_types.specs.declared.types.Layer.TheVariants as layer
use Rattle.c_types.specs.declared.types.ObjectType.{ObjectType}
use Rattle.c_types.specs.declared.fault.Found.{Found}
use Rattle.c_types.specs.declared.fault.FaultKind.TheVariants as fault
use Rattle.c_types.specs.Constants.{is_constant, is_address}
use Rattle.c_types.specs.Types.{bare, layered_is_array}
use Rattle.c_types.specs.Scopes.{Known, member_at, Meaning, variable, function_of, seen}
use Rattle.c_types.specs.Operands.{Operand, operand_of, same_base, is_scalar, accepts}
use Rattle.c_types.specs.Standing.{Target, no_target, some_target, type_target, points_to_functions, standing}
use Rattle.c_types.specs.Numbers.{is_zero}
use Rattle.c_types.specs.Found.{where_it_comes}
use Rattle.c_rules.specs.Faults.{first_place, mismatch, faults}
use Rattle.c_rules.specs.Sizes.{constant_faults}

-- ---- the parts of an object that braces start, one after another

-- a part with this number, counted from 0, of which there are so many, all of one type
abbrev pub alike_part : ℕ → ObjectType → ℕ → Option (Option ObjectType)
alike_part many t k = if nat_lt k many then Some (Some t) else None

-- braces may stand round one scalar
abbrev pub base_part : Known → BaseType → ℕ → Option (Option ObjectType)
base_part known base.Int k = alike_part 1 (bare base.Int) k
base_part known (base.Struct s) k = member_at known s k
base_part known (base.Function f) k = alike_part 1 (bare (base.Function f)) k
base_part known _ k = None

-- a pointer may stand in braces as one part (C99 6.7.8)
abbrev pub layered_part : Known → List Layer → BaseType → ℕ → Option (Option ObjectType)
layered_part known [] b k = base_part known b k
layered_part known (layer.Pointer ∷ ls) b k = alike_part 1 (record { layers = layer.Pointer ∷ ls; base = b }) k
layered_part known (layer.Array n ∷ ls) b k = alike_part n (record { layers = ls; base = b }) k

-- the type of the part with this number, if there is one. It isn't known where that of the whole isn't
abbrev pub part_at : Known → Option ObjectType → ℕ → Option (Option ObjectType)
part_at known None k = Some None
part_at known (Some t) k = layered_part known t.layers t.base k

-- a part too many counts as one of unknown type
abbrev pub part_type : Option (Option ObjectType) → Option ObjectType
part_type None = None
part_type (Some t) = t

-- ---- constants of globals

-- the name of an array alone is an address constant (C99 6.6); unknown types may be arrays
abbrev pub is_array_meaning : Option Meaning → Bool
is_array_meaning (Some (variable None)) = true
is_array_meaning (Some (variable (Some t))) = layered_is_array t.layers
is_array_meaning _ = false

-- an object, and no function or undeclared name
abbrev pub is_variable : Option Meaning → Bool
is_variable (Some (variable t)) = true
is_variable _ = false

-- a name whose address `&` takes, also in parentheses
abbrev pub is_variable_name : Known → Exp → Bool
is_variable_name known (named name at) = is_variable (seen known name)
is_variable_name known (paren e at) = is_variable_name known e
is_variable_name known _ = false

-- what a global pointer may start as: a name of an array, or `&` of a variable, of which all that are seen here are globals
abbrev pub is_constant_address : Known → Exp → Bool
is_constant_address known (null at) = true
is_constant_address known (number n at) = is_zero n
is_constant_address known (named name at) = is_array_meaning (seen known name)
is_constant_address known (prefix op e at) = is_address op && is_variable_name known e
is_constant_address known (paren e at) = is_constant_address known e
is_constant_address known _ = false

-- a name that means a function
abbrev pub is_function_meaning : Option Meaning → Bool
is_function_meaning (Some (function_of f)) = true
is_function_meaning _ = false

-- what a global pointer to functions may start as: a function's name, `NULL` or `0`
abbrev pub is_constant_function : Known → Exp → Bool
is_constant_function known (null at) = true
is_constant_function known (number n at) = is_zero n
is_constant_function known (named name at) = is_function_meaning (seen known name)
is_constant_function known (paren e at) = is_constant_function known e
is_constant_function known _ = false

-- what a global of some type may start as
abbrev pub is_some_constant : Known → Exp → Bool
is_some_constant known e = is_constant e || is_constant_address known e || is_constant_function known e

-- it starts as an address, not as a number
abbrev pub layered_is_pointer : List Layer → Bool
layered_is_pointer [] = false
layered_is_pointer (layer.Pointer ∷ ls) = true
layered_is_pointer (layer.Array n ∷ ls) = false

-- a pointer starts as an address or a function, and all else as a constant; where the type isn't known, each would do
abbrev pub global_value_faults : Known → Option ObjectType → Exp → List Found
global_value_faults known None e = where_it_comes (not (is_some_constant known e)) fault.NotConstant (first_place e)
global_value_faults known (Some t) e =
    if layered_is_pointer t.layers then where_it_comes (not (is_constant_address known e)) fault.NotConstant (first_place e)
    else (if points_to_functions t then where_it_comes (not (is_constant_function known e)) fault.NotConstant (first_place e)
    else constant_faults known e)

-- ---- one initial

-- some type would do, where it isn't known
abbrev pub starts_as : Option ObjectType → Operand → Bool
starts_as None a = is_scalar a
starts_as (Some t) a = accepts t a

-- what a `malloc` after the `=` is to make
abbrev pub value_target : Option ObjectType → Target
value_target None = some_target
value_target (Some t) = type_target t

-- the type is this base itself, without pointers or arrays
abbrev pub layered_is_base : BaseType → List Layer → BaseType → Bool
layered_is_base c [] b = same_base c b
layered_is_base c (l ∷ ls) b = false

-- the object is of this type, or may be
abbrev pub may_be_base : BaseType → Option ObjectType → Bool
may_be_base c None = true
may_be_base c (Some t) = layered_is_base c t.layers t.base

-- objects with static storage need constants to start as (C99 6.7.8)
abbrev pub where_global : Bool → List Found → List Found
where_global true own = own
where_global false own = []

-- a value, at the `=`
abbrev pub value_faults : Known → Bool → Target → Option ObjectType → Position → Exp → List Found
value_faults known is_global w t at e =
    faults known w e
    ++ mismatch (not (starts_as t (operand_of (standing known w e)))) at
    ++ where_global is_global (global_value_faults known t e)

abbrev mutual
  pub initial_faults : Known → Bool → Target → Option ObjectType → Position → Init → List Found
  initial_faults known is_global w t at (value e) = value_faults known is_global w t at e
  initial_faults known is_global w t at (braces is trailing here) = inits_faults known is_global t 0 at is
  initial_faults known is_global w t at (mutex_start here) = mismatch (not (may_be_base base.Mutex t)) at
  initial_faults known is_global w t at (cond_start here) = mismatch (not (may_be_base base.Cond t)) at
  initial_faults known is_global w t at (rwlock_start here) = mismatch (not (may_be_base base.RwLock t)) at

  -- each for its part of the object from this one on, and no more of them than parts. In braces nothing is the whole right side of the `=`
  pub inits_faults : Known → Bool → Option ObjectType → ℕ → Position → Inits → List Found
  inits_faults known is_global t k at no_init = []
  inits_faults known is_global t k at (and_init i is) =
      initial_faults known is_global no_target (part_type (part_at known t k)) at i
      ++ mismatch (is_none (part_at known t k)) at
      ++ inits_faults known is_global t (k + 1) at is

-- the whole of what stands after the `=`
abbrev pub start_faults : Known → Bool → Option ObjectType → Position → Init → List Found
start_faults known is_global t at i = initial_faults known is_global (value_target t) t at i
