-- What an expression is, and which operands C's operators take (C99 6.5). An expression that has a fault in it has no
-- type. An operator over it is judged by its other operands: it is allowed where some type would do.
use Rattle.std.specs.Prelude.{ℕ, ◌==◌, Bool, true, false, not, ◌&&◌, ◌||◌, if◌then◌else◌, List, [], ◌∷◌}
use Rattle.c_tree.specs.declared.expr.BinaryOp.{BinaryOp}
use Rattle.c_tree.specs.declared.expr.BinaryOp.TheVariants as op
use Rattle.c_tree.specs.declared.expr.AssignOp.{AssignOp}
use Rattle.c_tree.specs.declared.expr.AssignOp.TheVariants as assign_op
use Rattle.c_types.specs.declared.types.BaseType.{BaseType}
use Rattle.c_types.specs.declared.types.BaseType.TheVariants as base
use Rattle.c_types.specs.declared.types.Layer.{Layer}
use Rattle.c_types.specs.declared.types.Layer.TheVariants as layer
use Rattle.c_types.specs.declared.types.ObjectType.{ObjectType}
use Rattle.c_types.specs.Types.{bare, int_type, pointer_to}

-- what an expression is
pub data Standing : Type 0 where
  -- it has a fault in it
  no_type : Standing
  -- the literal `0`, which fits every pointer too, and `NULL`
  zero_literal : Standing
  null_literal : Standing
  -- a value, or an object of the type
  a_value : ObjectType → Standing
  a_place : ObjectType → Standing

-- what an operator sees of an operand
pub data Operand : Type 0 where
  any_operand : Operand
  whole : Operand
  zero_operand : Operand
  null_operand : Operand
  -- a pointer to the type; an array is the pointer to its first element
  pointing : ObjectType → Operand
  -- a pointer to functions of the type with this number
  function_operand : ℕ → Operand
  -- Void, a struct, a mutex, a condition variable, a barrier or a read-write lock
  no_operand : Operand

-- of the types without layers operators take only whole numbers and pointers to functions
abbrev pub base_operand : BaseType → Operand
base_operand base.Int = whole
base_operand base.Void = no_operand
base_operand (base.Struct k) = no_operand
base_operand (base.Function k) = function_operand k
base_operand base.Mutex = no_operand
base_operand base.Cond = no_operand
base_operand base.Barrier = no_operand
base_operand base.RwLock = no_operand

-- an array decays to a pointer here (C99 6.3.2.1)
abbrev pub layered_operand : List Layer → BaseType → Operand
layered_operand [] b = base_operand b
layered_operand (layer.Pointer ∷ ls) b = pointing (record { layers = ls; base = b })
layered_operand (layer.Array n ∷ ls) b = pointing (record { layers = ls; base = b })

-- what operators see of an object or a value of this type
abbrev pub type_operand : ObjectType → Operand
type_operand t = layered_operand t.layers t.base

-- a literal `0` stays apart, since it fits pointers too
abbrev pub operand_of : Standing → Operand
operand_of no_type = any_operand
operand_of zero_literal = zero_operand
operand_of null_literal = null_operand
operand_of (a_value t) = type_operand t
operand_of (a_place t) = type_operand t

-- what an object of the type gives as a value
abbrev pub layered_value : List Layer → BaseType → Standing
layered_value [] b = a_value (bare b)
layered_value (layer.Pointer ∷ ls) b = a_value (pointer_to (record { layers = ls; base = b }))
layered_value (layer.Array n ∷ ls) b = a_value (pointer_to (record { layers = ls; base = b }))

-- reading an object, where an array decays to a pointer (C99 6.3.2.1)
abbrev pub type_value : ObjectType → Standing
type_value t = layered_value t.layers t.base

-- no longer a place, nor a literal that fits several types
abbrev pub as_value : Standing → Standing
as_value no_type = no_type
as_value zero_literal = a_value int_type
as_value null_literal = a_value (pointer_to (bare base.Void))
as_value (a_value t) = a_value t
as_value (a_place t) = type_value t

-- ---- tests

-- two structs are the same type where their definitions are the same
abbrev pub same_base : BaseType → BaseType → Bool
same_base base.Int base.Int = true
same_base base.Void base.Void = true
same_base (base.Struct j) (base.Struct k) = j == k
same_base (base.Function j) (base.Function k) = j == k
same_base base.Mutex base.Mutex = true
same_base base.Cond base.Cond = true
same_base base.Barrier base.Barrier = true
same_base base.RwLock base.RwLock = true
same_base _ _ = false

-- arrays of different lengths are different types
abbrev pub same_layers : List Layer → List Layer → Bool
same_layers [] [] = true
same_layers (layer.Pointer ∷ x) (layer.Pointer ∷ y) = same_layers x y
same_layers (layer.Array m ∷ x) (layer.Array n ∷ y) = (m == n) && same_layers x y
same_layers _ _ = false

-- compatible types, which here are equal ones (C99 6.2.7)
abbrev pub same_type : ObjectType → ObjectType → Bool
same_type s t = same_base s.base t.base && same_layers s.layers t.layers

-- the type is `void` itself, no pointer to it
abbrev pub layered_is_void : List Layer → BaseType → Bool
layered_is_void [] base.Void = true
layered_is_void [] _ = false
layered_is_void (l ∷ ls) b = false

-- no object has this type, but a pointer may point to it
abbrev pub is_void : ObjectType → Bool
is_void t = layered_is_void t.layers t.base

-- the operand has no fault in it
abbrev pub is_typed : Operand → Bool
is_typed any_operand = false
is_typed _ = true

-- a number, the literal `0`, or what may be one despite a fault
abbrev pub is_whole : Operand → Bool
is_whole any_operand = true
is_whole whole = true
is_whole zero_operand = true
is_whole _ = false

-- Int or a pointer, also one to functions
abbrev pub is_scalar : Operand → Bool
is_scalar no_operand = false
is_scalar _ = true

-- a pointer to objects, or what fits every one
abbrev pub is_some_pointer : Operand → Bool
is_some_pointer any_operand = true
is_some_pointer whole = false
is_some_pointer zero_operand = true
is_some_pointer null_operand = true
is_some_pointer (pointing t) = true
is_some_pointer (function_operand k) = false
is_some_pointer no_operand = false

-- a pointer that can be moved by elements: to no Void
abbrev pub is_movable : Operand → Bool
is_movable any_operand = true
is_movable (pointing t) = not (is_void t)
is_movable _ = false

-- a `void *`, which has no arithmetic here
abbrev pub points_to_void : Operand → Bool
points_to_void (pointing t) = is_void t
points_to_void _ = false

-- two pointers of one type
abbrev pub are_alike : Operand → Operand → Bool
are_alike (pointing s) (pointing t) = same_type s t
are_alike a b = is_some_pointer a && is_some_pointer b

-- two pointers of one type, or one of them a `void *`
abbrev pub are_compatible : Operand → Operand → Bool
are_compatible (pointing s) (pointing t) = is_void s || is_void t || same_type s t
are_compatible a b = is_some_pointer a && is_some_pointer b

-- what fits each pointer to functions: `0`, `NULL`, or what has a fault
abbrev pub fits_functions : Operand → Bool
fits_functions any_operand = true
fits_functions zero_operand = true
fits_functions null_operand = true
fits_functions _ = false

-- two pointers to functions of one type, or one and what fits each
abbrev pub are_functions : Operand → Operand → Bool
are_functions (function_operand j) (function_operand k) = j == k
are_functions (function_operand j) b = fits_functions b
are_functions a (function_operand k) = fits_functions a
are_functions _ _ = false

-- operands for arithmetic and bitwise operators
abbrev pub are_whole : Operand → Operand → Bool
are_whole a b = is_whole a && is_whole b

-- two numbers, or a pointer and a number in either order (C99 6.5.6)
abbrev pub can_add : Operand → Operand → Bool
can_add a b = are_whole a b || (is_movable a && is_whole b) || (is_whole a && is_movable b)

-- two pointers have a distance where they are of one type, which isn't `void *`
abbrev pub have_distance : Operand → Operand → Bool
have_distance a b = are_alike a b && not (points_to_void a) && not (points_to_void b) && (is_movable a || is_movable b)

-- two numbers, a pointer less a number, or two pointers (C99 6.5.6)
abbrev pub can_subtract : Operand → Operand → Bool
can_subtract a b = are_whole a b || (is_movable a && is_whole b) || have_distance a b

-- the constraints on both operands (C99 6.5.5 to 6.5.14); a fault inside may pass
abbrev pub takes : BinaryOp → Operand → Operand → Bool
takes op.LogicalOr a b = is_scalar a && is_scalar b
takes op.LogicalAnd a b = is_scalar a && is_scalar b
takes op.Or a b = are_whole a b
takes op.Xor a b = are_whole a b
takes op.And a b = are_whole a b
takes op.Equal a b = are_whole a b || are_compatible a b || are_functions a b
takes op.NotEqual a b = are_whole a b || are_compatible a b || are_functions a b
takes op.Less a b = are_whole a b || are_alike a b
takes op.Greater a b = are_whole a b || are_alike a b
takes op.LessEqual a b = are_whole a b || are_alike a b
takes op.GreaterEqual a b = are_whole a b || are_alike a b
takes op.ShiftLeft a b = are_whole a b
takes op.ShiftRight a b = are_whole a b
takes op.Add a b = can_add a b
takes op.Subtract a b = can_subtract a b
takes op.Multiply a b = are_whole a b
takes op.Divide a b = are_whole a b
takes op.Remainder a b = are_whole a b

-- ---- results

-- the one arithmetic type here, to which all numbers belong
abbrev pub int_value : Standing
int_value = a_value int_type

-- a pointer moved by elements, or a number
abbrev pub sum_of : Operand → Operand → Standing
sum_of (pointing t) b = a_value (pointer_to t)
sum_of a (pointing t) = a_value (pointer_to t)
sum_of a b = int_value

-- a pointer moved back, or the distance of two pointers as a number
abbrev pub difference_of : Operand → Operand → Standing
difference_of (pointing t) b = if is_whole b then a_value (pointer_to t) else int_value
difference_of a b = int_value

-- the type where both operands are taken; comparisons give a number
abbrev pub result_of : BinaryOp → Operand → Operand → Standing
result_of op.Add a b = sum_of a b
result_of op.Subtract a b = difference_of a b
result_of _ a b = int_value

-- no type where an operand has none, or where the operator doesn't take them
abbrev pub settled : Bool → Operand → Operand → Standing → Standing
settled allowed a b s = if allowed && is_typed a && is_typed b then s else no_type

-- the type of `a op b`, if its operands are allowed
abbrev pub binary_standing : BinaryOp → Operand → Operand → Standing
binary_standing o a b = settled (takes o a b) a b (result_of o a b)

-- ---- assignment

-- the operand may be stored into an object of the type
abbrev pub layered_accepts : List Layer → BaseType → Operand → Bool
layered_accepts [] base.Int a = is_whole a
layered_accepts [] (base.Function k) a = are_functions (function_operand k) a
layered_accepts [] _ a = false
layered_accepts (layer.Pointer ∷ ls) b a = are_compatible (pointing (record { layers = ls; base = b })) a
layered_accepts (layer.Array n ∷ ls) b a = false

-- what `=` may store into the object (C99 6.5.16.1)
abbrev pub accepts : ObjectType → Operand → Bool
accepts t a = layered_accepts t.layers t.base a

-- the object may be moved by the operand
abbrev pub layered_moves : List Layer → BaseType → Operand → Bool
layered_moves [] base.Int a = is_whole a
layered_moves [] _ a = false
layered_moves (layer.Pointer ∷ ls) b a = not (is_void (record { layers = ls; base = b })) && is_whole a
layered_moves (layer.Array n ∷ ls) b a = false

-- `+=`, `-=`, `++` and `--` may change the object by this operand
abbrev pub moves : ObjectType → Operand → Bool
moves t a = layered_moves t.layers t.base a

-- the type is the whole number, without pointers or arrays
abbrev pub layered_is_int : List Layer → BaseType → Bool
layered_is_int [] base.Int = true
layered_is_int [] _ = false
layered_is_int (l ∷ ls) b = false

-- all other compound assignments, as `*=`, need this type (C99 6.5.16.2)
abbrev pub is_int_type : ObjectType → Bool
is_int_type t = layered_is_int t.layers t.base

-- an object of the type may be assigned to by the operator
abbrev pub assigns : AssignOp → ObjectType → Operand → Bool
assigns assign_op.Assign t a = accepts t a
assigns assign_op.Add t a = moves t a
assigns assign_op.Subtract t a = moves t a
assigns _ t a = is_int_type t && is_whole a

-- the same where the object's type isn't known
abbrev pub assigns_some : AssignOp → Operand → Bool
assigns_some assign_op.Assign a = is_scalar a
assigns_some _ a = is_whole a

-- ---- the choice `?:`

-- the second and third operands have a type in common (C99 6.5.15)
abbrev pub can_choose : Operand → Operand → Bool
can_choose a b = are_whole a b || are_compatible a b || are_functions a b

-- the one that points to Void, if there is one
abbrev pub voider : ObjectType → ObjectType → ObjectType
voider s t = if is_void t then t else s

-- to what the result points; to `void` where both are null pointers
abbrev pub chosen_target : Operand → Operand → ObjectType
chosen_target (pointing s) (pointing t) = voider s t
chosen_target (pointing s) b = s
chosen_target a (pointing t) = t
chosen_target a b = bare base.Void

-- the type that the second and third operands have in common
abbrev pub chosen : Operand → Operand → Standing
chosen (function_operand k) b = a_value (bare (base.Function k))
chosen a (function_operand k) = a_value (bare (base.Function k))
chosen a b = if are_whole a b then int_value else a_value (pointer_to (chosen_target a b))
