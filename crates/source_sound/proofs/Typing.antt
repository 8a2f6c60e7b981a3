-- The types of expressions without a fault: each expression has one, and what it points to could be declared.
use Rattle.std.proofs.Common.{◌≡◌, ℕ, zero, suc, Bool, true, false, not, ◌&&◌, ◌||◌, if◌then◌else◌, List, [], ◌∷◌, replicate, Some, refl, sym, true≢false}
use Rattle.std.proofs.lemmas.Bool.{and_from, and_parts}
use Rattle.c_tree.specs.declared.expr.PrefixOp.{PrefixOp}
use Rattle.c_tree.specs.declared.expr.PrefixOp.TheVariants as prefix_op
use Rattle.c_tree.specs.declared.expr.BinaryOp.{BinaryOp}
use Rattle.c_tree.specs.declared.expr.BinaryOp.TheVariants as op
use Rattle.c_tree.specs.declared.expr.AssignOp.{AssignOp}
use Rattle.c_types.specs.declared.types.BaseType.{BaseType}
use Rattle.c_types.specs.declared.types.BaseType.TheVariants as base
use Rattle.c_types.specs.declared.types.Layer.{Layer}
use Rattle.c_types.specs.declared.types.Layer.TheVariants as layer
use Rattle.c_types.specs.declared.types.ObjectType.{ObjectType}
use Rattle.c_types.specs.declared.library.StarredType.{StarredType}
use Rattle.c_types.specs.Types.{pointer_to}
use Rattle.c_types.specs.Operands.{Standing, no_type, zero_literal, null_literal, a_value, a_place, Operand, any_operand, whole, zero_operand, null_operand, pointing, function_operand, no_operand, base_operand, layered_operand, operand_of, layered_value, type_value, as_value, layered_is_void, is_void, is_typed, is_whole, is_scalar, are_whole, settled, int_value, sum_of, difference_of, result_of, takes, binary_standing, can_choose, voider, chosen_target, chosen, moves, assigns}
use Rattle.c_types.specs.Library.{starred_type}
use Rattle.c_types.specs.Standing.{Target, no_target, some_target, target_of, layered_target, malloc_standing, pointee, points_to_functions, address, stepped, made_int, prefix_standing, conditional_standing, assign_standing, element_place, can_index, index_standing, let_go, can_go, following, given_type}
use Rattle.c_rules.specs.Faults.{standing_type, assigns_to, steps, can_follow, can_be_pointed_to, prefix_takes}
use Rattle.source_sound.proofs.Environment.{IsFormedBase, IsFormedPointee, IsFormedLayered, IsFormed, IsFormedGiven, IsFormedValue}
use Rattle.source_sound.proofs.DeclaredTypes.{ArePointers, AreDeclarable, only_pointers}

-- ---- types

base_pointee : (n : ℕ) (b : BaseType) → IsFormedBase n b → IsFormedPointee n b
base_pointee n base.Int h = h
base_pointee n (base.Function fn) h = h
base_pointee n base.Void h = tt
base_pointee n (base.Struct k) h = h
base_pointee n base.Mutex h = h
base_pointee n base.Cond h = h
base_pointee n base.Barrier h = h
base_pointee n base.RwLock h = h

pub to_pointee : (n : ℕ) (ls : List Layer) (b : BaseType) → IsFormedLayered n ls b → IsFormedLayered n (layer.Pointer ∷ ls) b
to_pointee n [] b h = base_pointee n b h
to_pointee n (layer.Pointer ∷ ls) b h = h
to_pointee n (layer.Array m ∷ ls) b h = h

from_pointee : (n : ℕ) (ls : List Layer) (b : BaseType) → IsFormedLayered n (layer.Pointer ∷ ls) b → layered_is_void ls b ≡ false → IsFormedLayered n ls b
from_pointee n [] base.Int h v = h
from_pointee n [] (base.Function fn) h v = h
from_pointee n [] base.Void h v = absurd (true≢false v)
from_pointee n [] (base.Struct k) h v = h
from_pointee n [] base.Mutex h v = h
from_pointee n [] base.Cond h v = h
from_pointee n [] base.Barrier h v = h
from_pointee n [] base.RwLock h v = h
from_pointee n (layer.Pointer ∷ ls) b h v = h
from_pointee n (layer.Array m ∷ ls) b h v = h

pub pointers_declarable : (ls : List Layer) → ArePointers ls → AreDeclarable ls
pointers_declarable [] h = tt
pointers_declarable (layer.Pointer ∷ ls) h = h
pointers_declarable (layer.Array n ∷ ls) h = absurd h

module _ (n : ℕ) where
  -- of an object, of what a pointer leads to, and of a value
  abbrev pub IsPlaceType : List Layer → BaseType → Type 0
  IsPlaceType ls b = IsFormedLayered n ls b × AreDeclarable ls

  abbrev pub IsPointeeType : List Layer → BaseType → Type 0
  IsPointeeType ls b = IsFormedLayered n (layer.Pointer ∷ ls) b × AreDeclarable ls

  abbrev pub IsValueType : List Layer → BaseType → Type 0
  IsValueType [] b = Unit {0}
  IsValueType (layer.Pointer ∷ ls) b = IsPointeeType ls b
  IsValueType (layer.Array m ∷ ls) b = ⊥

  abbrev pub IsGood : Standing → Type 0
  IsGood no_type = ⊥
  IsGood zero_literal = Unit {0}
  IsGood null_literal = Unit {0}
  IsGood (a_value t) = IsValueType t.layers t.base
  IsGood (a_place t) = IsPlaceType t.layers t.base

  abbrev pub IsGoodOperand : Operand → Type 0
  IsGoodOperand any_operand = ⊥
  IsGoodOperand whole = Unit {0}
  IsGoodOperand zero_operand = Unit {0}
  IsGoodOperand null_operand = Unit {0}
  IsGoodOperand (pointing t) = IsPointeeType t.layers t.base
  IsGoodOperand (function_operand k) = Unit {0}
  IsGoodOperand no_operand = Unit {0}

  -- what a `malloc` is to make an object of
  abbrev pub IsGoodTarget : Target → Type 0
  IsGoodTarget no_target = Unit {0}
  IsGoodTarget some_target = ⊥
  IsGoodTarget (target_of t) = IsFormed n t × ArePointers t.layers

  base_good : (b : BaseType) → IsGoodOperand (base_operand b)
  base_good base.Int = tt
  base_good (base.Function fn) = tt
  base_good base.Void = tt
  base_good (base.Struct k) = tt
  base_good base.Mutex = tt
  base_good base.Cond = tt
  base_good base.Barrier = tt
  base_good base.RwLock = tt

  place_operand : (ls : List Layer) (b : BaseType) → IsPlaceType ls b → IsGoodOperand (layered_operand ls b)
  place_operand [] b h = base_good b
  place_operand (layer.Pointer ∷ ls) b h = (h.0, pointers_declarable ls h.1)
  place_operand (layer.Array m ∷ ls) b h = (to_pointee n ls b h.0.1, h.1.1)

  value_operand : (ls : List Layer) (b : BaseType) → IsValueType ls b → IsGoodOperand (layered_operand ls b)
  value_operand [] b h = base_good b
  value_operand (layer.Pointer ∷ ls) b h = h
  value_operand (layer.Array m ∷ ls) b h = absurd h

  pub good_operand : (s : Standing) → IsGood s → IsGoodOperand (operand_of s)
  good_operand no_type h = absurd h
  good_operand zero_literal h = tt
  good_operand null_literal h = tt
  good_operand (a_value t) h = value_operand t.layers t.base h
  good_operand (a_place t) h = place_operand t.layers t.base h

  pub good_typed : (a : Operand) → IsGoodOperand a → is_typed a ≡ true
  good_typed any_operand h = absurd h
  good_typed whole h = refl
  good_typed zero_operand h = refl
  good_typed null_operand h = refl
  good_typed (pointing t) h = refl
  good_typed (function_operand k) h = refl
  good_typed no_operand h = refl

  layers_value : (ls : List Layer) (b : BaseType) → IsPlaceType ls b → IsGood (layered_value ls b)
  layers_value [] b h = tt
  layers_value (layer.Pointer ∷ ls) b h = (h.0, pointers_declarable ls h.1)
  layers_value (layer.Array m ∷ ls) b h = (to_pointee n ls b h.0.1, h.1.1)

  pub as_value_good : (s : Standing) → IsGood s → IsGood (as_value s)
  as_value_good no_type h = absurd h
  as_value_good zero_literal h = tt
  as_value_good null_literal h = (tt, tt)
  as_value_good (a_value t) h = h
  as_value_good (a_place t) h = layers_value t.layers t.base h

  -- what a function gives
  value_given : (ls : List Layer) (b : BaseType) → IsFormedGiven n ls b → AreDeclarable ls → IsGood (layered_value ls b)
  value_given [] b h d = tt
  value_given (layer.Pointer ∷ ls) b h d = (h, pointers_declarable ls d)
  value_given (layer.Array m ∷ ls) b h d = absurd h

  stars_declarable : (stars : ℕ) → AreDeclarable (replicate stars layer.Pointer)
  stars_declarable zero = tt
  stars_declarable (suc k) = only_pointers k

  pub given_good : (t : StarredType) → IsFormedValue n (starred_type t) → IsGood (given_type (Some t))
  given_good t h = value_given (replicate t.stars layer.Pointer) t.base h (stars_declarable t.stars)

  -- ---- targets

  pub place_target : (ls : List Layer) (b : BaseType) → IsFormedLayered n ls b → AreDeclarable ls → IsGoodTarget (layered_target ls b)
  place_target [] b h d = tt
  place_target (layer.Pointer ∷ ls) b h d = by (is_void (record { layers = ls; base = b })) refl
    where
      by : (v : Bool) → layered_is_void ls b ≡ v → IsGoodTarget (if v then no_target else target_of (record { layers = ls; base = b }))
      by true e = tt
      by false e = (from_pointee n ls b h e, d)
  place_target (layer.Array m ∷ ls) b h d = tt

  pub malloc_good : (w : Target) → IsGoodTarget w → (w ≡ no_target → ⊥) → IsGood (malloc_standing w)
  malloc_good no_target h ne = absurd (ne refl)
  malloc_good some_target h ne = absurd h
  malloc_good (target_of t) h ne = (to_pointee n t.layers t.base h.0, pointers_declarable t.layers h.1)

  -- ---- where a test holds

  pub where_good : (c : Bool) (s : Standing) → c ≡ true → IsGood s → IsGood (if c then s else no_type)
  where_good true s e h = h
  where_good false s e h = absurd (true≢false (sym e))

  pub made_good : (c : Bool) (a : Operand) → c ≡ true → IsGoodOperand a → IsGood (made_int c a)
  made_good c a e h = where_good (c && is_typed a) int_value (and_from c (is_typed a) e (good_typed a h)) tt

  settled_good : (c : Bool) (a b : Operand) (s : Standing) → c ≡ true → IsGoodOperand a → IsGoodOperand b → IsGood s → IsGood (settled c a b s)
  settled_good c a b s e h g k = where_good (c && is_typed a && is_typed b) s (and_from (c && is_typed a) (is_typed b) (and_from c (is_typed a) e (good_typed a h)) (good_typed b g)) k

  -- ---- operators with two operands

  sum_good : (a b : Operand) → IsGoodOperand a → IsGoodOperand b → IsGood (sum_of a b)
  sum_good (pointing t) b h g = h
  sum_good any_operand b h g = absurd h
  sum_good whole any_operand h g = absurd g
  sum_good whole whole h g = tt
  sum_good whole zero_operand h g = tt
  sum_good whole null_operand h g = tt
  sum_good whole (pointing t) h g = g
  sum_good whole (function_operand k) h g = tt
  sum_good whole no_operand h g = tt
  sum_good zero_operand any_operand h g = absurd g
  sum_good zero_operand whole h g = tt
  sum_good zero_operand zero_operand h g = tt
  sum_good zero_operand null_operand h g = tt
  sum_good zero_operand (pointing t) h g = g
  sum_good zero_operand (function_operand k) h g = tt
  sum_good zero_operand no_operand h g = tt
  sum_good null_operand any_operand h g = absurd g
  sum_good null_operand whole h g = tt
  sum_good null_operand zero_operand h g = tt
  sum_good null_operand null_operand h g = tt
  sum_good null_operand (pointing t) h g = g
  sum_good null_operand (function_operand k) h g = tt
  sum_good null_operand no_operand h g = tt
  sum_good (function_operand k) any_operand h g = absurd g
  sum_good no_operand any_operand h g = absurd g
  sum_good (function_operand k) whole h g = tt
  sum_good no_operand whole h g = tt
  sum_good (function_operand k) zero_operand h g = tt
  sum_good no_operand zero_operand h g = tt
  sum_good (function_operand k) null_operand h g = tt
  sum_good no_operand null_operand h g = tt
  sum_good (function_operand k) (pointing t) h g = g
  sum_good no_operand (pointing t) h g = g
  sum_good (function_operand k) (function_operand j) h g = tt
  sum_good no_operand (function_operand k) h g = tt
  sum_good (function_operand k) no_operand h g = tt
  sum_good no_operand no_operand h g = tt

  difference_good : (a b : Operand) → IsGoodOperand a → IsGood (difference_of a b)
  difference_good (pointing t) b h = by (is_whole b)
    where
      by : (c : Bool) → IsGood (if c then a_value (pointer_to t) else int_value)
      by true = h
      by false = tt
  difference_good any_operand b h = absurd h
  difference_good whole b h = tt
  difference_good zero_operand b h = tt
  difference_good null_operand b h = tt
  difference_good (function_operand k) b h = tt
  difference_good no_operand b h = tt

  result_good : (o : BinaryOp) (a b : Operand) → IsGoodOperand a → IsGoodOperand b → IsGood (result_of o a b)
  result_good op.LogicalOr a b h g = tt
  result_good op.LogicalAnd a b h g = tt
  result_good op.Or a b h g = tt
  result_good op.Xor a b h g = tt
  result_good op.And a b h g = tt
  result_good op.Equal a b h g = tt
  result_good op.NotEqual a b h g = tt
  result_good op.Less a b h g = tt
  result_good op.Greater a b h g = tt
  result_good op.LessEqual a b h g = tt
  result_good op.GreaterEqual a b h g = tt
  result_good op.ShiftLeft a b h g = tt
  result_good op.ShiftRight a b h g = tt
  result_good op.Add a b h g = sum_good a b h g
  result_good op.Subtract a b h g = difference_good a b h
  result_good op.Multiply a b h g = tt
  result_good op.Divide a b h g = tt
  result_good op.Remainder a b h g = tt

  pub binary_good : (o : BinaryOp) (a b : Operand) → IsGoodOperand a → IsGoodOperand b → takes o a b ≡ true → IsGood (binary_standing o a b)
  binary_good o a b h g e = settled_good (takes o a b) a b (result_of o a b) e h g (result_good o a b h g)

  -- ---- the choice

  voider_good : (s t : ObjectType) → IsPointeeType s.layers s.base → IsPointeeType t.layers t.base → IsPointeeType (voider s t).layers (voider s t).base
  voider_good s t h g = by (is_void t)
    where
      by : (c : Bool) → IsPointeeType (if c then t else s).layers (if c then t else s).base
      by true = g
      by false = h

  target_good : (a b : Operand) → IsGoodOperand a → IsGoodOperand b → IsPointeeType (chosen_target a b).layers (chosen_target a b).base
  target_good any_operand any_operand h g = absurd h
  target_good any_operand whole h g = absurd h
  target_good any_operand zero_operand h g = absurd h
  target_good any_operand null_operand h g = absurd h
  target_good any_operand (pointing t) h g = absurd h
  target_good any_operand (function_operand k) h g = absurd h
  target_good any_operand no_operand h g = absurd h
  target_good whole any_operand h g = absurd g
  target_good whole whole h g = (tt, tt)
  target_good whole zero_operand h g = (tt, tt)
  target_good whole null_operand h g = (tt, tt)
  target_good whole (pointing t) h g = g
  target_good whole (function_operand k) h g = (tt, tt)
  target_good whole no_operand h g = (tt, tt)
  target_good zero_operand any_operand h g = absurd g
  target_good zero_operand whole h g = (tt, tt)
  target_good zero_operand zero_operand h g = (tt, tt)
  target_good zero_operand null_operand h g = (tt, tt)
  target_good zero_operand (pointing t) h g = g
  target_good zero_operand (function_operand k) h g = (tt, tt)
  target_good zero_operand no_operand h g = (tt, tt)
  target_good null_operand any_operand h g = absurd g
  target_good null_operand whole h g = (tt, tt)
  target_good null_operand zero_operand h g = (tt, tt)
  target_good null_operand null_operand h g = (tt, tt)
  target_good null_operand (pointing t) h g = g
  target_good null_operand (function_operand k) h g = (tt, tt)
  target_good null_operand no_operand h g = (tt, tt)
  target_good (pointing t) any_operand h g = absurd g
  target_good (pointing t) whole h g = h
  target_good (pointing t) zero_operand h g = h
  target_good (pointing t) null_operand h g = h
  target_good (pointing s) (pointing t) h g = voider_good s t h g
  target_good (pointing t) (function_operand k) h g = h
  target_good (pointing t) no_operand h g = h
  target_good (function_operand k) any_operand h g = absurd g
  target_good no_operand any_operand h g = absurd g
  target_good (function_operand k) whole h g = (tt, tt)
  target_good no_operand whole h g = (tt, tt)
  target_good (function_operand k) zero_operand h g = (tt, tt)
  target_good no_operand zero_operand h g = (tt, tt)
  target_good (function_operand k) null_operand h g = (tt, tt)
  target_good no_operand null_operand h g = (tt, tt)
  target_good (function_operand k) (pointing t) h g = g
  target_good no_operand (pointing t) h g = g
  target_good (function_operand k) (function_operand j) h g = (tt, tt)
  target_good no_operand (function_operand k) h g = (tt, tt)
  target_good (function_operand k) no_operand h g = (tt, tt)
  target_good no_operand no_operand h g = (tt, tt)

  objects_good : (a b : Operand) (c : Bool) → IsGoodOperand a → IsGoodOperand b → IsGood (if c then int_value else a_value (pointer_to (chosen_target a b)))
  objects_good a b true h g = tt
  objects_good a b false h g = target_good a b h g

  chosen_good : (a b : Operand) → IsGoodOperand a → IsGoodOperand b → IsGood (chosen a b)
  chosen_good (function_operand k) b h g = tt
  chosen_good any_operand (function_operand k) h g = tt
  chosen_good whole (function_operand k) h g = tt
  chosen_good zero_operand (function_operand k) h g = tt
  chosen_good null_operand (function_operand k) h g = tt
  chosen_good (pointing s) (function_operand k) h g = tt
  chosen_good no_operand (function_operand k) h g = tt
  chosen_good a b h g = objects_good a b (are_whole a b) h g

  pub conditional_good : (a b c : Operand) → IsGoodOperand a → IsGoodOperand b → IsGoodOperand c → (is_scalar a && can_choose b c) ≡ true → IsGood (conditional_standing a b c)
  conditional_good a b c h g k e =
      let p = and_parts (is_scalar a) (can_choose b c) e in
      where_good (is_scalar a && is_typed a) (settled (can_choose b c) b c (chosen b c)) (and_from (is_scalar a) (is_typed a) p.0 (good_typed a h)) (settled_good (can_choose b c) b c (chosen b c) p.1 g k (chosen_good b c g k))

  -- ---- elements

  not_void : (t : ObjectType) → IsPointeeType t.layers t.base → not (is_void t) ≡ true → IsPlaceType t.layers t.base
  not_void t h e = (from_pointee n t.layers t.base h.0 (flip (layered_is_void t.layers t.base) e), h.1)
    where
      flip : (b : Bool) → not b ≡ true → b ≡ false
      flip true e = absurd (true≢false (sym e))
      flip false e = refl

  moved_first : (m w : Bool) → ((m && w) || false) ≡ true → m ≡ true
  moved_first true w e = refl
  moved_first false w e = absurd (true≢false (sym e))

  element_good : (a b : Operand) → IsGoodOperand a → IsGoodOperand b → can_index a b ≡ true → IsGood (element_place a b)
  element_good any_operand any_operand h g e = absurd h
  element_good any_operand whole h g e = absurd h
  element_good any_operand zero_operand h g e = absurd h
  element_good any_operand null_operand h g e = absurd h
  element_good any_operand (pointing t) h g e = absurd h
  element_good any_operand (function_operand k) h g e = absurd h
  element_good any_operand no_operand h g e = absurd h
  element_good whole any_operand h g e = absurd g
  element_good whole whole h g e = absurd (true≢false (sym e))
  element_good whole zero_operand h g e = absurd (true≢false (sym e))
  element_good whole null_operand h g e = absurd (true≢false (sym e))
  element_good whole (pointing t) h g e = not_void t g e
  element_good whole (function_operand k) h g e = absurd (true≢false (sym e))
  element_good whole no_operand h g e = absurd (true≢false (sym e))
  element_good zero_operand any_operand h g e = absurd g
  element_good zero_operand whole h g e = absurd (true≢false (sym e))
  element_good zero_operand zero_operand h g e = absurd (true≢false (sym e))
  element_good zero_operand null_operand h g e = absurd (true≢false (sym e))
  element_good zero_operand (pointing t) h g e = not_void t g e
  element_good zero_operand (function_operand k) h g e = absurd (true≢false (sym e))
  element_good zero_operand no_operand h g e = absurd (true≢false (sym e))
  element_good null_operand any_operand h g e = absurd g
  element_good null_operand whole h g e = absurd (true≢false (sym e))
  element_good null_operand zero_operand h g e = absurd (true≢false (sym e))
  element_good null_operand null_operand h g e = absurd (true≢false (sym e))
  element_good null_operand (pointing t) h g e = absurd (true≢false (sym e))
  element_good null_operand (function_operand k) h g e = absurd (true≢false (sym e))
  element_good null_operand no_operand h g e = absurd (true≢false (sym e))
  element_good (pointing t) any_operand h g e = absurd g
  element_good (pointing t) whole h g e = not_void t h (moved_first (not (is_void t)) (is_whole whole) e)
  element_good (pointing t) zero_operand h g e = not_void t h (moved_first (not (is_void t)) (is_whole zero_operand) e)
  element_good (pointing t) null_operand h g e = not_void t h (moved_first (not (is_void t)) (is_whole null_operand) e)
  element_good (pointing s) (pointing t) h g e = not_void s h (moved_first (not (is_void s)) (is_whole (pointing t)) e)
  element_good (pointing t) (function_operand k) h g e = not_void t h (moved_first (not (is_void t)) (is_whole no_operand) e)
  element_good (pointing t) no_operand h g e = not_void t h (moved_first (not (is_void t)) (is_whole no_operand) e)
  element_good (function_operand k) any_operand h g e = absurd g
  element_good no_operand any_operand h g e = absurd g
  element_good (function_operand k) whole h g e = absurd (true≢false (sym e))
  element_good no_operand whole h g e = absurd (true≢false (sym e))
  element_good (function_operand k) zero_operand h g e = absurd (true≢false (sym e))
  element_good no_operand zero_operand h g e = absurd (true≢false (sym e))
  element_good (function_operand k) null_operand h g e = absurd (true≢false (sym e))
  element_good no_operand null_operand h g e = absurd (true≢false (sym e))
  element_good (function_operand k) (pointing t) h g e = absurd (true≢false (sym e))
  element_good no_operand (pointing t) h g e = absurd (true≢false (sym e))
  element_good (function_operand k) (function_operand j) h g e = absurd (true≢false (sym e))
  element_good no_operand (function_operand k) h g e = absurd (true≢false (sym e))
  element_good (function_operand k) no_operand h g e = absurd (true≢false (sym e))
  element_good no_operand no_operand h g e = absurd (true≢false (sym e))

  pub index_good : (a b : Operand) → IsGoodOperand a → IsGoodOperand b → can_index a b ≡ true → IsGood (index_standing a b)
  index_good a b h g e = settled_good (can_index a b) a b (element_place a b) e h g (element_good a b h g e)

  -- ---- places

  abbrev pub IsObjectStanding : Standing → Type 0
  IsObjectStanding (a_place t) = Unit {0}
  IsObjectStanding _ = ⊥

  address_good : (s : Standing) → IsGood s → IsObjectStanding s → can_be_pointed_to s ≡ true → IsGood (address s)
  address_good (a_place t) h p e = by (points_to_functions t) e
    where
      by : (b : Bool) → not b ≡ true → IsGood (if b then no_type else a_value (pointer_to t))
      by true e = absurd (true≢false (sym e))
      by false e = (to_pointee n t.layers t.base h.0, h.1)
  address_good no_type h p e = absurd p
  address_good zero_literal h p e = absurd p
  address_good null_literal h p e = absurd p
  address_good (a_value t) h p e = absurd p

  pub stepped_good : (s : Standing) → IsGood s → IsObjectStanding s → steps (standing_type s) ≡ true → IsGood (stepped s)
  stepped_good (a_place t) h p e = where_good (moves t whole) (type_value t) e (layers_value t.layers t.base h)
  stepped_good no_type h p e = absurd p
  stepped_good zero_literal h p e = absurd p
  stepped_good null_literal h p e = absurd p
  stepped_good (a_value t) h p e = absurd p

  pub assign_good : (o : AssignOp) (s : Standing) (b : Operand) → IsGood s → IsObjectStanding s → IsGoodOperand b → assigns_to o (standing_type s) b ≡ true → IsGood (assign_standing o s b)
  assign_good o (a_place t) b h p g e = where_good (assigns o t b && is_typed b) (type_value t) (and_from (assigns o t b) (is_typed b) e (good_typed b g)) (layers_value t.layers t.base h)
  assign_good o no_type b h p g e = absurd p
  assign_good o zero_literal b h p g e = absurd p
  assign_good o null_literal b h p g e = absurd p
  assign_good o (a_value t) b h p g e = absurd p

  pointee_good : (a : Operand) → IsGoodOperand a → can_follow a ≡ true → IsGood (pointee a)
  pointee_good (pointing t) h e = by (is_void t) refl e
    where
      by : (v : Bool) → layered_is_void t.layers t.base ≡ v → not v ≡ true → IsGood (if v then no_type else a_place t)
      by true is e = absurd (true≢false (sym e))
      by false is e = (from_pointee n t.layers t.base h.0 is, h.1)
  pointee_good any_operand h e = absurd h
  pointee_good whole h e = absurd (true≢false (sym e))
  pointee_good zero_operand h e = absurd (true≢false (sym e))
  pointee_good null_operand h e = absurd (true≢false (sym e))
  pointee_good (function_operand k) h e = absurd (true≢false (sym e))
  pointee_good no_operand h e = absurd (true≢false (sym e))

  -- the operand is an object where one is needed
  abbrev pub NeedsObject : PrefixOp → Standing → Type 0
  NeedsObject prefix_op.Address s = IsObjectStanding s
  NeedsObject prefix_op.Increment s = IsObjectStanding s
  NeedsObject prefix_op.Decrement s = IsObjectStanding s
  NeedsObject _ s = Unit {0}

  pub prefix_good : (o : PrefixOp) (s : Standing) → IsGood s → NeedsObject o s → prefix_takes o s ≡ true → IsGood (prefix_standing o s)
  prefix_good prefix_op.Address s h p e = address_good s h p e
  prefix_good prefix_op.Indirect s h p e = pointee_good (operand_of s) (good_operand s h) e
  prefix_good prefix_op.Plus s h p e = made_good (is_whole (operand_of s)) (operand_of s) e (good_operand s h)
  prefix_good prefix_op.Minus s h p e = made_good (is_whole (operand_of s)) (operand_of s) e (good_operand s h)
  prefix_good prefix_op.Not s h p e = made_good (is_scalar (operand_of s)) (operand_of s) e (good_operand s h)
  prefix_good prefix_op.Complement s h p e = made_good (is_whole (operand_of s)) (operand_of s) e (good_operand s h)
  prefix_good prefix_op.Increment s h p e = stepped_good s h p e
  prefix_good prefix_op.Decrement s h p e = stepped_good s h p e

  -- ---- commas

  pub let_go_good : (s : Standing) → IsGood s → can_go s ≡ true → IsGood (let_go s)
  let_go_good s h e = where_good (can_go s) s e h

  pub after_good : (s t : Standing) → IsGood s → IsGood t → IsGood (following s t)
  after_good no_type t h g = absurd h
  after_good zero_literal t h g = g
  after_good null_literal t h g = g
  after_good (a_value u) t h g = g
  after_good (a_place u) t h g = g
