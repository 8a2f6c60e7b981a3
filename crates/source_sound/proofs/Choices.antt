-- What stands where a test holds, and the values of objects.
use Rattle.std.proofs.Common.{◌≡◌, ℕ, Bool, true, false, ◌&&◌, if◌then◌else◌, List, [], ◌∷◌, Option, None, refl, ◌∙◌}
use Rattle.std.proofs.lemmas.Bool.{and_from}
use Rattle.c_types.specs.declared.types.BaseType.{BaseType}
use Rattle.c_types.specs.declared.types.BaseType.TheVariants as base
use Rattle.c_types.specs.declared.types.Layer.{Layer}
use Rattle.c_types.specs.declared.types.Layer.TheVariants as layer
use Rattle.c_types.specs.Operands.{Standing, no_type, zero_literal, null_literal, a_value, a_place, Operand, any_operand, whole, zero_operand, null_operand, pointing, function_operand, no_operand, operand_of, layered_operand, layered_value, as_value, is_typed, is_whole, settled, int_value}
use Rattle.c_types.specs.Standing.{layered_struct, made_int, can_go}
use Rattle.core_tree.specs.Core as core
use Rattle.core_tree.specs.Core.{Function, Program}
use Rattle.core_tree.specs.Meaning.{is_pointer}
use Rattle.c_operators.specs.Denoted.{Denoted, denoted_register, denoted_cells, denoted_zero, denoted_null, denoted_value}
use Rattle.c_operators.specs.Operators.{is_some_address}
use Rattle.core_tree.specs.Sound.{IsWhole, IsSoundExp}
use Rattle.source_sound.proofs.Environment.{IsFormedLayered}
use Rattle.source_sound.proofs.Apart.{never, never', some_not_none}
use Rattle.source_sound.proofs.Standings.{formed_or_void, Gives, Stands}

-- a typed operand that is a whole number is no pointer
pub whole_address : (a : Operand) → is_typed a ≡ true → is_whole a ≡ true → is_some_address a ≡ false
whole_address any_operand t w = never t
whole_address whole t w = refl
whole_address zero_operand t w = refl
whole_address null_operand t w = never w
whole_address (pointing s) t w = never w
whole_address (function_operand k) t w = never w
whole_address no_operand t w = never w

module _ (p : Program) (home : ℕ → Option ℕ) (f : Function) (structs : ℕ) where
  pub gives_whole : (a : Operand) (v q : core.Exp) → Gives p home f structs a v q → is_whole a ≡ true → IsWhole v
  gives_whole a v q g w = g.kind ∙ whole_address a g.typed w

  pub where_true : (c : Bool) (s s' : Standing) (x : Denoted) → c ≡ true → Stands p home f structs s x → Stands p home f structs (if c then s else s') x
  where_true true s s' x e h = h
  where_true false s s' x e h = never e

  pub where_false : (c : Bool) (s s' : Standing) (x : Denoted) → c ≡ false → Stands p home f structs s' x → Stands p home f structs (if c then s else s') x
  where_false true s s' x e h = never' e
  where_false false s s' x e h = h

  pub settled_stands : (c : Bool) (a b : Operand) (s : Standing) (x : Denoted) → c ≡ true → is_typed a ≡ true → is_typed b ≡ true → Stands p home f structs s x → Stands p home f structs (settled c a b s) x
  settled_stands c a b s x e d d' h = where_true (c && is_typed a && is_typed b) s no_type x (and_from _ _ (and_from _ _ e d) d') h

  pub made_stands : (c : Bool) (a : Operand) (e : core.Exp) → c ≡ true → is_typed a ≡ true → IsWhole e → IsSoundExp p home f e → Stands p home f structs (made_int c a) (denoted_value e)
  made_stands c a e holds d k h = where_true (c && is_typed a) int_value no_type (denoted_value e) (and_from _ _ holds d) (tt, k, h)

  -- the value of an object, which is no struct
  pub type_value_stands : (ls : List Layer) (b : BaseType) (e : core.Exp) → IsFormedLayered structs (layer.Pointer ∷ ls) b → layered_struct ls b ≡ None →
      is_pointer e ≡ is_some_address (layered_operand ls b) → IsSoundExp p home f e → Stands p home f structs (layered_value ls b) (denoted_value e)
  type_value_stands [] base.Int e h n k s = (tt, k, s)
  type_value_stands [] (base.Function fn) e h n k s = (tt, k, s)
  type_value_stands [] base.Void e h n k s = (tt, k, s)
  type_value_stands [] (base.Struct j) e h n k s = some_not_none _ _ refl n
  type_value_stands [] base.Mutex e h n k s = (tt, k, s)
  type_value_stands [] base.Cond e h n k s = (tt, k, s)
  type_value_stands [] base.Barrier e h n k s = (tt, k, s)
  type_value_stands [] base.RwLock e h n k s = (tt, k, s)
  type_value_stands (layer.Pointer ∷ ls) b e h n k s = (h, k, s)
  type_value_stands (layer.Array m ∷ ls) b e h n k s = (formed_or_void structs ls b h.1, k, s)

  -- what may be let go is no struct
  place_value : (ls : List Layer) (b : BaseType) (e : core.Exp) → IsFormedLayered structs ls b → can_go (a_place (record { layers = ls; base = b })) ≡ true →
      is_pointer e ≡ is_some_address (layered_operand ls b) → IsSoundExp p home f e → Stands p home f structs (layered_value ls b) (denoted_value e)
  place_value [] base.Int e h c k s = (tt, k, s)
  place_value [] (base.Function fn) e h c k s = (tt, k, s)
  place_value [] base.Void e h c k s = (tt, k, s)
  place_value [] (base.Struct j) e h c k s = never c
  place_value [] base.Mutex e h c k s = never c
  place_value [] base.Cond e h c k s = never c
  place_value [] base.Barrier e h c k s = never c
  place_value [] base.RwLock e h c k s = never c
  place_value (layer.Pointer ∷ ls) b e h c k s = (h, k, s)
  place_value (layer.Array m ∷ ls) b e h c k s = (formed_or_void structs ls b h.1, k, s)

  pub as_value_stands : (s : Standing) (x : Denoted) (e : core.Exp) → Stands p home f structs s x → can_go s ≡ true → is_pointer e ≡ is_some_address (operand_of s) → IsSoundExp p home f e → Stands p home f structs (as_value s) (denoted_value e)
  as_value_stands no_type x e h c k s = absurd h
  as_value_stands zero_literal x e h c k s = (tt, k, s)
  as_value_stands null_literal x e h c k s = (tt, k, s)
  as_value_stands (a_value t) (denoted_value v) e h c k s = (h.0, k, s)
  as_value_stands (a_value t) (denoted_zero at) e h c k s = absurd h
  as_value_stands (a_value t) (denoted_null at) e h c k s = absurd h
  as_value_stands (a_value t) (denoted_register n at) e h c k s = absurd h
  as_value_stands (a_value t) (denoted_cells v at) e h c k s = absurd h
  as_value_stands (a_place t) (denoted_register n at) e h c k s = place_value t.layers t.base e h.0 c k s
  as_value_stands (a_place t) (denoted_cells v at) e h c k s = place_value t.layers t.base e h.0 c k s
  as_value_stands (a_place t) (denoted_zero at) e h c k s = absurd h
  as_value_stands (a_place t) (denoted_null at) e h c k s = absurd h
  as_value_stands (a_place t) (denoted_value v) e h c k s = absurd h
