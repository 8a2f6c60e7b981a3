-- What is constant is a whole number, so that its value may stand for it.
use Rattle.std.proofs.Common.{◌≡◌, ℕ, ◌==◌, Bool, true, false, ◌&&◌, if◌then◌else◌, ℤ, Option, Some, None, is_some, option_map, Ok, Err, refl, sym, ap, ◌∙◌, subst}
use Rattle.std.proofs.lemmas.Bool.{and_from, eqb-true}
use Rattle.rr_base.specs.Texts.{Text}
use Rattle.c_tree.specs.declared.ctype.Specifier.{Specifier}
use Rattle.c_tree.specs.declared.ctype.Specifier.TheVariants as specifier
use Rattle.c_tree.specs.declared.ctype.CType.{CType}
use Rattle.c_tree.specs.declared.expr.BinaryOp.{BinaryOp}
use Rattle.c_tree.specs.declared.expr.BinaryOp.TheVariants as op
use Rattle.c_tree.specs.declared.expr.PrefixOp.{PrefixOp}
use Rattle.c_tree.specs.declared.expr.PrefixOp.TheVariants as prefix_op
use Rattle.c_tree.specs.Tree.{Exp, comma, assign, conditional, binary, prefix, sizeof_exp, sizeof_type, cast, index, member, arrow, post_increment, post_decrement, named, call, number, letter, text, null, paren}
use Rattle.c_types.specs.declared.types.BaseType.TheVariants as base
use Rattle.c_types.specs.declared.types.ObjectType.{ObjectType}
use Rattle.c_types.specs.Types.{int_type}
use Rattle.c_types.specs.Numbers.{Computed, is_zero}
use Rattle.c_types.specs.Constants.{constant_named, is_int_specifier, is_int, is_of_numbers, is_constant}
use Rattle.c_types.specs.Scopes.{Known, Meaning, seen, base_of, starred, type_named, is_complete}
use Rattle.c_types.specs.Operands.{Standing, no_type, zero_literal, Operand, any_operand, whole, zero_operand, null_operand, pointing, function_operand, no_operand, operand_of, is_typed, is_whole, is_scalar, takes, settled, int_value, result_of, binary_standing, can_choose, chosen}
use Rattle.c_types.specs.Standing.{Target, no_target, cast_target, made_int, prefix_standing, conditional_standing, is_sized, sizeof_standing, sizeof_type_standing, casts_to, can_cast, cast_standing, constant_standing, named_standing, number_standing, standing}
use Rattle.rr_base.specs.declared.position.Position.{Position}
use Rattle.core_tree.specs.Core as core
use Rattle.core_tree.specs.Core.{Function, Program}
use Rattle.c_operators.specs.Denoted.{Denoted, denoted_value}
use Rattle.c_values.specs.Expressions.{constant_by}
use Rattle.source_sound.proofs.Operators.{chosen_number}
use Rattle.source_sound.proofs.Apart.{never, both}
use Rattle.source_sound.proofs.Standings.{Stands}

-- ---- a test that gave a type

abbrev IsTyped : Standing → Type 0
IsTyped s = is_typed (operand_of s) ≡ true

chose : (c : Bool) (s : Standing) → IsTyped (if c then s else no_type) → c ≡ true
chose true s t = refl
chose false s t = never t

as_chosen : (c : Bool) (s s' : Standing) → c ≡ true → (if c then s else s') ≡ s
as_chosen c s s' e = ap (λ z. if z then s else s') e

settled_typed : (c : Bool) (a b : Operand) (s : Standing) → IsTyped (settled c a b s) → (is_typed a ≡ true) × (is_typed b ≡ true) × (settled c a b s ≡ s)
settled_typed c a b s t =
    let yes = chose (c && is_typed a && is_typed b) s t in
    let one = both (c && is_typed a) (is_typed b) yes in
    ((both c (is_typed a) one.0).1, one.1, as_chosen (c && is_typed a && is_typed b) s no_type yes)

made_int_typed : (c : Bool) (a : Operand) → IsTyped (made_int c a) → made_int c a ≡ int_value
made_int_typed c a t = as_chosen (c && is_typed a) int_value no_type (chose (c && is_typed a) int_value t)

-- ---- each kind of expression over whole numbers is an Int

conditional_int : (a b c : Operand) → IsTyped (conditional_standing a b c) → (is_typed b ≡ true → is_whole b ≡ true) → (is_typed c ≡ true → is_whole c ≡ true) → conditional_standing a b c ≡ int_value
conditional_int a b c t wb wc =
    let first = is_scalar a && is_typed a in
    let s = settled (can_choose b c) b c (chosen b c) in
    let yes = chose first s t in
    let is = as_chosen first s no_type yes in
    let more = settled_typed (can_choose b c) b c (chosen b c) (subst IsTyped is t) in
    is ∙ more.2 ∙ chosen_number b c (and_from (is_whole b) (is_whole c) (wb more.0) (wc more.1))

sum_int : (o : BinaryOp) (a b : Operand) → is_typed a ≡ true → is_typed b ≡ true → is_whole a ≡ true → is_whole b ≡ true → result_of o a b ≡ int_value
sum_int op.Add any_operand b ta tb wa wb = never ta
sum_int op.Add null_operand b ta tb wa wb = never wa
sum_int op.Add (pointing t) b ta tb wa wb = never wa
sum_int op.Add (function_operand k) b ta tb wa wb = never wa
sum_int op.Add no_operand b ta tb wa wb = never wa
sum_int op.Add whole any_operand ta tb wa wb = never tb
sum_int op.Add whole null_operand ta tb wa wb = never wb
sum_int op.Add whole (pointing t) ta tb wa wb = never wb
sum_int op.Add whole (function_operand k) ta tb wa wb = never wb
sum_int op.Add whole no_operand ta tb wa wb = never wb
sum_int op.Add whole whole ta tb wa wb = refl
sum_int op.Add whole zero_operand ta tb wa wb = refl
sum_int op.Add zero_operand any_operand ta tb wa wb = never tb
sum_int op.Add zero_operand null_operand ta tb wa wb = never wb
sum_int op.Add zero_operand (pointing t) ta tb wa wb = never wb
sum_int op.Add zero_operand (function_operand k) ta tb wa wb = never wb
sum_int op.Add zero_operand no_operand ta tb wa wb = never wb
sum_int op.Add zero_operand whole ta tb wa wb = refl
sum_int op.Add zero_operand zero_operand ta tb wa wb = refl
sum_int op.Subtract any_operand b ta tb wa wb = never ta
sum_int op.Subtract null_operand b ta tb wa wb = never wa
sum_int op.Subtract (pointing t) b ta tb wa wb = never wa
sum_int op.Subtract (function_operand k) b ta tb wa wb = never wa
sum_int op.Subtract no_operand b ta tb wa wb = never wa
sum_int op.Subtract whole b ta tb wa wb = refl
sum_int op.Subtract zero_operand b ta tb wa wb = refl
sum_int _ a b ta tb wa wb = refl

binary_int : (o : BinaryOp) (a b : Operand) → IsTyped (binary_standing o a b) → (is_typed a ≡ true → is_whole a ≡ true) → (is_typed b ≡ true → is_whole b ≡ true) → binary_standing o a b ≡ int_value
binary_int o a b t wa wb =
    let more = settled_typed (takes o a b) a b (result_of o a b) t in
    more.2 ∙ sum_int o a b more.0 more.1 (wa more.0) (wb more.1)

prefix_int : (o : PrefixOp) (s : Standing) → IsTyped (prefix_standing o s) → is_of_numbers o ≡ true → prefix_standing o s ≡ int_value
prefix_int prefix_op.Address s t h = never h
prefix_int prefix_op.Indirect s t h = never h
prefix_int prefix_op.Plus s t h = made_int_typed (is_whole (operand_of s)) (operand_of s) t
prefix_int prefix_op.Minus s t h = made_int_typed (is_whole (operand_of s)) (operand_of s) t
prefix_int prefix_op.Not s t h = made_int_typed (is_scalar (operand_of s)) (operand_of s) t
prefix_int prefix_op.Complement s t h = made_int_typed (is_whole (operand_of s)) (operand_of s) t
prefix_int prefix_op.Increment s t h = never h
prefix_int prefix_op.Decrement s t h = never h

sizeof_int : (known : Known) (s : Standing) → IsTyped (sizeof_standing known s) → sizeof_standing known s ≡ int_value
sizeof_int known s t = made_int_typed (is_sized known s) (operand_of s) t

sizeof_type_int : (known : Known) (o : Option ObjectType) → IsTyped (sizeof_type_standing known o) → sizeof_type_standing known o ≡ int_value
sizeof_type_int known None t = never t
sizeof_type_int known (Some u) t = as_chosen (is_complete known u) int_value no_type (chose (is_complete known u) int_value t)

int_base : (known : Known) (s : Specifier) → is_int_specifier s ≡ true → base_of known s ≡ Some base.Int
int_base known (specifier.Int at) h = refl
int_base known (specifier.Long second int at) h = refl
int_base known (specifier.Void at) h = never h
int_base known (specifier.Struct name at) h = never h
int_base known (specifier.PthreadT at) h = refl
int_base known (specifier.PthreadMutexT at) h = never h
int_base known (specifier.PthreadCondT at) h = never h
int_base known (specifier.PthreadBarrierT at) h = never h
int_base known (specifier.PthreadRwlockT at) h = never h

int_named : (known : Known) (t : CType) → is_int t ≡ true → type_named known t ≡ Some int_type
int_named known t h =
    let are = both (is_int_specifier t.specifier) (t.stars == 0) h in
    ap (option_map (starred t.stars)) (int_base known t.specifier are.0) ∙ ap (λ n. Some (starred n base.Int)) (eqb-true t.stars 0 are.1)

cast_int : (known : Known) (t : CType) (a : Operand) → IsTyped (cast_standing (type_named known t) t.stars a) → is_int t ≡ true → cast_standing (type_named known t) t.stars a ≡ int_value
cast_int known t a typed h =
    let is = ap (λ z. cast_standing z t.stars a) (int_named known t h) in
    is ∙ as_chosen (casts_to (Some int_type) t.stars && can_cast a && is_typed a) int_value no_type (chose (casts_to (Some int_type) t.stars && can_cast a && is_typed a) int_value (subst IsTyped is typed))

constant_int : (c : Option ℤ) → is_some c ≡ true → constant_standing c ≡ int_value
constant_int None h = never h
constant_int (Some n) h = refl

number_whole : (n : ℤ) → is_whole (operand_of (number_standing n)) ≡ true
number_whole n = by (is_zero n)
  where
    by : (b : Bool) → is_whole (operand_of (if b then zero_literal else int_value)) ≡ true
    by true = refl
    by false = refl

module _ (known : Known) (own : (name : Text) (m : Meaning) → seen known name ≡ Some m → constant_named name ≡ None) where
  pub named_int : (name : Text) (m : Option Meaning) → seen known name ≡ m → is_some (constant_named name) ≡ true → named_standing known name m (constant_named name) ≡ int_value
  named_int name None e h = constant_int (constant_named name) h
  named_int name (Some m) e h = never (ap is_some (sym (own name m e)) ∙ h)

  abbrev as_whole : Standing → Bool
  as_whole s = is_whole (operand_of s)

  -- ---- constants

  pub constant_whole : (w : Target) (e : Exp) → is_constant e ≡ true → IsTyped (standing known w e) → is_whole (operand_of (standing known w e)) ≡ true
  constant_whole w (comma e es at) k t = never k
  constant_whole w (assign a o b at) k t = never k
  constant_whole w (conditional a b c at) k t =
      let one = both (is_constant a && is_constant b) (is_constant c) k in
      let two = both (is_constant a) (is_constant b) one.0 in
      ap as_whole (conditional_int (operand_of (standing known no_target a)) (operand_of (standing known no_target b)) (operand_of (standing known no_target c)) t (constant_whole no_target b two.1) (constant_whole no_target c one.1))
  constant_whole w (binary a o b at) k t =
      let one = both (is_constant a) (is_constant b) k in
      ap as_whole (binary_int o (operand_of (standing known no_target a)) (operand_of (standing known no_target b)) t (constant_whole no_target a one.0) (constant_whole no_target b one.1))
  constant_whole w (prefix o a at) k t = ap as_whole (prefix_int o (standing known no_target a) t (both (is_of_numbers o) (is_constant a) k).0)
  constant_whole w (sizeof_exp a at) k t = ap as_whole (sizeof_int known (standing known no_target a) t)
  constant_whole w (sizeof_type u at) k t = ap as_whole (sizeof_type_int known (type_named known u) t)
  constant_whole w (cast u a at) k t = ap as_whole (cast_int known u (operand_of (standing known (cast_target (type_named known u) u.stars) a)) t (both (is_int u) (is_constant a) k).0)
  constant_whole w (index a b at) k t = never k
  constant_whole w (member a name at) k t = never k
  constant_whole w (arrow a name at) k t = never k
  constant_whole w (post_increment a at) k t = never k
  constant_whole w (post_decrement a at) k t = never k
  constant_whole w (named name at) k t = ap as_whole (named_int name (seen known name) refl k)
  constant_whole w (call name es at) k t = never k
  constant_whole w (number n at) k t = number_whole n
  constant_whole w (letter n at) k t = refl
  constant_whole w (text bytes at) k t = never k
  constant_whole w (null at) k t = never k
  constant_whole w (paren a at) k t = constant_whole w a k t

  -- it is made of others, or is a name
  abbrev pub IsFolded : Exp → Type 0
  IsFolded (conditional a b c at) = Unit {0}
  IsFolded (binary a o b at) = Unit {0}
  IsFolded (prefix o a at) = Unit {0}
  IsFolded (sizeof_exp a at) = Unit {0}
  IsFolded (sizeof_type t at) = Unit {0}
  IsFolded (cast t a at) = Unit {0}
  IsFolded (named name at) = Unit {0}
  IsFolded _ = ⊥

  pub constant_is_int : (w : Target) (e : Exp) → IsFolded e → is_constant e ≡ true → IsTyped (standing known w e) → standing known w e ≡ int_value
  constant_is_int w (conditional a b c at) x k t =
      let one = both (is_constant a && is_constant b) (is_constant c) k in
      let two = both (is_constant a) (is_constant b) one.0 in
      conditional_int (operand_of (standing known no_target a)) (operand_of (standing known no_target b)) (operand_of (standing known no_target c)) t (constant_whole no_target b two.1) (constant_whole no_target c one.1)
  constant_is_int w (binary a o b at) x k t =
      let one = both (is_constant a) (is_constant b) k in
      binary_int o (operand_of (standing known no_target a)) (operand_of (standing known no_target b)) t (constant_whole no_target a one.0) (constant_whole no_target b one.1)
  constant_is_int w (prefix o a at) x k t = prefix_int o (standing known no_target a) t (both (is_of_numbers o) (is_constant a) k).0
  constant_is_int w (sizeof_exp a at) x k t = sizeof_int known (standing known no_target a) t
  constant_is_int w (sizeof_type u at) x k t = sizeof_type_int known (type_named known u) t
  constant_is_int w (cast u a at) x k t = cast_int known u (operand_of (standing known (cast_target (type_named known u) u.stars) a)) t (both (is_int u) (is_constant a) k).0
  constant_is_int w (named name at) x k t = named_int name (seen known name) refl k
  constant_is_int w (comma e es at) x k t = absurd x
  constant_is_int w (assign a o b at) x k t = absurd x
  constant_is_int w (index a b at) x k t = absurd x
  constant_is_int w (member a name at) x k t = absurd x
  constant_is_int w (arrow a name at) x k t = absurd x
  constant_is_int w (post_increment a at) x k t = absurd x
  constant_is_int w (post_decrement a at) x k t = absurd x
  constant_is_int w (call name es at) x k t = absurd x
  constant_is_int w (number n at) x k t = absurd x
  constant_is_int w (letter n at) x k t = absurd x
  constant_is_int w (text bytes at) x k t = absurd x
  constant_is_int w (null at) x k t = absurd x
  constant_is_int w (paren a at) x k t = absurd x

module _ (p : Program) (home : ℕ → Option ℕ) (f : Function) (structs : ℕ) where
  -- its value, if it has one
  pub value_stands : (b : Bool) (n : ℤ) (s : Standing) (x : Denoted) (at : Position) → b ≡ true → s ≡ int_value → Stands p home f structs s (constant_by b (Ok n) at x)
  value_stands true n s x at e is = subst (λ z. Stands p home f structs z (denoted_value (core.number n at))) (sym is) (tt, refl, tt)
  value_stands false n s x at e is = never e

  pub folded_stands : (b : Bool) (c : Computed) (s : Standing) (x : Denoted) (at : Position) → (b ≡ true → s ≡ int_value) → Stands p home f structs s x → Stands p home f structs s (constant_by b c at x)
  folded_stands true (Ok n) s x at is h = subst (λ z. Stands p home f structs z (denoted_value (core.number n at))) (sym (is refl)) (tt, refl, tt)
  folded_stands true (Err t) s x at is h = h
  folded_stands false c s x at is h = h
