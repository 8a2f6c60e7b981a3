-- What a constant expression is: a whole number, or without a type. Its value fits 64 bits.
use Rattle.std.proofs.Common.{◌≡◌, ◌==◌, Bool, true, false, ◌&&◌, if◌then◌else◌, ℤ, Option, Some, None, is_some, option_map, refl, sym, ap, ◌∙◌, subst}
use Rattle.std.proofs.lemmas.Bool.{eqb-true, and_parts, and_from}
use Rattle.rr_base.specs.Texts.{Text}
use Rattle.c_tree.specs.declared.ctype.Specifier.{Specifier}
use Rattle.c_tree.specs.declared.ctype.Specifier.TheVariants as specifier
use Rattle.c_tree.specs.declared.ctype.CType.{CType}
use Rattle.c_tree.specs.declared.expr.BinaryOp.{BinaryOp}
use Rattle.c_tree.specs.declared.expr.BinaryOp.TheVariants as op
use Rattle.c_tree.specs.declared.expr.PrefixOp.{PrefixOp}
use Rattle.c_tree.specs.declared.expr.PrefixOp.TheVariants as prefix_op
use Rattle.c_tree.specs.Tree.{Exp, comma, assign, conditional, binary, prefix, sizeof_exp, sizeof_type, cast, index, member, arrow, post_increment, post_decrement, named, call, number, letter, text, null, paren}
use Rattle.c_types.specs.declared.types.BaseType.TheVariants as base
use Rattle.c_types.specs.declared.types.ObjectType.{ObjectType}
use Rattle.c_types.specs.Types.{int_type}
use Rattle.c_types.specs.Numbers.{is_zero}
use Rattle.c_types.specs.Constants.{constant_named, is_int_specifier, is_int, is_of_numbers, is_constant}
use Rattle.c_types.specs.Scopes.{Known, Meaning, seen, base_of, starred, type_named, is_complete}
use Rattle.c_types.specs.Operands.{Standing, no_type, zero_literal, Operand, any_operand, whole, zero_operand, null_operand, pointing, function_operand, no_operand, operand_of, is_typed, is_scalar, is_whole, are_functions, takes, settled, int_value, result_of, binary_standing, can_choose, chosen}
use Rattle.c_types.specs.Standing.{Target, no_target, cast_target, made_int, prefix_standing, conditional_standing, is_sized, sizeof_type_standing, casts_to, can_cast, cast_standing, named_standing, number_standing, standing}
use Rattle.c_operators.specs.declared.denoted.WordKind.TheVariants as kind
use Rattle.c_operators.specs.Denoted.{is_pointing, kind_of_both}
use Rattle.c_operators.specs.Operators.{is_some_address}
use Rattle.constant_sound.specs.Written.{HidesNoConstant}

abbrev pub IsWhole : Standing → Type 0
IsWhole s = is_whole (operand_of s) ≡ true

-- a number, or nothing
chosen_whole : (c : Bool) (s : Standing) → IsWhole s → IsWhole (if c then s else no_type)
chosen_whole true s h = h
chosen_whole false s h = refl

settled_whole : (allowed : Bool) (a b : Operand) (s : Standing) → IsWhole s → IsWhole (settled allowed a b s)
settled_whole allowed a b s h = chosen_whole (allowed && is_typed a && is_typed b) s h

made_whole : (c : Bool) (a : Operand) → IsWhole (made_int c a)
made_whole c a = chosen_whole (c && is_typed a) int_value refl

-- of two numbers a number is chosen
chosen_of_numbers : (b c : Operand) → is_whole b ≡ true → is_whole c ≡ true → IsWhole (chosen b c)
chosen_of_numbers (pointing t) c hb hc = cc
chosen_of_numbers (function_operand k) c hb hc = cc
chosen_of_numbers null_operand c hb hc = cc
chosen_of_numbers no_operand c hb hc = cc
chosen_of_numbers b (pointing t) hb hc = cc
chosen_of_numbers b (function_operand k) hb hc = cc
chosen_of_numbers b null_operand hb hc = cc
chosen_of_numbers b no_operand hb hc = cc
chosen_of_numbers b c hb hc = refl

conditional_whole : (a b c : Operand) → is_whole b ≡ true → is_whole c ≡ true → IsWhole (conditional_standing a b c)
conditional_whole a b c hb hc = chosen_whole (is_scalar a && is_typed a) (settled (can_choose b c) b c (chosen b c)) (settled_whole (can_choose b c) b c (chosen b c) (chosen_of_numbers b c hb hc))

result_whole : (o : BinaryOp) (a b : Operand) → is_whole a ≡ true → is_whole b ≡ true → IsWhole (result_of o a b)
result_whole op.Add null_operand b ha hb = cc
result_whole op.Add (pointing t) b ha hb = cc
result_whole op.Add (function_operand k) b ha hb = cc
result_whole op.Add no_operand b ha hb = cc
result_whole op.Add a null_operand ha hb = cc
result_whole op.Add a (pointing t) ha hb = cc
result_whole op.Add a (function_operand k) ha hb = cc
result_whole op.Add a no_operand ha hb = cc
result_whole op.Add a b ha hb = refl
result_whole op.Subtract (pointing t) b ha hb = cc
result_whole op.Subtract a b ha hb = refl
result_whole _ a b ha hb = refl

binary_whole : (o : BinaryOp) (a b : Operand) → is_whole a ≡ true → is_whole b ≡ true → IsWhole (binary_standing o a b)
binary_whole o a b ha hb = settled_whole (takes o a b) a b (result_of o a b) (result_whole o a b ha hb)

prefix_whole : (o : PrefixOp) (s : Standing) → is_of_numbers o ≡ true → IsWhole (prefix_standing o s)
prefix_whole prefix_op.Plus s h = made_whole (is_whole (operand_of s)) (operand_of s)
prefix_whole prefix_op.Minus s h = made_whole (is_whole (operand_of s)) (operand_of s)
prefix_whole prefix_op.Not s h = made_whole (is_scalar (operand_of s)) (operand_of s)
prefix_whole prefix_op.Complement s h = made_whole (is_whole (operand_of s)) (operand_of s)
prefix_whole prefix_op.Address s h = cc
prefix_whole prefix_op.Indirect s h = cc
prefix_whole prefix_op.Increment s h = cc
prefix_whole prefix_op.Decrement s h = cc

size_whole : (known : Known) (o : Option ObjectType) → IsWhole (sizeof_type_standing known o)
size_whole known None = refl
size_whole known (Some u) = chosen_whole (is_complete known u) int_value refl

int_base : (known : Known) (s : Specifier) → is_int_specifier s ≡ true → base_of known s ≡ Some base.Int
int_base known (specifier.Int at) h = refl
int_base known (specifier.Long second int at) h = refl
int_base known (specifier.Void at) h = cc
int_base known (specifier.Struct name at) h = cc
int_base known (specifier.PthreadT at) h = refl
int_base known (specifier.PthreadMutexT at) h = cc
int_base known (specifier.PthreadCondT at) h = cc
int_base known (specifier.PthreadBarrierT at) h = cc
int_base known (specifier.PthreadRwlockT at) h = cc

pub int_named : (known : Known) (t : CType) → is_int t ≡ true → type_named known t ≡ Some int_type
int_named known t h =
    let are = and_parts (is_int_specifier t.specifier) (t.stars == 0) h in
    ap (option_map (starred t.stars)) (int_base known t.specifier are.0) ∙ ap (λ n. Some (starred n base.Int)) (eqb-true t.stars 0 are.1)

cast_whole : (known : Known) (t : CType) (a : Operand) → is_int t ≡ true → IsWhole (cast_standing (type_named known t) t.stars a)
cast_whole known t a h = subst (λ z. IsWhole (cast_standing z t.stars a)) (sym (int_named known t h)) (chosen_whole (casts_to (Some int_type) t.stars && can_cast a && is_typed a) int_value refl)

named_whole : (known : Known) (name : Text) (m : Option Meaning) (c : Option ℤ) → ((x : Meaning) → m ≡ Some x → c ≡ None) → is_some c ≡ true → IsWhole (named_standing known name m c)
named_whole known name None None own h = refl
named_whole known name None (Some n) own h = refl
named_whole known name (Some m) c own h = let e = own m refl in cc

number_whole : (n : ℤ) → IsWhole (number_standing n)
number_whole n = by (is_zero n)
  where
    by : (b : Bool) → IsWhole (if b then zero_literal else int_value)
    by true = refl
    by false = refl

pub constant_whole : (known : Known) → HidesNoConstant known → (w : Target) (e : Exp) → is_constant e ≡ true → IsWhole (standing known w e)
constant_whole known own w (conditional a b c at) k =
    let one = and_parts (is_constant a && is_constant b) (is_constant c) k in
    let two = and_parts (is_constant a) (is_constant b) one.0 in
    conditional_whole (operand_of (standing known no_target a)) (operand_of (standing known no_target b)) (operand_of (standing known no_target c)) (constant_whole known own no_target b two.1) (constant_whole known own no_target c one.1)
constant_whole known own w (binary a o b at) k =
    let one = and_parts (is_constant a) (is_constant b) k in
    binary_whole o (operand_of (standing known no_target a)) (operand_of (standing known no_target b)) (constant_whole known own no_target a one.0) (constant_whole known own no_target b one.1)
constant_whole known own w (prefix o a at) k = prefix_whole o (standing known no_target a) (and_parts (is_of_numbers o) (is_constant a) k).0
constant_whole known own w (sizeof_exp a at) k = made_whole (is_sized known (standing known no_target a)) (operand_of (standing known no_target a))
constant_whole known own w (sizeof_type u at) k = size_whole known (type_named known u)
constant_whole known own w (cast u a at) k = cast_whole known u (operand_of (standing known (cast_target (type_named known u) u.stars) a)) (and_parts (is_int u) (is_constant a) k).0
constant_whole known own w (named name at) k = named_whole known name (seen known name) (constant_named name) (own name) k
constant_whole known own w (number n at) k = number_whole n
constant_whole known own w (letter n at) k = refl
constant_whole known own w (paren a at) k = constant_whole known own w a k
constant_whole known own w (comma e es at) k = cc
constant_whole known own w (assign a o b at) k = cc
constant_whole known own w (index a b at) k = cc
constant_whole known own w (member a name at) k = cc
constant_whole known own w (arrow a name at) k = cc
constant_whole known own w (post_increment a at) k = cc
constant_whole known own w (post_decrement a at) k = cc
constant_whole known own w (call name es at) k = cc
constant_whole known own w (text bytes at) k = cc
constant_whole known own w (null at) k = cc

-- no pointer, nor what stands for one
pub not_pointing : (o : Operand) → is_whole o ≡ true → is_pointing o ≡ false
not_pointing (pointing t) h = cc
not_pointing any_operand h = refl
not_pointing whole h = refl
not_pointing zero_operand h = refl
not_pointing null_operand h = refl
not_pointing (function_operand k) h = refl
not_pointing no_operand h = refl

pub no_address : (o : Operand) → is_whole o ≡ true → is_some_address o ≡ false
no_address (pointing t) h = cc
no_address null_operand h = cc
no_address (function_operand k) h = refl
no_address any_operand h = refl
no_address whole h = refl
no_address zero_operand h = refl
no_address no_operand h = refl

-- two numbers are compared, or chosen from, as numbers
pub kind_of_numbers : (a b : Operand) → is_whole a ≡ true → is_whole b ≡ true → kind_of_both a b ≡ kind.Number
kind_of_numbers a b ha hb = ap (λ q. if q then kind.Number else if are_functions a b then kind.Function else kind.Pointer) (and_from (is_whole a) (is_whole b) ha hb)
