-- The core tree of a constant expression computes its value: by recursion on the expression.
use Rattle.std.proofs.Common.{◌≡◌, ℕ, ◌^◌, min, bytes_eq, Bool, true, false, ◌&&◌, if◌then◌else◌, ℤ, pos, negsuc, List, [], ◌∷◌, Option, Some, None, is_some, unwrap_or, Ok, Err, refl, sym, ap, subst, arith}
use Rattle.std.proofs.lemmas.Bool.{and_parts, eqb-true, lt-ltb}
use Rattle.rr_base.specs.declared.position.Position.{Position}
use Rattle.sync_objects.specs.Setup.{SetupView}
use Rattle.word_semantics.specs.Values.{fits}
use Rattle.rr_base.specs.Texts.{Text, entry_of}
use Rattle.c_tree.specs.declared.ctype.CType.{CType}
use Rattle.c_tree.specs.declared.expr.BinaryOp.{BinaryOp}
use Rattle.c_tree.specs.declared.expr.BinaryOp.TheVariants as op
use Rattle.c_tree.specs.Tree.{Exp, comma, assign, conditional, binary, prefix, sizeof_exp, sizeof_type, cast, index, member, arrow, post_increment, post_decrement, named, call, number, letter, text, null, paren}
use Rattle.c_tree.specs.declared.expr.PrefixOp.{PrefixOp}
use Rattle.c_types.specs.declared.types.ObjectType.{ObjectType}
use Rattle.c_types.specs.Types.{size_of_type}
use Rattle.c_types.specs.Numbers.{Computed, is_zero, computed, prefixed}
use Rattle.c_types.specs.Constants.{constants, constant_named, is_int, is_of_numbers, is_constant, and_then, binary_value}
use Rattle.c_types.specs.Scopes.{Known, seen, cells_of_some, type_named}
use Rattle.c_types.specs.Operands.{Standing, no_type, zero_literal, null_literal, a_value, a_place}
use Rattle.c_types.specs.Standing.{Target, no_target, cast_target, standing}
use Rattle.c_constants.specs.Values.{cells_of_standing, size_here, value_here}
use Rattle.core_tree.specs.Core as core
use Rattle.core_tree.specs.Core.{Program}
use Rattle.core_tree.specs.Meaning.{Calls}
use Rattle.c_operators.specs.Denoted.{position_of, Denoted, denoted_zero, denoted_value, Part, part_by, value_by}
use Rattle.c_operators.specs.Context.{Context}
use Rattle.c_operators.specs.Operators.{binary_in, conditional_in, prefix_in, cast_in}
use Rattle.c_values.specs.Expressions.{constant_by, folded, named_denoted, is_pointer_type, denoted}
use Rattle.constant_sound.specs.Running.{fit}
use Rattle.constant_sound.specs.Written.{HidesNoConstant, literals_fit, written}
use Rattle.constant_sound.proofs.Arithmetic.{Fits, number_fits, trap_fits, computed_fits, prefixed_fits}
use Rattle.constant_sound.proofs.Operands.{constant_whole, int_named}
use Rattle.constant_sound.proofs.Trees.{Gives, conditional_gives, binary_gives, prefix_gives, cast_gives, number_gives, folded_gives}

-- ---- values fit

then_fits : (x : Computed) (f : ℤ → Computed) → Fits x → ((n : ℤ) → fits n ≡ true → Fits (f n)) → Fits (and_then x f)
then_fits (Ok n) f h own = own n (h n refl)
then_fits (Err t) f h own = trap_fits t

one_fits : (b : Bool) (x y : Computed) → Fits x → Fits y → Fits (if b then x else y)
one_fits true x y hx hy = hx
one_fits false x y hx hy = hy

binary_fits : (o : BinaryOp) (x y : Computed) → Fits x → Fits y → Fits (binary_value o x y)
binary_fits op.LogicalOr x y hx hy = then_fits x (λ a. if is_zero a then and_then y (λ b. computed op.LogicalOr a b) else Ok (pos 1)) hx (λ a ha. one_fits (is_zero a) (and_then y (λ b. computed op.LogicalOr a b)) (Ok (pos 1)) (then_fits y (computed op.LogicalOr a) hy (λ b hb. computed_fits op.LogicalOr a b ha hb)) (number_fits (pos 1) refl))
binary_fits op.LogicalAnd x y hx hy = then_fits x (λ a. if is_zero a then Ok (pos 0) else and_then y (λ b. computed op.LogicalAnd a b)) hx (λ a ha. one_fits (is_zero a) (Ok (pos 0)) (and_then y (λ b. computed op.LogicalAnd a b)) (number_fits (pos 0) refl) (then_fits y (computed op.LogicalAnd a) hy (λ b hb. computed_fits op.LogicalAnd a b ha hb)))
binary_fits o x y hx hy = then_fits x (λ a. and_then y (λ b. computed o a b)) hx (λ a ha. then_fits y (computed o a) hy (λ b hb. computed_fits o a b ha hb))

counted_fits : (n : ℕ) → fits (pos (min n 65536)) ≡ true
counted_fits n = lt-ltb (min n 65536) (2 ^ 63) (omega arith)

type_fits : (known : Known) (o : Option ObjectType) → fits (pos (cells_of_some known o)) ≡ true
type_fits known None = refl
type_fits known (Some t) = counted_fits (size_of_type known.sizes t)

standing_fits : (known : Known) (s : Standing) → fits (pos (cells_of_standing known s)) ≡ true
standing_fits known no_type = refl
standing_fits known zero_literal = refl
standing_fits known null_literal = refl
standing_fits known (a_value t) = type_fits known (Some t)
standing_fits known (a_place t) = type_fits known (Some t)

-- the library's constants fit
all_fit : List (Text × ℤ) → Bool
all_fit [] = true
all_fit (e ∷ es) = fits e.1 && all_fit es

entry_fits : (es : List (Text × ℤ)) (name : Text) → all_fit es ≡ true → fits (unwrap_or (entry_of es name) (pos 0)) ≡ true
unfolding all_fit
entry_fits [] name all = refl
entry_fits (e ∷ es) name all = by (bytes_eq name e.0) (entry_fits es name (and_parts (fits e.1) (all_fit es) all).1)
  where
    by : (b : Bool) → fits (unwrap_or (entry_of es name) (pos 0)) ≡ true → fits (unwrap_or (if b then Some e.1 else entry_of es name) (pos 0)) ≡ true
    by true more = (and_parts (fits e.1) (all_fit es) all).0
    by false more = more

pub named_fits : (name : Text) → fits (unwrap_or (constant_named name) (pos 0)) ≡ true
unfolding constant_named all_fit
named_fits name = entry_fits constants name refl

pub value_fits : (known : Known) (e : Exp) → is_constant e ≡ true → literals_fit e ≡ true → Fits (value_here known e)
value_fits known (conditional a b c at) k l =
    let one = and_parts (is_constant a && is_constant b) (is_constant c) k in
    let two = and_parts (is_constant a) (is_constant b) one.0 in
    let lits = and_parts (literals_fit a && literals_fit b) (literals_fit c) l in
    let more = and_parts (literals_fit a) (literals_fit b) lits.0 in
    then_fits (value_here known a) (λ n. if is_zero n then value_here known c else value_here known b) (value_fits known a two.0 more.0)
    (λ n h. one_fits (is_zero n) (value_here known c) (value_here known b) (value_fits known c one.1 lits.1) (value_fits known b two.1 more.1))
value_fits known (binary a o b at) k l =
    let one = and_parts (is_constant a) (is_constant b) k in
    let lits = and_parts (literals_fit a) (literals_fit b) l in
    binary_fits o (value_here known a) (value_here known b) (value_fits known a one.0 lits.0) (value_fits known b one.1 lits.1)
value_fits known (prefix o a at) k l = then_fits (value_here known a) (prefixed o) (value_fits known a (and_parts (is_of_numbers o) (is_constant a) k).1 l) (λ n h. prefixed_fits o n h)
value_fits known (sizeof_exp a at) k l = number_fits (pos (size_here known (sizeof_exp a at))) (standing_fits known (standing known no_target a))
value_fits known (sizeof_type t at) k l = number_fits (pos (size_here known (sizeof_type t at))) (type_fits known (type_named known t))
value_fits known (cast t a at) k l = value_fits known a (and_parts (is_int t) (is_constant a) k).1 l
value_fits known (named name at) k l = number_fits (unwrap_or (constant_named name) (pos 0)) (named_fits name)
value_fits known (number n at) k l = number_fits n l
value_fits known (letter n at) k l = number_fits (pos n) l
value_fits known (paren a at) k l = value_fits known a k l
value_fits known (comma e es at) k l = cc
value_fits known (assign a o b at) k l = cc
value_fits known (index a b at) k l = cc
value_fits known (member a name at) k l = cc
value_fits known (arrow a name at) k l = cc
value_fits known (post_increment a at) k l = cc
value_fits known (post_decrement a at) k l = cc
value_fits known (call name es at) k l = cc
value_fits known (text bytes at) k l = cc
value_fits known (null at) k l = cc

fit_of : (c : Computed) → Fits c → fit c ≡ true
fit_of (Ok n) h = h n refl
fit_of (Err t) h = refl

pub value_fit : (known : Known) (e : Exp) → is_constant e ≡ true → literals_fit e ≡ true → fit (value_here known e) ≡ true
value_fit known e k l = fit_of (value_here known e) (value_fits known e k l)

module _ (p : Program) (s : SetupView) (t : ℕ) (calls : Calls) (h : Context) (own : HidesNoConstant h.known) where
  abbrev gives : core.Exp → Computed → Type 0
  gives e c = Gives p s t calls e c

  -- what stands for the expression gives its value
  abbrev IsValue : Denoted → Target → Exp → Type 0
  IsValue x w e = gives (value_by (standing h.known w e) x) (value_here h.known e)

  abbrev part : Denoted → Target → Exp → Part
  part x w e = part_by (standing h.known w e) x

  zero_or_number : (n : ℤ) (st : Standing) (at : Position) → fits n ≡ true → gives (value_by st (if is_zero n then denoted_zero at else denoted_value (core.number n at))) (Ok n)
  zero_or_number n st at fit = by (is_zero n) refl
    where
      zero_is : (z : ℤ) → is_zero z ≡ true → z ≡ pos 0
      zero_is (pos m) e = ap pos (eqb-true m 0 e)
      zero_is (negsuc m) e = cc

      by : (b : Bool) → is_zero n ≡ b → gives (value_by st (if b then denoted_zero at else denoted_value (core.number n at))) (Ok n)
      by true e = subst (λ z. gives (core.number (pos 0) at) (Ok z)) (sym (zero_is n e)) (number_gives p s t calls (pos 0) at refl)
      by false e = number_gives p s t calls n at fit

  -- ---- each operator, whatever stands for its operands

  conditional_value : (a b c : Exp) (at : Position) (w : Target) (x y z : Denoted) → is_constant (conditional a b c at) ≡ true → literals_fit (conditional a b c at) ≡ true → IsValue x no_target a → IsValue y no_target b → IsValue z no_target c →
      IsValue (denoted_value (conditional_in (part x no_target a) (part y no_target b) (part z no_target c) (position_of at))) w (conditional a b c at)
  conditional_value a b c at w x y z k l ha hb hc =
      let one = and_parts (is_constant a && is_constant b) (is_constant c) k in
      let two = and_parts (is_constant a) (is_constant b) one.0 in
      conditional_gives p s t calls (part x no_target a) (part y no_target b) (part z no_target c) (value_here h.known a) (value_here h.known b) (value_here h.known c) (position_of at)
      (constant_whole h.known own no_target b two.1) (constant_whole h.known own no_target c one.1) ha hb hc (value_fits h.known (conditional a b c at) k l)

  operated_value : (o : BinaryOp) (a b : Exp) (at : Position) (w : Target) (x y : Denoted) → is_constant (binary a o b at) ≡ true → literals_fit (binary a o b at) ≡ true → IsValue x no_target a → IsValue y no_target b →
      IsValue (denoted_value (binary_in h.source o (part x no_target a) (part y no_target b) (position_of at))) w (binary a o b at)
  operated_value o a b at w x y k l ha hb =
      let one = and_parts (is_constant a) (is_constant b) k in
      binary_gives p s t calls h.source o (part x no_target a) (part y no_target b) (value_here h.known a) (value_here h.known b) (position_of at)
      (constant_whole h.known own no_target a one.0) (constant_whole h.known own no_target b one.1) ha hb (value_fits h.known (binary a o b at) k l)

  prefix_value : (o : PrefixOp) (a : Exp) (at : Position) (w : Target) (x : Denoted) → is_constant (prefix o a at) ≡ true → literals_fit (prefix o a at) ≡ true → IsValue x no_target a →
      IsValue (prefix_in h.source o (part x no_target a) (position_of at)) w (prefix o a at)
  prefix_value o a at w x k l ha =
      prefix_gives p s t calls h.source o (part x no_target a) (standing h.known w (prefix o a at)) (value_here h.known a) (position_of at)
      (and_parts (is_of_numbers o) (is_constant a) k).0 ha (value_fits h.known (prefix o a at) k l)

  abbrev target_in : CType → Target
  target_in u = cast_target (type_named h.known u) u.stars

  cast_value : (u : CType) (a : Exp) (at : Position) (w : Target) (x : Denoted) → is_constant (cast u a at) ≡ true → IsValue x (target_in u) a →
      IsValue (denoted_value (cast_in (is_pointer_type (type_named h.known u)) (part x (target_in u) a) (position_of at))) w (cast u a at)
  cast_value u a at w x k ha =
      let are = and_parts (is_int u) (is_constant a) k in
      subst (λ o. gives (cast_in (is_pointer_type o) (part x (target_in u) a) (position_of at)) (value_here h.known a)) (sym (int_named h.known u are.0))
      (cast_gives p s t calls (part x (target_in u) a) (value_here h.known a) (position_of at) (constant_whole h.known own (target_in u) a are.1) ha)

  fold_value : (e : Exp) (w : Target) (x : Denoted) (at : Position) → is_constant e ≡ true → literals_fit e ≡ true → IsValue x w e → IsValue (folded h.known e at x) w e
  fold_value e w x at k l hx = folded_gives p s t calls (is_constant e) (value_here h.known e) (standing h.known w e) x at k (value_fits h.known e k l) hx

  sized_value : (e : Exp) (n : ℕ) (w : Target) (at : Position) → fits (pos n) ≡ true → gives (value_by (standing h.known w e) (denoted_value (core.number (pos n) at))) (Ok (pos n))
  sized_value e n w at fit = number_gives p s t calls (pos n) at fit

  named_value : (name : Text) (c : Option ℤ) (st : Standing) (x : Denoted) (at : Position) → is_some c ≡ true → fits (unwrap_or c (pos 0)) ≡ true → gives (value_by st (constant_by (is_some c) (Ok (unwrap_or c (pos 0))) at x)) (Ok (unwrap_or c (pos 0)))
  named_value name None st x at k fit = cc
  named_value name (Some n) st x at k fit = number_gives p s t calls n at fit

  -- ---- expressions

  pub denoted_is : (w : Target) (e : Exp) → is_constant e ≡ true → literals_fit e ≡ true → IsValue (denoted h w e) w e
  denoted_is w (conditional a b c at) k l =
      let one = and_parts (is_constant a && is_constant b) (is_constant c) k in
      let two = and_parts (is_constant a) (is_constant b) one.0 in
      let lits = and_parts (literals_fit a && literals_fit b) (literals_fit c) l in
      let more = and_parts (literals_fit a) (literals_fit b) lits.0 in
      fold_value (conditional a b c at) w (denoted_value (conditional_in (part (denoted h no_target a) no_target a) (part (denoted h no_target b) no_target b) (part (denoted h no_target c) no_target c) (position_of at))) (position_of at) k l
      (conditional_value a b c at w (denoted h no_target a) (denoted h no_target b) (denoted h no_target c) k l (denoted_is no_target a two.0 more.0) (denoted_is no_target b two.1 more.1) (denoted_is no_target c one.1 lits.1))
  denoted_is w (binary a o b at) k l =
      let one = and_parts (is_constant a) (is_constant b) k in
      let lits = and_parts (literals_fit a) (literals_fit b) l in
      fold_value (binary a o b at) w (denoted_value (binary_in h.source o (part (denoted h no_target a) no_target a) (part (denoted h no_target b) no_target b) (position_of at))) (position_of at) k l
      (operated_value o a b at w (denoted h no_target a) (denoted h no_target b) k l (denoted_is no_target a one.0 lits.0) (denoted_is no_target b one.1 lits.1))
  denoted_is w (prefix o a at) k l =
      fold_value (prefix o a at) w (prefix_in h.source o (part (denoted h no_target a) no_target a) (position_of at)) (position_of at) k l
      (prefix_value o a at w (denoted h no_target a) k l (denoted_is no_target a (and_parts (is_of_numbers o) (is_constant a) k).1 l))
  denoted_is w (cast u a at) k l =
      fold_value (cast u a at) w (denoted_value (cast_in (is_pointer_type (type_named h.known u)) (part (denoted h (target_in u) a) (target_in u) a) (position_of at))) (position_of at) k l
      (cast_value u a at w (denoted h (target_in u) a) k (denoted_is (target_in u) a (and_parts (is_int u) (is_constant a) k).1 l))
  denoted_is w (sizeof_exp a at) k l = sized_value (sizeof_exp a at) (size_here h.known (sizeof_exp a at)) w (position_of at) (standing_fits h.known (standing h.known no_target a))
  denoted_is w (sizeof_type u at) k l = sized_value (sizeof_type u at) (size_here h.known (sizeof_type u at)) w (position_of at) (type_fits h.known (type_named h.known u))
  denoted_is w (named name at) k l = named_value name (constant_named name) (standing h.known w (named name at)) (named_denoted h name (seen h.known name) (position_of at)) (position_of at) k (named_fits name)
  denoted_is w (number n at) k l = zero_or_number n (standing h.known w (number n at)) (position_of at) l
  denoted_is w (letter n at) k l = number_gives p s t calls (pos n) (position_of at) l
  denoted_is w (paren a at) k l = denoted_is w a k l
  denoted_is w (comma e es at) k l = cc
  denoted_is w (assign a o b at) k l = cc
  denoted_is w (index a b at) k l = cc
  denoted_is w (member a name at) k l = cc
  denoted_is w (arrow a name at) k l = cc
  denoted_is w (post_increment a at) k l = cc
  denoted_is w (post_decrement a at) k l = cc
  denoted_is w (call name es at) k l = cc
  denoted_is w (text bytes at) k l = cc
  denoted_is w (null at) k l = cc

  pub written_is : (w : Target) (e : Exp) → is_constant e ≡ true → literals_fit e ≡ true → IsValue (written h w e) w e
  written_is w (conditional a b c at) k l =
      let one = and_parts (is_constant a && is_constant b) (is_constant c) k in
      let two = and_parts (is_constant a) (is_constant b) one.0 in
      let lits = and_parts (literals_fit a && literals_fit b) (literals_fit c) l in
      let more = and_parts (literals_fit a) (literals_fit b) lits.0 in
      conditional_value a b c at w (written h no_target a) (written h no_target b) (written h no_target c) k l (written_is no_target a two.0 more.0) (written_is no_target b two.1 more.1) (written_is no_target c one.1 lits.1)
  written_is w (binary a o b at) k l =
      let one = and_parts (is_constant a) (is_constant b) k in
      let lits = and_parts (literals_fit a) (literals_fit b) l in
      operated_value o a b at w (written h no_target a) (written h no_target b) k l (written_is no_target a one.0 lits.0) (written_is no_target b one.1 lits.1)
  written_is w (prefix o a at) k l = prefix_value o a at w (written h no_target a) k l (written_is no_target a (and_parts (is_of_numbers o) (is_constant a) k).1 l)
  written_is w (cast u a at) k l = cast_value u a at w (written h (target_in u) a) k (written_is (target_in u) a (and_parts (is_int u) (is_constant a) k).1 l)
  written_is w (paren a at) k l = written_is w a k l
  written_is w (sizeof_exp a at) k l = denoted_is w (sizeof_exp a at) k l
  written_is w (sizeof_type u at) k l = denoted_is w (sizeof_type u at) k l
  written_is w (named name at) k l = denoted_is w (named name at) k l
  written_is w (number n at) k l = denoted_is w (number n at) k l
  written_is w (letter n at) k l = denoted_is w (letter n at) k l
  written_is w (comma e es at) k l = cc
  written_is w (assign a o b at) k l = cc
  written_is w (index a b at) k l = cc
  written_is w (member a name at) k l = cc
  written_is w (arrow a name at) k l = cc
  written_is w (post_increment a at) k l = cc
  written_is w (post_decrement a at) k l = cc
  written_is w (call name es at) k l = cc
  written_is w (text bytes at) k l = cc
  written_is w (null at) k l = cc
