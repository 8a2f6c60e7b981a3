-- Constant expressions and their values (C99 6.6).
use Rattle.std.specs.Prelude.{ℕ, ◌==◌, Bool, true, false, ◌&&◌, if◌then◌else◌, ℤ, pos, negsuc, List, [], ◌∷◌, Option, is_some, unwrap_or, Ok, Err, codes}
use Rattle.rr_base.specs.Texts.{Text, entry_of}
use Rattle.c_tree.specs.declared.ctype.Specifier.{Specifier}
use Rattle.c_tree.specs.declared.ctype.Specifier.TheVariants as specifier
use Rattle.c_tree.specs.declared.ctype.CType.{CType}
use Rattle.c_tree.specs.declared.expr.BinaryOp.{BinaryOp}
use Rattle.c_tree.specs.declared.expr.BinaryOp.TheVariants as op
use Rattle.c_tree.specs.declared.expr.PrefixOp.{PrefixOp}
use Rattle.c_tree.specs.declared.expr.PrefixOp.TheVariants as prefix_op
use Rattle.c_tree.specs.Tree.{Exp, comma, assign, conditional, binary, prefix, sizeof_exp, sizeof_type, cast, index, member, arrow, post_increment, post_decrement, named, call, number, letter, text, null, paren}
use Rattle.c_types.specs.Numbers.{Computed, computed, prefixed, is_zero}

-- the constants of the library
abbrev pub constants : List (Text × ℤ)
constants =
    (codes "EOF", negsuc 0) ∷
    (codes "EBUSY", pos 16) ∷
    (codes "EAGAIN", pos 11) ∷
    (codes "PTHREAD_BARRIER_SERIAL_THREAD", negsuc 0) ∷
    (codes "EXIT_SUCCESS", pos 0) ∷
    (codes "EXIT_FAILURE", pos 1) ∷
    []

-- `NULL` isn't among them: it is a literal of its own
unfoldable pub constant_named : Text → Option ℤ
constant_named name = entry_of constants name

-- the specifier is one of Int
abbrev pub is_int_specifier : Specifier → Bool
is_int_specifier (specifier.Int at) = true
is_int_specifier (specifier.Long second int at) = true
is_int_specifier (specifier.Void at) = false
is_int_specifier (specifier.Struct name at) = false
is_int_specifier (specifier.PthreadT at) = true
is_int_specifier (specifier.PthreadMutexT at) = false
is_int_specifier (specifier.PthreadCondT at) = false
is_int_specifier (specifier.PthreadBarrierT at) = false
is_int_specifier (specifier.PthreadRwlockT at) = false

-- the only type to which a constant expression may be cast
abbrev pub is_int : CType → Bool
is_int t = is_int_specifier t.specifier && (t.stars == 0)

-- the operator makes a number of a number
abbrev pub is_of_numbers : PrefixOp → Bool
is_of_numbers prefix_op.Address = false
is_of_numbers prefix_op.Indirect = false
is_of_numbers prefix_op.Plus = true
is_of_numbers prefix_op.Minus = true
is_of_numbers prefix_op.Not = true
is_of_numbers prefix_op.Complement = true
is_of_numbers prefix_op.Increment = false
is_of_numbers prefix_op.Decrement = false

-- of the prefix operators only `&` gives an address constant
abbrev pub is_address : PrefixOp → Bool
is_address prefix_op.Address = true
is_address _ = false

-- it has the form of a constant expression, also in what isn't computed
abbrev pub is_constant : Exp → Bool
is_constant (comma e es at) = false
is_constant (assign a op b at) = false
is_constant (conditional a b c at) = is_constant a && is_constant b && is_constant c
is_constant (binary a op b at) = is_constant a && is_constant b
is_constant (prefix op a at) = is_of_numbers op && is_constant a
is_constant (sizeof_exp a at) = true
is_constant (sizeof_type t at) = true
is_constant (cast t a at) = is_int t && is_constant a
is_constant (index a b at) = false
is_constant (member a name at) = false
is_constant (arrow a name at) = false
is_constant (post_increment a at) = false
is_constant (post_decrement a at) = false
is_constant (named name at) = is_some (constant_named name)
is_constant (call name es at) = false
is_constant (number n at) = true
is_constant (letter n at) = true
is_constant (text bytes at) = false
is_constant (null at) = false
is_constant (paren a at) = is_constant a

-- and then another, or the trap of the first
abbrev pub and_then : Computed → (ℤ → Computed) → Computed
and_then (Ok a) f = f a
and_then (Err t) f = Err t

-- `&&` and `||` compute their second operand only where it matters
abbrev pub binary_value : BinaryOp → Computed → Computed → Computed
binary_value op.LogicalOr x y = and_then x (λ a. if is_zero a then and_then y (λ b. computed op.LogicalOr a b) else Ok (pos 1))
binary_value op.LogicalAnd x y = and_then x (λ a. if is_zero a then Ok (pos 0) else and_then y (λ b. computed op.LogicalAnd a b))
binary_value o x y = and_then x (λ a. and_then y (λ b. computed o a b))

-- the value of a constant expression, where `size` tells the size of each `sizeof`; 0 of one that isn't constant
abbrev pub value_of : (Exp → ℕ) → Exp → Computed
value_of size (comma e es at) = Ok (pos 0)
value_of size (assign a op b at) = Ok (pos 0)
value_of size (conditional a b c at) = and_then (value_of size a) (λ n. if is_zero n then value_of size c else value_of size b)
value_of size (binary a op b at) = binary_value op (value_of size a) (value_of size b)
value_of size (prefix op a at) = and_then (value_of size a) (prefixed op)
value_of size (sizeof_exp a at) = Ok (pos (size (sizeof_exp a at)))
value_of size (sizeof_type t at) = Ok (pos (size (sizeof_type t at)))
value_of size (cast t a at) = value_of size a
value_of size (index a b at) = Ok (pos 0)
value_of size (member a name at) = Ok (pos 0)
value_of size (arrow a name at) = Ok (pos 0)
value_of size (post_increment a at) = Ok (pos 0)
value_of size (post_decrement a at) = Ok (pos 0)
value_of size (named name at) = Ok (unwrap_or (constant_named name) (pos 0))
value_of size (call name es at) = Ok (pos 0)
value_of size (number n at) = Ok n
value_of size (letter n at) = Ok (pos n)
value_of size (text bytes at) = Ok (pos 0)
value_of size (null at) = Ok (pos 0)
value_of size (paren a at) = value_of size a
