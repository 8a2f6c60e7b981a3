-- Whole numbers of 64 bits, and what C's operators give of them (C99 6.5.3 to 6.5.12). What C leaves undefined is a
-- trap.
use Rattle.std.specs.Prelude.{ℕ, ◌*◌, ◌^◌, ◌==◌, nat_lt, Bool, true, false, not, if◌then◌else◌, ℤ, pos, negsuc, ◌+ℤ◌, ◌-ℤ◌, ◌*ℤ◌, int_lt, int_le, int_div, int_rem, bit_and, bit_or, bit_xor, Result, Ok, Err}
use Rattle.std.specs.Int.{cast_signed, cast_unsigned, int_shr}
use Rattle.std.specs.Ordering.{int_eq}
use mir.Syntax.{w64}
use Rattle.rr_base.specs.declared.trap.Trap.{Trap}
use Rattle.rr_base.specs.declared.trap.Trap.TheVariants.{Overflow, DivideByZero, ShiftRange}
use Rattle.c_tree.specs.declared.expr.BinaryOp.{BinaryOp}
use Rattle.c_tree.specs.declared.expr.BinaryOp.TheVariants as op
use Rattle.c_tree.specs.declared.expr.PrefixOp.{PrefixOp}
use Rattle.c_tree.specs.declared.expr.PrefixOp.TheVariants as prefix_op

-- a number, or why there is none
abbrev pub Computed : Type 0
Computed = Result ℤ Trap

-- from -2^63 to 2^63 - 1
abbrev pub fits : ℤ → Bool
fits (pos n) = nat_lt n (2 ^ 63)
fits (negsuc n) = nat_lt n (2 ^ 63)

-- signed overflow is undefined in C (C99 6.5)
abbrev pub fitting : ℤ → Computed
fitting z = if fits z then Ok z else Err Overflow

-- 1 where it holds, else 0
abbrev pub truth : Bool → ℤ
truth true = pos 1
truth false = pos 0

-- a number counts as false just where it is 0 (C99 6.5.13)
abbrev pub is_zero : ℤ → Bool
is_zero (pos n) = n == 0
is_zero (negsuc n) = false

-- a quotient or remainder, truncated towards zero: the least number by -1 has a quotient that doesn't fit
abbrev pub divided : (ℤ → ℤ → ℤ) → ℤ → ℤ → Computed
divided f a b = if is_zero b then Err DivideByZero else (if fits (int_div a b) then Ok (f a b) else Err Overflow)

-- a number of places by which 64 bits can be shifted
abbrev pub is_shift : ℤ → Bool
is_shift (pos n) = nat_lt n 64
is_shift (negsuc n) = false

-- by how many bits to shift; meant for numbers from 0 to 63
abbrev pub places : ℤ → ℕ
places (pos n) = n
places (negsuc n) = 0

-- to the left: of a number that isn't negative, with a result that fits
abbrev pub moved_left : ℤ → ℕ → Computed
moved_left (pos a) n = fitting (pos (a * 2 ^ n))
moved_left (negsuc a) n = Err Overflow

-- undefined in C by a negative count, or by 64 and more (C99 6.5.7)
abbrev pub shifted_left : ℤ → ℤ → Computed
shifted_left a n = if is_shift n then moved_left a (places n) else Err ShiftRange

-- to the right: the sign stays
abbrev pub shifted_right : ℤ → ℤ → Computed
shifted_right a n = if is_shift n then Ok (int_shr a (places n)) else Err ShiftRange

-- bit by bit, in two's complement
abbrev pub bitwise : (ℕ → ℕ → ℕ) → ℤ → ℤ → ℤ
bitwise f a b = cast_signed w64 (f (cast_unsigned w64 a) (cast_unsigned w64 b))

-- what an operator gives of two numbers; `&&` and `||` of two that are both computed
abbrev pub computed : BinaryOp → ℤ → ℤ → Computed
computed op.LogicalOr a b = Ok (if is_zero a then truth (not (is_zero b)) else pos 1)
computed op.LogicalAnd a b = Ok (if is_zero a then pos 0 else truth (not (is_zero b)))
computed op.Or a b = Ok (bitwise bit_or a b)
computed op.Xor a b = Ok (bitwise bit_xor a b)
computed op.And a b = Ok (bitwise bit_and a b)
computed op.Equal a b = Ok (truth (int_eq a b))
computed op.NotEqual a b = Ok (truth (not (int_eq a b)))
computed op.Less a b = Ok (truth (int_lt a b))
computed op.Greater a b = Ok (truth (int_lt b a))
computed op.LessEqual a b = Ok (truth (int_le a b))
computed op.GreaterEqual a b = Ok (truth (int_le b a))
computed op.ShiftLeft a b = shifted_left a b
computed op.ShiftRight a b = shifted_right a b
computed op.Add a b = fitting (a +ℤ b)
computed op.Subtract a b = fitting (a -ℤ b)
computed op.Multiply a b = fitting (a *ℤ b)
computed op.Divide a b = divided int_div a b
computed op.Remainder a b = divided int_rem a b

-- what a prefix operator gives of a number; those that need a place give it back
abbrev pub prefixed : PrefixOp → ℤ → Computed
prefixed prefix_op.Plus a = Ok a
prefixed prefix_op.Minus a = fitting (pos 0 -ℤ a)
prefixed prefix_op.Not a = Ok (truth (is_zero a))
prefixed prefix_op.Complement a = Ok (negsuc 0 -ℤ a)
prefixed prefix_op.Address a = Ok a
prefixed prefix_op.Indirect a = Ok a
prefixed prefix_op.Increment a = Ok a
prefixed prefix_op.Decrement a = Ok a
