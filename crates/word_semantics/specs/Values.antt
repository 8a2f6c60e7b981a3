-- Whole numbers of 64 bits in words, and what C's operators give of them (C99 6.5.3 to 6.5.12). What C leaves
-- undefined is a trap.
use Rattle.std.specs.Prelude.{ℕ, ◌*◌, ◌^◌, ◌==◌, nat_lt, Bool, true, false, not, if◌then◌else◌, ℤ, pos, negsuc, ◌+ℤ◌, ◌-ℤ◌, ◌*ℤ◌, int_lt, int_le, int_div, int_rem, bit_and, bit_or, bit_xor, Result, Ok, Err}
use Rattle.std.specs.Int.{cast_signed, cast_unsigned, int_shr}
use mir.Syntax.{w64}
use Rattle.rr_base.specs.declared.trap.Trap.{Trap}
use Rattle.rr_base.specs.declared.trap.Trap.TheVariants.{Overflow, DivideByZero, ShiftRange}
use Rattle.word_semantics.specs.declared.operator.BinaryOp.{BinaryOp}
use Rattle.word_semantics.specs.declared.operator.BinaryOp.TheVariants as op

-- the signed number that a word shows, and the word that shows a signed number
abbrev pub number : ℕ → ℤ
number w = cast_signed w64 w

-- 64 bits in two's complement: a negative number gets 2^64 added
abbrev pub word : ℤ → ℕ
word z = cast_unsigned w64 z

-- the number fits 64 bits
abbrev pub fits : ℤ → Bool
fits (pos n) = nat_lt n (2 ^ 63)
fits (negsuc n) = nat_lt n (2 ^ 63)

-- the number's word, or Overflow where it doesn't fit
abbrev pub fitting : ℤ → Result ℕ Trap
fitting z = if fits z then Ok (word z) else Err Overflow

-- 1 where it holds, else 0
abbrev pub truth : Bool → ℕ
truth true = 1
truth false = 0

-- no number may be divided by it (C99 6.5.5)
abbrev pub is_zero : ℤ → Bool
is_zero (pos n) = n == 0
is_zero (negsuc n) = false

-- a quotient or remainder, truncated towards zero: the least number by -1 has a quotient that doesn't fit
abbrev pub divided : (ℤ → ℤ → ℤ) → ℤ → ℤ → Result ℕ Trap
divided f a b = if is_zero b then Err DivideByZero else (if fits (int_div a b) then Ok (word (f a b)) else Err Overflow)

-- a number of places by which 64 bits can be shifted
abbrev pub is_shift : ℤ → Bool
is_shift (pos n) = nat_lt n 64
is_shift (negsuc n) = false

-- by how many bits a shift moves; a negative count was refused before
abbrev pub places : ℤ → ℕ
places (pos n) = n
places (negsuc n) = 0

-- to the left: of a number that isn't negative, with a result that fits
abbrev pub moved_left : ℤ → ℕ → Result ℕ Trap
moved_left (pos a) n = fitting (pos (a * 2 ^ n))
moved_left (negsuc a) n = Err Overflow

-- C's `<<`, by 0 to 63 places; others are a trap (C99 6.5.7)
abbrev pub shifted_left : ℤ → ℤ → Result ℕ Trap
shifted_left a n = if is_shift n then moved_left a (places n) else Err ShiftRange

-- to the right: the sign stays
abbrev pub shifted_right : ℤ → ℤ → Result ℕ Trap
shifted_right a n = if is_shift n then Ok (word (int_shr a (places n))) else Err ShiftRange

-- what an operator gives of two words that are whole numbers
abbrev pub binary_of : BinaryOp → ℕ → ℕ → Result ℕ Trap
binary_of op.Add a b = fitting (number a +ℤ number b)
binary_of op.Subtract a b = fitting (number a -ℤ number b)
binary_of op.Multiply a b = fitting (number a *ℤ number b)
binary_of op.Divide a b = divided int_div (number a) (number b)
binary_of op.Remainder a b = divided int_rem (number a) (number b)
binary_of op.And a b = Ok (bit_and a b)
binary_of op.Or a b = Ok (bit_or a b)
binary_of op.Xor a b = Ok (bit_xor a b)
binary_of op.ShiftLeft a b = shifted_left (number a) (number b)
binary_of op.ShiftRight a b = shifted_right (number a) (number b)
binary_of op.Less a b = Ok (truth (int_lt (number a) (number b)))
binary_of op.LessEqual a b = Ok (truth (int_le (number a) (number b)))
binary_of op.Greater a b = Ok (truth (int_lt (number b) (number a)))
binary_of op.GreaterEqual a b = Ok (truth (int_le (number b) (number a)))
binary_of op.Equal a b = Ok (truth (a == b))
binary_of op.NotEqual a b = Ok (truth (not (a == b)))
