-- The names of functions that choose are texts.
use Rattle.std.proofs.Common.{ℕ, zero, suc, ◌+◌, ◌/◌, ◌%◌, ◌<◌, Bool, true, false, cond, List, [], ◌∷◌, codes, decimal, IsAscii, IsUtf8, arith}
use Rattle.std.specs.Prelude.{◌==◌, nat_lt}
use Rattle.std.specs.Fmt.{digits, digits_onto, digit_glyph}
use Rattle.std.proofs.lemmas.Str.{IsUtf8-from_ascii, IsUtf8-append}
use Rattle.std.proofs.lemmas.Str.Ascii.{IsAscii-nil}
use Rattle.call_targets.specs.Resolved.{chooser_name}

glyph_below : (d : ℕ) → d < 10 → digit_glyph false d < 128
glyph_below d lt = by (nat_lt d 10)
  where
    by : (b : Bool) → cond b (48 + d) (87 + d) < 128
    by true = omega (arith, lt)
    by false = omega (arith, lt)

glyph_small : (n : ℕ) → digit_glyph false (n % 10) < 128
glyph_small n = glyph_below (n % 10) (omega arith)

one_more : (c : ℕ) (cs : List ℕ) → c < 128 → IsAscii cs → IsAscii (c ∷ cs)
one_more c cs small h zero = small
one_more c cs small h (suc i) = h i

onto_ascii : (k n : ℕ) (acc : List ℕ) → IsAscii acc → IsAscii (digits_onto k 10 false n acc)
onto_ascii zero n acc h = h
onto_ascii (suc k) n acc h = by (n / 10 == 0) (one_more (digit_glyph false (n % 10)) acc (glyph_small n) h) (onto_ascii k (n / 10) (digit_glyph false (n % 10) ∷ acc))
  where
    by : (b : Bool) → IsAscii (digit_glyph false (n % 10) ∷ acc) → (IsAscii (digit_glyph false (n % 10) ∷ acc) → IsAscii (digits_onto k 10 false (n / 10) (digit_glyph false (n % 10) ∷ acc))) → IsAscii (cond b (digit_glyph false (n % 10) ∷ acc) (digits_onto k 10 false (n / 10) (digit_glyph false (n % 10) ∷ acc)))
    by true here more = here
    by false here more = more here

decimal_ascii : (n : ℕ) → IsAscii (decimal n)
unfolding digits
decimal_ascii n = onto_ascii 64 n [] IsAscii-nil

word_ascii : IsAscii (codes "call#")
word_ascii zero = omega arith
word_ascii (suc zero) = omega arith
word_ascii (suc (suc zero)) = omega arith
word_ascii (suc (suc (suc zero))) = omega arith
word_ascii (suc (suc (suc (suc zero)))) = omega arith
word_ascii (suc (suc (suc (suc (suc i))))) = omega arith

pub chooser_named : (n : ℕ) → IsUtf8 (chooser_name n)
chooser_named n = IsUtf8-append (codes "call#") (decimal n) (IsUtf8-from_ascii (codes "call#") word_ascii) (IsUtf8-from_ascii (decimal n) (decimal_ascii n))
