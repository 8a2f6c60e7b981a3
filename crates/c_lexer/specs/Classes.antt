-- Classes of bytes, as runs of them are counted.
use Rattle.std.specs.Prelude.{ℕ, Bool}
use Rattle.std.specs.Char.{is_digit}
use Rattle.c_lexer.specs.Bytes.{is_gap, is_in_line, continues_name}
use Rattle.c_lexer.specs.declared.scan.Class.{Class}
use Rattle.c_lexer.specs.declared.scan.Class.TheVariants as class

-- whether a byte is of the class; a digit is one in its base
abbrev pub belongs : Class → ℕ → Bool
belongs class.Gap = is_gap
belongs class.Line = is_in_line
belongs class.Name = continues_name
belongs (class.Digit base) = λ b. is_digit b base
