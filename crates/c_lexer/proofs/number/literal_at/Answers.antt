use Rattle.std.proofs.Common.{sym, ◌∙◌}
use Rattle.c_lexer.proofs.Numerals.{hexadecimal-some, octal-some, decimal-some}
use Rattle.c_lexer.proofs.number.literal_at.Goals as goal

pub returns-then-begins_hexadecimal-clause-some : goal.returns-then-begins_hexadecimal-clause-some
returns-then-begins_hexadecimal-clause-some c = rw c.based.ensures.value (hexadecimal-some _ (sym c.begins_hexadecimal.ensures.value ∙ c.if-begins_hexadecimal.true))

pub returns-then-byte-eq48-clause-some : goal.returns-then-byte-eq48-clause-some
returns-then-byte-eq48-clause-some c = rw c.based-then-byte-eq48.ensures.value (octal-some _ (sym c.byte.ensures.value ∙ c.if-byte-eq48.true))

pub returns-else-byte-eq48-clause-some : goal.returns-else-byte-eq48-clause-some
returns-else-byte-eq48-clause-some c = rw c.based-else-byte-eq48.ensures.value (decimal-some _ c.requires)
