use Rattle.std.proofs.Common.{◌≡◌, length, map}
use Rattle.c_lexer.specs.Tables.{is_among}
use Rattle.c_lexer.proofs.spelling.is_among.Given as goal

abbrev pub invariant-loop-spellings : goal.invariant-loop-spellings
invariant-loop-spellings l = is_among (map (λ s. s.now) l.spellings) l.text ≡ is_among (map (λ s. s.now) l.initial.spellings) l.text

abbrev pub decreases-loop-spellings : goal.decreases-loop-spellings
decreases-loop-spellings l = length l.spellings
