use Rattle.std.proofs.Common.{◌≡◌, length, map}
use Rattle.c_lexer.specs.Directives.{header_len}
use Rattle.c_lexer.proofs.spelling.header_in.Given as goal

abbrev pub invariant-loop-headers : goal.invariant-loop-headers
invariant-loop-headers l = header_len (map (λ h. h.now) l.headers) l.text ≡ header_len (map (λ h. h.now) l.initial.headers) l.text

abbrev pub decreases-loop-headers : goal.decreases-loop-headers
decreases-loop-headers l = length l.headers
