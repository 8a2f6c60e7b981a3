use Rattle.std.proofs.Common.{◌≡◌, ◌+◌, drop, option_map}
use Rattle.c_lexer.specs.Comments.{comment_end}
use Rattle.c_lexer.proofs.scan.comment_len.Given as goal

abbrev pub invariant-loop-at : goal.invariant-loop-at
invariant-loop-at l = option_map (λ n. l.at + n) (comment_end (drop l.at l.text)) ≡ comment_end l.text
