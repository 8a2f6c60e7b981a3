use Rattle.std.proofs.Common.{◌≡◌, ◌≤◌, ◌-◌, length, drop}
use Rattle.c_lexer.specs.Quotes.{body_from}
use Rattle.c_lexer.proofs.Bodies.{with_bytes}
use Rattle.c_lexer.proofs.quoted.body.Given as goal

-- the bytes so far and those of the rest are those of the text
abbrev pub invariant-loop-len : goal.invariant-loop-len
invariant-loop-len l = record {
  bytes : with_bytes l.bytes (body_from 0 l.len (drop l.len l.text)) ≡ body_from 0 0 l.text;
  within : l.len ≤ length l.text;
}

abbrev pub decreases-loop-len : goal.decreases-loop-len
decreases-loop-len l = length l.text - l.len
