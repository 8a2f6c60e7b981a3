use Rattle.std.proofs.Common.{◌≡◌, length, map}
use Rattle.std.specs.Prelude.{IsTrue}
use Rattle.c_lexer.specs.Tokens.{punct_in}
use Rattle.c_lexer.specs.Pieces.{have_bytes}
use Rattle.c_lexer.proofs.spelling.punct_in.Given as goal

abbrev pub invariant-loop-table : goal.invariant-loop-table
invariant-loop-table l = record {
  same : punct_in (map (λ e. (e.0.now, e.1)) l.table) l.text ≡ punct_in (map (λ e. (e.0.now, e.1)) l.initial.table) l.text;
  have_bytes : IsTrue (have_bytes (map (λ e. (e.0.now, e.1)) l.table));
}

abbrev pub decreases-loop-table : goal.decreases-loop-table
decreases-loop-table l = length l.table
