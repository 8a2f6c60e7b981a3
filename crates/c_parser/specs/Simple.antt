-- What the reader of short statements gives.
use Rattle.std.specs.Prelude.{◌≡◌, ℕ, List, Option, Some, None, Result, Ok, Err}
use Rattle.std.specs.Borrow.{Bor}
use Rattle.c_lexer.specs.declared.token.Token.{Token}
use Rattle.c_tree.specs.declared.statement.Stmt.{Stmt}
use Rattle.c_tree.specs.View.{stmt_of}
use Rattle.c_parse_rules.specs.declared.token.Stop.{Stop}
use Rattle.c_grammar.specs.Parse.{Got, run}
use Rattle.c_grammar.specs.Rules.{read, simple_rule, control_rule}
use Rattle.c_parse_rules.specs.Gives.{limit, lexemes, Stops}

-- one of a semicolon or of a jump, or none where the rule of the others decides
abbrev pub MaySimply : ℕ → List Token → Result (Option (Stmt × Bor (List Token))) Stop → Type 0
MaySimply l ts (Ok None) = run limit (read limit) (simple_rule l) (lexemes ts) ≡ run limit (read limit) (control_rule l) (lexemes ts)
MaySimply l ts (Ok (Some x)) = run limit (read limit) (simple_rule l) (lexemes ts) ≡ Got (stmt_of x.0) (lexemes x.1.now)
MaySimply l ts (Err s) = Stops s (run limit (read limit) (simple_rule l) (lexemes ts))
