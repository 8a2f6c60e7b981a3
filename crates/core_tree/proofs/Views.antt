-- The plain tree of each variant that holds a list.
use Rattle.std.proofs.Common.{◌≡◌, List, refl, ap, map, ◌∙◌}
use Rattle.core_tree.specs.declared.value.Value.{Value}
use Rattle.core_tree.specs.declared.value.Assignment.TheBlock.{Row_of-Value, end_of-Value, more_of-Value, hidden-the_row-Value-0, items-the_row-Value, items_hidden-the_row-Value-0}
use Rattle.core_tree.specs.declared.statement.Statement.{Statement, Row_of-Statement, end_of-Statement, more_of-Statement}
use Rattle.core_tree.specs.declared.statement.Statement.TheBlock.{hidden-the_row-Statement-0, items-the_row-Statement, items_hidden-the_row-Statement-0}
use Rattle.core_tree.specs.Core.{and_exp, listed, and_statement, listed_statements}
use Rattle.core_tree.specs.View.{exp_of, exps_of_row, stmt_of, stmts_of_row}

exps_of_row-items : {n : _} (row : Row_of-Value n) → exps_of_row row ≡ listed (map exp_of (items-the_row-Value _ row))
exps_of_row-items end_of-Value = refl
exps_of_row-items (more_of-Value e row) = ap (and_exp (exp_of e)) (exps_of_row-items row)

pub exps_of_row-list : (es : List Value) → exps_of_row (hidden-the_row-Value-0 es) ≡ listed (map exp_of es)
exps_of_row-list es = exps_of_row-items (hidden-the_row-Value-0 es) ∙ ap (λ z. listed (map exp_of z)) (items_hidden-the_row-Value-0 es)

stmts_of_row-items : {n : _} (row : Row_of-Statement n) → stmts_of_row row ≡ listed_statements (map stmt_of (items-the_row-Statement _ row))
stmts_of_row-items end_of-Statement = refl
stmts_of_row-items (more_of-Statement s row) = ap (and_statement (stmt_of s)) (stmts_of_row-items row)

pub stmts_of_row-list : (ss : List Statement) → stmts_of_row (hidden-the_row-Statement-0 ss) ≡ listed_statements (map stmt_of ss)
stmts_of_row-list ss = stmts_of_row-items (hidden-the_row-Statement-0 ss) ∙ ap (λ z. listed_statements (map stmt_of z)) (items_hidden-the_row-Statement-0 ss)
