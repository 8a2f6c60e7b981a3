-- The plain tree of each variant that holds a list.
use Rattle.std.proofs.Common.{◌≡◌, List, refl, ap, map, ◌∙◌}
use Rattle.c_tree.specs.declared.expr.Expr.{Expr, Row_of-Expr, end_of-Expr, more_of-Expr}
use Rattle.c_tree.specs.declared.expr.Expr.TheBlock.{hidden-the_row-Expr-0, items-the_row-Expr, items_hidden-the_row-Expr-0}
use Rattle.c_tree.specs.declared.param.Param.{Param}
use Rattle.c_tree.specs.declared.param.Param.TheBlock.{Row_of-Param, end_of-Param, more_of-Param, hidden-the_row-Param-0, items-the_row-Param, items_hidden-the_row-Param-0}
use Rattle.c_tree.specs.declared.declaration.Initial.{Initial, Row_of-Initial, end_of-Initial, more_of-Initial}
use Rattle.c_tree.specs.declared.declaration.Initial.TheBlock.{hidden-the_row-Initial-0, items-the_row-Initial, items_hidden-the_row-Initial-0}
use Rattle.c_tree.specs.declared.statement.Part.{Part}
use Rattle.c_tree.specs.declared.statement.Part.TheBlock.{Row_of-Part, end_of-Part, more_of-Part, hidden-the_row-Part-0, items-the_row-Part, items_hidden-the_row-Part-0}
use Rattle.c_tree.specs.Tree.{and_exp, listed, and_formal, listed_row, and_init, listed_inits, with_part, listed_parts}
use Rattle.c_tree.specs.View.{exp_of, exps_of_row, formal_of, formals_of_row, init_of, inits_of_row, part_of, parts_of_row}

exps_of_row-items : {n : _} (row : Row_of-Expr n) → exps_of_row row ≡ listed (map exp_of (items-the_row-Expr _ row))
exps_of_row-items end_of-Expr = refl
exps_of_row-items (more_of-Expr e row) = ap (and_exp (exp_of e)) (exps_of_row-items row)

pub exps_of_row-list : (es : List Expr) → exps_of_row (hidden-the_row-Expr-0 es) ≡ listed (map exp_of es)
exps_of_row-list es = exps_of_row-items (hidden-the_row-Expr-0 es) ∙ ap (λ z. listed (map exp_of z)) (items_hidden-the_row-Expr-0 es)

formals_of_row-items : {n : _} (row : Row_of-Param n) → formals_of_row row ≡ listed_row (map formal_of (items-the_row-Param _ row))
formals_of_row-items end_of-Param = refl
formals_of_row-items (more_of-Param x row) = ap (and_formal (formal_of x)) (formals_of_row-items row)

pub formals_of_row-list : (xs : List Param) → formals_of_row (hidden-the_row-Param-0 xs) ≡ listed_row (map formal_of xs)
formals_of_row-list xs = formals_of_row-items (hidden-the_row-Param-0 xs) ∙ ap (λ z. listed_row (map formal_of z)) (items_hidden-the_row-Param-0 xs)

inits_of_row-items : {n : _} (row : Row_of-Initial n) → inits_of_row row ≡ listed_inits (map init_of (items-the_row-Initial _ row))
inits_of_row-items end_of-Initial = refl
inits_of_row-items (more_of-Initial i row) = ap (and_init (init_of i)) (inits_of_row-items row)

pub inits_of_row-list : (is : List Initial) → inits_of_row (hidden-the_row-Initial-0 is) ≡ listed_inits (map init_of is)
inits_of_row-list is = inits_of_row-items (hidden-the_row-Initial-0 is) ∙ ap (λ z. listed_inits (map init_of z)) (items_hidden-the_row-Initial-0 is)

parts_of_row-items : {n : _} (row : Row_of-Part n) → parts_of_row row ≡ listed_parts (map part_of (items-the_row-Part _ row))
parts_of_row-items end_of-Part = refl
parts_of_row-items (more_of-Part p row) = ap (with_part (part_of p)) (parts_of_row-items row)

pub parts_of_row-list : (ps : List Part) → parts_of_row (hidden-the_row-Part-0 ps) ≡ listed_parts (map part_of ps)
parts_of_row-list ps = parts_of_row-items (hidden-the_row-Part-0 ps) ∙ ap (λ z. listed_parts (map part_of z)) (items_hidden-the_row-Part-0 ps)
