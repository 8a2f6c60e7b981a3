-- How many expressions a list has.
use Rattle.std.proofs.Common.{◌≡◌, suc, List, [], ◌∷◌, length, map, refl, ap}
use Rattle.c_tree.specs.declared.expr.Expr.{Expr}
use Rattle.c_tree.specs.Tree.{listed}
use Rattle.c_tree.specs.View.{exp_of}
use Rattle.c_rules.specs.Faults.{count_of}

pub count_of_listed : (es : List Expr) → count_of (listed (map exp_of es)) ≡ length es
count_of_listed [] = refl
count_of_listed (e ∷ es) = ap suc (count_of_listed es)
