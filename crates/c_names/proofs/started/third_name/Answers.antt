use Rattle.std.proofs.Common.{◌≡◌, ◌<◌, List, [], ◌∷◌, length, map, None, refl, arith}
use Rattle.c_tree.specs.declared.expr.Expr.{Expr}
use Rattle.c_tree.specs.Tree.{listed}
use Rattle.c_tree.specs.View.{exp_of}
use Rattle.c_names.specs.Started as spec
use Rattle.c_names.proofs.started.third_name.Goals as goal

none_of_two : (es : List Expr) → length es < 3 → None ≡ spec.third_name (listed (map exp_of es))
none_of_two [] lt = refl
none_of_two (a ∷ []) lt = refl
none_of_two (a ∷ b ∷ []) lt = refl
none_of_two (a ∷ b ∷ c ∷ es) lt = absurd (omega (arith, lt))

pub returns-in_default : goal.returns-in_default
returns-in_default c = none_of_two c.args.es.now c.in_default.len_below
