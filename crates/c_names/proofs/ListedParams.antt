-- Parameters as a list and as a row.
use Rattle.std.proofs.Common.{◌≡◌, List, [], ◌∷◌, refl, ap}
use Rattle.c_tree.specs.Tree.{Formal, listed_row}
use Rattle.c_names.specs.Sources.{row_params}

pub row_params-listed_row : (ps : List Formal) → row_params (listed_row ps) ≡ ps
row_params-listed_row [] = refl
row_params-listed_row (p ∷ ps) = ap (λ qs. p ∷ qs) (row_params-listed_row ps)
