-- The word `void` is no parameter only where it stands alone.
use Rattle.std.proofs.Common.{◌≡◌, ◌≢◌, false, List, [], ◌∷◌, length, map, refl}
use Rattle.c_tree.specs.declared.param.Param.{Param}
use Rattle.c_tree.specs.Tree.{Formal, formal, formal_pointer, listed_row}
use Rattle.c_tree.specs.View.{formal_of}
use Rattle.c_grammar.specs.Grammar.{is_void_alone}

two_or_more : (x y : Formal) (ys : List Formal) → is_void_alone (listed_row (x ∷ y ∷ ys)) ≡ false
two_or_more (formal s n name at) y ys = refl
two_or_more (formal_pointer s n name xs at) y ys = refl

pub not_one : (xs : List Param) → length xs ≢ 1 → is_void_alone (listed_row (map formal_of xs)) ≡ false
not_one [] h = refl
not_one (x ∷ []) h = absurd (h refl)
not_one (x ∷ y ∷ ys) h = two_or_more (formal_of x) (formal_of y) (map formal_of ys)
