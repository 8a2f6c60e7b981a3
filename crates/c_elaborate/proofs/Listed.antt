-- What is made of each item of a list, one after another by its number.
use Rattle.std.proofs.Common.{◌≡◌, ℕ, ◌+◌, List, [], ◌∷◌, ◌++◌, drop, slice_get, map, Some, None, sym, ap, ◌∙◌, append_assoc}
use Rattle.std.proofs.lemmas.List.{append-nil}
use Rattle.c_operators.proofs.Offsets.{drop_none, drop_met}

-- no item has the number, so all are made
pub made_all : {A B : Type 0} (f : A → B) (xs : List A) (made all : List B) (i : ℕ) →
    slice_get xs i ≡ None → made ++ map f (drop i xs) ≡ all → made ≡ all
made_all f xs made all i none before =
    sym (append-nil made) ∙ (sym (ap (λ z. made ++ map f z) (drop_none xs i none)) ∙ before)

-- one more is made
pub made_more : {A B : Type 0} (f : A → B) (xs : List A) (made next all : List B) (i : ℕ) (x : A) (y : B) →
    slice_get xs i ≡ Some x → y ≡ f x → next ≡ made ++ y ∷ [] → made ++ map f (drop i xs) ≡ all → next ++ map f (drop (i + 1) xs) ≡ all
made_more f xs made next all i x y met is pushed before =
    ap (λ z. z ++ map f (drop (i + 1) xs)) pushed
    ∙ (append_assoc made (y ∷ []) (map f (drop (i + 1) xs))
    ∙ (ap (λ z. made ++ z ∷ map f (drop (i + 1) xs)) is
    ∙ (sym (ap (λ z. made ++ map f z) (drop_met xs i x met)) ∙ before)))
