-- How many cells lie before a member, met one member after another.
use Rattle.std.proofs.Common.{◌≡◌, ℕ, zero, suc, ◌+◌, ◌-◌, ◌<◌, List, [], ◌∷◌, drop, slice_get, Option, Some, None, refl, ap, ◌∙◌, arith}
use Rattle.std.proofs.lemmas.List.{drop_more, drop_all}
use Rattle.std.proofs.lemmas.Option.{slice_get_within, get_or_from_slice_get}
use Rattle.c_types.specs.declared.types.ObjectType.{ObjectType}
use Rattle.c_types.specs.Scopes.{Known, cells_of_some}
use Rattle.c_operators.specs.Context.{cells_of_first}

pub drop_none : {A : Type 0} (xs : List A) (i : ℕ) → slice_get xs i ≡ None → drop i xs ≡ []
drop_none [] i e = drop_all i [] (omega arith)
drop_none (x ∷ xs) zero e = cc
drop_none (x ∷ xs) (suc i) e = drop_none xs i e

pub drop_met : {A : Type 0} (xs : List A) (i : ℕ) (x : A) → slice_get xs i ≡ Some x → drop i xs ≡ x ∷ drop (i + 1) xs
drop_met xs i x e = drop_more xs i x (slice_get_within xs i x e) ∙ ap (λ y. y ∷ drop (i + 1) xs) (get_or_from_slice_get xs i x x e)

cells_of_nothing : (known : Known) (n : ℕ) → cells_of_first known n [] ≡ 0
cells_of_nothing known zero = refl
cells_of_nothing known (suc n) = refl

pub cells_after : (known : Known) (ts : List (Option ObjectType)) (n i : ℕ) → slice_get ts i ≡ None → cells_of_first known n (drop i ts) ≡ 0
cells_after known ts n i e = ap (cells_of_first known n) (drop_none ts i e) ∙ cells_of_nothing known n

pub cells_met : (known : Known) (ts : List (Option ObjectType)) (many i : ℕ) (t : Option ObjectType) → i < many → slice_get ts i ≡ Some t →
    cells_of_first known (many - i) (drop i ts) ≡ cells_of_some known t + cells_of_first known (many - (i + 1)) (drop (i + 1) ts)
cells_met known ts many i t lt e =
    let left : many - i ≡ suc (many - (i + 1)) = omega arith in
    ap (λ m. cells_of_first known m (drop i ts)) left
    ∙ ap (cells_of_first known (suc (many - (i + 1)))) (drop_met ts i t e)
