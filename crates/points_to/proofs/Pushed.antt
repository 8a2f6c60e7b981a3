-- Rows as places, one after another.
use Rattle.std.proofs.Common.{◌≡◌, ℕ, zero, suc, ◌+◌, List, [], ◌∷◌, ◌++◌, map, drop, sym, ap, ◌∙◌, arith, Some, append_assoc}
use Rattle.std.specs.Prelude.{slice_get}
use Rattle.std.proofs.lemmas.Option.{same_Some}
use Rattle.rr_base.specs.declared.layout.Place.{Place}
use Rattle.points_to.specs.Nodes.{place_from}

drop_got : (row : List ℕ) (k n : ℕ) → slice_get row k ≡ Some n → drop k row ≡ n ∷ drop (k + 1) row
drop_got [] k n h = cc
drop_got (x ∷ xs) zero n h = ap (λ y. y ∷ xs) (same_Some x n h)
drop_got (x ∷ xs) (suc k) n h =
    let e : suc k + 1 ≡ suc (k + 1) = omega arith in
    drop_got xs k n h ∙ ap (λ j. n ∷ drop j (x ∷ xs)) (sym e)

pub place_pushed : (row : List ℕ) (k n : ℕ) (old new whole : List Place) (q : Place) → slice_get row k ≡ Some n → q ≡ place_from n → new ≡ old ++ q ∷ [] → old ++ map place_from (drop k row) ≡ whole → new ++ map place_from (drop (k + 1) row) ≡ whole
place_pushed row k n old new whole q h e made so =
    ap (λ z. z ++ map place_from (drop (k + 1) row)) made
    ∙ append_assoc old (q ∷ []) (map place_from (drop (k + 1) row))
    ∙ ap (λ x. old ++ (x ∷ map place_from (drop (k + 1) row))) e
    ∙ ap (λ z. old ++ map place_from z) (sym (drop_got row k n h))
    ∙ so
