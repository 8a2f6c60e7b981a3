-- One step of a Take along the numbers of the stripes that it wants.
use Rattle.std.proofs.Common.{◌≡◌, ℕ, ◌+◌, ◌-◌, ◌<◌, Bool, true, false, List, [], ◌∷◌, ◌++◌, refl, sym, ap, ◌∙◌}
use Rattle.flow_code.specs.Stripes.{and_stripe, stripes_from}
use Rattle.flow_code.proofs.Counting.{stripes_step}

added : (b : Bool) (xs : List (ℕ × ℕ)) (k : ℕ) (rest : List (ℕ × ℕ)) → (xs ++ and_stripe b k []) ++ rest ≡ xs ++ and_stripe b k rest
added true [] k rest = refl
added false [] k rest = refl
added b (x ∷ xs) k rest = ap (λ z. x ∷ z) (added b xs k rest)

pub pairs_step : (p : ℕ → Bool) (xs ys taken : List (ℕ × ℕ)) (b : Bool) (k from to : ℕ) → k < to → b ≡ p k → ys ≡ xs ++ and_stripe b k [] → xs ++ stripes_from p (to - k) k ≡ taken ++ stripes_from p (to - from) from → ys ++ stripes_from p (to - (k + 1)) (k + 1) ≡ taken ++ stripes_from p (to - from) from
pairs_step p xs ys taken b k from to lt is items before =
    let rest = stripes_from p (to - (k + 1)) (k + 1) in
    ap (λ z. z ++ rest) items
    ∙ added b xs k rest
    ∙ ap (λ z. xs ++ and_stripe z k rest) is
    ∙ ap (λ z. xs ++ z) (sym (stripes_step p k to lt))
    ∙ before
