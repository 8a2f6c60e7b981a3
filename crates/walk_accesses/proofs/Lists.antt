-- Lists and their elements.
use Rattle.std.proofs.Common.{◌≡◌, zero, suc, ◌⊎◌, inl, inr, ⊎_elim, List, [], ◌∷◌, refl, arith}
use Rattle.std.specs.Prelude.{Contains}

pub none : {X : Type 0} (y : X) → Contains [] y → ⊥
none y (k, lt, e) = absurd (omega (arith, lt))

pub here : {X : Type 0} (x : X) (xs : List X) → Contains (x ∷ xs) x
here x xs = (0, omega arith, refl)

pub there : {X : Type 0} (x y : X) (xs : List X) → Contains xs y → Contains (x ∷ xs) y
there x y xs (k, lt, e) = (suc k, omega (arith, lt), e)

pub first_or_later : {X : Type 0} (x y : X) (xs : List X) → Contains (x ∷ xs) y → (x ≡ y) ⊎ Contains xs y
first_or_later x y xs (zero, lt, e) = inl e
first_or_later x y xs (suc k, lt, e) = inr (k, omega (arith, lt), e)

pub only_one : {X : Type 0} (x y : X) → Contains (x ∷ []) y → x ≡ y
only_one x y c = ⊎_elim (λ (e : x ≡ y). e) (λ (q : Contains [] y). absurd (none y q)) (first_or_later x y [] c)
