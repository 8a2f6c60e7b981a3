-- Rows that are empty.
use Rattle.std.proofs.Common.{◌≡◌, ℕ, zero, suc, List, [], ◌∷◌, ◌++◌, map, length, refl, ap, arith}
use Rattle.points_to.specs.Ascending.{row_of, AreSound}

pub empty_more : {X : Type 0} (f : X → List ℕ) (xs : List X) (v : X) → f v ≡ [] → ((n : ℕ) → row_of (map f xs) n ≡ []) → (n : ℕ) → row_of (map f (xs ++ v ∷ [])) n ≡ []
empty_more f [] v e h zero = e
empty_more f [] v e h (suc n) = refl
empty_more f (x ∷ xs) v e h zero = h zero
empty_more f (x ∷ xs) v e h (suc n) = empty_more f xs v e (λ m. h (suc m)) n

pub empty_sound : (rows : List (List ℕ)) → ((n : ℕ) → row_of rows n ≡ []) → AreSound rows
empty_sound rows h = record { ascend = λ n i j lt m. absurd (omega (arith, ap (λ (z : List ℕ). length z) (h n))); small = λ n. let e : length (row_of rows n) ≡ 0 = ap (λ (z : List ℕ). length z) (h n) in omega arith }
