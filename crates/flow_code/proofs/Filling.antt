-- Registers are filled one after another.
use Rattle.std.proofs.Common.{◌≡◌, ℕ, zero, suc, ◌+◌, List, [], ◌∷◌, ◌++◌, refl, ap, add-one}
use Rattle.word_semantics.specs.Library.{argument}
use Rattle.flow_code.specs.Threads.{with_arguments}

filled : (n : ℕ) (words : List ℕ) → with_arguments (suc n) words ≡ with_arguments n words ++ argument words n ∷ []
filled zero [] = refl
filled zero (w ∷ words) = refl
filled (suc n) [] = ap (λ ws. 0 ∷ ws) (filled n [])
filled (suc n) (w ∷ words) = ap (λ ws. w ∷ ws) (filled n words)

-- one register more
pub filled_more : (n : ℕ) (words : List ℕ) → with_arguments (n + 1) words ≡ with_arguments n words ++ argument words n ∷ []
filled_more n words = rw add-one (filled n words)
