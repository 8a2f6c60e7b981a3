-- The lines of the numbers, one number more.
use Rattle.std.proofs.Common.{◌≡◌, ℕ, suc, ◌+◌, [], ◌∷◌, ◌++◌, map, ap, ◌∙◌}
use Rattle.std.proofs.Math.Numerals.{add-one}
use Rattle.std.proofs.lemmas.List.{append-nil, map-append}
use Rattle.std.proofs.lemmas.Grind.{flat_map-append}
use Rattle.workload.specs.Program.{Text, numbers_below, text_of}

pub text_more : (f : ℕ → Text) (n : ℕ) → text_of (map f (numbers_below (suc n))) ≡ text_of (map f (numbers_below n)) ++ (f n ++ 10 ∷ [])
text_more f n =
    ap text_of (map-append f (numbers_below n) (n ∷ []))
    ∙ flat_map-append (λ line. line ++ 10 ∷ []) (map f (numbers_below n)) (f n ∷ [])
    ∙ ap (λ end. text_of (map f (numbers_below n)) ++ end) (append-nil (f n ++ 10 ∷ []))

pub text_next : (f : ℕ → Text) (n : ℕ) → text_of (map f (numbers_below (n + 1))) ≡ text_of (map f (numbers_below n)) ++ (f n ++ 10 ∷ [])
text_next f n = ap (λ m. text_of (map f (numbers_below m))) (add-one n) ∙ text_more f n
