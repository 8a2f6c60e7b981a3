-- A line that is written part by part: a word with a number after it, up to three times, and the newline.
use Rattle.std.proofs.Common.{◌≡◌, ℕ, List, ◌++◌, ap, ◌∙◌, append_assoc}

pub one_number : (o a b w x e : List ℕ) → a ≡ o ++ (w ++ x) → b ≡ a ++ e → b ≡ o ++ (w ++ x ++ e)
one_number o a b w x e p q =
    let r : ((o ++ (w ++ x)) ++ e) ≡ o ++ (w ++ x ++ e) = simp (append_assoc) in
    q ∙ ap (λ t. t ++ e) p ∙ r

pub two_numbers : (o a b c w x v y e : List ℕ) → a ≡ o ++ (w ++ x) → b ≡ a ++ (v ++ y) → c ≡ b ++ e → c ≡ o ++ (w ++ x ++ v ++ y ++ e)
two_numbers o a b c w x v y e p q r =
    let s : (((o ++ (w ++ x)) ++ (v ++ y)) ++ e) ≡ o ++ (w ++ x ++ v ++ y ++ e) = simp (append_assoc) in
    r ∙ ap (λ t. t ++ e) (q ∙ ap (λ t. t ++ (v ++ y)) p) ∙ s

pub three_numbers : (o a b c d w x v y u z e : List ℕ) → a ≡ o ++ (w ++ x) → b ≡ a ++ (v ++ y) → c ≡ b ++ (u ++ z) → d ≡ c ++ e → d ≡ o ++ (w ++ x ++ v ++ y ++ u ++ z ++ e)
three_numbers o a b c d w x v y u z e p q r h =
    let s : ((((o ++ (w ++ x)) ++ (v ++ y)) ++ (u ++ z)) ++ e) ≡ o ++ (w ++ x ++ v ++ y ++ u ++ z ++ e) = simp (append_assoc) in
    h ∙ ap (λ t. t ++ e) (r ∙ ap (λ t. t ++ (u ++ z)) (q ∙ ap (λ t. t ++ (v ++ y)) p)) ∙ s
