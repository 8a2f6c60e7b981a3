-- Lists whose numbers ascend.
use Rattle.std.proofs.Common.{◌≡◌, ℕ, suc, ◌+◌, ◌-◌, ◌<◌, ◌≤◌, Bool, true, false, if◌then◌else◌, List, [], ◌∷◌, ◌++◌, length, ap, arith}
use Rattle.std.specs.Prelude.{filter, slice_get}
use Rattle.flow_code.specs.Holding.{number_of_pair, after_pair, after_pairs}
use Rattle.lock_ownership.specs.ThreadStripes.{AscendFrom}

module _ {A : Type 0} (f g : A → ℕ) where
  pub ascend_lower : (m n : ℕ) (xs : List A) → m ≤ n → AscendFrom f g n xs → AscendFrom f g m xs
  ascend_lower m n [] le h = tt
  ascend_lower m n (x ∷ xs) le h = let at = h.0 in (omega arith, h.1, h.2)

  pub ascend_filter : (p : A → Bool) (n : ℕ) (xs : List A) → AscendFrom f g n xs → AscendFrom f g n (filter p xs)
  ascend_filter p n [] h = tt
  ascend_filter p n (x ∷ xs) h = by (p x) (ascend_filter p (f x + 1) xs h.2)
    where
      by : (b : Bool) → AscendFrom f g (f x + 1) (filter p xs) → AscendFrom f g n (if b then x ∷ filter p xs else filter p xs)
      by true more = (h.0, h.1, more)
      by false more = let at = h.0 in ascend_lower n (f x + 1) (filter p xs) (omega arith) more

-- the number after the last pair is above all of them
above_first : (n : ℕ) (x : ℕ × ℕ) (xs : List (ℕ × ℕ)) → AscendFrom number_of_pair (λ y. y.1) n (x ∷ xs) → n < after_pairs (x ∷ xs)
above_first n x [] h = let at = h.0 in omega arith
above_first n x (y ∷ xs) h =
    let at = h.0 in
    let more = above_first (number_of_pair x + 1) y xs h.2 in
    let last : suc (suc (length xs)) - 1 ≡ suc (suc (length xs) - 1) = omega arith in
    let same : after_pairs (x ∷ y ∷ xs) ≡ after_pairs (y ∷ xs) = ap (λ k. after_pair (slice_get (x ∷ y ∷ xs) k)) last in
    omega arith

pub after_tail : (x y : ℕ × ℕ) (xs : List (ℕ × ℕ)) → after_pairs (x ∷ y ∷ xs) ≡ after_pairs (y ∷ xs)
after_tail x y xs = let last : suc (suc (length xs)) - 1 ≡ suc (suc (length xs) - 1) = omega arith in ap (λ k. after_pair (slice_get (x ∷ y ∷ xs) k)) last

-- ascending pairs after ascending pairs
pub ascend_append : (n m : ℕ) (xs ys : List (ℕ × ℕ)) → n ≤ m → after_pairs xs ≤ m → AscendFrom number_of_pair (λ y. y.1) n xs → AscendFrom number_of_pair (λ y. y.1) m ys → AscendFrom number_of_pair (λ y. y.1) n (xs ++ ys)
ascend_append n m [] ys le last h k = ascend_lower number_of_pair (λ y. y.1) n m ys le k
ascend_append n m (x ∷ []) ys le last h k = (h.0, h.1, ascend_lower number_of_pair (λ y. y.1) (number_of_pair x + 1) m ys last k)
ascend_append n m (x ∷ y ∷ xs) ys le last h k =
    let above = above_first (number_of_pair x + 1) y xs h.2 in
    let tail = after_tail x y xs in
    (h.0, h.1, ascend_append (number_of_pair x + 1) m (y ∷ xs) ys (omega arith) (omega arith) h.2 k)
