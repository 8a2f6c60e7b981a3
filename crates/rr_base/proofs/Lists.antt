-- Reads of a list by place, after a write, over joined lists and over parts of a list.
use Rattle.std.proofs.Common.{◌≡◌, ◌≢◌, refl, sym, ◌∙◌, ap, ℕ, zero, suc, ◌+◌, ◌<◌, ◌≤◌, List, [], ◌∷◌, ◌++◌, length, take, drop, Some, None, arith}
use Rattle.std.specs.List.{slice_get, slice_set}
use Rattle.std.proofs.lemmas.Option.{same_Some}

-- a write leaves all other places
pub slice_get-set_other : {X : Type 0} (xs : List X) (i j : ℕ) (x : X) → j ≢ i → slice_get (slice_set xs i x) j ≡ slice_get xs j
slice_get-set_other [] i j x ne = refl
slice_get-set_other (y ∷ ys) zero zero x ne = elim (ne refl) [ ]
slice_get-set_other (y ∷ ys) zero (suc j) x ne = refl
slice_get-set_other (y ∷ ys) (suc i) zero x ne = refl
slice_get-set_other (y ∷ ys) (suc i) (suc j) x ne = slice_get-set_other ys i j x (λ e. ne (ap suc e))

-- a write is read back at its place
pub slice_get-set_same : {X : Type 0} (xs : List X) (i : ℕ) (x y : X) → slice_get xs i ≡ Some y → slice_get (slice_set xs i x) i ≡ Some x
slice_get-set_same [] i x y h = cc
slice_get-set_same (z ∷ zs) zero x y h = refl
slice_get-set_same (z ∷ zs) (suc i) x y h = slice_get-set_same zs i x y h

-- the same, at a place that is known by its number
pub slice_get-set_within : {X : Type 0} (xs : List X) (i : ℕ) (x : X) → i < length xs → slice_get (slice_set xs i x) i ≡ Some x
slice_get-set_within [] i x h = absurd (omega arith)
slice_get-set_within (z ∷ zs) zero x h = refl
slice_get-set_within (z ∷ zs) (suc i) x h = slice_get-set_within zs i x (omega arith)

-- a write of what is there changes nothing
pub slice_set-get : {X : Type 0} (xs : List X) (i : ℕ) (x : X) → slice_get xs i ≡ Some x → slice_set xs i x ≡ xs
slice_set-get [] i x h = refl
slice_set-get (y ∷ ys) zero x h = ap (λ z. z ∷ ys) (sym (same_Some y x h))
slice_set-get (y ∷ ys) (suc i) x h = ap (λ zs. y ∷ zs) (slice_set-get ys i x h)

-- each place below the length holds something
pub slice_get_inside : {X : Type 0} (xs : List X) (i : ℕ) → i < length xs → (x : X) × (slice_get xs i ≡ Some x)
slice_get_inside [] i h = absurd (omega arith)
slice_get_inside (x ∷ xs) zero h = (x, refl)
slice_get_inside (x ∷ xs) (suc i) h = slice_get_inside xs i (omega arith)

-- a place that holds nothing is past the end
pub slice_get_outside : {X : Type 0} (xs : List X) (i : ℕ) → slice_get xs i ≡ None → length xs ≤ i
slice_get_outside [] i h = omega arith
slice_get_outside (x ∷ xs) zero h = cc
slice_get_outside (x ∷ xs) (suc i) h = let e = slice_get_outside xs i h in omega arith

-- two joined lists: the places of the first
pub slice_get-append_left : {X : Type 0} (xs ys : List X) (i : ℕ) → i < length xs → slice_get (xs ++ ys) i ≡ slice_get xs i
slice_get-append_left [] ys i h = absurd (omega arith)
slice_get-append_left (x ∷ xs) ys zero h = refl
slice_get-append_left (x ∷ xs) ys (suc i) h = slice_get-append_left xs ys i (omega arith)

-- .. also where what stands there is known, not the length
pub slice_get-append_found : {X : Type 0} (xs ys : List X) (i : ℕ) (x : X) → slice_get xs i ≡ Some x → slice_get (xs ++ ys) i ≡ Some x
slice_get-append_found [] ys i x h = cc
slice_get-append_found (z ∷ zs) ys zero x h = h
slice_get-append_found (z ∷ zs) ys (suc i) x h = slice_get-append_found zs ys i x h

-- two joined lists: the places of the second
pub slice_get-append_right : {X : Type 0} (xs ys : List X) (i : ℕ) → slice_get (xs ++ ys) (length xs + i) ≡ slice_get ys i
slice_get-append_right [] ys i = let e : 0 + i ≡ i = omega arith in ap (slice_get ys) e
slice_get-append_right (x ∷ xs) ys i =
    let e : suc (length xs) + i ≡ suc (length xs + i) = omega arith in ap (slice_get (x ∷ (xs ++ ys))) e ∙ slice_get-append_right xs ys i

-- the item after the first list
pub slice_get-append_at : {X : Type 0} (xs : List X) (x : X) (ys : List X) (n : ℕ) → length xs ≡ n → slice_get (xs ++ x ∷ ys) n ≡ Some x
slice_get-append_at [] x ys n e = ap (slice_get (x ∷ ys)) (sym e)
slice_get-append_at (z ∷ zs) x ys n e = ap (slice_get (z ∷ (zs ++ x ∷ ys))) (sym e) ∙ slice_get-append_at zs x ys (length zs) refl

-- the front of a list keeps its places
pub slice_get-take : {X : Type 0} (n : ℕ) (xs : List X) (i : ℕ) → i < n → slice_get (take n xs) i ≡ slice_get xs i
slice_get-take zero xs i h = absurd (omega arith)
slice_get-take (suc n) [] i h = refl
slice_get-take (suc n) (x ∷ xs) zero h = refl
slice_get-take (suc n) (x ∷ xs) (suc i) h = slice_get-take n xs i (omega arith)

-- the rest of a list has its places moved
pub slice_get-drop : {X : Type 0} (n : ℕ) (xs : List X) (i : ℕ) → slice_get (drop n xs) i ≡ slice_get xs (n + i)
slice_get-drop zero xs i = let e : i ≡ 0 + i = omega arith in ap (slice_get xs) e
slice_get-drop (suc n) [] i = refl
slice_get-drop (suc n) (x ∷ xs) i = let e : suc (n + i) ≡ suc n + i = omega arith in slice_get-drop n xs i ∙ ap (slice_get (x ∷ xs)) e

-- two lists that hold the same at each place are one
pub same_by_slice_get : {X : Type 0} (xs ys : List X) → ((i : ℕ) → slice_get xs i ≡ slice_get ys i) → xs ≡ ys
same_by_slice_get [] [] h = refl
same_by_slice_get [] (y ∷ ys) h = let e = h 0 in cc
same_by_slice_get (x ∷ xs) [] h = let e = h 0 in cc
same_by_slice_get (x ∷ xs) (y ∷ ys) h =
    let e : x ≡ y = same_Some x y (h 0) in let more : xs ≡ ys = same_by_slice_get xs ys (λ i. h (suc i)) in cc

-- two front parts, one after the other
pub take-add : {X : Type 0} (m n : ℕ) (xs : List X) → take (m + n) xs ≡ take m xs ++ take n (drop m xs)
take-add zero n xs = let e : 0 + n ≡ n = omega arith in ap (λ k. take k xs) e
take-add (suc m) zero [] = let e : suc m + 0 ≡ suc m = omega arith in ap (λ k. take k []) e
take-add (suc m) (suc n) [] = let e : suc m + suc n ≡ suc (m + suc n) = omega arith in ap (λ k. take k []) e
take-add (suc m) n (x ∷ xs) =
    let e : suc m + n ≡ suc (m + n) = omega arith in ap (λ k. take k (x ∷ xs)) e ∙ ap (λ zs. x ∷ zs) (take-add m n xs)
