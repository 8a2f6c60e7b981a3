-- Tests of lists, item by item.
use Rattle.std.proofs.Common.{◌≡◌, ℕ, zero, suc, ◌+◌, ◌<◌, ◌&&◌, Bool, true, false, List, [], ◌∷◌, ◌++◌, length, map, refl, sym, ap, ◌∙◌, subst, arith, Some}
use Rattle.std.specs.Prelude.{slice_get}
use Rattle.std.specs.List.{list_all}
use Rattle.std.proofs.lemmas.Option.{same_Some}

pub both : (p q : Bool) → p && q ≡ true → (p ≡ true) × (q ≡ true)
both true q h = (refl, h)
both false q h = cc

pub two : (p q : Bool) → p ≡ true → q ≡ true → p && q ≡ true
two true q h k = k
two false q h k = cc

-- what a test of all items tells of one
pub all_at : {X : Type 0} (p : X → Bool) (xs : List X) (i : ℕ) (x : X) → list_all p xs ≡ true → slice_get xs i ≡ Some x → p x ≡ true
all_at p [] i x h g = cc
all_at p (y ∷ ys) zero x h g = subst (λ z. p z ≡ true) (same_Some y x g) (both (p y) (list_all p ys) h).0
all_at p (y ∷ ys) (suc i) x h g = all_at p ys i x (both (p y) (list_all p ys) h).1 g

pub all_of : {X : Type 0} (p : X → Bool) (xs : List X) → ((i : ℕ) (x : X) → slice_get xs i ≡ Some x → p x ≡ true) → list_all p xs ≡ true
all_of p [] h = refl
all_of p (x ∷ xs) h = two (p x) (list_all p xs) (h 0 x refl) (all_of p xs (λ i y g. h (suc i) y g))

pub all_append : {X : Type 0} (p : X → Bool) (xs ys : List X) → list_all p xs ≡ true → list_all p ys ≡ true → list_all p (xs ++ ys) ≡ true
all_append p [] ys h k = k
all_append p (x ∷ xs) ys h k = let b = both (p x) (list_all p xs) h in two (p x) (list_all p (xs ++ ys)) b.0 (all_append p xs ys b.1 k)

-- ---- items at places

pub get_left : {X : Type 0} (xs ys : List X) (j : ℕ) → j < length xs → slice_get (xs ++ ys) j ≡ slice_get xs j
get_left [] ys j lt = absurd (omega arith)
get_left (x ∷ xs) ys zero lt = refl
get_left (x ∷ xs) ys (suc j) lt = get_left xs ys j (omega arith)

suc_add : (m n : ℕ) → suc m + n ≡ suc (m + n)
suc_add m n = omega arith

pub get_right : {X : Type 0} (xs ys : List X) (j : ℕ) → slice_get (xs ++ ys) (length xs + j) ≡ slice_get ys j
get_right [] ys j = let e : 0 + j ≡ j = omega arith in ap (slice_get ys) e
get_right (x ∷ xs) ys j = ap (slice_get (x ∷ (xs ++ ys))) (suc_add (length xs) j) ∙ get_right xs ys j

pub found : {X : Type 0} (xs : List X) (k : ℕ) → k < length xs → (x : X) × (slice_get xs k ≡ Some x)
found [] k lt = absurd (omega arith)
found (x ∷ xs) zero lt = (x, refl)
found (x ∷ xs) (suc k) lt = found xs k (omega arith)

pub got_map : {X Y : Type 0} (f : X → Y) (xs : List X) (k : ℕ) (y : Y) → slice_get (map f xs) k ≡ Some y → (x : X) × (slice_get xs k ≡ Some x) × (y ≡ f x)
got_map f [] k y h = cc
got_map f (x ∷ xs) zero y h = (x, refl, sym (same_Some (f x) y h))
got_map f (x ∷ xs) (suc k) y h = got_map f xs k y h

pub length_map : {X Y : Type 0} (f : X → Y) (xs : List X) → length (map f xs) ≡ length xs
length_map f [] = refl
length_map f (x ∷ xs) = ap suc (length_map f xs)

pub length_append : {X : Type 0} (xs ys : List X) → length (xs ++ ys) ≡ length xs + length ys
length_append [] ys = omega arith
length_append (x ∷ xs) ys = ap suc (length_append xs ys) ∙ sym (suc_add (length xs) (length ys))
