-- Ascending lists, and rows of them.
use Rattle.std.proofs.Common.{◌≡◌, ℕ, zero, suc, ◌+◌, ◌-◌, ◌<◌, ◌≤◌, List, [], ◌∷◌, length, get_or, set, map, sym, ap, ◌∙◌, subst, arith, ◌⊎◌, inl, inr, ⊎_elim, add-one, ◌^◌, get_or-set_same, get_or-set_other, Err}
use Rattle.std.specs.List.{Contains, insert}
use Rattle.std.specs.List.Sorted.{IsBinarySearchResult}
use Rattle.std.specs.Ordering.{nat_cmp}
use Rattle.std.proofs.lemmas.List.Sorted.{IsPermutation-insert, IsPermutation-sym, Contains-permutation, searched}
use Rattle.std.proofs.lemmas.List.Edits.{length-insert, get_or-insert_below, get_or-insert_at, get_or-insert_above}
use Rattle.std.proofs.lemmas.List.{get_or-map, map-set, set-get_or, length-map}
use Rattle.std.proofs.lemmas.Bool.{cases_lt, cases_eq}
use Rattle.points_to.specs.Ascending.{IsAscending, In, row_of, room, AreSound}

Contains-cons_cases : (x : ℕ) (xs : List ℕ) (q : ℕ) → Contains (x ∷ xs) q → Contains xs q ⊎ (q ≡ x)
Contains-cons_cases x xs q (zero, lt, e) = inr (sym e)
Contains-cons_cases x xs q (suc k, lt, e) = inl (k, omega arith, e)

pub insert_from : (xs : List ℕ) (i y q : ℕ) → Contains (insert xs i y) q → Contains xs q ⊎ (q ≡ y)
insert_from xs i y q h = Contains-cons_cases y xs q (Contains-permutation (insert xs i y) (y ∷ xs) q (IsPermutation-sym (y ∷ xs) (insert xs i y) (IsPermutation-insert xs i y)) h)

-- the index before the insert
pub insert_ascends : (xs : List ℕ) (i y : ℕ) → IsAscending xs → IsBinarySearchResult (λ z. nat_cmp z y) xs (Err i) → i ≤ length xs → IsAscending (insert xs i y)
insert_ascends xs i y up found le a b lt within = go (cases_lt a i) (cases_lt b i) (cases_lt i a) (cases_lt i b)
  where
    place : (i ≤ length xs) × ((k : ℕ) → k < i → get_or xs k 0 < y) × ((k : ℕ) → i ≤ k → k < length xs → y < get_or xs k 0)
    place = searched xs y (Err i) found (λ j k le lt. ⊎_elim (λ (l : j < k). omega (arith, up j k l lt)) (λ (g : k ≤ j). let e : j ≡ k = omega arith in omega (arith, ap (λ n. get_or xs n 0) e)) (cases_lt j k))

    long : b < length xs + 1
    long = omega (arith, length-insert xs i y le)

    above : (k : ℕ) → i < k → get_or (insert xs i y) k 0 ≡ get_or xs (k - 1) 0
    above zero h = absurd (omega arith)
    above (suc k) h = ap (λ n. get_or (insert xs i y) n 0) (sym (add-one k)) ∙ get_or-insert_above xs i y 0 k (omega arith) le ∙ ap (λ n. get_or xs n 0) (omega arith)

    go : (a < i) ⊎ (i ≤ a) → (b < i) ⊎ (i ≤ b) → (i < a) ⊎ (a ≤ i) → (i < b) ⊎ (b ≤ i) → get_or (insert xs i y) a 0 < get_or (insert xs i y) b 0
    go (inl p) (inl q) _ _ = omega (arith, get_or-insert_below xs i y 0 a p le, get_or-insert_below xs i y 0 b q le, up a b lt (omega arith))
    go (inl p) (inr q) _ (inl r) = omega (arith, get_or-insert_below xs i y 0 a p le, above b r, up a (b - 1) (omega arith) (omega (arith, long)))
    go (inl p) (inr q) _ (inr r) = let e : b ≡ i = omega arith in omega (arith, get_or-insert_below xs i y 0 a p le, get_or-insert_at xs i y 0 le, ap (λ n. get_or (insert xs i y) n 0) e, place.1 a p)
    go (inr p) (inl q) _ _ = absurd (omega arith)
    go (inr p) (inr q) (inl r) _ = omega (arith, above a r, above b (omega arith), up (a - 1) (b - 1) (omega arith) (omega (arith, long)))
    go (inr p) (inr q) (inr r) _ = let e : a ≡ i = omega arith in omega (arith, get_or-insert_at xs i y 0 le, ap (λ n. get_or (insert xs i y) n 0) e, above b (omega arith), place.2 (b - 1) (omega arith) (omega (arith, long)))

-- one row changed
row-set_same : (rows : List (List ℕ)) (n : ℕ) (r : List ℕ) → n < length rows → row_of (set rows n r) n ≡ r
row-set_same rows n r lt = get_or-set_same rows n r [] lt

row-set_other : (rows : List (List ℕ)) (n m : ℕ) (r : List ℕ) → (m ≡ n → ⊥) → row_of (set rows n r) m ≡ row_of rows m
row-set_other rows n m r ne = get_or-set_other rows n m r [] ne

-- what holds of the new row and of each old one holds of each
pub rows_keep : (P : List ℕ → Type 0) (rows : List (List ℕ)) (n : ℕ) (r : List ℕ) → n < length rows → P r → ((m : ℕ) → P (row_of rows m)) → (m : ℕ) → P (row_of (set rows n r) m)
rows_keep P rows n r lt p all m =
    ⊎_elim
    (λ (e : m ≡ n). subst P (sym (ap (λ k. row_of (set rows n r) k) e ∙ row-set_same rows n r lt)) p)
    (λ ne. subst P (sym (row-set_other rows n m r ne)) (all m))
    (cases_eq m n)

pub row_in : (rows : List (List ℕ)) (n p : ℕ) (r : List ℕ) → n < length rows → Contains r p → In (set rows n r) n p
row_in rows n p r lt h = subst (λ (z : List ℕ). Contains z p) (sym (row-set_same rows n r lt)) h

pub row_from : (rows : List (List ℕ)) (n p m q : ℕ) (r : List ℕ) → n < length rows → ((x : ℕ) → Contains r x → Contains (row_of rows n) x ⊎ (x ≡ p)) → In (set rows n r) m q → In rows m q ⊎ ((m ≡ n) × (q ≡ p))
row_from rows n p m q r lt from h =
    ⊎_elim
    (λ (e : m ≡ n). ⊎_elim
    (λ (k : Contains (row_of rows n) q). inl (subst (λ j. In rows j q) (sym e) k))
    (λ (k : q ≡ p). inr (e, k))
    (from q (subst (λ (z : List ℕ). Contains z q) (ap (λ k. row_of (set rows n r) k) e ∙ row-set_same rows n r lt) h)))
    (λ ne. inl (subst (λ (z : List ℕ). Contains z q) (row-set_other rows n m r ne) h))
    (cases_eq m n)

pub room_falls : (rows : List (List ℕ)) (n : ℕ) (r : List ℕ) → n < length rows → length r ≡ length (row_of rows n) + 1 → length r < 2 ^ 63 → room (set rows n r) < room rows
room_falls [] n r lt e small = absurd (omega arith)
room_falls (x ∷ rows) zero r lt e small = cut (2 ^ 63) (length r) (length x) (room rows) e small
  where
    cut : (m a b c : ℕ) → a ≡ b + 1 → a < m → (m - a) + c < (m - b) + c
    cut m a b c e lt = omega arith
room_falls (x ∷ rows) (suc n) r lt e small = up (2 ^ 63 - length x) (room (set rows n r)) (room rows) (room_falls rows n r (omega arith) e small)
  where
    up : (a b c : ℕ) → b < c → a + b < a + c
    up a b c h = omega arith

pub ascends_after : (xs zs ys : List ℕ) (i y : ℕ) → zs ≡ xs → ys ≡ insert xs i y → IsAscending xs → IsBinarySearchResult (λ z. nat_cmp z y) zs (Err i) → i ≤ length zs → IsAscending ys
ascends_after xs zs ys i y e f up found le =
    subst IsAscending (sym f) (insert_ascends xs i y up (subst (λ z. IsBinarySearchResult (λ z. nat_cmp z y) z (Err i)) e found) (subst (λ (z : List ℕ). i ≤ length z) e le))

-- rows as a view of what holds them: v stood at n, and w stands there now
module _ (X : Type 0) (f : X → List ℕ) (vs : List X) (rows : List (List ℕ)) (n p : ℕ) (v w : X) (is : map f vs ≡ rows) (lt : n < length rows) (at : v ≡ get_or vs n v) where
  row_was : row_of rows n ≡ f v
  row_was = ap (λ (z : List (List ℕ)). row_of z n) (sym is) ∙ get_or-map f vs n v [] (omega (arith, length-map vs f, ap length is)) ∙ ap f (sym at)

  now_is : map f (set vs n w) ≡ set rows n (f w)
  now_is = map-set f vs n w ∙ ap (λ z. set z n (f w)) is

  pub required : IsAscending (row_of rows n) → IsAscending (f v)
  required h = subst IsAscending row_was h

  pub sound_after : AreSound rows → IsAscending (f w) → length (f w) < 2 ^ 63 → AreSound (map f (set vs n w))
  sound_after s up small = subst AreSound (sym now_is) record { ascend = rows_keep IsAscending rows n (f w) lt up s.ascend; small = rows_keep (λ r. length r < 2 ^ 63) rows n (f w) lt small s.small }

  pub in_after : Contains (f w) p → In (map f (set vs n w)) n p
  in_after h = subst (λ z. In z n p) (sym now_is) (row_in rows n p (f w) lt h)

  pub from_after : ((q : ℕ) → Contains (f w) q → Contains (f v) q ⊎ (q ≡ p)) → (m q : ℕ) → In (map f (set vs n w)) m q → In rows m q ⊎ ((m ≡ n) × (q ≡ p))
  from_after h m q k = row_from rows n p m q (f w) lt (λ x c. subst (λ z. Contains z x ⊎ (x ≡ p)) (sym row_was) (h x c)) (subst (λ z. In z m q) now_is k)

  pub same_after : f w ≡ f v → map f (set vs n w) ≡ rows
  same_after e = now_is ∙ ap (set rows n) (e ∙ sym row_was) ∙ set-get_or rows n []

  pub falls_after : length (f w) ≡ length (f v) + 1 → length (f w) < 2 ^ 63 → room (map f (set vs n w)) < room rows
  falls_after e small = subst (λ z. room z < room rows) (sym now_is) (room_falls rows n (f w) lt (e ∙ ap (λ (z : List ℕ). length z + 1) (sym row_was)) small)
