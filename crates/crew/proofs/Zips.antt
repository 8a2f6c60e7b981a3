-- Two lists of which a relation holds place by place, and writes into them.
use Rattle.std.proofs.Common.{◌≡◌, refl, sym, subst, ap, ℕ, zero, suc, ◌+◌, ◌<◌, List, [], ◌∷◌, ◌++◌, length, take, drop, Some, arith}
use Rattle.std.specs.List.{AllZip, slice_get, slice_set}
use Rattle.std.proofs.lemmas.Option.{same_Some}

pub zip_same : {A : Type 0} (R : A → A → Type 0) → ((x : A) → R x x) → (xs : List A) → AllZip R xs xs
zip_same R same [] = tt
zip_same R same (x ∷ xs) = (same x, zip_same R same xs)

-- a write into the second list, of what the relation holds too
pub zip_set : {A B : Type 0} (R : A → B → Type 0) (xs : List A) (ys : List B) (at : ℕ) (y z : B) → AllZip R xs ys → slice_get ys at ≡ Some y
    → ((x : A) → R x y → R x z) → AllZip R xs (slice_set ys at z)
zip_set R [] [] at y z all is more = tt
zip_set R [] (b ∷ ys) at y z all is more = absurd all
zip_set R (x ∷ xs) [] at y z all is more = absurd all
zip_set R (x ∷ xs) (b ∷ ys) zero y z all is more = (more x (subst (λ v. R x v) (same_Some b y is) all.0), all.1)
zip_set R (x ∷ xs) (b ∷ ys) (suc at) y z all is more = (all.0, zip_set R xs ys at y z all.1 is more)

-- a write into both at one place
pub zip_set_both : {A B : Type 0} (R : A → B → Type 0) (xs : List A) (ys : List B) (at : ℕ) (x : A) (y : B) → AllZip R xs ys → R x y
    → AllZip R (slice_set xs at x) (slice_set ys at y)
zip_set_both R [] [] at x y all is = tt
zip_set_both R [] (b ∷ ys) at x y all is = absurd all
zip_set_both R (a ∷ xs) [] at x y all is = absurd all
zip_set_both R (a ∷ xs) (b ∷ ys) zero x y all is = (is, all.1)
zip_set_both R (a ∷ xs) (b ∷ ys) (suc at) x y all is = (all.0, zip_set_both R xs ys at x y all.1 is)

-- ---- one more place

pub drop_next : {X : Type 0} (xs : List X) (n : ℕ) (x : X) (ys : List X) → drop n xs ≡ x ∷ ys → (slice_get xs n ≡ Some x) × (ys ≡ drop (suc n) xs)
drop_next [] zero x ys is = cc
drop_next [] (suc n) x ys is = cc
drop_next (z ∷ xs) zero x ys is = (let e : z ≡ x = cc in ap Some e, let e : xs ≡ ys = cc in sym e)
drop_next (z ∷ xs) (suc n) x ys is = drop_next xs n x ys is

-- the next pair, and those after it
pub zip_next : {A B : Type 0} (R : A → B → Type 0) (xs : List A) (n : ℕ) (y : B) (ys : List B) → AllZip R (drop n xs) (y ∷ ys)
    → (x : A) × (slice_get xs n ≡ Some x) × R x y × AllZip R (drop (suc n) xs) ys
zip_next R [] zero y ys all = absurd all
zip_next R [] (suc n) y ys all = absurd all
zip_next R (x ∷ xs) zero y ys all = (x, refl, all.0, all.1)
zip_next R (x ∷ xs) (suc n) y ys all = zip_next R xs n y ys all

pub zip_more : {A B : Type 0} (R : A → B → Type 0) (xs : List A) (n : ℕ) (ys : List B) (x : A) (y : B) → AllZip R (take n xs) ys → slice_get xs n ≡ Some x → R x y
    → AllZip R (take (suc n) xs) (ys ++ y ∷ [])
zip_more R [] zero ys x y all is r = cc
zip_more R [] (suc n) ys x y all is r = cc
zip_more R (a ∷ xs) zero [] x y all is r = (subst (λ v. R v y) (sym (same_Some a x is)) r, tt)
zip_more R (a ∷ xs) zero (b ∷ ys) x y all is r = absurd all
zip_more R (a ∷ xs) (suc n) [] x y all is r = absurd all
zip_more R (a ∷ xs) (suc n) (b ∷ ys) x y all is r = (all.0, zip_more R xs n ys x y all.1 is r)

-- the pairs of which something more is known of the second
pub zip_both : {A B : Type 0} (R : A → B → Type 0) (P : B → Type 0) (xs : List A) (ys : List B) → AllZip R xs ys → ((k : ℕ) (y : B) → slice_get ys k ≡ Some y → P y)
    → AllZip (λ x y. R x y × P y) xs ys
zip_both R P [] [] all more = tt
zip_both R P [] (y ∷ ys) all more = absurd all
zip_both R P (x ∷ xs) [] all more = absurd all
zip_both R P (x ∷ xs) (y ∷ ys) all more = ((all.0, more zero y refl), zip_both R P xs ys all.1 (λ k z is. more (suc k) z is))

no_items : {X : Type 0} (xs : List X) → length xs ≡ 0 → xs ≡ []
no_items [] none = refl
no_items (x ∷ xs) none = absurd (omega arith)

-- of no pair the first relation holds yet
pub zip_begin : {A B C : Type 0} (Q : A → C → Type 0) (R : A → B → Type 0) (xs : List A) (ys : List B) (zs : List C) (n : ℕ) → n ≡ 0 → length zs ≡ 0 → AllZip R xs ys
    → AllZip Q (take n xs) zs × AllZip R (drop n xs) ys
zip_begin Q R xs ys zs n is none all =
    let nothing : AllZip Q (take 0 xs) zs = subst (λ c. AllZip Q [] c) (sym (no_items zs none)) tt in
    subst (λ k. AllZip Q (take k xs) zs × AllZip R (drop k xs) ys) (sym is) (nothing, all)

-- one more item below which something holds, after a write there
pub below_set : {B : Type 0} (P : B → Type 0) (ys : List B) (at : ℕ) (z : B) → ((k : ℕ) (y : B) → k < at → slice_get ys k ≡ Some y → P y) → P z
    → (k : ℕ) (y : B) → k < at + 1 → slice_get (slice_set ys at z) k ≡ Some y → P y
below_set P [] at z before here k y low is = cc
below_set P (x ∷ ys) zero z before here zero y low is = subst P (same_Some z y is) here
below_set P (x ∷ ys) zero z before here (suc k) y low is = absurd (omega arith)
below_set P (x ∷ ys) (suc at) z before here zero y low is = before zero y (omega arith) is
below_set P (x ∷ ys) (suc at) z before here (suc k) y low is = below_set P ys at z (λ j v small was. before (suc j) v (omega arith) was) here k y (omega arith) is
