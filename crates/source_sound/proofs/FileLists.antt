-- Lists in which nothing comes, names that are compared, and places in lists.
use Rattle.std.proofs.Common.{◌≡◌, ℕ, zero, suc, ◌≤◌, Bool, true, false, not, if◌then◌else◌, List, [], ◌∷◌, ◌++◌, length, Some, None, slice_get, bytes_eq, refl, arith}
use Rattle.std.proofs.lemmas.Option.{none-some}
use Rattle.std.proofs.lemmas.Slice.Eq.{bytes_eq-Decides}
use Rattle.rr_base.specs.Texts.{Text}
use Rattle.rr_base.specs.declared.position.Position.{Position}
use Rattle.c_types.specs.declared.fault.Found.{Found}
use Rattle.c_types.specs.declared.fault.FaultKind.{FaultKind}
use Rattle.c_types.specs.Found.{where_it_comes, first_among, is_before}

-- ---- nothing comes

pub append_nil : {A : Type 0} (xs ys : List A) → xs ++ ys ≡ [] → (xs ≡ []) × (ys ≡ [])
append_nil [] ys e = (refl, e)
append_nil (x ∷ xs) ys e = cc

pub nil3 : {A : Type 0} (a b c : List A) → a ++ b ++ c ≡ [] → (a ≡ []) × (b ≡ []) × (c ≡ [])
nil3 a b c e = let y = append_nil (a ++ b) c e in let x = append_nil a b y.0 in (x.0, x.1, y.1)

pub nil4 : {A : Type 0} (a b c d : List A) → a ++ b ++ c ++ d ≡ [] → (a ≡ []) × (b ≡ []) × (c ≡ []) × (d ≡ [])
nil4 a b c d e = let y = append_nil (a ++ b ++ c) d e in let x = nil3 a b c y.0 in (x.0, x.1, x.2, y.1)

pub nil5 : {A : Type 0} (a b c d f : List A) → a ++ b ++ c ++ d ++ f ≡ [] → (a ≡ []) × (b ≡ []) × (c ≡ []) × (d ≡ []) × (f ≡ [])
nil5 a b c d f e = let y = append_nil (a ++ b ++ c ++ d) f e in let x = nil4 a b c d y.0 in (x.0, x.1, x.2, x.3, y.1)

pub where_nil : (b : Bool) (k : FaultKind) (at : Position) → where_it_comes b k at ≡ [] → b ≡ false
where_nil true k at e = cc
where_nil false k at e = refl

pub not_nil : (b : Bool) (k : FaultKind) (at : Position) → where_it_comes (not b) k at ≡ [] → b ≡ true
not_nil true k at e = refl
not_nil false k at e = cc

pub one_stays : (y : Found) (xs : List Found) → first_among (Some y) xs ≡ None → ⊥
one_stays y [] e = cc
one_stays y (x ∷ xs) e = by (λ z h. one_stays z xs h) (is_before x y) e
  where
    by : ((z : Found) → first_among (Some z) xs ≡ None → ⊥) → (b : Bool) → first_among (if b then Some x else Some y) xs ≡ None → ⊥
    by rec true e = rec x e
    by rec false e = rec y e

pub none_among : (xs : List Found) → first_among None xs ≡ None → xs ≡ []
none_among [] e = refl
none_among (x ∷ xs) e = absurd (one_stays x xs e)

-- ---- names

pub same_text : (a b : Text) → bytes_eq a b ≡ true → a ≡ b
same_text a b e = (bytes_eq-Decides a b).0 e

pub text_same : (a : Text) → bytes_eq a a ≡ true
text_same a = (bytes_eq-Decides a a).1 refl

-- ---- places in lists

pub get_last : {A : Type 0} (xs : List A) (x : A) → slice_get (xs ++ x ∷ []) (length xs) ≡ Some x
get_last [] x = refl
get_last (y ∷ xs) x = get_last xs x

pub get_before : {A : Type 0} (xs ys : List A) (n : ℕ) (x : A) → slice_get xs n ≡ Some x → slice_get (xs ++ ys) n ≡ Some x
get_before [] ys n x e = absurd (none-some x e)
get_before (y ∷ xs) ys zero x e = e
get_before (y ∷ xs) ys (suc n) x e = get_before xs ys n x e

pub short_list : {A : Type 0} (xs : List A) (n : ℕ) → slice_get xs n ≡ None → length xs ≤ n
short_list [] n e = omega arith
short_list (x ∷ xs) zero e = cc
short_list (x ∷ xs) (suc n) e = let le = short_list xs n e in omega (arith, le)
