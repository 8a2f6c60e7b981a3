-- Lists that ascend strictly are equal where they have the same members.
use Rattle.std.proofs.Common.{◌≡◌, ℕ, zero, suc, ◌&&◌, Bool, true, false, List, [], ◌∷◌, length, refl, sym, ap, ◌∙◌, subst, ◌⊎◌, inl, inr, arith}
use Rattle.std.specs.Prelude.{slice_get, slice_index_or, None}
use Rattle.std.specs.List.{Contains}

module _ {X : Type 0} (less : X → X → Bool) (irr : (x : X) → less x x ≡ true → ⊥) (trans : (x y z : X) → less x y ≡ true → less y z ≡ true → less x z ≡ true) where
  -- it comes before each of them
  abbrev pub Before : X → List X → Type 0
  Before x [] = Unit {0}
  Before x (y ∷ ys) = (less x y ≡ true) × Before x ys

  abbrev pub Up : List X → Type 0
  Up [] = Unit {0}
  Up (x ∷ xs) = Before x xs × Up xs

  abbrev pub In : X → List X → Type 0
  In x [] = ⊥
  In x (y ∷ ys) = (x ≡ y) ⊎ In x ys

  pub before_in : (x z : X) (ys : List X) → Before x ys → In z ys → less x z ≡ true
  before_in x z [] b i = absurd i
  before_in x z (y ∷ ys) b (inl e) = subst (λ w. less x w ≡ true) (sym e) b.0
  before_in x z (y ∷ ys) b (inr i) = before_in x z ys b.1 i

  pub before_less : (x y : X) (zs : List X) → less x y ≡ true → Before y zs → Before x zs
  before_less x y [] l b = tt
  before_less x y (z ∷ zs) l b = (trans x y z l b.0, before_less x y zs l b.1)

  -- the heads are equal
  heads : (x y : X) (xs ys : List X) → Before x xs → Before y ys → In x (y ∷ ys) → In y (x ∷ xs) → x ≡ y
  heads x y xs ys bx by (inl e) j = e
  heads x y xs ys bx by (inr i) (inl e) = sym e
  heads x y xs ys bx by (inr i) (inr j) = absurd (irr x (trans x y x (before_in x y xs bx j) (before_in y x ys by i)))

  rest : (x y z : X) (xs ys : List X) → x ≡ y → Before x xs → ((w : X) → In w (x ∷ xs) → In w (y ∷ ys)) → In z xs → In z ys
  rest x y z xs ys e b f i = go (f z (inr i))
    where
      go : In z (y ∷ ys) → In z ys
      go (inl d) = absurd (irr x (subst (λ w. less x w ≡ true) (d ∙ sym e) (before_in x z xs b i)))
      go (inr j) = j

  pub one_list : (xs ys : List X) → Up xs → Up ys → ((z : X) → In z xs → In z ys) → ((z : X) → In z ys → In z xs) → xs ≡ ys
  one_list [] [] u v f g = refl
  one_list [] (y ∷ ys) u v f g = absurd (g y (inl refl))
  one_list (x ∷ xs) [] u v f g = absurd (f x (inl refl))
  one_list (x ∷ xs) (y ∷ ys) u v f g =
      let e : x ≡ y = heads x y xs ys u.0 v.0 (f x (inl refl)) (g y (inl refl)) in
      let tails : xs ≡ ys = one_list xs ys u.1 v.1 (λ z i. rest x y z xs ys e u.0 f i) (λ z i. rest y x z ys xs (sym e) v.0 g i) in
      ap (λ w. w ∷ xs) e ∙ ap (λ ws. y ∷ ws) tails

pub In_at : {X : Type 0} (less : X → X → Bool) (irr : (x : X) → less x x ≡ true → ⊥) (trans : (x y z : X) → less x y ≡ true → less y z ≡ true → less x z ≡ true) (xs : List X) (x : X) → Contains xs x → In less irr trans x xs
In_at less irr trans [] x (k, lt, e) = absurd (omega (arith, lt))
In_at less irr trans (y ∷ ys) x (zero, lt, e) = inl (sym e)
In_at less irr trans (y ∷ ys) x (suc k, lt, e) = inr (In_at less irr trans ys x (k, omega (arith, lt), e))

pub at_In : {X : Type 0} (less : X → X → Bool) (irr : (x : X) → less x x ≡ true → ⊥) (trans : (x y z : X) → less x y ≡ true → less y z ≡ true → less x z ≡ true) (xs : List X) (x : X) → In less irr trans x xs → Contains xs x
at_In less irr trans [] x i = absurd i
at_In less irr trans (y ∷ ys) x (inl e) = (zero, omega arith, sym e)
at_In less irr trans (y ∷ ys) x (inr i) = let c = at_In less irr trans ys x i in (suc c.0, omega (arith, c.1), c.2)

-- ---- lists by their items

pub and_left : (a b : Bool) → a && b ≡ true → a ≡ true
and_left true b e = refl
and_left false b e = e

pub and_right : (a b : Bool) → a && b ≡ true → b ≡ true
and_right true b e = e
and_right false b e = absurd (cc e)

pub one_by_items : {X : Type 0} (d : X) (xs ys : List X) → length xs ≡ length ys → ((i : ℕ) → slice_index_or xs i d ≡ slice_index_or ys i d) → xs ≡ ys
one_by_items d [] [] e h = refl
one_by_items d [] (y ∷ ys) e h = absurd (omega (arith, e))
one_by_items d (x ∷ xs) [] e h = absurd (omega (arith, e))
one_by_items d (x ∷ xs) (y ∷ ys) e h = let f : x ≡ y = h zero in let g : xs ≡ ys = one_by_items d xs ys (omega (arith, e)) (λ i. h (suc i)) in ap (λ z. z ∷ xs) f ∙ ap (λ zs. y ∷ zs) g

-- an item that isn't there
pub no_item : {X Y : Type 0} (d : X) (xs : List X) (ys : List Y) (i : ℕ) → length xs ≡ length ys → slice_get ys i ≡ None → slice_index_or xs i d ≡ d
no_item d [] ys i e h = refl
no_item d (x ∷ xs) [] i e h = absurd (omega (arith, e))
no_item d (x ∷ xs) (y ∷ ys) zero e h = absurd (cc h)
no_item d (x ∷ xs) (y ∷ ys) (suc i) e h = no_item d xs ys i (omega (arith, e)) h
