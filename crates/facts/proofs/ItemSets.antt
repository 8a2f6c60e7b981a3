-- Sets as lists, of any items with a total order: what they have, that they ascend, that a set has one list, and the order
-- of such lists.
use Rattle.std.proofs.Common.{◌≡◌, Bool, true, false, List, [], ◌∷◌, refl, sym, ap, ◌∙◌, subst, ◌⊎◌, inl, inr, ⊎_elim}
use Rattle.std.specs.Prelude.{◌||◌, ◌&&◌, if◌then◌else◌}
use Rattle.std.specs.List.{filter}
use Rattle.facts.specs.Sets.{Orders, has, all_same, comes_first, are_ascending, with, union, list_less}
use Rattle.facts.proofs.TotalOrders.{or_cases, or_left, or_right, less_after}
use Rattle.profiles.proofs.Ascending as ascending

pub and_both : (a b : Bool) → (a && b) ≡ true → (a ≡ true) × (b ≡ true)
and_both true b h = (refl, h)
and_both false b h = cc

both_and : (a b : Bool) → a ≡ true → b ≡ true → (a && b) ≡ true
both_and a b h k = cc

or_again : (a b : Bool) → (a || b) ≡ (a || (a || b))
or_again true b = refl
or_again false b = refl

or_swap : (a b c : Bool) → (a || (b || c)) ≡ (b || (a || c))
or_swap true true c = refl
or_swap true false c = refl
or_swap false b c = refl

module _ {X : Type 0} (less same : X → X → Bool) (o : Orders less same) where
  pub irr : (x : X) → less x x ≡ true → ⊥
  irr x e = let h = o.self x in cc

  pub less_other : (x y : X) → less x y ≡ false → same x y ≡ false → less y x ≡ true
  less_other x y h k = less_after less same o x y h apart
    where
      apart : x ≡ y → ⊥
      apart e = let s = subst (λ z. same x z ≡ true) e (o.same_self x) in cc

  -- ---- what sets have

  pub has-with : (x y : X) (ys : List X) → has same x (with less same y ys) ≡ (same x y || has same x ys)
  has-with x y [] = refl
  has-with x y (z ∷ zs) = go (less y z) (same y z) refl (has-with x y zs)
    where
      go : (l s : Bool) → same y z ≡ s → has same x (with less same y zs) ≡ (same x y || has same x zs) → has same x (if l then y ∷ z ∷ zs else if s then z ∷ zs else z ∷ with less same y zs) ≡ (same x y || has same x (z ∷ zs))
      go true s e f = refl
      go false true e f = subst (λ v. has same x (z ∷ zs) ≡ (same x v || has same x (z ∷ zs))) (sym (o.same_is y z e)) (or_again (same x z) (has same x zs))
      go false false e f = ap (λ b. same x z || b) f ∙ or_swap (same x z) (same x y) (has same x zs)

  pub has-union : (x : X) (xs ys : List X) → has same x (union less same xs ys) ≡ (has same x xs || has same x ys)
  has-union x xs [] = end (has same x xs)
    where
      end : (b : Bool) → b ≡ (b || false)
      end true = refl
      end false = refl
  has-union x xs (y ∷ ys) = has-with x y (union less same xs ys) ∙ ap (λ b. same x y || b) (has-union x xs ys) ∙ or_swap (same x y) (has same x xs) (has same x ys)

  pub has_same : (x y : X) (ys : List X) → x ≡ y → has same x (y ∷ ys) ≡ true
  has_same x y ys e = ap (λ b. b || has same x ys) (subst (λ z. same x z ≡ true) e (o.same_self x))

  pub has_more : (x y : X) (ys : List X) → has same x ys ≡ true → has same x (y ∷ ys) ≡ true
  has_more x y ys h = go (same x y)
    where
      go : (b : Bool) → (b || has same x ys) ≡ true
      go true = refl
      go false = h

  pub has_cons : (x y : X) (ys : List X) → has same x (y ∷ ys) ≡ true → (x ≡ y) ⊎ (has same x ys ≡ true)
  has_cons x y ys h = go (same x y) refl h
    where
      go : (b : Bool) → same x y ≡ b → (b || has same x ys) ≡ true → (x ≡ y) ⊎ (has same x ys ≡ true)
      go true e k = inl (o.same_is x y e)
      go false e k = inr k

  pub has_filter : (t : X → Bool) (x : X) (ys : List X) → has same x (filter t ys) ≡ true → (has same x ys ≡ true) × (t x ≡ true)
  has_filter t x [] h = cc
  has_filter t x (y ∷ ys) h = go (t y) refl h (λ k. has_filter t x ys k)
    where
      go : (b : Bool) → t y ≡ b → has same x (if b then y ∷ filter t ys else filter t ys) ≡ true → (has same x (filter t ys) ≡ true → (has same x ys ≡ true) × (t x ≡ true)) → (has same x (y ∷ ys) ≡ true) × (t x ≡ true)
      go true e k f = ⊎_elim (λ (z : x ≡ y). (has_same x y ys z, ap t z ∙ e)) (λ (z : has same x (filter t ys) ≡ true). let r = f z in (has_more x y ys r.0, r.1)) (has_cons x y (filter t ys) k)
      go false e k f = let r = f k in (has_more x y ys r.0, r.1)

  pub filter_has : (t : X → Bool) (x : X) (ys : List X) → has same x ys ≡ true → t x ≡ true → has same x (filter t ys) ≡ true
  filter_has t x [] h k = cc
  filter_has t x (y ∷ ys) h k = go (t y) refl (λ j. filter_has t x ys j k)
    where
      go : (b : Bool) → t y ≡ b → (has same x ys ≡ true → has same x (filter t ys) ≡ true) → has same x (if b then y ∷ filter t ys else filter t ys) ≡ true
      go true e f = ⊎_elim (λ (z : x ≡ y). has_same x y (filter t ys) z) (λ (z : has same x ys ≡ true). has_more x y (filter t ys) (f z)) (has_cons x y ys h)
      go false e f = ⊎_elim (λ (z : x ≡ y). absurd (differ (sym e ∙ ap t (sym z) ∙ k))) (λ (z : has same x ys ≡ true). f z) (has_cons x y ys h)
        where
          differ : false ≡ true → ⊥
          differ h = cc

  -- ---- order

  ascending-cons : (x : X) (xs : List X) → are_ascending less (x ∷ xs) ≡ (comes_first less x xs && are_ascending less xs)
  ascending-cons x [] = refl
  ascending-cons x (y ∷ ys) = refl

  pub ascending_parts : (x : X) (xs : List X) → are_ascending less (x ∷ xs) ≡ true → (comes_first less x xs ≡ true) × (are_ascending less xs ≡ true)
  ascending_parts x xs h = and_both (comes_first less x xs) (are_ascending less xs) (sym (ascending-cons x xs) ∙ h)

  pub ascending_of : (x : X) (xs : List X) → comes_first less x xs ≡ true → are_ascending less xs ≡ true → are_ascending less (x ∷ xs) ≡ true
  ascending_of x xs h k = ascending-cons x xs ∙ both_and (comes_first less x xs) (are_ascending less xs) h k

  after_with : (x y : X) (ys : List X) → less x y ≡ true → comes_first less x ys ≡ true → comes_first less x (with less same y ys) ≡ true
  after_with x y [] h k = h
  after_with x y (z ∷ zs) h k = go (less y z) (same y z)
    where
      go : (l s : Bool) → comes_first less x (if l then y ∷ z ∷ zs else if s then z ∷ zs else z ∷ with less same y zs) ≡ true
      go true s = h
      go false true = k
      go false false = k

  pub ascending_with : (x : X) (ys : List X) → are_ascending less ys ≡ true → are_ascending less (with less same x ys) ≡ true
  ascending_with x [] h = refl
  ascending_with x (y ∷ ys) h = go (less x y) (same x y) refl refl (ascending_with x ys (ascending_parts y ys h).1)
    where
      go : (l s : Bool) → less x y ≡ l → same x y ≡ s → are_ascending less (with less same x ys) ≡ true → are_ascending less (if l then x ∷ y ∷ ys else if s then y ∷ ys else y ∷ with less same x ys) ≡ true
      go true s e f k = both_and (less x y) (are_ascending less (y ∷ ys)) e h
      go false true e f k = h
      go false false e f k = ascending_of y (with less same x ys) (after_with y x ys (less_other x y e f) (ascending_parts y ys h).0) k

  pub ascending_union : (xs ys : List X) → are_ascending less xs ≡ true → are_ascending less (union less same xs ys) ≡ true
  ascending_union xs [] h = h
  ascending_union xs (y ∷ ys) h = ascending_with y (union less same xs ys) (ascending_union xs ys h)

  pub past_less : (x y : X) (ys : List X) → less x y ≡ true → comes_first less y ys ≡ true → comes_first less x ys ≡ true
  past_less x y [] h k = refl
  past_less x y (z ∷ zs) h k = o.along x y z h k

  after_filter : (t : X → Bool) (x : X) (ys : List X) → comes_first less x ys ≡ true → are_ascending less ys ≡ true → comes_first less x (filter t ys) ≡ true
  after_filter t x [] h k = refl
  after_filter t x (y ∷ ys) h k = go (t y) (after_filter t x ys (past_less x y ys h (ascending_parts y ys k).0) (ascending_parts y ys k).1)
    where
      go : (b : Bool) → comes_first less x (filter t ys) ≡ true → comes_first less x (if b then y ∷ filter t ys else filter t ys) ≡ true
      go true f = h
      go false f = f

  pub ascending_filter : (t : X → Bool) (ys : List X) → are_ascending less ys ≡ true → are_ascending less (filter t ys) ≡ true
  ascending_filter t [] h = refl
  ascending_filter t (y ∷ ys) h = go (t y) (ascending_filter t ys (ascending_parts y ys h).1)
    where
      go : (b : Bool) → are_ascending less (filter t ys) ≡ true → are_ascending less (if b then y ∷ filter t ys else filter t ys) ≡ true
      go true f = ascending_of y (filter t ys) (after_filter t y ys (ascending_parts y ys h).0 (ascending_parts y ys h).1) f
      go false f = f

  -- ---- a set has one list

  up : (xs : List X) → are_ascending less xs ≡ true → ascending.Up less irr o.along xs
  up [] e = tt
  up (x ∷ []) e = (tt, tt)
  up (x ∷ y ∷ ys) e =
      let p = and_both (less x y) (are_ascending less (y ∷ ys)) e in
      let u = up (y ∷ ys) p.1 in
      ((p.0, ascending.before_less less irr o.along x y ys p.0 u.0), u)

  has_in : (x : X) (ys : List X) → has same x ys ≡ true → ascending.In less irr o.along x ys
  has_in x [] e = absurd (cc e)
  has_in x (y ∷ ys) e = go (has_cons x y ys e) (λ h. has_in x ys h)
    where
      go : (x ≡ y) ⊎ (has same x ys ≡ true) → (has same x ys ≡ true → ascending.In less irr o.along x ys) → ascending.In less irr o.along x (y ∷ ys)
      go (inl h) rec = inl h
      go (inr h) rec = inr (rec h)

  in_has : (x : X) (ys : List X) → ascending.In less irr o.along x ys → has same x ys ≡ true
  in_has x [] i = absurd i
  in_has x (y ∷ ys) (inl e) = has_same x y ys e
  in_has x (y ∷ ys) (inr i) = has_more x y ys (in_has x ys i)

  pub one_set : (xs ys : List X) → are_ascending less xs ≡ true → are_ascending less ys ≡ true → ((x : X) → has same x xs ≡ true → has same x ys ≡ true) → ((x : X) → has same x ys ≡ true → has same x xs ≡ true) → xs ≡ ys
  one_set xs ys a b f g =
      ascending.one_list less irr o.along xs ys (up xs a) (up ys b) (λ z i. has_in z ys (f z (in_has z xs i))) (λ z i. has_in z xs (g z (in_has z ys i)))

  -- ---- the order of lists

  pub list_irr : (xs : List X) → list_less less same xs xs ≡ true → ⊥
  list_irr [] e = absurd (cc e)
  list_irr (x ∷ xs) e = go (or_cases (less x x) (same x x) (list_less less same xs xs) e) (list_irr xs)
    where
      go : (less x x ≡ true) ⊎ ((same x x ≡ true) × (list_less less same xs xs ≡ true)) → (list_less less same xs xs ≡ true → ⊥) → ⊥
      go (inl d) rec = irr x d
      go (inr d) rec = rec d.1

  pub same_lists : (xs ys : List X) → all_same same xs ys ≡ true → xs ≡ ys
  same_lists [] [] e = refl
  same_lists [] (y ∷ ys) e = absurd (cc e)
  same_lists (x ∷ xs) [] e = absurd (cc e)
  same_lists (x ∷ xs) (y ∷ ys) e = let d = and_both (same x y) (all_same same xs ys) e in ap (λ z. z ∷ xs) (o.same_is x y d.0) ∙ ap (λ zs. y ∷ zs) (same_lists xs ys d.1)

  pub list_self : (xs : List X) → all_same same xs xs ≡ true
  list_self [] = refl
  list_self (x ∷ xs) = both_and (same x x) (all_same same xs xs) (o.same_self x) (list_self xs)

  pub list_trans : (xs ys zs : List X) → list_less less same xs ys ≡ true → list_less less same ys zs ≡ true → list_less less same xs zs ≡ true
  list_trans xs [] zs d e = absurd (no xs d)
    where
      no : (xs : List X) → list_less less same xs [] ≡ true → ⊥
      no [] h = absurd (cc h)
      no (x ∷ xs) h = absurd (cc h)
  list_trans [] (y ∷ ys) [] d e = absurd (cc e)
  list_trans [] (y ∷ ys) (z ∷ zs) d e = refl
  list_trans (x ∷ xs) (y ∷ ys) [] d e = absurd (cc e)
  list_trans (x ∷ xs) (y ∷ ys) (z ∷ zs) d e = go (or_cases (less x y) (same x y) (list_less less same xs ys) d) (or_cases (less y z) (same y z) (list_less less same ys zs) e) (list_trans xs ys zs)
    where
      first : less x z ≡ true → list_less less same (x ∷ xs) (z ∷ zs) ≡ true
      first h = or_left (less x z) (same x z && list_less less same xs zs) h

      go : (less x y ≡ true) ⊎ ((same x y ≡ true) × (list_less less same xs ys ≡ true)) → (less y z ≡ true) ⊎ ((same y z ≡ true) × (list_less less same ys zs ≡ true)) → (list_less less same xs ys ≡ true → list_less less same ys zs ≡ true → list_less less same xs zs ≡ true) → list_less less same (x ∷ xs) (z ∷ zs) ≡ true
      go (inl p) (inl q) rec = first (o.along x y z p q)
      go (inl p) (inr q) rec = first (subst (λ v. less x v ≡ true) (o.same_is y z q.0) p)
      go (inr p) (inl q) rec = first (subst (λ v. less v z ≡ true) (sym (o.same_is x y p.0)) q)
      go (inr p) (inr q) rec = or_right (less x z) (same x z) (list_less less same xs zs) (subst (λ v. same x v ≡ true) (o.same_is x y p.0 ∙ o.same_is y z q.0) (o.same_self x)) (rec p.1 q.1)
