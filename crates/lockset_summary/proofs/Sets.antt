-- Sets as lists: what they have, their order, and when two of them are one.
use Rattle.std.proofs.Common.{◌≡◌, ◌+◌, ◌<◌, Bool, true, false, ◌||◌, List, [], ◌∷◌, length, refl, sym, ap, ap₂, ◌∙◌, subst, arith, ◌⊎◌, inl, inr, ⊎_elim, filter}
use Rattle.std.specs.Prelude.{if◌then◌else◌}
use Rattle.std.proofs.lemmas.Bool.{and_parts, and_from}
use Rattle.facts.specs.Sets as sets
use Rattle.facts.proofs.TotalOrders.{Orders}

pub or_either : (x y : Bool) → (x || y) ≡ true → (x ≡ true) ⊎ (y ≡ true)
or_either true y h = inl refl
or_either false y h = inr h

pub or_first : (x y : Bool) → x ≡ true → (x || y) ≡ true
or_first true y h = refl
or_first false y h = cc

pub or_second : (x y : Bool) → y ≡ true → (x || y) ≡ true
or_second true y h = refl
or_second false y h = h

module _ {X : Type 0} {less same : X → X → Bool} (o : Orders less same) where
  -- ---- what a set has

  pub has_cons : (p q : X) (qs : List X) → sets.has same p (q ∷ qs) ≡ true → (p ≡ q) ⊎ (sets.has same p qs ≡ true)
  has_cons p q qs h = ⊎_elim (λ e. inl (o.same_is p q e)) (λ e. inr e) (or_either (same p q) (sets.has same p qs) h)

  pub has_first : (p q : X) (qs : List X) → p ≡ q → sets.has same p (q ∷ qs) ≡ true
  has_first p q qs e = or_first (same p q) (sets.has same p qs) (subst (λ z. same p z ≡ true) e (o.same_self p))

  pub has_later : (p q : X) (qs : List X) → sets.has same p qs ≡ true → sets.has same p (q ∷ qs) ≡ true
  has_later p q qs h = or_second (same p q) (sets.has same p qs) h

  pub has_with : (p q : X) (ps : List X) → sets.has same p (sets.with less same q ps) ≡ true → (p ≡ q) ⊎ (sets.has same p ps ≡ true)
  has_with p q [] h = has_cons p q [] h
  has_with p q (r ∷ rs) h = go (less q r) (same q r) h (λ k. has_with p q rs k)
    where
      go : (a b : Bool) → sets.has same p (if a then q ∷ r ∷ rs else if b then r ∷ rs else r ∷ sets.with less same q rs) ≡ true → (sets.has same p (sets.with less same q rs) ≡ true → (p ≡ q) ⊎ (sets.has same p rs ≡ true)) → (p ≡ q) ⊎ (sets.has same p (r ∷ rs) ≡ true)
      go true b k f = has_cons p q (r ∷ rs) k
      go false true k f = inr k
      go false false k f = ⊎_elim (λ (e : p ≡ r). inr (has_first p r rs e)) (λ (e : sets.has same p (sets.with less same q rs) ≡ true). ⊎_elim (λ z. inl z) (λ z. inr (has_later p r rs z)) (f e)) (has_cons p r (sets.with less same q rs) k)

  pub with_has : (q : X) (ps : List X) → sets.has same q (sets.with less same q ps) ≡ true
  with_has q [] = has_first q q [] refl
  with_has q (r ∷ rs) = go (less q r) (same q r) refl (with_has q rs)
    where
      go : (a b : Bool) → same q r ≡ b → sets.has same q (sets.with less same q rs) ≡ true → sets.has same q (if a then q ∷ r ∷ rs else if b then r ∷ rs else r ∷ sets.with less same q rs) ≡ true
      go true b e f = has_first q q (r ∷ rs) refl
      go false true e f = has_first q r rs (o.same_is q r e)
      go false false e f = has_later q r (sets.with less same q rs) f

  pub with_keeps : (p q : X) (ps : List X) → sets.has same p ps ≡ true → sets.has same p (sets.with less same q ps) ≡ true
  with_keeps p q [] h = cc
  with_keeps p q (r ∷ rs) h = go (less q r) (same q r) (λ k. with_keeps p q rs k)
    where
      go : (a b : Bool) → (sets.has same p rs ≡ true → sets.has same p (sets.with less same q rs) ≡ true) → sets.has same p (if a then q ∷ r ∷ rs else if b then r ∷ rs else r ∷ sets.with less same q rs) ≡ true
      go true b f = has_later p q (r ∷ rs) h
      go false true f = h
      go false false f = ⊎_elim (λ (e : p ≡ r). has_first p r (sets.with less same q rs) e) (λ (e : sets.has same p rs ≡ true). has_later p r (sets.with less same q rs) (f e)) (has_cons p r rs h)

  pub has_union : (p : X) (ps qs : List X) → sets.has same p (sets.union less same ps qs) ≡ true → (sets.has same p ps ≡ true) ⊎ (sets.has same p qs ≡ true)
  has_union p ps [] h = inl h
  has_union p ps (q ∷ qs) h = ⊎_elim (λ (e : p ≡ q). inr (has_first p q qs e)) (λ (e : sets.has same p (sets.union less same ps qs) ≡ true). ⊎_elim (λ z. inl z) (λ z. inr (has_later p q qs z)) (has_union p ps qs e)) (has_with p q (sets.union less same ps qs) h)

  pub union_left : (p : X) (ps qs : List X) → sets.has same p ps ≡ true → sets.has same p (sets.union less same ps qs) ≡ true
  union_left p ps [] h = h
  union_left p ps (q ∷ qs) h = with_keeps p q (sets.union less same ps qs) (union_left p ps qs h)

  pub union_right : (p : X) (ps qs : List X) → sets.has same p qs ≡ true → sets.has same p (sets.union less same ps qs) ≡ true
  union_right p ps [] h = cc
  union_right p ps (q ∷ qs) h = ⊎_elim (λ (e : p ≡ q). subst (λ z. sets.has same z (sets.with less same q (sets.union less same ps qs)) ≡ true) (sym e) (with_has q (sets.union less same ps qs))) (λ (e : sets.has same p qs ≡ true). with_keeps p q (sets.union less same ps qs) (union_right p ps qs e)) (has_cons p q qs h)

  pub has_filter : (t : X → Bool) (p : X) (xs : List X) → sets.has same p (filter t xs) ≡ true → (sets.has same p xs ≡ true) × (t p ≡ true)
  has_filter t p [] h = cc
  has_filter t p (x ∷ xs) h = go (t x) refl h (λ k. has_filter t p xs k)
    where
      go : (b : Bool) → t x ≡ b → sets.has same p (if b then x ∷ filter t xs else filter t xs) ≡ true → (sets.has same p (filter t xs) ≡ true → (sets.has same p xs ≡ true) × (t p ≡ true)) → (sets.has same p (x ∷ xs) ≡ true) × (t p ≡ true)
      go true e k f = ⊎_elim (λ (z : p ≡ x). (has_first p x xs z, ap t z ∙ e)) (λ (z : sets.has same p (filter t xs) ≡ true). let r = f z in (has_later p x xs r.0, r.1)) (has_cons p x (filter t xs) k)
      go false e k f = let r = f k in (has_later p x xs r.0, r.1)

  pub filter_has : (t : X → Bool) (p : X) (xs : List X) → sets.has same p xs ≡ true → t p ≡ true → sets.has same p (filter t xs) ≡ true
  filter_has t p [] h k = cc
  filter_has t p (x ∷ xs) h k = go (t x) refl (λ j. filter_has t p xs j k)
    where
      go : (b : Bool) → t x ≡ b → (sets.has same p xs ≡ true → sets.has same p (filter t xs) ≡ true) → sets.has same p (if b then x ∷ filter t xs else filter t xs) ≡ true
      go true e f = ⊎_elim (λ (z : p ≡ x). has_first p x (filter t xs) z) (λ (z : sets.has same p xs ≡ true). has_later p x (filter t xs) (f z)) (has_cons p x xs h)
      go false e f = ⊎_elim (λ (z : p ≡ x). absurd (differ (sym e ∙ ap t (sym z) ∙ k))) (λ (z : sets.has same p xs ≡ true). f z) (has_cons p x xs h)
        where
          differ : false ≡ true → ⊥
          differ h = cc

  -- ---- sets that ascend

  pub ascends_rest : (p : X) (ps : List X) → sets.are_ascending less (p ∷ ps) ≡ true → sets.are_ascending less ps ≡ true
  ascends_rest p [] h = refl
  ascends_rest p (q ∷ qs) h = (and_parts (less p q) (sets.are_ascending less (q ∷ qs)) h).1

  -- the first is less than all others
  pub first_least : (p : X) (ps : List X) (q : X) → sets.are_ascending less (p ∷ ps) ≡ true → sets.has same q ps ≡ true → less p q ≡ true
  first_least p [] q h k = cc
  first_least p (r ∷ rs) q h k =
      let e = and_parts (less p r) (sets.are_ascending less (r ∷ rs)) h in
      ⊎_elim (λ (z : q ≡ r). subst (λ y. less p y ≡ true) (sym z) e.0) (λ (z : sets.has same q rs ≡ true). o.along p r q e.0 (first_least r rs q e.1 z)) (has_cons q r rs k)

  pub ascends_from : (p : X) (ps : List X) → ((q : X) → sets.has same q ps ≡ true → less p q ≡ true) → sets.are_ascending less ps ≡ true → sets.are_ascending less (p ∷ ps) ≡ true
  ascends_from p [] f h = refl
  ascends_from p (q ∷ qs) f h = and_from (less p q) (sets.are_ascending less (q ∷ qs)) (f q (has_first q q qs refl)) h

  -- two that are neither one nor in this order are in the other
  pub less_other : (p q : X) → less p q ≡ false → same p q ≡ false → less q p ≡ true
  less_other p q h k = go (less q p) refl
    where
      differ : p ≡ q → ⊥
      differ e = let s : same p q ≡ true = subst (λ z. same p z ≡ true) e (o.same_self p) in cc

      go : (b : Bool) → less q p ≡ b → less q p ≡ true
      go true e = e
      go false e = absurd (differ (o.total p q h e))

  pub with_ascends : (p : X) (ps : List X) → sets.are_ascending less ps ≡ true → sets.are_ascending less (sets.with less same p ps) ≡ true
  with_ascends p [] h = refl
  with_ascends p (q ∷ qs) h = go (less p q) (same p q) refl refl (with_ascends p qs (ascends_rest q qs h))
    where
      go : (a b : Bool) → less p q ≡ a → same p q ≡ b → sets.are_ascending less (sets.with less same p qs) ≡ true → sets.are_ascending less (if a then p ∷ q ∷ qs else if b then q ∷ qs else q ∷ sets.with less same p qs) ≡ true
      go true b d e f = and_from (less p q) (sets.are_ascending less (q ∷ qs)) d h
      go false true d e f = h
      go false false d e f = ascends_from q (sets.with less same p qs) (λ r k. ⊎_elim (λ (z : r ≡ p). subst (λ y. less q y ≡ true) (sym z) (less_other p q d e)) (λ z. first_least q qs r h z) (has_with r p qs k)) f

  never_less : (x : X) → less x x ≡ true → ⊥
  never_less x h = let e = o.self x in cc

  -- a set within another is that one, or has fewer items
  pub fewer : (ys xs : List X) → sets.are_ascending less xs ≡ true → sets.are_ascending less ys ≡ true → ((p : X) → sets.has same p xs ≡ true → sets.has same p ys ≡ true) → (xs ≡ ys) ⊎ (length xs < length ys)
  fewer [] [] h k f = inl refl
  fewer (y ∷ ys) [] h k f = inr (omega arith)
  fewer [] (x ∷ xs) h k f = absurd (none x (f x (has_first x x xs refl)))
    where
      none : (z : X) → sets.has same z [] ≡ true → ⊥
      none z e = cc
  fewer (y ∷ ys) (x ∷ xs) h k f = ⊎_elim
      (same_head (fewer ys xs (ascends_rest x xs h) (ascends_rest y ys k)))
      (other (fewer ys (x ∷ xs) h (ascends_rest y ys k)))
      (has_cons x y ys (f x (has_first x x xs refl)))
    where
      same_head : (((p : X) → sets.has same p xs ≡ true → sets.has same p ys ≡ true) → (xs ≡ ys) ⊎ (length xs < length ys)) → x ≡ y → (x ∷ xs ≡ y ∷ ys) ⊎ (length (x ∷ xs) < length (y ∷ ys))
      same_head rest e = ⊎_elim (λ (z : xs ≡ ys). inl (ap₂ (λ a b. a ∷ b) e z)) (λ (z : length xs < length ys). inr (omega arith))
          (rest (λ p i. ⊎_elim (λ (z : p ≡ y). absurd (never_less x (subst (λ a. less x a ≡ true) (z ∙ sym e) (first_least x xs p h i)))) (λ z. z) (has_cons p y ys (f p (has_later p x xs i)))))

      other : (((p : X) → sets.has same p (x ∷ xs) ≡ true → sets.has same p ys ≡ true) → (x ∷ xs ≡ ys) ⊎ (length (x ∷ xs) < length ys)) → sets.has same x ys ≡ true → (x ∷ xs ≡ y ∷ ys) ⊎ (length (x ∷ xs) < length (y ∷ ys))
      other rest e = ⊎_elim (λ (z : x ∷ xs ≡ ys). inr (omega (arith, ap (λ (l : List X). length l) z))) (λ (z : length (x ∷ xs) < length ys). inr (omega arith))
          (rest (λ p i. ⊎_elim (λ (z : p ≡ y). absurd (never_less x (back p i z))) (λ z. z) (has_cons p y ys (f p i))))
        where
          up : less y x ≡ true
          up = first_least y ys x k e

          back : (p : X) → sets.has same p (x ∷ xs) ≡ true → p ≡ y → less x x ≡ true
          back p i z = ⊎_elim
              (λ (a : p ≡ x). subst (λ b. less b x ≡ true) (sym z ∙ a) up)
              (λ (a : sets.has same p xs ≡ true). o.along x y x (subst (λ b. less x b ≡ true) z (first_least x xs p h a)) up)
              (has_cons p x xs i)

  -- a set has no fewer items when one is added
  pub with_longer : (p : X) (ps : List X) → (sets.with less same p ps ≡ ps) ⊎ (length (sets.with less same p ps) ≡ length ps + 1)
  with_longer p [] = inr refl
  with_longer p (q ∷ qs) = go (less p q) (same p q) (with_longer p qs)
    where
      go : (a b : Bool) → (sets.with less same p qs ≡ qs) ⊎ (length (sets.with less same p qs) ≡ length qs + 1) → ((if a then p ∷ q ∷ qs else if b then q ∷ qs else q ∷ sets.with less same p qs) ≡ q ∷ qs) ⊎ (length (if a then p ∷ q ∷ qs else if b then q ∷ qs else q ∷ sets.with less same p qs) ≡ length (q ∷ qs) + 1)
      go true b f = inr (omega arith)
      go false true f = inl refl
      go false false f = ⊎_elim (λ e. inl (ap (λ z. q ∷ z) e)) (λ (e : length (sets.with less same p qs) ≡ length qs + 1). inr (omega arith)) f

  -- ---- lists that are compared item by item

  pub all_same_eq : (ps qs : List X) → sets.all_same same ps qs ≡ true → ps ≡ qs
  all_same_eq [] [] e = refl
  all_same_eq [] (q ∷ qs) e = cc
  all_same_eq (p ∷ ps) [] e = cc
  all_same_eq (p ∷ ps) (q ∷ qs) e = let d = and_parts (same p q) (sets.all_same same ps qs) e in ap₂ (λ a b. a ∷ b) (o.same_is p q d.0) (all_same_eq ps qs d.1)

  pub all_same_self : (ps : List X) → sets.all_same same ps ps ≡ true
  all_same_self [] = refl
  all_same_self (p ∷ ps) = and_from (same p p) (sets.all_same same ps ps) (o.same_self p) (all_same_self ps)
