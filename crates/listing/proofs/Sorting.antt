-- What a stable sort gives is the list with each item put in its place, one by one.
use Rattle.std.proofs.Common.{◌≡◌, ℕ, suc, ◌+◌, ◌<◌, Bool, true, false, List, [], ◌∷◌, length, get_or, refl, sym, ap, subst, ◌∙◌, arith, ⊎_elim}
use Rattle.std.specs.Prelude.{if◌then◌else◌, filter, not, ◌&&◌}
use Rattle.std.specs.Cmp.{IsStrictWeakOrder}
use Rattle.std.specs.List.Sorted.{IsSortedBy, IsStableBy, ties}
use Rattle.std.proofs.lemmas.Bool.{cases_Bool, both_ways}
use Rattle.listing.specs.Sorting.{with_item, sorted_by}

same_head : {X : Type 0} (x y : X) (xs ys : List X) → x ∷ xs ≡ y ∷ ys → x ≡ y
same_head x y xs ys e = cc e

same_rest : {X : Type 0} (b : Bool) (x : X) (xs ys : List X) → (if b then x ∷ xs else xs) ≡ (if b then x ∷ ys else ys) → xs ≡ ys
same_rest true x xs ys e = cc e
same_rest false x xs ys e = e

neither : (p q : Bool) → p ≡ false → q ≡ false → not p && not q ≡ true
neither false false h k = refl
neither true q h k = cc
neither false true h k = cc

left_not : (p q : Bool) → not p && not q ≡ true → p ≡ false
left_not false q h = refl
left_not true q h = cc

right_not : (p q : Bool) → not p && not q ≡ true → q ≡ false
right_not false false h = refl
right_not false true h = cc
right_not true q h = cc

first_holds : (p q : Bool) → p ≡ true → not p && not q ≡ false
first_holds true q h = refl
first_holds false q h = cc

module _ {X : Type 0} (less : X → X → Bool) (o : IsStrictWeakOrder less) where
  -- none comes before x
  abbrev FromOn : X → List X → Type 0
  FromOn x [] = Unit {0}
  FromOn x (y ∷ ys) = (less y x ≡ false) × FromOn x ys

  -- none comes before an earlier one
  abbrev Rises : List X → Type 0
  Rises [] = Unit {0}
  Rises (x ∷ xs) = FromOn x xs × Rises xs

  from_less : (x y : X) (zs : List X) → less y x ≡ false → FromOn y zs → FromOn x zs
  from_less x y [] h f = tt
  from_less x y (z ∷ zs) h (a, f) = (o.chain z y x a h, from_less x y zs h f)

  rises_from : (xs : List X) → ((k : ℕ) (d : X) → k + 1 < length xs → less (get_or xs (k + 1) d) (get_or xs k d) ≡ false) → Rises xs
  rises_from [] h = tt
  rises_from (x ∷ []) h = (tt, tt)
  rises_from (x ∷ y ∷ ys) h =
      let r = rises_from (y ∷ ys) (λ k d lt. let e : suc k + 1 ≡ suc (k + 1) = omega arith in subst (λ n. less (get_or (x ∷ y ∷ ys) n d) (get_or (y ∷ ys) k d) ≡ false) e (h (suc k) d (omega arith))) in
      let first : less y x ≡ false = h 0 x (omega arith) in
      ((first, from_less x y ys first r.0), r)

  -- ---- an item put in its place

  from_with : (x l : X) (ms : List X) → less l x ≡ false → FromOn x ms → FromOn x (with_item less l ms)
  from_with x l [] h f = (h, tt)
  from_with x l (m ∷ ms) h (a, f) = go (less m l) (from_with x l ms h f)
    where
      go : (b : Bool) → FromOn x (with_item less l ms) → FromOn x (if b then m ∷ with_item less l ms else l ∷ m ∷ ms)
      go true r = (a, r)
      go false r = (h, (a, f))

  rises_with : (l : X) (ms : List X) → Rises ms → Rises (with_item less l ms)
  rises_with l [] r = (tt, tt)
  rises_with l (m ∷ ms) (f, r) = go (less m l) refl (rises_with l ms r)
    where
      go : (b : Bool) → less m l ≡ b → Rises (with_item less l ms) → Rises (if b then m ∷ with_item less l ms else l ∷ m ∷ ms)
      go true e s = (from_with m l ms (o.one_way m l e) f, s)
      go false e s = ((e, from_less l m ms e f), (f, r))

  rises_sorted : (ls : List X) → Rises (sorted_by less ls)
  rises_sorted [] = tt
  rises_sorted (l ∷ ls) = rises_with l (sorted_by less ls) (rises_sorted ls)

  -- those that tie with z stay as they stand
  tied_with : (z l : X) (ms : List X) → filter (ties less z) (with_item less l ms) ≡ filter (ties less z) (l ∷ ms)
  tied_with z l [] = refl
  tied_with z l (m ∷ ms) = go (less m l) refl (tied_with z l ms)
    where
      moved : (p q : Bool) (f w : List X) → (p ≡ true → q ≡ true → ⊥) → w ≡ (if q then l ∷ f else f) → (if p then m ∷ w else w) ≡ (if q then l ∷ (if p then m ∷ f else f) else (if p then m ∷ f else f))
      moved true true f w never e = absurd (never refl refl)
      moved true false f w never e = ap (λ t. m ∷ t) e
      moved false true f w never e = e
      moved false false f w never e = e

      apart : less m l ≡ true → ties less z m ≡ true → ties less z l ≡ true → ⊥
      apart h p q = both_ways (less m l) (o.chain m z l (right_not (less z m) (less m z) p) (left_not (less z l) (less l z) q)) h

      go : (b : Bool) → less m l ≡ b → filter (ties less z) (with_item less l ms) ≡ filter (ties less z) (l ∷ ms) → filter (ties less z) (if b then m ∷ with_item less l ms else l ∷ m ∷ ms) ≡ filter (ties less z) (l ∷ m ∷ ms)
      go true h e = moved (ties less z m) (ties less z l) (filter (ties less z) ms) (filter (ties less z) (with_item less l ms)) (apart h) e
      go false h e = refl

  tied_sorted : (z : X) (ls : List X) → filter (ties less z) (sorted_by less ls) ≡ filter (ties less z) ls
  tied_sorted z [] = refl
  tied_sorted z (l ∷ ls) = tied_with z l (sorted_by less ls) ∙ ap (λ t. if ties less z l then l ∷ t else t) (tied_sorted z ls)

  -- ---- one list

  self : (x : X) → less x x ≡ false
  self x = ⊎_elim (λ t. o.one_way x x t) (λ f. f) (cases_Bool (less x x))

  tied_first : (x : X) (xs : List X) → filter (ties less x) (x ∷ xs) ≡ x ∷ filter (ties less x) xs
  tied_first x xs = ap (λ b. if b then x ∷ filter (ties less x) xs else filter (ties less x) xs) (neither (less x x) (less x x) (self x) (self x))

  untied : (z y : X) (ys : List X) → less z y ≡ true → FromOn y ys → filter (ties less z) ys ≡ []
  untied z y [] h f = refl
  untied z y (x ∷ ys) h (a, f) =
      let before : less z x ≡ true = ⊎_elim (λ t. t) (λ n. absurd (both_ways (less z y) (o.chain z x y n a) h)) (cases_Bool (less z x)) in
      ap (λ b. if b then x ∷ filter (ties less z) ys else filter (ties less z) ys) (first_holds (less z x) (less x z) before) ∙ untied z y ys h f

  none_tied : (z y : X) (ys : List X) → less z y ≡ true → FromOn y ys → filter (ties less z) (y ∷ ys) ≡ []
  none_tied z y ys h f = ap (λ b. if b then y ∷ filter (ties less z) ys else filter (ties less z) ys) (first_holds (less z y) (less y z) h) ∙ untied z y ys h f

  not_before : (x y : X) (xs ys : List X) → FromOn y ys → filter (ties less x) (x ∷ xs) ≡ filter (ties less x) (y ∷ ys) → less x y ≡ false
  not_before x y xs ys f e = ⊎_elim (λ t. let none = none_tied x y ys t f in let first = tied_first x xs in absurd (cc (e, none, first))) (λ n. n) (cases_Bool (less x y))

  unique : (xs ys : List X) → Rises xs → Rises ys → ((z : X) → filter (ties less z) xs ≡ filter (ties less z) ys) → xs ≡ ys
  unique [] [] r s h = refl
  unique [] (y ∷ ys) r s h = let first = tied_first y ys in let e = h y in absurd (cc (e, first))
  unique (x ∷ xs) [] r s h = let first = tied_first x xs in let e = h x in absurd (cc (e, first))
  unique (x ∷ xs) (y ∷ ys) (f, r) (g, s) h =
      let here : less x y ≡ false = not_before x y xs ys g (h x) in
      let there : less y x ≡ false = not_before y x ys xs f (sym (h y)) in
      let tie : filter (ties less x) (y ∷ ys) ≡ y ∷ filter (ties less x) ys = ap (λ b. if b then y ∷ filter (ties less x) ys else filter (ties less x) ys) (neither (less x y) (less y x) here there) in
      let e : x ≡ y = same_head x y (filter (ties less x) xs) (filter (ties less x) ys) (sym (tied_first x xs) ∙ h x ∙ tie) in
      let rest : xs ≡ ys = unique xs ys r s (λ z. same_rest (ties less z x) x (filter (ties less z) xs) (filter (ties less z) ys) (h z ∙ ap (λ w. if ties less z w then w ∷ filter (ties less z) ys else filter (ties less z) ys) (sym e))) in
      λ i. e i ∷ rest i

  pub sorted_is : (xs ys : List X) → IsSortedBy less ys → IsStableBy less xs ys → ys ≡ sorted_by less xs
  sorted_is xs ys up stable =
      unique ys (sorted_by less xs)
      (rises_from ys (λ k d lt. up k d (omega arith) lt))
      (rises_sorted xs)
      (λ z. stable z ∙ sym (tied_sorted z xs))
