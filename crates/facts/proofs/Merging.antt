-- Two lists that ascend, merged, are their union.
use Rattle.std.proofs.Common.{◌≡◌, ℕ, ◌≤◌, Bool, true, false, List, [], ◌∷◌, ◌++◌, length, drop, refl, sym, ap, ◌∙◌, subst}
use Rattle.std.specs.Prelude.{if◌then◌else◌}
use Rattle.std.proofs.lemmas.List.{drop_all}
use Rattle.facts.specs.Merges.{before_item, after_item, merge}
use Rattle.facts.specs.Sets.{Orders, comes_first, are_ascending, with, union}
use Rattle.facts.proofs.ItemSets.{irr, less_other, ascending_parts, past_less}

module _ {X : Type 0} (less same : X → X → Bool) (o : Orders less same) where
  not_back : (p q : X) → less p q ≡ true → less q p ≡ false
  not_back p q h = by (less q p) refl
    where
      by : (b : Bool) → less q p ≡ b → less q p ≡ false
      by true e = absurd (irr less same o p (o.along p q p h e))
      by false e = e

  not_same : (p q : X) → less p q ≡ true → same q p ≡ false
  not_same p q h = by (same q p) refl
    where
      by : (b : Bool) → same q p ≡ b → same q p ≡ false
      by true e = absurd (irr less same o p (subst (λ z. less p z ≡ true) (o.same_is q p e) h))
      by false e = e

  -- none of what comes after an item comes before it
  none_before : (p : X) (qs : List X) → comes_first less p qs ≡ true → (before_item less p qs ≡ []) × (after_item less same p qs ≡ qs)
  none_before p [] h = (refl, refl)
  none_before p (q ∷ qs) h = (
    ap (λ b. if b then q ∷ before_item less p qs else []) (not_back p q h),
    ap (λ b. if b then after_item less same p qs else if same q p then qs else q ∷ qs) (not_back p q h) ∙ ap (λ b. if b then qs else q ∷ qs) (not_same p q h),
  )

  first_with : (q : X) (rs : List X) → comes_first less q rs ≡ true → with less same q rs ≡ q ∷ rs
  first_with q [] h = refl
  first_with q (r ∷ rs) h = ap (λ b. if b then q ∷ r ∷ rs else if same q r then r ∷ rs else r ∷ with less same q rs) h

  first_merge : (q p : X) (ps qs : List X) → less q p ≡ true → comes_first less q qs ≡ true → comes_first less q (merge less same (p ∷ ps) qs) ≡ true
  first_merge q p ps [] lt h = lt
  first_merge q p ps (x ∷ qs) lt h = by (less x p)
    where
      by : (b : Bool) → comes_first less q ((if b then x ∷ before_item less p qs else []) ++ p ∷ merge less same ps (after_item less same p (x ∷ qs))) ≡ true
      by true = h
      by false = lt

  with_merge : (ps : List X) (q : X) (qs : List X) → comes_first less q qs ≡ true → with less same q (merge less same ps qs) ≡ merge less same ps (q ∷ qs)
  with_merge [] q qs h = first_with q qs h
  with_merge (p ∷ ps) q qs h = by (with_merge ps q qs h) (less q p) refl (same q p) refl
    where
      joined : with less same q (merge less same ps qs) ≡ merge less same ps (q ∷ qs) → (b : Bool) → less q p ≡ false → same q p ≡ b → with less same q (merge less same (p ∷ ps) qs) ≡ p ∷ merge less same ps (if b then qs else q ∷ qs)
      joined rest true n e =
          let equal = o.same_is q p e in
          let none = none_before p qs (subst (λ z. comes_first less z qs ≡ true) equal h) in
          ap (with less same q) (ap (λ z. z ++ p ∷ merge less same ps (after_item less same p qs)) none.0 ∙ ap (λ z. p ∷ merge less same ps z) none.1)
          ∙ ap (λ b. if b then q ∷ p ∷ merge less same ps qs else if same q p then p ∷ merge less same ps qs else p ∷ with less same q (merge less same ps qs)) n
          ∙ ap (λ b. if b then p ∷ merge less same ps qs else p ∷ with less same q (merge less same ps qs)) e
      joined rest false n e =
          let lt = less_other less same o q p n e in
          let none = none_before p qs (past_less less same o p q qs lt h) in
          ap (with less same q) (ap (λ z. z ++ p ∷ merge less same ps (after_item less same p qs)) none.0 ∙ ap (λ z. p ∷ merge less same ps z) none.1)
          ∙ ap (λ b. if b then q ∷ p ∷ merge less same ps qs else if same q p then p ∷ merge less same ps qs else p ∷ with less same q (merge less same ps qs)) n
          ∙ ap (λ b. if b then p ∷ merge less same ps qs else p ∷ with less same q (merge less same ps qs)) e
          ∙ ap (λ z. p ∷ z) rest

      by : with less same q (merge less same ps qs) ≡ merge less same ps (q ∷ qs) → (l : Bool) → less q p ≡ l → (s : Bool) → same q p ≡ s → with less same q (merge less same (p ∷ ps) qs) ≡ merge less same (p ∷ ps) (q ∷ qs)
      by rest true e s g =
          first_with q (merge less same (p ∷ ps) qs) (first_merge q p ps qs e h)
          ∙ sym (ap (λ b. (if b then q ∷ before_item less p qs else []) ++ p ∷ merge less same ps (if b then after_item less same p qs else if same q p then qs else q ∷ qs)) e)
      by rest false e s g =
          joined rest s e g
          ∙ sym (ap (λ b. (if b then q ∷ before_item less p qs else []) ++ p ∷ merge less same ps (if b then after_item less same p qs else if same q p then qs else q ∷ qs)) e ∙ ap (λ b. p ∷ merge less same ps (if b then qs else q ∷ qs)) g)

  no_others : (ps : List X) → merge less same ps [] ≡ ps
  no_others [] = refl
  no_others (p ∷ ps) = ap (λ z. p ∷ z) (no_others ps)

  pub merged_union : (ps qs : List X) → are_ascending less qs ≡ true → merge less same ps qs ≡ union less same ps qs
  merged_union ps [] h = no_others ps
  merged_union ps (q ∷ qs) h = let a = ascending_parts less same o q qs h in sym (with_merge ps q qs a.0) ∙ ap (with less same q) (merged_union ps qs a.1)

  -- once all items have been gone through, the others that are left make it whole
  pub merged_end : (ps qs out rest new : List X) (n : ℕ) → length ps ≤ n → new ≡ out ++ rest → out ++ merge less same (drop n ps) rest ≡ merge less same ps qs → are_ascending less qs ≡ true → new ≡ union less same ps qs
  merged_end ps qs out rest new n le is was h = is ∙ ap (λ z. out ++ merge less same z rest) (sym (drop_all n ps le)) ∙ was ∙ merged_union ps qs h
