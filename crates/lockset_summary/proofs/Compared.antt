-- Lists that are compared item by item.
use Rattle.std.proofs.Common.{◌≡◌, ◌≢◌, ◌<◌, ◌≤◌, ◌+◌, ℕ, zero, suc, Bool, true, false, ◌&&◌, ◌||◌, List, [], ◌∷◌, length, get_or, drop, refl, sym, ap, ◌∙◌, subst, arith, nat_lt, add-one}
use Rattle.facts.specs.Sets as sets

less_suc : (n : ℕ) → nat_lt 0 (suc n) ≡ true
less_suc n = grind arith

less_sucs : (m n : ℕ) → nat_lt m n ≡ nat_lt (suc m) (suc n)
less_sucs m n = go (nat_lt m n) refl
  where
    yes : nat_lt m n ≡ true → nat_lt (suc m) (suc n) ≡ true
    yes h = grind (arith, h)

    no : nat_lt m n ≡ false → nat_lt (suc m) (suc n) ≡ false
    no h = grind (arith, h)

    go : (b : Bool) → nat_lt m n ≡ b → nat_lt m n ≡ nat_lt (suc m) (suc n)
    go true h = h ∙ sym (yes h)
    go false h = h ∙ sym (no h)

module _ {X : Type 0} (less same : X → X → Bool) where
  less_at : (ps qs : List X) (k : ℕ) (d e : X) → k < length ps → k < length qs → sets.list_less less same (drop k ps) (drop k qs) ≡ (less (get_or ps k d) (get_or qs k e) || (same (get_or ps k d) (get_or qs k e) && sets.list_less less same (drop (suc k) ps) (drop (suc k) qs)))
  less_at [] qs k d e h g = absurd (omega arith)
  less_at (p ∷ ps) [] k d e h g = absurd (omega arith)
  less_at (p ∷ ps) (q ∷ qs) zero d e h g = refl
  less_at (p ∷ ps) (q ∷ qs) (suc k) d e h g = less_at ps qs k d e (omega arith) (omega arith)

  pub less_there : (ps qs : List X) (k : ℕ) (d e : X) → k < length ps → k < length qs → sets.list_less less same ps qs ≡ sets.list_less less same (drop k ps) (drop k qs) → less (get_or ps k d) (get_or qs k e) ≡ true → true ≡ sets.list_less less same ps qs
  less_there ps qs k d e h g was l = sym (was ∙ less_at ps qs k d e h g ∙ ap (λ b. b || (same (get_or ps k d) (get_or qs k e) && sets.list_less less same (drop (suc k) ps) (drop (suc k) qs))) l)

  pub other_there : (ps qs : List X) (k : ℕ) (d e : X) → k < length ps → k < length qs → sets.list_less less same ps qs ≡ sets.list_less less same (drop k ps) (drop k qs) → less (get_or ps k d) (get_or qs k e) ≡ false → same (get_or ps k d) (get_or qs k e) ≡ false → false ≡ sets.list_less less same ps qs
  other_there ps qs k d e h g was l s = sym (was ∙ less_at ps qs k d e h g ∙ ap (λ b. b || (same (get_or ps k d) (get_or qs k e) && sets.list_less less same (drop (suc k) ps) (drop (suc k) qs))) l ∙ ap (λ b. b && sets.list_less less same (drop (suc k) ps) (drop (suc k) qs)) s)

  pub less_on : (ps qs : List X) (k : ℕ) (d e : X) → k < length ps → k < length qs → sets.list_less less same ps qs ≡ sets.list_less less same (drop k ps) (drop k qs) → less (get_or ps k d) (get_or qs k e) ≡ false → same (get_or ps k d) (get_or qs k e) ≡ true → sets.list_less less same ps qs ≡ sets.list_less less same (drop (k + 1) ps) (drop (k + 1) qs)
  less_on ps qs k d e h g was l s = subst (λ n. sets.list_less less same ps qs ≡ sets.list_less less same (drop n ps) (drop n qs)) (sym (add-one k)) (was ∙ less_at ps qs k d e h g ∙ ap (λ b. b || (same (get_or ps k d) (get_or qs k e) && sets.list_less less same (drop (suc k) ps) (drop (suc k) qs))) l ∙ ap (λ b. b && sets.list_less less same (drop (suc k) ps) (drop (suc k) qs)) s)

  pub less_short : (ps qs : List X) (k : ℕ) → k < length ps → length qs ≤ k → sets.list_less less same ps qs ≡ sets.list_less less same (drop k ps) (drop k qs) → false ≡ sets.list_less less same ps qs
  less_short ps qs k h g was = sym (was ∙ ends ps qs k h g)
    where
      none : (rs : List X) → sets.list_less less same rs [] ≡ false
      none [] = refl
      none (r ∷ rs) = refl

      ends : (ps qs : List X) (k : ℕ) → k < length ps → length qs ≤ k → sets.list_less less same (drop k ps) (drop k qs) ≡ false
      ends [] qs k h g = absurd (omega arith)
      ends (p ∷ ps) [] zero h g = refl
      ends (p ∷ ps) (q ∷ qs) zero h g = absurd (omega arith)
      ends (p ∷ ps) [] (suc k) h g = none (drop k ps)
      ends (p ∷ ps) (q ∷ qs) (suc k) h g = ends ps qs k (omega arith) (omega arith)

  pub less_ends : (ps qs : List X) (k : ℕ) → length ps ≤ k → k ≤ length ps → k ≤ length qs → sets.list_less less same ps qs ≡ sets.list_less less same (drop k ps) (drop k qs) → nat_lt (length ps) (length qs) ≡ sets.list_less less same ps qs
  less_ends ps qs k h g i was = sym (was ∙ ends ps qs k h g i)
    where
      ends : (ps qs : List X) (k : ℕ) → length ps ≤ k → k ≤ length ps → k ≤ length qs → sets.list_less less same (drop k ps) (drop k qs) ≡ nat_lt (length ps) (length qs)
      ends [] [] zero h g i = refl
      ends [] (q ∷ qs) zero h g i = sym (less_suc (length qs))
      ends [] qs (suc k) h g i = absurd (omega arith)
      ends (p ∷ ps) qs zero h g i = absurd (omega arith)
      ends (p ∷ ps) [] (suc k) h g i = absurd (omega arith)
      ends (p ∷ ps) (q ∷ qs) (suc k) h g i = ends ps qs k (omega arith) (omega arith) (omega arith) ∙ less_sucs (length ps) (length qs)

module _ {X : Type 0} (same : X → X → Bool) where
  same_at : (ps qs : List X) (k : ℕ) (d e : X) → k < length ps → k < length qs → sets.all_same same (drop k ps) (drop k qs) ≡ (same (get_or ps k d) (get_or qs k e) && sets.all_same same (drop (suc k) ps) (drop (suc k) qs))
  same_at [] qs k d e h g = absurd (omega arith)
  same_at (p ∷ ps) [] k d e h g = absurd (omega arith)
  same_at (p ∷ ps) (q ∷ qs) zero d e h g = refl
  same_at (p ∷ ps) (q ∷ qs) (suc k) d e h g = same_at ps qs k d e (omega arith) (omega arith)

  pub same_lengths : (ps qs : List X) → length ps ≢ length qs → false ≡ sets.all_same same ps qs
  same_lengths [] [] h = absurd (h refl)
  same_lengths [] (q ∷ qs) h = refl
  same_lengths (p ∷ ps) [] h = refl
  same_lengths (p ∷ ps) (q ∷ qs) h = sym (go (same p q) (sym (same_lengths ps qs (λ e. h (ap suc e)))))
    where
      go : (b : Bool) → sets.all_same same ps qs ≡ false → (b && sets.all_same same ps qs) ≡ false
      go true e = e
      go false e = refl

  pub not_same : (ps qs : List X) (k : ℕ) (d e : X) → k < length ps → length ps ≡ length qs → sets.all_same same ps qs ≡ sets.all_same same (drop k ps) (drop k qs) → same (get_or ps k d) (get_or qs k e) ≡ false → false ≡ sets.all_same same ps qs
  not_same ps qs k d e h g was s = sym (was ∙ same_at ps qs k d e h (omega arith) ∙ ap (λ b. b && sets.all_same same (drop (suc k) ps) (drop (suc k) qs)) s)

  pub same_on : (ps qs : List X) (k : ℕ) (d e : X) → k < length ps → length ps ≡ length qs → sets.all_same same ps qs ≡ sets.all_same same (drop k ps) (drop k qs) → same (get_or ps k d) (get_or qs k e) ≡ true → sets.all_same same ps qs ≡ sets.all_same same (drop (k + 1) ps) (drop (k + 1) qs)
  same_on ps qs k d e h g was s = subst (λ n. sets.all_same same ps qs ≡ sets.all_same same (drop n ps) (drop n qs)) (sym (add-one k)) (was ∙ same_at ps qs k d e h (omega arith) ∙ ap (λ b. b && sets.all_same same (drop (suc k) ps) (drop (suc k) qs)) s)

  pub same_ends : (ps qs : List X) (k : ℕ) → length ps ≤ k → length ps ≡ length qs → sets.all_same same ps qs ≡ sets.all_same same (drop k ps) (drop k qs) → true ≡ sets.all_same same ps qs
  same_ends ps qs k h g was = sym (was ∙ ends ps qs k h g)
    where
      ends : (ps qs : List X) (k : ℕ) → length ps ≤ k → length ps ≡ length qs → sets.all_same same (drop k ps) (drop k qs) ≡ true
      ends [] [] zero h g = refl
      ends [] [] (suc k) h g = refl
      ends [] (q ∷ qs) k h g = absurd (omega (arith, g))
      ends (p ∷ ps) [] k h g = absurd (omega (arith, g))
      ends (p ∷ ps) (q ∷ qs) zero h g = absurd (omega arith)
      ends (p ∷ ps) (q ∷ qs) (suc k) h g = ends ps qs k (omega arith) (omega (arith, g))
