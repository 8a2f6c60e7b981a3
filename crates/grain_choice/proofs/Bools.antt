-- Tests of elements of lists, by cases.
use Rattle.std.proofs.Common.{◌≡◌, Bool, true, false, cond, ◌&&◌, ◌||◌, List, [], ◌∷◌, refl, sym, ap, ◌∙◌, ◌⊎◌, inl, inr}
use Rattle.std.specs.List.{list_any, filter}

pub either : (b : Bool) → (b ≡ true) ⊎ (b ≡ false)
either true = inl refl
either false = inr refl

pub alike : (p q : Bool) → (p ≡ true → q ≡ true) → (q ≡ true → p ≡ true) → p ≡ q
alike true q h k = sym (h refl)
alike false true h k = k refl
alike false false h k = refl

pub and_both : (p q : Bool) → p && q ≡ true → (p ≡ true) × (q ≡ true)
and_both true q h = (refl, h)
and_both false q h = cc

pub both_and : (p q : Bool) → p ≡ true → q ≡ true → p && q ≡ true
both_and true q h k = k
both_and false q h k = cc

or_twice : (p q r : Bool) → q ≡ p → p || r ≡ p || (q || r)
or_twice true q r h = refl
or_twice false q r h = ap (λ b. b || r) (sym h)

-- a filter keeps an element that passes its test
pub any_filter : {X : Type 0} (test pass : X → Bool) (b : Bool) → ((x : X) → test x ≡ true → pass x ≡ b) → (xs : List X) → list_any test (filter pass xs) ≡ list_any test xs && b
any_filter test pass b known [] = refl
any_filter {X} test pass b known (x ∷ xs) = go (pass x) refl (any_filter test pass b known xs)
  where
    either_way : (t p : Bool) (k : t ≡ true → p ≡ b) (r s : Bool) → r ≡ s && b → (p ≡ true → t || r ≡ (t || s) && b) × (p ≡ false → r ≡ (t || s) && b)
    either_way true p k r s e = ((λ h. sym h ∙ k refl), λ h. e ∙ last s b (sym (k refl) ∙ h))
      where
        last : (s b : Bool) → b ≡ false → s && b ≡ b
        last true b h = refl
        last false b h = sym h
    either_way false p k r s e = ((λ h. e), λ h. e)

    go : (p : Bool) → pass x ≡ p → list_any test (filter pass xs) ≡ list_any test xs && b → list_any test (cond p (x ∷ filter pass xs) (filter pass xs)) ≡ (test x || list_any test xs) && b
    go true e ih = (either_way (test x) true (λ h. sym e ∙ known x h) (list_any test (filter pass xs)) (list_any test xs) ih).0 refl
    go false e ih = (either_way (test x) false (λ h. sym e ∙ known x h) (list_any test (filter pass xs)) (list_any test xs) ih).1 refl
