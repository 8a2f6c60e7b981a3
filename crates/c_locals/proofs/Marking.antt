-- What a mark that is made changes.
use Rattle.std.proofs.Common.{◌≡◌, ◌≢◌, ℕ, zero, suc, ◌<◌, Bool, true, false, ◌==◌, ◌||◌, List, [], ◌∷◌, ◌++◌, length, set, get_or, refl, sym, ap, ◌∙◌}
use Rattle.std.proofs.lemmas.Bool.{eqb-true, eqb-false}
use Rattle.std.proofs.lemmas.List.{get_or-set_same, get_or-set_other}
use Rattle.c_locals.specs.Addresses.{is_marked}

pub is_marked-push : (marks : List Bool) (k : ℕ) → is_marked (marks ++ false ∷ []) k ≡ is_marked marks k
is_marked-push [] zero = refl
is_marked-push [] (suc k) = refl
is_marked-push (m ∷ ms) zero = refl
is_marked-push (m ∷ ms) (suc k) = is_marked-push ms k

pub is_marked-set : (marks : List Bool) (n k : ℕ) → n < length marks → is_marked (set marks n true) k ≡ (n == k) || is_marked marks k
is_marked-set marks n k within = by (n == k) refl
  where
    by : (b : Bool) → (n == k) ≡ b → is_marked (set marks n true) k ≡ b || is_marked marks k
    by true e = ap (λ j. get_or (set marks n true) j false) (sym (eqb-true n k e)) ∙ get_or-set_same marks n true false within
    by false e =
        let other : k ≢ n = λ same. eqb-false n k e (sym same) in
        get_or-set_other marks n k true false other

-- a mark that is made, and those that are still to be made
pub is_marked-more : (m e r : Bool) → (e || m) || r ≡ m || (e || r)
is_marked-more true true r = refl
is_marked-more true false r = refl
is_marked-more false true r = refl
is_marked-more false false r = refl
