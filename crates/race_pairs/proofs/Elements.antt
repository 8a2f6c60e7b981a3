-- What stands at a place of a list, as `slice_get` reads it, and what passes a test.
use Rattle.std.proofs.Common.{◌≡◌, ℕ, zero, suc, ◌<◌, Bool, true, false, ◌||◌, List, [], ◌∷◌, length, get_or, refl, sym, ap, ◌∙◌, arith, Some}
use Rattle.std.specs.Prelude.{slice_get}
use Rattle.std.specs.List.{Contains, list_any}

pub got : {X : Type 0} (xs : List X) (k : ℕ) (x : X) → slice_get xs k ≡ Some x → (k < length xs) × (get_or xs k x ≡ x)
got [] k x e = cc
got (y ∷ ys) zero x e = (omega arith, cc)
got (y ∷ ys) (suc k) x e = let h = got ys k x e in (omega (arith, h.0), h.1)

pub gets : {X : Type 0} (xs : List X) (k : ℕ) (d : X) → k < length xs → slice_get xs k ≡ Some (get_or xs k d)
gets [] k d lt = absurd (omega arith)
gets (y ∷ ys) zero d lt = refl
gets (y ∷ ys) (suc k) d lt = gets ys k d (omega arith)

pub held : {X : Type 0} (xs : List X) (k : ℕ) (x : X) → slice_get xs k ≡ Some x → Contains xs x
held xs k x e = let h = got xs k x e in (k, h.0, h.1)

pub holds : {X : Type 0} (xs : List X) (x : X) → Contains xs x → (k : ℕ) × (slice_get xs k ≡ Some x)
holds xs x h = (h.0, gets xs h.0 x h.1 ∙ ap Some h.2)

-- the element at k in any default
pub reads : {X : Type 0} (xs : List X) (k : ℕ) (d x : X) → slice_get xs k ≡ Some x → get_or xs k d ≡ x
reads xs k d x e = let f = gets xs k d (got xs k x e).0 in cc

pub any_some : {X : Type 0} (f : X → Bool) (xs : List X) → list_any f xs ≡ true → (k : ℕ) × (x : X) × (slice_get xs k ≡ Some x) × (f x ≡ true)
any_some f [] h = cc
any_some {X} f (x ∷ xs) h = go (f x) refl h (λ k. any_some f xs k)
  where
    go : (b : Bool) → f x ≡ b → b || list_any f xs ≡ true → (list_any f xs ≡ true → (k : ℕ) × (y : X) × (slice_get xs k ≡ Some y) × (f y ≡ true)) → (k : ℕ) × (y : X) × (slice_get (x ∷ xs) k ≡ Some y) × (f y ≡ true)
    go true e h rec = (0, x, refl, e)
    go false e h rec = let r = rec h in (suc r.0, r.1, r.2, r.3)

pub some_any : {X : Type 0} (f : X → Bool) (xs : List X) (k : ℕ) (x : X) → slice_get xs k ≡ Some x → f x ≡ true → list_any f xs ≡ true
some_any f [] k x e h = cc
some_any f (y ∷ ys) zero x e h = left (f y) (list_any f ys) (let s : y ≡ x = cc in ap f s ∙ h)
  where
    left : (a b : Bool) → a ≡ true → a || b ≡ true
    left true b h = refl
    left false b h = cc
some_any f (y ∷ ys) (suc k) x e h = right (f y) (list_any f ys) (some_any f ys k x e h)
  where
    right : (a b : Bool) → b ≡ true → a || b ≡ true
    right true b h = refl
    right false b h = h

pub gets_at : {X : Type 0} (xs : List X) (k : ℕ) (x : X) → k < length xs → x ≡ get_or xs k x → slice_get xs k ≡ Some x
gets_at xs k x lt e = gets xs k x lt ∙ ap Some (sym e)
