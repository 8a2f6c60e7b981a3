-- What a push and a loop gain, and how gains join.
use Rattle.std.proofs.Common.{◌≡◌, ℕ, ◌+◌, ◌<◌, ◌≤◌, List, [], ◌∷◌, ◌++◌, sym, subst, arith, ◌⊎◌, inl, inr, ⊎_elim}
use Rattle.std.specs.List.{Contains}
use Rattle.std.proofs.lemmas.Bool.{cases_lt}
use Rattle.std.proofs.lemmas.List.Elements.{Contains-append_left, Contains-push, Contains-push_cases}
use Rattle.race_pairs.specs.Gains.{Gains, Below}

pub none : {X : Type 0} (P : X → Type 0) (xs : List X) → ((x : X) → P x → ⊥) → Gains P xs xs
none P xs never = record { kept = λ x h. h; gained = λ x p. absurd (never x p); alone = λ x h. inl h }

pub nothing : {X : Type 0} (x : X) → Contains [] x → ⊥
nothing x h = let lt : h.0 < 0 = h.1 in omega arith

-- what a list has that began with nothing
pub only : {X : Type 0} (P : X → Type 0) (xs : List X) → Gains P [] xs → (x : X) → Contains xs x → P x
only P xs g x h = ⊎_elim (λ o. absurd (nothing x o)) (λ p. p) (g.alone x h)

-- another list with the same elements
pub gains_too : {X : Type 0} (P : X → Type 0) (xs ys : List X) → ((x : X) → Contains xs x → Contains ys x) → ((x : X) → Contains ys x → Contains xs x) → Gains P [] xs → Gains P [] ys
gains_too P xs ys f b g = record { kept = λ x h. absurd (nothing x h); gained = λ x p. f x (g.gained x p); alone = λ x h. inr (only P xs g x (b x h)) }

pub pushed : {X : Type 0} (xs : List X) (y : X) → Gains (λ x. x ≡ y) xs (xs ++ y ∷ [])
pushed xs y = record {
  kept = λ x h. Contains-append_left xs (y ∷ []) x h;
  gained = λ x e. subst (Contains (xs ++ y ∷ [])) (sym e) (Contains-push xs y);
  alone = λ x h. ⊎_elim (λ k. inl k) (λ e. inr (sym e)) (Contains-push_cases xs y x h);
}

pub alike : {X : Type 0} (P Q : X → Type 0) (xs ys : List X) → ((x : X) → P x → Q x) → ((x : X) → Q x → P x) → Gains P xs ys → Gains Q xs ys
alike P Q xs ys f g a = record { kept = a.kept; gained = λ x q. a.gained x (g x q); alone = λ x h. ⊎_elim (λ k. inl k) (λ p. inr (f x p)) (a.alone x h) }

pub joined : {X : Type 0} (P Q R : X → Type 0) (xs ys zs : List X) → ((x : X) → P x → R x) → ((x : X) → Q x → R x) → ((x : X) → R x → P x ⊎ Q x) → Gains P xs ys → Gains Q ys zs → Gains R xs zs
joined P Q R xs ys zs f g s a b = record {
  kept = λ x h. b.kept x (a.kept x h);
  gained = λ x r. ⊎_elim (λ p. b.kept x (a.gained x p)) (λ q. b.gained x q) (s x r);
  alone = λ x h. ⊎_elim (λ k. ⊎_elim (λ o. inl o) (λ p. inr (f x p)) (a.alone x k)) (λ q. inr (g x q)) (b.alone x h);
}

pub more : {X : Type 0} (At : ℕ → X → Type 0) (n : ℕ) (xs ys zs : List X) → Gains (Below n At) xs ys → Gains (At n) ys zs → Gains (Below (n + 1) At) xs zs
more {X} At n xs ys zs a b = joined (Below n At) (At n) (Below (n + 1) At) xs ys zs wider (λ x h. (n, omega arith, h)) split a b
  where
    wider : (x : X) → Below n At x → Below (n + 1) At x
    wider x (k, lt, h) = (k, omega arith, h)

    split : (x : X) → Below (n + 1) At x → Below n At x ⊎ At n x
    split x (k, lt, h) = ⊎_elim (λ l. inl (k, l, h)) (λ (g : n ≤ k). let e : k ≡ n = omega arith in inr (subst (λ j. At j x) e h)) (cases_lt k n)

-- all there are stand below n
pub all_below : {X : Type 0} (At : ℕ → X → Type 0) (n : ℕ) (xs ys : List X) → ((k : ℕ) (x : X) → At k x → k < n) → Gains (Below n At) xs ys → Gains (λ x. (k : ℕ) × At k x) xs ys
all_below At n xs ys in' a = alike (Below n At) (λ x. (k : ℕ) × At k x) xs ys (λ x h. (h.0, h.2)) (λ x h. (h.0, in' h.0 x h.1, h.1)) a
