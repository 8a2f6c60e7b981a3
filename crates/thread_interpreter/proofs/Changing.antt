-- One step of a loop that changes each item of a list in turn.
use Rattle.std.proofs.Common.{◌≡◌, ℕ, zero, suc, ◌+◌, List, [], ◌∷◌, ◌++◌, map, take, drop, Option, Some, None, refl, ap, ◌∙◌, arith}
use Rattle.std.specs.Prelude.{slice_get}
use Rattle.thread_interpreter.specs.Flows.{changed_at}

changed_after : {A : Type 0} (f : A → A) (o : Option A) (y : A) (ys : List A) (i : ℕ) → changed_at f o (y ∷ ys) (suc i) ≡ y ∷ changed_at f o ys i
changed_after f None y ys i = refl
changed_after f (Some x) y ys i = refl

-- the first items changed, and the others as they were
abbrev pub changed_to : {A : Type 0} → (A → A) → List A → ℕ → List A
changed_to f xs i = map f (take i xs) ++ drop i xs

pub change_step : {A : Type 0} (f : A → A) (xs : List A) (i : ℕ) → changed_at f (slice_get (changed_to f xs i) i) (changed_to f xs i) i ≡ changed_to f xs (i + 1)
change_step f [] zero = refl
change_step f [] (suc i) = let further : suc (i + 1) ≡ suc i + 1 = omega arith in ap (changed_to f []) further
change_step f (x ∷ xs) zero = refl
change_step f (x ∷ xs) (suc i) =
    let further : suc (i + 1) ≡ suc i + 1 = omega arith in
    changed_after f (slice_get (changed_to f xs i) i) (f x) (changed_to f xs i) i
    ∙ ap (λ z. f x ∷ z) (change_step f xs i)
    ∙ ap (changed_to f (x ∷ xs)) further
