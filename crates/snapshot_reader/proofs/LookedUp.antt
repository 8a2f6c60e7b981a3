-- What a look-up in a slice gives.
use Rattle.std.proofs.Common.{◌≡◌, ℕ, ◌<◌, List, length, Option, Some, None, Bor, refl, sym, ap, ◌∙◌, ⊎_elim}
use Rattle.std.specs.Prelude.{◌==◌, nat_lt, slice_get, slice_index, is_some, IfSome}
use Rattle.std.specs.Option.{option_copied, option_eq}
use Rattle.std.proofs.Math.ListN.{get_or}
use Rattle.std.proofs.lemmas.Bool.{cases_eq, eq-eqb, lt-ltb, ltb-true, ltb-false, ne_eqb, true≢false}
use Rattle.std.proofs.lemmas.List.{get_or_read}
use Rattle.std.proofs.lemmas.Option.{slice_get_past, slice_get_read}

-- a copy of what is there
pub copied : {X : Type 0} (xs : List X) (k : ℕ) (o : Option (Bor X)) → is_some o ≡ nat_lt k (length xs) → IfSome o (λ x. x.now ≡ get_or xs k x.now) → option_copied o ≡ slice_get xs k
copied xs k None some here = sym (slice_get_past xs k (ltb-false k (length xs) (sym some)))
copied xs k (Some x) some here = sym (slice_get_read xs (length xs) k x.now refl (ltb-true k (length xs) (sym some)) here)

other_way : (m n : ℕ) → (m == n) ≡ (n == m)
other_way m n = ⊎_elim (λ (e : m ≡ n). eq-eqb m n e ∙ sym (eq-eqb n m (sym e))) (λ (ne : m ≡ n → ⊥). ne_eqb m n ne ∙ sym (ne_eqb n m (λ e. ne (sym e)))) (cases_eq m n)

-- whether the number there is this one
pub same_number : (xs : List ℕ) (k : ℕ) (o : Option (Bor ℕ)) (y : Bor ℕ) → k < length xs → is_some o ≡ nat_lt k (length xs) → IfSome o (λ x. x.now ≡ get_or xs k x.now) → option_eq (λ (x z : Bor ℕ). x.now == z.now) o (Some y) ≡ (y.now == slice_index xs k)
same_number xs k None y within some here = absurd (true≢false (sym (lt-ltb k (length xs) within) ∙ sym some))
same_number xs k (Some x) y within some here = ap (λ (n : ℕ). n == y.now) (get_or_read xs k x.now within here 0) ∙ other_way (slice_index xs k) y.now
