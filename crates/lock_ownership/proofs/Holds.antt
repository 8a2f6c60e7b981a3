-- What a thread holds and owes, by the numbers of stripes, and what it has lost.
use Rattle.std.proofs.Common.{◌≡◌, ◌≢◌, ℕ, ◌+◌, ◌*◌, ◌<◌, ◌==◌, ◌&&◌, ◌||◌, not, ⊎_elim, Bool, true, false, if◌then◌else◌, List, [], ◌∷◌, Some, refl, sym, ap, subst, ◌∙◌, arith, eq-eqb, ne_eqb, eqb-true}
use Rattle.std.proofs.lemmas.Bool.{cases_eq, true≢false}
use Rattle.flow_code.specs.declared.thread.Stripe.{Stripe}
use Rattle.flow_code.specs.Holding.{number_of_stripe}
use Rattle.flow_code.specs.Next.{same_stripe, holds, lost}
use Rattle.lock_ownership.specs.ThreadStripes.{AreSorted, owes_stripe}
use Rattle.lock_ownership.proofs.Standings.{standing, is_held, is_owed, Sorted, below, first_with, marked_standing, marked_sorted, marks}

-- the stripe of a lock with its number
abbrev pub numbered : ℕ → ℕ → ℕ
numbered lock stripe = 8 * lock + stripe

-- a stripe is the one with a number exactly where it is of that lock and stripe
pub same_number : (lock stripe : ℕ) (x : Stripe) → stripe < 8 → x.stripe < 8 → same_stripe lock stripe x ≡ (number_of_stripe x == numbered lock stripe)
same_number lock stripe x small low = ⊎_elim (λ e. equal e) (λ ne. other ne) (cases_eq (number_of_stripe x) (numbered lock stripe))
  where
    equal : number_of_stripe x ≡ numbered lock stripe → same_stripe lock stripe x ≡ (number_of_stripe x == numbered lock stripe)
    equal e =
        let a : x.lock ≡ lock = omega arith in
        let b : x.stripe ≡ stripe = omega arith in
        rw (eq-eqb x.lock lock a, eq-eqb x.stripe stripe b, eq-eqb (number_of_stripe x) (numbered lock stripe) e) refl

    differs : (a b : Bool) → x.lock == lock ≡ a → x.stripe == stripe ≡ b → number_of_stripe x ≢ numbered lock stripe → (a && b) ≡ false
    differs true true p q ne = let u = eqb-true x.lock lock p in let v = eqb-true x.stripe stripe q in absurd (ne (omega arith))
    differs true false p q ne = refl
    differs false b p q ne = refl

    other : number_of_stripe x ≢ numbered lock stripe → same_stripe lock stripe x ≡ (number_of_stripe x == numbered lock stripe)
    other ne = differs (x.lock == lock) (x.stripe == stripe) refl refl ne ∙ sym (ne_eqb (number_of_stripe x) (numbered lock stripe) ne)

pub holds_is : (n lock stripe : ℕ) (xs : List Stripe) → stripe < 8 → Sorted n xs → holds xs lock stripe ≡ is_held (standing xs (numbered lock stripe))
holds_is n lock stripe [] small h = refl
holds_is n lock stripe (x ∷ xs) small h =
    ap (λ b. (b && not x.owed) || holds xs lock stripe) (same_number lock stripe x small h.1)
    ∙ by (number_of_stripe x == numbered lock stripe) x.owed refl (holds_is (number_of_stripe x + 1) lock stripe xs small h.2)
  where
    by : (b o : Bool) → number_of_stripe x == numbered lock stripe ≡ b → holds xs lock stripe ≡ is_held (standing xs (numbered lock stripe)) → ((b && not o) || holds xs lock stripe) ≡ is_held (if b then Some o else standing xs (numbered lock stripe))
    by true true p e = let s = eqb-true (number_of_stripe x) (numbered lock stripe) p in e ∙ ap is_held (below (number_of_stripe x + 1) (numbered lock stripe) xs (omega arith) h.2)
    by true false p e = refl
    by false o p e = e

pub owes_is : (n lock stripe : ℕ) (xs : List Stripe) → stripe < 8 → Sorted n xs → owes_stripe xs lock stripe ≡ is_owed (standing xs (numbered lock stripe))
owes_is n lock stripe [] small h = refl
owes_is n lock stripe (x ∷ xs) small h =
    ap (λ b. (b && x.owed) || owes_stripe xs lock stripe) (same_number lock stripe x small h.1)
    ∙ by (number_of_stripe x == numbered lock stripe) x.owed refl (owes_is (number_of_stripe x + 1) lock stripe xs small h.2)
  where
    by : (b o : Bool) → number_of_stripe x == numbered lock stripe ≡ b → owes_stripe xs lock stripe ≡ is_owed (standing xs (numbered lock stripe)) → ((b && o) || owes_stripe xs lock stripe) ≡ is_owed (if b then Some o else standing xs (numbered lock stripe))
    by true true p e = refl
    by true false p e = let s = eqb-true (number_of_stripe x) (numbered lock stripe) p in e ∙ ap is_owed (below (number_of_stripe x + 1) (numbered lock stripe) xs (omega arith) h.2)
    by false o p e = e

-- no lock has a ninth stripe
pub holds_small : (n lock stripe : ℕ) (xs : List Stripe) → Sorted n xs → holds xs lock stripe ≡ true → stripe < 8
holds_small n lock stripe [] h e = cc
holds_small n lock stripe (x ∷ xs) h e = by (x.lock == lock) (x.stripe == stripe) x.owed refl e (λ q. holds_small (number_of_stripe x + 1) lock stripe xs h.2 q)
  where
    by : (a b o : Bool) → x.stripe == stripe ≡ b → (((a && b) && not o) || holds xs lock stripe) ≡ true → (holds xs lock stripe ≡ true → stripe < 8) → stripe < 8
    by true true false p q more = subst (λ k. k < 8) (eqb-true x.stripe stripe p) h.1
    by true true true p q more = more q
    by true false o p q more = more q
    by false b o p q more = more q

-- a stripe that is held is the first of its lock and number
held_first : (n lock stripe : ℕ) (xs : List Stripe) → stripe < 8 → Sorted n xs → holds xs lock stripe ≡ true → (y : Stripe) × (first_with (same_stripe lock stripe) xs ≡ Some y) × (number_of_stripe y ≡ numbered lock stripe)
held_first n lock stripe [] small h e = cc
held_first n lock stripe (x ∷ xs) small h e = by (same_stripe lock stripe x) refl (number_of_stripe x == numbered lock stripe) refl (same_number lock stripe x small h.1) e (λ q. held_first (number_of_stripe x + 1) lock stripe xs small h.2 q)
  where
    by : (a : Bool) → same_stripe lock stripe x ≡ a → (b : Bool) → number_of_stripe x == numbered lock stripe ≡ b → same_stripe lock stripe x ≡ (number_of_stripe x == numbered lock stripe) → ((a && not x.owed) || holds xs lock stripe) ≡ true → (holds xs lock stripe ≡ true → (y : Stripe) × (first_with (same_stripe lock stripe) xs ≡ Some y) × (number_of_stripe y ≡ numbered lock stripe)) → (y : Stripe) × ((if a then Some x else first_with (same_stripe lock stripe) xs) ≡ Some y) × (number_of_stripe y ≡ numbered lock stripe)
    by true p true q s r more = (x, refl, eqb-true (number_of_stripe x) (numbered lock stripe) q)
    by true p false q s r more = absurd (true≢false (sym p ∙ s ∙ q))
    by false p b q s r more = more r

pub lost_sorted : (xs : List Stripe) (lock stripe : ℕ) → AreSorted xs → AreSorted (lost xs lock stripe)
lost_sorted xs lock stripe h = subst AreSorted (sym (marks (same_stripe lock stripe) true xs)) (marked_sorted (same_stripe lock stripe) true 0 xs h)

pub lost_standing : (m : ℕ) (xs : List Stripe) (lock stripe : ℕ) → stripe < 8 → AreSorted xs → holds xs lock stripe ≡ true → standing (lost xs lock stripe) m ≡ (if numbered lock stripe == m then Some true else standing xs m)
lost_standing m xs lock stripe small h e =
    let y = held_first 0 lock stripe xs small h e in
    ap (λ zs. standing zs m) (marks (same_stripe lock stripe) true xs)
    ∙ marked_standing (same_stripe lock stripe) true 0 m xs y.0 h y.1
    ∙ ap (λ k. if k == m then Some true else standing xs m) y.2
