-- What has a number stays there.
use Rattle.std.proofs.Common.{◌≡◌, ℕ, zero, suc, ◌+◌, ◌<◌, Bool, true, false, not, cond, nat_lt, eqb, ◌≤◌, List, [], ◌∷◌, ◌++◌, length, map, Option, Some, None, option_map, position, unwrap_or, count_by, slice_get, refl, sym, ◌∙◌, ap, arith, length-append}
use Rattle.std.specs.List.{position_or_len}
use Rattle.std.proofs.lemmas.Bool.Decides.{nat_tests}
use Rattle.std.proofs.lemmas.List.Folds.{prefix_len-append}
use Rattle.core_tree.specs.Core.{Function, Pointer, Program}
use Rattle.core_tree.specs.Meaning.{Callee, defined, pointed, callees, is_main, main_of}
use Rattle.call_targets.specs.Resolved.{chooser, choosers, resolved}

-- what doesn't tell a type from its chooser tells nothing apart
module _ {X : Type 0} (g : Option Callee → X) (same : (n : ℕ) (q : Pointer) → g (Some (defined (chooser n q))) ≡ g (Some (pointed q))) where
  chooser_at : (n : ℕ) (qs : List Pointer) (i : ℕ) → g (slice_get (map defined (choosers n qs) ++ []) i) ≡ g (slice_get (map pointed qs) i)
  chooser_at n [] i = refl
  chooser_at n (q ∷ qs) zero = same n q
  chooser_at n (q ∷ qs) (suc i) = chooser_at (n + 1) qs i

  among : (fs : List Function) (qs : List Pointer) (i : ℕ) → g (slice_get (map defined (fs ++ choosers 1 qs) ++ []) i) ≡ g (slice_get (map defined fs ++ map pointed qs) i)
  among [] qs i = chooser_at 1 qs i
  among (f ∷ fs) qs zero = refl
  among (f ∷ fs) qs (suc i) = among fs qs i

  pub callee_at : (p : Program) (i : ℕ) → g (slice_get (callees (resolved p)) i) ≡ g (slice_get (callees p) i)
  callee_at p i = among p.functions p.pointers i

-- ---- no chooser is `main`

pub no_main : (n : ℕ) (qs : List Pointer) → count_by is_main (choosers n qs) ≡ 0
no_main n [] = refl
no_main n (q ∷ qs) = no_main (n + 1) qs

pub chooser_is_no_main : (n : ℕ) (q : Pointer) → is_main (chooser n q) ≡ false
chooser_is_no_main n q = refl

none_passes : (n : ℕ) (qs : List Pointer) → position_or_len is_main (choosers n qs) ≡ length (choosers n qs)
none_passes n [] = refl
none_passes n (q ∷ qs) = omega (arith, none_passes (n + 1) qs)

at_most : (f : Function) (n m : ℕ) → n ≤ m → cond (not (is_main f)) (1 + n) 0 ≤ suc m
at_most f n m le = by (not (is_main f))
  where
    by : (b : Bool) → cond b (1 + n) 0 ≤ suc m
    by true = omega (arith, le)
    by false = omega arith

most : (fs : List Function) → position_or_len is_main fs ≤ length fs
most [] = omega arith
most (f ∷ fs) = at_most f (position_or_len is_main fs) (length fs) (most fs)

not_found : (b n : ℕ) → b ≡ n → unwrap_or (cond (nat_lt b n) (Some b) None) 0 ≡ 0
not_found b n e = ap (λ c. unwrap_or (cond c (Some b) None) 0) over
  where
    over : nat_lt b n ≡ false
    over = grind (arith, nat_tests)

found : (b n : ℕ) → b < n → unwrap_or (cond (nat_lt b n) (Some b) None) 0 ≡ b
found b n lt = ap (λ c. unwrap_or (cond c (Some b) None) 0) under
  where
    under : nat_lt b n ≡ true
    under = grind (arith, nat_tests)

-- the first that passes of two lists is the first of the one, where none of the other passes
first_of_two : (fs gs : List Function) → position_or_len is_main gs ≡ length gs → unwrap_or (position is_main (fs ++ gs)) 0 ≡ unwrap_or (position is_main fs) 0
first_of_two fs gs none =
    by (eqb (position_or_len is_main fs) (length fs)) refl (prefix_len-append (λ f. not (is_main f)) fs gs)
  where
    within : position_or_len is_main fs ≤ length fs
    within = most fs

    at_end : (a m : ℕ) → eqb a m ≡ true → a ≡ m
    at_end a m e = grind (arith, nat_tests)

    before : (a m : ℕ) → eqb a m ≡ false → a ≤ m → a < m
    before a m e le = grind (arith, nat_tests)

    by : (c : Bool) → eqb (position_or_len is_main fs) (length fs) ≡ c → position_or_len is_main (fs ++ gs) ≡ cond c (length fs + position_or_len is_main gs) (position_or_len is_main fs) → unwrap_or (position is_main (fs ++ gs)) 0 ≡ unwrap_or (position is_main fs) 0
    by true is at =
        not_found (position_or_len is_main (fs ++ gs)) (length (fs ++ gs)) (omega (arith, at, none, length-append fs gs))
        ∙ sym (not_found (position_or_len is_main fs) (length fs) (at_end (position_or_len is_main fs) (length fs) is))
    by false is at =
        let low = before (position_or_len is_main fs) (length fs) is within in
        found (position_or_len is_main (fs ++ gs)) (length (fs ++ gs)) (omega (arith, at, low, length-append fs gs))
        ∙ at ∙ sym (found (position_or_len is_main fs) (length fs) low)

pub main_stays : (p : Program) → main_of (resolved p) ≡ main_of p
main_stays p = first_of_two p.functions (choosers 1 p.pointers) (none_passes 1 p.pointers)
