-- How a thread stands to a stripe, after each change of its list of stripes.
use Rattle.std.proofs.Common.{◌≡◌, ◌≢◌, ℕ, suc, ◌+◌, ◌<◌, ◌≤◌, ◌==◌, ◌||◌, not, nat_lt, ⊎_elim, Bool, true, false, if◌then◌else◌, List, [], ◌∷◌, length, Option, Some, None, refl, sym, ap, subst, ◌∙◌, arith, eq-eqb, ne_eqb, eqb-true}
use Rattle.std.specs.Prelude.{slice_get, insert, position, unwrap_or}
use Rattle.std.specs.List.{position_or_len}
use Rattle.std.proofs.lemmas.Bool.{cases_eq, true≢false, ltb-false, ltb-true}
use Rattle.std.proofs.lemmas.Option.{slice_get_past}
use Rattle.flow_code.specs.declared.thread.Stripe.{Stripe}
use Rattle.flow_code.specs.Holding.{number_of_stripe, is_listed, with_stripe, without_stripe, held}
use Rattle.flow_code.specs.Next.{first_owed, owed_at, with_owed, repaid}
use Rattle.flow_code.specs.Stripes.{stripe_of}
use Rattle.lock_ownership.specs.ThreadStripes.{AscendFrom, AreSorted}
use Rattle.lock_ownership.proofs.Ascending.{ascend_filter}

-- nothing, or whether the stripe with this number is owed
abbrev pub standing : List Stripe → ℕ → Option Bool
standing [] n = None
standing (x ∷ xs) n = if number_of_stripe x == n then Some x.owed else standing xs n

abbrev pub is_held : Option Bool → Bool
is_held (Some false) = true
is_held _ = false

abbrev pub is_owed : Option Bool → Bool
is_owed (Some true) = true
is_owed _ = false

abbrev pub is_there : Option Bool → Bool
is_there None = false
is_there (Some o) = true

abbrev pub Sorted : ℕ → List Stripe → Type 0
Sorted n xs = AscendFrom number_of_stripe (λ x. x.stripe) n xs

pub here : (x : Stripe) (xs : List Stripe) (n : ℕ) → number_of_stripe x ≡ n → standing (x ∷ xs) n ≡ Some x.owed
here x xs n e = ap (λ b. if b then Some x.owed else standing xs n) (eq-eqb (number_of_stripe x) n e)

pub later : (x : Stripe) (xs : List Stripe) (n : ℕ) → number_of_stripe x ≢ n → standing (x ∷ xs) n ≡ standing xs n
later x xs n ne = ap (λ b. if b then Some x.owed else standing xs n) (ne_eqb (number_of_stripe x) n ne)

-- below the least number there is none
pub below : (m n : ℕ) (xs : List Stripe) → n < m → Sorted m xs → standing xs n ≡ None
below m n [] lt h = refl
below m n (x ∷ xs) lt h = let at = h.0 in later x xs n (λ e. absurd (omega arith)) ∙ below (number_of_stripe x + 1) n xs (omega arith) h.2

pub listed_is : (xs : List Stripe) (n : ℕ) → is_listed xs n ≡ is_there (standing xs n)
listed_is [] n = refl
listed_is (x ∷ xs) n = by (number_of_stripe x == n) (listed_is xs n)
  where
    by : (b : Bool) → is_listed xs n ≡ is_there (standing xs n) → (b || is_listed xs n) ≡ is_there (if b then Some x.owed else standing xs n)
    by true e = refl
    by false e = e

-- ---- a stripe more

-- the list with one item more, where its number belongs
abbrev put : ℕ → Stripe → List Stripe → List Stripe
put n x [] = x ∷ []
put n x (y ∷ ys) = if nat_lt n (number_of_stripe y) then x ∷ y ∷ ys else y ∷ put n x ys

abbrev is_past : ℕ → Stripe → Bool
is_past n y = nat_lt n (number_of_stripe y)

-- the first place at which something holds, or the length
place_or_end : (p : Stripe → Bool) (xs : List Stripe) → unwrap_or (position p xs) (length xs) ≡ position_or_len p xs
place_or_end p xs = by (nat_lt (position_or_len p xs) (length xs)) refl
  where
    at_most : (p : Stripe → Bool) (ys : List Stripe) → position_or_len p ys ≤ length ys
    at_most p [] = omega arith
    at_most p (y ∷ ys) = go (not (p y)) (at_most p ys)
      where
        go : (b : Bool) → position_or_len p ys ≤ length ys → (if b then 1 + position_or_len p ys else 0) ≤ suc (length ys)
        go true h = omega arith
        go false h = omega arith

    by : (b : Bool) → nat_lt (position_or_len p xs) (length xs) ≡ b → unwrap_or (if b then Some (position_or_len p xs) else None) (length xs) ≡ position_or_len p xs
    by true e = refl
    by false e = let over = ltb-false (position_or_len p xs) (length xs) e in let most = at_most p xs in omega arith

insert_is : (n : ℕ) (x : Stripe) (ys : List Stripe) → insert ys (position_or_len (is_past n) ys) x ≡ put n x ys
insert_is n x [] = refl
insert_is n x (y ∷ ys) = by (nat_lt n (number_of_stripe y)) (insert_is n x ys)
  where
    by : (b : Bool) → insert ys (position_or_len (is_past n) ys) x ≡ put n x ys → insert (y ∷ ys) (if not b then 1 + position_or_len (is_past n) ys else 0) x ≡ (if b then x ∷ y ∷ ys else y ∷ put n x ys)
    by true e = refl
    by false e = let one : 1 + position_or_len (is_past n) ys ≡ suc (position_or_len (is_past n) ys) = omega arith in ap (λ k. insert (y ∷ ys) k x) one ∙ ap (λ zs. y ∷ zs) e

abbrev new_one : ℕ → Stripe
new_one n = record { lock = (stripe_of n).0; stripe = (stripe_of n).1; owed = false }

with_is : (n : ℕ) (xs : List Stripe) → with_stripe n xs ≡ put n (new_one n) xs
with_is n xs = ap (λ k. insert xs k (new_one n)) (place_or_end (is_past n) xs) ∙ insert_is n (new_one n) xs

new_number : (n : ℕ) → number_of_stripe (new_one n) ≡ n
new_number n = omega arith

put_sorted : (m n : ℕ) (xs : List Stripe) → m ≤ n → standing xs n ≡ None → Sorted m xs → Sorted m (put n (new_one n) xs)
put_sorted m n [] le e h = let same = new_number n in (omega arith, omega arith, tt)
put_sorted m n (x ∷ xs) le e h = by (nat_lt n (number_of_stripe x)) refl (λ lt rest. put_sorted (number_of_stripe x + 1) n xs lt rest h.2)
  where
    differs : number_of_stripe x ≢ n
    differs same = cc (here x xs n same, e)

    by : (b : Bool) → nat_lt n (number_of_stripe x) ≡ b → (number_of_stripe x + 1 ≤ n → standing xs n ≡ None → Sorted (number_of_stripe x + 1) (put n (new_one n) xs)) → Sorted m (if b then new_one n ∷ x ∷ xs else x ∷ put n (new_one n) xs)
    by true lt again =
        let less = ltb-true n (number_of_stripe x) lt in
        let same = new_number n in
        (omega arith, omega arith, (omega arith, h.1, h.2))
    by false lt again =
        let over = ltb-false n (number_of_stripe x) lt in
        let above : number_of_stripe x + 1 ≤ n = ⊎_elim (λ same. absurd (differs same)) (λ ne. omega arith) (cases_eq (number_of_stripe x) n) in
        (h.0, h.1, again above (sym (later x xs n differs) ∙ e))

put_standing : (n m : ℕ) (xs : List Stripe) → standing xs n ≡ None → standing (put n (new_one n) xs) m ≡ (if n == m then Some false else standing xs m)
put_standing n m [] e = ap (λ k. if k == m then Some false else None) (new_number n)
put_standing n m (x ∷ xs) e = by (nat_lt n (number_of_stripe x)) (λ rest. put_standing n m xs rest)
  where
    differs : number_of_stripe x ≢ n
    differs same = cc (here x xs n same, e)

    on : (b c : Bool) → number_of_stripe x == m ≡ b → n == m ≡ c → (if b then Some x.owed else (if c then Some false else standing xs m)) ≡ (if c then Some false else (if b then Some x.owed else standing xs m))
    on true true p q = absurd (differs (eqb-true (number_of_stripe x) m p ∙ sym (eqb-true n m q)))
    on true false p q = refl
    on false c p q = refl

    by : (b : Bool) → (standing xs n ≡ None → standing (put n (new_one n) xs) m ≡ (if n == m then Some false else standing xs m)) → standing (if b then new_one n ∷ x ∷ xs else x ∷ put n (new_one n) xs) m ≡ (if n == m then Some false else standing (x ∷ xs) m)
    by true again = ap (λ k. if k == m then Some false else standing (x ∷ xs) m) (new_number n)
    by false again = ap (λ o. if number_of_stripe x == m then Some x.owed else o) (again (sym (later x xs n differs) ∙ e)) ∙ on (number_of_stripe x == m) (n == m) refl refl

pub with_sorted : (n : ℕ) (xs : List Stripe) → standing xs n ≡ None → AreSorted xs → AreSorted (with_stripe n xs)
with_sorted n xs e h = subst AreSorted (sym (with_is n xs)) (put_sorted 0 n xs (omega arith) e h)

pub with_standing : (n m : ℕ) (xs : List Stripe) → standing xs n ≡ None → standing (with_stripe n xs) m ≡ (if n == m then Some false else standing xs m)
with_standing n m xs e = ap (λ zs. standing zs m) (with_is n xs) ∙ put_standing n m xs e

-- ---- a stripe less

pub without_sorted : (n : ℕ) (xs : List Stripe) → AreSorted xs → AreSorted (without_stripe n xs)
without_sorted n xs h = ascend_filter number_of_stripe (λ x. x.stripe) (λ x. not (number_of_stripe x == n)) 0 xs h

pub without_standing : (n m : ℕ) (xs : List Stripe) → standing (without_stripe n xs) m ≡ (if n == m then None else standing xs m)
without_standing n m [] = by (n == m)
  where
    by : (b : Bool) → standing [] m ≡ (if b then None else standing [] m)
    by true = refl
    by false = refl
without_standing n m (x ∷ xs) = by (number_of_stripe x == n) (number_of_stripe x == m) (n == m) refl refl refl (without_standing n m xs)
  where
    by : (a b c : Bool) → number_of_stripe x == n ≡ a → number_of_stripe x == m ≡ b → n == m ≡ c → standing (without_stripe n xs) m ≡ (if c then None else standing xs m) → standing (if not a then x ∷ without_stripe n xs else without_stripe n xs) m ≡ (if c then None else (if b then Some x.owed else standing xs m))
    by true true true p q r e = e
    by true true false p q r e = absurd (true≢false (sym (eq-eqb n m (sym (eqb-true (number_of_stripe x) n p) ∙ eqb-true (number_of_stripe x) m q)) ∙ r))
    by true false c p q r e = e
    by false true true p q r e = absurd (true≢false (sym (eq-eqb (number_of_stripe x) n (eqb-true (number_of_stripe x) m q ∙ sym (eqb-true n m r))) ∙ p))
    by false true false p q r e = ap (λ b. if b then Some x.owed else standing (without_stripe n xs) m) q
    by false false c p q r e = ap (λ b. if b then Some x.owed else standing (without_stripe n xs) m) q ∙ e

-- ---- stripes that are forgotten, held again, or lost

abbrev pub unless_owed : Option Bool → Option Bool
unless_owed (Some false) = Some false
unless_owed _ = None

pub held_sorted : (n : ℕ) (xs : List Stripe) → Sorted n xs → Sorted n (held xs)
held_sorted n xs h = ascend_filter number_of_stripe (λ x. x.stripe) (λ x. not x.owed) n xs h

pub held_standing : (n m : ℕ) (xs : List Stripe) → Sorted n xs → standing (held xs) m ≡ unless_owed (standing xs m)
held_standing n m [] h = refl
held_standing n m (x ∷ xs) h = by x.owed (number_of_stripe x == m) refl refl (held_standing (number_of_stripe x + 1) m xs h.2)
  where
    by : (o b : Bool) → x.owed ≡ o → number_of_stripe x == m ≡ b → standing (held xs) m ≡ unless_owed (standing xs m) → standing (if not o then x ∷ held xs else held xs) m ≡ unless_owed (if b then Some o else standing xs m)
    by true true p q e = let same = eqb-true (number_of_stripe x) m q in below (number_of_stripe x + 1) m (held xs) (omega arith) (held_sorted (number_of_stripe x + 1) xs h.2)
    by true false p q e = e
    by false true p q e = ap (λ b. if b then Some x.owed else standing (held xs) m) q ∙ ap Some p
    by false false p q e = ap (λ b. if b then Some x.owed else standing (held xs) m) q ∙ e

pub tail_standing : (n m : ℕ) (x : Stripe) (xs : List Stripe) → Sorted n (x ∷ xs) → standing xs m ≡ (if number_of_stripe x == m then None else standing (x ∷ xs) m)
tail_standing n m x xs h = by (number_of_stripe x == m) refl
  where
    by : (b : Bool) → number_of_stripe x == m ≡ b → standing xs m ≡ (if b then None else (if b then Some x.owed else standing xs m))
    by true q = let same = eqb-true (number_of_stripe x) m q in below (number_of_stripe x + 1) m xs (omega arith) h.2
    by false q = refl

-- the first item of which something holds
abbrev pub first_with : (Stripe → Bool) → List Stripe → Option Stripe
first_with p [] = None
first_with p (x ∷ xs) = if p x then Some x else first_with p xs

-- that item alone is owed, or isn't any more
abbrev pub marked : (Stripe → Bool) → Bool → List Stripe → List Stripe
marked p o [] = []
marked p o (x ∷ xs) = if p x then record x { owed = o } ∷ xs else x ∷ marked p o xs

at_place : (p : Stripe → Bool) (o : Bool) (xs : List Stripe) → with_owed o xs (position p xs) ≡ owed_at o xs (position_or_len p xs) (slice_get xs (position_or_len p xs))
at_place p o xs = by (nat_lt (position_or_len p xs) (length xs)) refl
  where
    by : (b : Bool) → nat_lt (position_or_len p xs) (length xs) ≡ b → with_owed o xs (if b then Some (position_or_len p xs) else None) ≡ owed_at o xs (position_or_len p xs) (slice_get xs (position_or_len p xs))
    by true e = refl
    by false e = sym (ap (owed_at o xs (position_or_len p xs)) (slice_get_past xs (position_or_len p xs) (ltb-false (position_or_len p xs) (length xs) e)))

owed_past : (o : Bool) (x : Stripe) (xs : List Stripe) (i : ℕ) (w : Option Stripe) → owed_at o (x ∷ xs) (suc i) w ≡ x ∷ owed_at o xs i w
owed_past o x xs i None = refl
owed_past o x xs i (Some y) = refl

marked_is : (p : Stripe → Bool) (o : Bool) (xs : List Stripe) → owed_at o xs (position_or_len p xs) (slice_get xs (position_or_len p xs)) ≡ marked p o xs
marked_is p o [] = refl
marked_is p o (x ∷ xs) = by (p x) (marked_is p o xs)
  where
    by : (b : Bool) → owed_at o xs (position_or_len p xs) (slice_get xs (position_or_len p xs)) ≡ marked p o xs → owed_at o (x ∷ xs) (if not b then 1 + position_or_len p xs else 0) (slice_get (x ∷ xs) (if not b then 1 + position_or_len p xs else 0)) ≡ (if b then record x { owed = o } ∷ xs else x ∷ marked p o xs)
    by true e = refl
    by false e =
        let one : 1 + position_or_len p xs ≡ suc (position_or_len p xs) = omega arith in
        ap (λ k. owed_at o (x ∷ xs) k (slice_get (x ∷ xs) k)) one ∙ owed_past o x xs (position_or_len p xs) (slice_get xs (position_or_len p xs)) ∙ ap (λ zs. x ∷ zs) e

pub marks : (p : Stripe → Bool) (o : Bool) (xs : List Stripe) → with_owed o xs (position p xs) ≡ marked p o xs
marks p o xs = at_place p o xs ∙ marked_is p o xs

pub marked_sorted : (p : Stripe → Bool) (o : Bool) (n : ℕ) (xs : List Stripe) → Sorted n xs → Sorted n (marked p o xs)
marked_sorted p o n [] h = tt
marked_sorted p o n (x ∷ xs) h = by (p x) (marked_sorted p o (number_of_stripe x + 1) xs h.2)
  where
    by : (b : Bool) → Sorted (number_of_stripe x + 1) (marked p o xs) → Sorted n (if b then record x { owed = o } ∷ xs else x ∷ marked p o xs)
    by true more = h
    by false more = (h.0, h.1, more)

first_above : (p : Stripe → Bool) (n : ℕ) (xs : List Stripe) (y : Stripe) → Sorted n xs → first_with p xs ≡ Some y → n ≤ number_of_stripe y
first_above p n [] y h e = cc
first_above p n (x ∷ xs) y h e = by (p x) e (λ q. first_above p (number_of_stripe x + 1) xs y h.2 q)
  where
    by : (b : Bool) → (if b then Some x else first_with p xs) ≡ Some y → (first_with p xs ≡ Some y → number_of_stripe x + 1 ≤ number_of_stripe y) → n ≤ number_of_stripe y
    by true q more = let same : x ≡ y = cc in let number_is = ap number_of_stripe same in let at = h.0 in omega arith
    by false q more = let above = more q in let at = h.0 in omega arith

pub marked_standing : (p : Stripe → Bool) (o : Bool) (n m : ℕ) (xs : List Stripe) (y : Stripe) → Sorted n xs → first_with p xs ≡ Some y → standing (marked p o xs) m ≡ (if number_of_stripe y == m then Some o else standing xs m)
marked_standing p o n m [] y h e = cc
marked_standing p o n m (x ∷ xs) y h e = by (p x) e (λ q. marked_standing p o (number_of_stripe x + 1) m xs y h.2 q)
  where
    twice : (b : Bool) → (if b then Some o else standing xs m) ≡ (if b then Some o else (if b then Some x.owed else standing xs m))
    twice true = refl
    twice false = refl

    on : (a b : Bool) → number_of_stripe x + 1 ≤ number_of_stripe y → number_of_stripe x == m ≡ a → number_of_stripe y == m ≡ b → (if a then Some x.owed else (if b then Some o else standing xs m)) ≡ (if b then Some o else (if a then Some x.owed else standing xs m))
    on true true lt q r = let s = eqb-true (number_of_stripe x) m q in let u = eqb-true (number_of_stripe y) m r in absurd (omega arith)
    on true false lt q r = refl
    on false b lt q r = refl

    by : (b : Bool) → (if b then Some x else first_with p xs) ≡ Some y → (first_with p xs ≡ Some y → standing (marked p o xs) m ≡ (if number_of_stripe y == m then Some o else standing xs m)) → standing (if b then record x { owed = o } ∷ xs else x ∷ marked p o xs) m ≡ (if number_of_stripe y == m then Some o else standing (x ∷ xs) m)
    by true q more =
        let same : x ≡ y = cc in
        twice (number_of_stripe x == m) ∙ ap (λ z. if number_of_stripe z == m then Some o else standing (x ∷ xs) m) same
    by false q more =
        ap (λ w. if number_of_stripe x == m then Some x.owed else w) (more q)
        ∙ on (number_of_stripe x == m) (number_of_stripe y == m) (first_above p (number_of_stripe x + 1) xs y h.2 q) refl refl

-- the first owed one is held again
owed_first : (xs : List Stripe) → first_owed xs ≡ first_with (λ x. x.owed) xs
owed_first [] = refl
owed_first (x ∷ xs) = ap (λ w. if x.owed then Some x else w) (owed_first xs)

pub repaid_sorted : (xs : List Stripe) → AreSorted xs → AreSorted (repaid xs)
repaid_sorted xs h = subst AreSorted (sym (marks (λ x. x.owed) false xs)) (marked_sorted (λ x. x.owed) false 0 xs h)

pub repaid_standing : (m : ℕ) (xs : List Stripe) (y : Stripe) → AreSorted xs → first_owed xs ≡ Some y → standing (repaid xs) m ≡ (if number_of_stripe y == m then Some false else standing xs m)
repaid_standing m xs y h e = ap (λ zs. standing zs m) (marks (λ x. x.owed) false xs) ∙ marked_standing (λ x. x.owed) false 0 m xs y h (sym (owed_first xs) ∙ e)

pub owed_is : (n : ℕ) (xs : List Stripe) (y : Stripe) → Sorted n xs → first_owed xs ≡ Some y → (standing xs (number_of_stripe y) ≡ Some true) × (y.stripe < 8)
owed_is n [] y h e = cc
owed_is n (x ∷ xs) y h e = by x.owed refl e (λ q. owed_is (number_of_stripe x + 1) xs y h.2 q)
  where
    by : (b : Bool) → x.owed ≡ b → (if b then Some x else first_owed xs) ≡ Some y → (first_owed xs ≡ Some y → (standing xs (number_of_stripe y) ≡ Some true) × (y.stripe < 8)) → (standing (x ∷ xs) (number_of_stripe y) ≡ Some true) × (y.stripe < 8)
    by true p q more = let same : x ≡ y = cc in (here x xs (number_of_stripe y) (ap number_of_stripe same) ∙ ap Some p, subst (λ z. z.stripe < 8) same h.1)
    by false p q more =
        let above = first_above (λ z. z.owed) (number_of_stripe x + 1) xs y h.2 (sym (owed_first xs) ∙ q) in
        (later x xs (number_of_stripe y) (λ s. absurd (omega arith)) ∙ (more q).0, (more q).1)
