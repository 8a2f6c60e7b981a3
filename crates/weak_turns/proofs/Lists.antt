-- Filters of filters, and stripes that are held.
use Rattle.std.proofs.Common.{◌≡◌, ℕ, ◌+◌, ◌*◌, ◌<◌, ◌==◌, ◌&&◌, ◌||◌, not, Bool, true, false, if◌then◌else◌, List, [], ◌∷◌, length, filter, refl, sym, ap, ◌∙◌, arith, eqb-true, ne_eqb}
use Rattle.std.proofs.lemmas.Bool.{true≢false}
use Rattle.flow_code.specs.declared.thread.Stripe.{Stripe}
use Rattle.flow_code.specs.Holding.{number_of_stripe, number_of_pair, is_listed, held, owes, has_stripes, with_pairs}
use Rattle.flow_code.specs.Next.{same_stripe, holds}
use Rattle.flow_code.specs.Threads.{OpenRegion}
use Rattle.lock_ownership.proofs.Standings.{Sorted, marked}

-- ---- filters

-- what passes the narrower test passes the wider one
pub filter_twice : {X : Type 0} (g h : X → Bool) → ((x : X) → g x ≡ true → h x ≡ true) → (xs : List X) → filter g (filter h xs) ≡ filter g xs
filter_twice g h within [] = refl
filter_twice g h within (x ∷ xs) = by (h x) (g x) refl refl (filter_twice g h within xs)
  where
    by : (a b : Bool) → h x ≡ a → g x ≡ b → filter g (filter h xs) ≡ filter g xs → filter g (if a then x ∷ filter h xs else filter h xs) ≡ (if b then x ∷ filter g xs else filter g xs)
    by true b p q e = ap (λ c. if c then x ∷ filter g (filter h xs) else filter g (filter h xs)) q ∙ ap (λ ys. if b then x ∷ ys else ys) e
    by false true p q e = absurd (true≢false (sym (within x q) ∙ p))
    by false false p q e = e

-- ---- stripes that are held

pub held_again : (xs : List Stripe) → held (held xs) ≡ held xs
held_again xs = filter_twice (λ (x : Stripe). not x.owed) (λ (x : Stripe). not x.owed) (λ x e. e) xs

-- those of other locks and numbers
abbrev pub others : (Stripe → Bool) → List Stripe → List Stripe
others p xs = filter (λ x. not (p x)) xs

same_numbers : (lock stripe : ℕ) (x : Stripe) → same_stripe lock stripe x ≡ true → number_of_stripe x ≡ 8 * lock + stripe
same_numbers lock stripe x e = by (x.lock == lock) (x.stripe == stripe) refl refl e
  where
    by : (a b : Bool) → (x.lock == lock) ≡ a → (x.stripe == stripe) ≡ b → (a && b) ≡ true → number_of_stripe x ≡ 8 * lock + stripe
    by true true p q r = let u = eqb-true x.lock lock p in let v = eqb-true x.stripe stripe q in omega arith
    by true false p q r = cc
    by false b p q r = cc

module _ (lock stripe : ℕ) where
  -- after the stripe with this number there is none of it
  none_after : (n : ℕ) (xs : List Stripe) → 8 * lock + stripe < n → Sorted n xs → others (same_stripe lock stripe) (held xs) ≡ held xs
  none_after n [] lt h = refl
  none_after n (x ∷ xs) lt h = by x.owed (same_stripe lock stripe x) refl (let at = h.0 in none_after (number_of_stripe x + 1) xs (omega arith) h.2)
    where
      by : (o a : Bool) → same_stripe lock stripe x ≡ a → others (same_stripe lock stripe) (held xs) ≡ held xs → others (same_stripe lock stripe) (if not o then x ∷ held xs else held xs) ≡ (if not o then x ∷ held xs else held xs)
      by true a p e = e
      by false true p e = let same = same_numbers lock stripe x p in let at = h.0 in absurd (omega arith)
      by false false p e = ap (λ b. if not b then x ∷ others (same_stripe lock stripe) (held xs) else others (same_stripe lock stripe) (held xs)) p ∙ ap (λ ys. x ∷ ys) e

  -- a stripe that is owed from now on isn't held any more, and the others are as before
  pub held_marked : (n : ℕ) (xs : List Stripe) → Sorted n xs → held (marked (same_stripe lock stripe) true xs) ≡ others (same_stripe lock stripe) (held xs)
  held_marked n [] h = refl
  held_marked n (x ∷ xs) h = by (same_stripe lock stripe x) x.owed refl (held_marked (number_of_stripe x + 1) xs h.2)
    where
      by : (a o : Bool) → same_stripe lock stripe x ≡ a → held (marked (same_stripe lock stripe) true xs) ≡ others (same_stripe lock stripe) (held xs) →
          held (if a then record x { owed = true } ∷ xs else x ∷ marked (same_stripe lock stripe) true xs) ≡ others (same_stripe lock stripe) (if not x.owed then x ∷ held xs else held xs)
      by true o p e = sym (gone x.owed)
        where
          following : others (same_stripe lock stripe) (held xs) ≡ held xs
          following = let same = same_numbers lock stripe x p in none_after (number_of_stripe x + 1) xs (omega arith) h.2

          gone : (b : Bool) → others (same_stripe lock stripe) (if not b then x ∷ held xs else held xs) ≡ held xs
          gone true = following
          gone false = ap (λ b. if not b then x ∷ others (same_stripe lock stripe) (held xs) else others (same_stripe lock stripe) (held xs)) p ∙ following
      by false o p e = go x.owed
        where
          go : (b : Bool) → (if not b then x ∷ held (marked (same_stripe lock stripe) true xs) else held (marked (same_stripe lock stripe) true xs)) ≡ others (same_stripe lock stripe) (if not b then x ∷ held xs else held xs)
          go true = e
          go false = ap (λ ys. x ∷ ys) e ∙ sym (ap (λ b. if not b then x ∷ others (same_stripe lock stripe) (held xs) else others (same_stripe lock stripe) (held xs)) p)

-- the same stripes are there
pub listed_marked : (p : Stripe → Bool) (o : Bool) (n : ℕ) (xs : List Stripe) → is_listed (marked p o xs) n ≡ is_listed xs n
listed_marked p o n [] = refl
listed_marked p o n (x ∷ xs) = by (p x) (listed_marked p o n xs)
  where
    by : (b : Bool) → is_listed (marked p o xs) n ≡ is_listed xs n → is_listed (if b then record x { owed = o } ∷ xs else x ∷ marked p o xs) n ≡ ((number_of_stripe x == n) || is_listed xs n)
    by true e = refl
    by false e = ap (λ b. (number_of_stripe x == n) || b) e

or_true : (b : Bool) → (b || true) ≡ true
or_true true = refl
or_true false = refl

-- something is owed, still
pub owes_marked : (p : Stripe → Bool) (xs : List Stripe) → owes xs ≡ true → owes (marked p true xs) ≡ true
owes_marked p [] e = e
owes_marked p (x ∷ xs) e = by (p x) x.owed refl e (owes_marked p xs)
  where
    by : (b o : Bool) → x.owed ≡ o → (o || owes xs) ≡ true → (owes xs ≡ true → owes (marked p true xs) ≡ true) → owes (if b then record x { owed = true } ∷ xs else x ∷ marked p true xs) ≡ true
    by true o u q rest = refl
    by false true u q rest = ap (λ b. b || owes (marked p true xs)) u
    by false false u q rest = ap (λ b. x.owed || b) (rest q) ∙ or_true x.owed

-- what is held is owed once it is lost
pub owes_lost : (lock stripe : ℕ) (xs : List Stripe) → holds xs lock stripe ≡ true → owes (marked (same_stripe lock stripe) true xs) ≡ true
owes_lost lock stripe [] e = cc
owes_lost lock stripe (x ∷ xs) e = by (same_stripe lock stripe x) e (owes_lost lock stripe xs)
  where
    by : (b : Bool) → ((b && not x.owed) || holds xs lock stripe) ≡ true → (holds xs lock stripe ≡ true → owes (marked (same_stripe lock stripe) true xs) ≡ true) → owes (if b then record x { owed = true } ∷ xs else x ∷ marked (same_stripe lock stripe) true xs) ≡ true
    by true q rest = refl
    by false q rest = ap (λ b. x.owed || b) (rest q) ∙ or_true x.owed

-- what is held is held still where what is owed is forgotten
pub holds_held : (lock stripe : ℕ) (xs : List Stripe) → holds (held xs) lock stripe ≡ holds xs lock stripe
holds_held lock stripe [] = refl
holds_held lock stripe (x ∷ xs) = by x.owed refl (holds_held lock stripe xs)
  where
    no : (a : Bool) → (a && false) ≡ false
    no true = refl
    no false = refl

    by : (o : Bool) → x.owed ≡ o → holds (held xs) lock stripe ≡ holds xs lock stripe → holds (if not o then x ∷ held xs else held xs) lock stripe ≡ ((same_stripe lock stripe x && not x.owed) || holds xs lock stripe)
    by true p e = e ∙ sym (ap (λ b. (same_stripe lock stripe x && not b) || holds xs lock stripe) p ∙ ap (λ b. b || holds xs lock stripe) (no (same_stripe lock stripe x)))
    by false p e = ap (λ b. (same_stripe lock stripe x && not x.owed) || b) e

-- a filter lists no more
pub listed_filter : (p : Stripe → Bool) (n : ℕ) (xs : List Stripe) → is_listed (filter p xs) n ≡ true → is_listed xs n ≡ true
listed_filter p n [] e = e
listed_filter p n (x ∷ xs) e = by (p x) (number_of_stripe x == n) refl e (listed_filter p n xs)
  where
    by : (a b : Bool) → (number_of_stripe x == n) ≡ b → is_listed (if a then x ∷ filter p xs else filter p xs) n ≡ true → (is_listed (filter p xs) n ≡ true → is_listed xs n ≡ true) → (b || is_listed xs n) ≡ true
    by a true q r rest = refl
    by true false q r rest = rest (sym (ap (λ b. b || is_listed (filter p xs) n) q) ∙ r)
    by false false q r rest = rest r

-- ---- open regions that keep some of their stripes

-- a region with those of its stripes that these list
abbrev pub keeps : List Stripe → OpenRegion → OpenRegion
keeps xs r = with_pairs r (filter (λ x. is_listed xs (number_of_pair x)) r.stripes)

-- those of the regions that have some of them
abbrev pub all_keep : List Stripe → List OpenRegion → List OpenRegion
all_keep xs [] = []
all_keep xs (r ∷ rs) = if has_stripes (keeps xs r) then keeps xs r ∷ all_keep xs rs else all_keep xs rs

module _ (xs ys : List Stripe) (within : (n : ℕ) → is_listed xs n ≡ true → is_listed ys n ≡ true) where
  keeps_twice : (r : OpenRegion) → keeps xs (keeps ys r) ≡ keeps xs r
  keeps_twice r = ap (with_pairs r) (filter_twice (λ x. is_listed xs (number_of_pair x)) (λ x. is_listed ys (number_of_pair x)) (λ x e. within (number_of_pair x) e) r.stripes)

  none : {A : Type 0} (zs : List A) → not (length zs == 0) ≡ false → zs ≡ []
  none [] e = refl
  none (z ∷ zs) e = absurd (true≢false (sym (ap not (ne_eqb (length (z ∷ zs)) 0 (λ q. absurd (omega (arith, q))))) ∙ e))

  -- a region that keeps nothing of the more keeps nothing of the fewer
  keeps_none : (r : OpenRegion) → has_stripes (keeps ys r) ≡ false → has_stripes (keeps xs r) ≡ false
  keeps_none r e =
      sym (ap has_stripes (keeps_twice r))
      ∙ ap (λ zs. has_stripes (with_pairs r (filter (λ x. is_listed xs (number_of_pair x)) zs))) (none (filter (λ x. is_listed ys (number_of_pair x)) r.stripes) e)

  pub all_keep_twice : (rs : List OpenRegion) → all_keep xs (all_keep ys rs) ≡ all_keep xs rs
  all_keep_twice [] = refl
  all_keep_twice (r ∷ rs) = by (has_stripes (keeps ys r)) refl (all_keep_twice rs)
    where
      by : (b : Bool) → has_stripes (keeps ys r) ≡ b → all_keep xs (all_keep ys rs) ≡ all_keep xs rs →
          all_keep xs (if b then keeps ys r ∷ all_keep ys rs else all_keep ys rs) ≡ (if has_stripes (keeps xs r) then keeps xs r ∷ all_keep xs rs else all_keep xs rs)
      by true p e = ap (λ q. if has_stripes q then q ∷ all_keep xs (all_keep ys rs) else all_keep xs (all_keep ys rs)) (keeps_twice r) ∙ ap (λ qs. if has_stripes (keeps xs r) then keeps xs r ∷ qs else qs) e
      by false p e = e ∙ sym (ap (λ b. if b then keeps xs r ∷ all_keep xs rs else all_keep xs rs) (keeps_none r p))
