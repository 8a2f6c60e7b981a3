-- A thread holds and owes only stripes of locks that the code has.
use Rattle.std.proofs.Common.{◌≡◌, ℕ, zero, suc, ◌+◌, ◌-◌, ◌*◌, ◌/◌, ◌%◌, ◌<◌, ◌==◌, ◌||◌, not, nat_lt, Bool, true, false, if◌then◌else◌, List, [], ◌∷◌, ◌++◌, length, take, drop, filter, insert, position, Option, Some, None, refl, sym, ap, ◌∙◌, subst, arith}
use Rattle.std.specs.Prelude.{slice_get, slice_set, ℤ, pos, ◌+ℤ◌}
use Rattle.std.specs.List.{list_any}
use Rattle.std.proofs.lemmas.Bool.{and_parts, ltb-true}
use Rattle.std.proofs.lemmas.Option.{same_Some, slice_get_within}
use Rattle.rr_base.specs.Words.{site_of, offset_of, length_of}
use Rattle.sync_objects.specs.Setup.{SetupView}
use Rattle.flow_code.specs.declared.code.Code.{Code}
use Rattle.flow_code.specs.declared.code.LockInfo.{LockInfo}
use Rattle.flow_code.specs.declared.region.Region.{Region}
use Rattle.flow_code.specs.declared.region.Region.TheVariants as region
use Rattle.flow_code.specs.declared.region.Span.{Span}
use Rattle.flow_code.specs.declared.thread.Stripe.{Stripe}
use Rattle.flow_code.specs.Holding.{place_for, number_of_stripe, number_of_pair, is_lacked, is_listed, lacked, left_from, left_of, owes, held}
use Rattle.flow_code.specs.Next.{with_owed, owed_at, same_stripe, stepped}
use Rattle.flow_code.specs.Stripes.{lock_guards, guards, points_to_cell, cell_wants, any_from, clamped, cells_want, range_wants, among, base_word, span_wants, bound_of, stripes_in, wants, wants_number, first_from, end_lock}
use Rattle.flow_code.specs.Threads.{Thread}
use Rattle.word_semantics.specs.Registers.{register}
use Rattle.word_semantics.specs.Values.{number}
use Rattle.guard_paths.specs.Reached.{Reached, starts, steps, loses, stops, shuts}
use Rattle.snapshot_reached.proofs.Changes.{Changes, none, takes, gives, keeps, marks, changes}

-- ---- what a region wants is there

module _ (code : Code) where
  guards_known : (w offset lock stripe : ℕ) → guards code w offset lock stripe ≡ true → lock < length code.locks
  guards_known w offset lock stripe h = by (slice_get code.locks lock) refl h
    where
      by : (o : Option LockInfo) → slice_get code.locks lock ≡ o → lock_guards o code.sites w offset stripe ≡ true → lock < length code.locks
      by None e g = cc
      by (Some l) e g = slice_get_within code.locks lock l e

  any_known : (w lock stripe many k : ℕ) → any_from (λ offset. guards code w offset lock stripe) many k ≡ true → lock < length code.locks
  any_known w lock stripe zero k h = cc
  any_known w lock stripe (suc n) k h = by (guards code w k lock stripe) refl h (any_known w lock stripe n (k + 1))
    where
      by : (b : Bool) → guards code w k lock stripe ≡ b → (b || any_from (λ offset. guards code w offset lock stripe) n (k + 1)) ≡ true → (any_from (λ offset. guards code w offset lock stripe) n (k + 1) ≡ true → lock < length code.locks) → lock < length code.locks
      by true e g more = guards_known w k lock stripe e
      by false e g more = more g

  cell_known : (w lock stripe : ℕ) → cell_wants code w lock stripe ≡ true → lock < length code.locks
  cell_known w lock stripe h = guards_known w (offset_of w) lock stripe (and_parts (points_to_cell w) (guards code w (offset_of w) lock stripe) h).1

  cells_known : (w : ℕ) (a b : ℤ) (lock stripe : ℕ) → cells_want code w a b lock stripe ≡ true → lock < length code.locks
  cells_known w a b lock stripe h =
      any_known w lock stripe (clamped (length_of w) b - clamped (length_of w) a) (clamped (length_of w) a)
      (and_parts (not (site_of w == 0)) (any_from (λ offset. guards code w offset lock stripe) (clamped (length_of w) b - clamped (length_of w) a) (clamped (length_of w) a)) h).1

  span_known : (registers : List ℕ) (a b : ℤ) (lock stripe : ℕ) (span : Span) → span_wants code registers a b lock stripe span ≡ true → lock < length code.locks
  span_known registers a b lock stripe span h = cells_known (base_word code.sites registers span.base) (pos (offset_of (base_word code.sites registers span.base)) +ℤ a +ℤ span.shift) (pos (offset_of (base_word code.sites registers span.base)) +ℤ b +ℤ span.shift) lock stripe (and_parts (among span.locks lock) (range_wants code (base_word code.sites registers span.base) a b span.shift lock stripe) h).1

  spans_known : (registers : List ℕ) (a b : ℤ) (lock stripe : ℕ) (spans : List Span) → list_any (span_wants code registers a b lock stripe) spans ≡ true → lock < length code.locks
  spans_known registers a b lock stripe [] h = cc
  spans_known registers a b lock stripe (x ∷ xs) h = by (span_wants code registers a b lock stripe x) refl h (spans_known registers a b lock stripe xs)
    where
      by : (c : Bool) → span_wants code registers a b lock stripe x ≡ c → (c || list_any (span_wants code registers a b lock stripe) xs) ≡ true → (list_any (span_wants code registers a b lock stripe) xs ≡ true → lock < length code.locks) → lock < length code.locks
      by true e g more = span_known registers a b lock stripe x e
      by false e g more = more g

  whole_known : (lock stripe : ℕ) → nat_lt stripe (stripes_in (slice_get code.locks lock)) ≡ true → lock < length code.locks
  whole_known lock stripe h = by (slice_get code.locks lock) refl h
    where
      by : (o : Option LockInfo) → slice_get code.locks lock ≡ o → nat_lt stripe (stripes_in o) ≡ true → lock < length code.locks
      by None e g = let none = ltb-true stripe 0 g in absurd (omega (arith, none))
      by (Some l) e g = slice_get_within code.locks lock l e

  wants_known : (registers : List ℕ) (r : Region) (lock stripe : ℕ) → wants code registers r lock stripe ≡ true → lock < length code.locks
  wants_known registers (region.Whole locks) lock stripe h = whole_known lock stripe (and_parts (among locks lock) (nat_lt stripe (stripes_in (slice_get code.locks lock))) h).1
  wants_known registers (region.Ranged counter bound spans) lock stripe h = spans_known registers (number (register registers counter)) (bound_of registers bound) lock stripe spans h
  wants_known registers (region.Cell base locks) lock stripe h = cell_known (base_word code.sites registers base) lock stripe (and_parts (among locks lock) (cell_wants code (base_word code.sites registers base) lock stripe) h).1

  found : (p : ℕ → Bool) (many k n : ℕ) → first_from p many k ≡ Some n → p n ≡ true
  found p zero k n h = cc
  found p (suc m) k n h = by (p k) refl h (found p m (k + 1) n)
    where
      by : (b : Bool) → p k ≡ b → (if b then Some k else first_from p m (k + 1)) ≡ Some n → (first_from p m (k + 1) ≡ Some n → p n ≡ true) → p n ≡ true
      by true e g more = subst (λ z. p z ≡ true) (same_Some k n g) e
      by false e g more = more g

  lacked_known : (th : Thread) (r : Region) (n : ℕ) → lacked code th (Some r) ≡ Some n → n / 8 < length code.locks
  lacked_known th r n e =
      let h = found (is_lacked code th r) (8 * end_lock code r - left_from th r) (left_from th r) n e in
      wants_known th.top.registers r (n / 8) (n % 8) (and_parts (wants_number code th.top.registers r n) (not (is_listed th.stripes n)) h).0

  -- ---- lists of stripes whose locks the code has

  abbrev pub AreKnown : List Stripe → Type 0
  AreKnown [] = Unit {0}
  AreKnown (x ∷ xs) = (x.lock < length code.locks) × AreKnown xs

  first : (i : ℕ) (xs : List Stripe) → AreKnown xs → AreKnown (take i xs)
  first zero xs k = tt
  first (suc i) [] k = tt
  first (suc i) (x ∷ xs) k = (k.0, first i xs k.1)

  rest : (i : ℕ) (xs : List Stripe) → AreKnown xs → AreKnown (drop i xs)
  rest zero xs k = k
  rest (suc i) [] k = tt
  rest (suc i) (x ∷ xs) k = rest i xs k.1

  joined : (xs ys : List Stripe) → AreKnown xs → AreKnown ys → AreKnown (xs ++ ys)
  joined [] ys k h = h
  joined (x ∷ xs) ys k h = (k.0, joined xs ys k.1 h)

  inserted : (xs : List Stripe) (i : ℕ) (x : Stripe) → x.lock < length code.locks → AreKnown xs → AreKnown (insert xs i x)
  inserted xs i x h k = joined (take i xs) (x ∷ drop i xs) (first i xs k) (h, rest i xs k)

  filtered : (p : Stripe → Bool) (xs : List Stripe) → AreKnown xs → AreKnown (filter p xs)
  filtered p [] k = tt
  filtered p (x ∷ xs) k = by (p x) (filtered p xs k.1)
    where
      by : (b : Bool) → AreKnown (filter p xs) → AreKnown (if b then x ∷ filter p xs else filter p xs)
      by true h = (k.0, h)
      by false h = h

  left : (xs : List Stripe) → AreKnown xs → AreKnown (left_of xs)
  left xs k = by (owes xs)
    where
      by : (b : Bool) → AreKnown (if b then held xs else drop 1 xs)
      by true = filtered (λ x. not x.owed) xs k
      by false = rest 1 xs k

  set : (xs : List Stripe) (i : ℕ) (x y : Stripe) → slice_get xs i ≡ Some x → y.lock ≡ x.lock → AreKnown xs → AreKnown (slice_set xs i y)
  set [] i x y at e k = tt
  set (z ∷ zs) zero x y at e k =
      let same : z ≡ x = same_Some z x at in
      (subst (λ n. n < length code.locks) (ap (λ (v : Stripe). v.lock) same ∙ sym e) k.0, k.1)
  set (z ∷ zs) (suc i) x y at e k = (k.0, set zs i x y at e k.1)

  marked : (owed : Bool) (xs : List Stripe) (o : Option ℕ) → AreKnown xs → AreKnown (with_owed owed xs o)
  marked owed xs None k = k
  marked owed xs (Some i) k = by (slice_get xs i) refl
    where
      by : (o : Option Stripe) → slice_get xs i ≡ o → AreKnown (owed_at owed xs i o)
      by None e = k
      by (Some x) e = set xs i x (record x { owed = owed }) e refl k

  -- ---- each state of a thread

  module _ (s : SetupView) (t : ℕ) where
    kept : (th q : Thread) → Changes code th q → AreKnown th.stripes → AreKnown q.stripes
    kept th q (none h) k = subst AreKnown (sym h.stripes) k
    kept th q (takes r None runs e h) k = subst AreKnown (sym h.stripes) k
    kept th q (takes r (Some n) runs e h) k = subst AreKnown (sym h.stripes) (inserted th.stripes (place_for n th.stripes) (record { lock = n / 8; stripe = n % 8; owed = false }) (lacked_known th r n e) k)
    kept th q (gives i None h) k = subst AreKnown (sym h.stripes) k
    kept th q (gives i (Some x) h) k = subst AreKnown (sym h.stripes) (filtered (λ y. not (number_of_stripe y == number_of_pair x)) th.stripes k)
    kept th q (keeps h) k = subst AreKnown (sym h.stripes) (left th.stripes k)
    kept th q (marks owed place h) k = subst AreKnown (sym h.stripes) (marked owed th.stripes place k)

    pub known : {th : Thread} → Reached code s t th → AreKnown th.stripes
    known (starts {th} early e f) = subst AreKnown (sym e) tt
    known (steps {th} answer r) = kept th (stepped code s t th answer) (changes code s t th answer) (known r)
    known (loses {th} lock stripe r) = marked true th.stripes (position (same_stripe lock stripe) th.stripes) (known r)
    known (stops r) = known r
    known (shuts r) = known r

  pub known_at : (xs : List Stripe) (k : ℕ) (x : Stripe) → AreKnown xs → slice_get xs k ≡ Some x → x.lock < length code.locks
  known_at [] k x h e = cc
  known_at (y ∷ ys) zero x h e = subst (λ (z : Stripe). z.lock < length code.locks) (same_Some y x e) h.0
  known_at (y ∷ ys) (suc k) x h e = known_at ys k x h.1 e
