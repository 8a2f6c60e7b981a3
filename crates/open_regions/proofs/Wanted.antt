-- What a region of valid code wants is among the stripes that its Take takes.
use Rattle.std.proofs.Common.{◌≡◌, ℕ, suc, ◌+◌, ◌-◌, ◌*◌, ◌/◌, ◌%◌, ◌<◌, ◌≤◌, ◌&&◌, ◌||◌, Bool, true, false, List, [], ◌∷◌, length, refl, ap, ◌∙◌, arith}
use Rattle.std.specs.Prelude.{slice_get, ◌==◌, nat_lt, min}
use Rattle.std.specs.List.{list_any}
use Rattle.std.proofs.lemmas.Bool.Decides.{nat_tests}
use Rattle.flow_code.specs.declared.code.Code.{Code}
use Rattle.flow_code.specs.declared.code.Function.{Function}
use Rattle.flow_code.specs.declared.region.Region.{Region}
use Rattle.flow_code.specs.declared.region.Region.TheVariants as region
use Rattle.flow_code.specs.declared.region.Span.{Span}
use Rattle.flow_code.specs.Holding.{has_stripe}
use Rattle.flow_code.specs.Regions.{ascend, are_locks, locks_fit, base_fits, bound_is_whole, span_fits, spans_fit, region_fits}
use Rattle.flow_code.specs.Kinds.{has_whole}
use Rattle.flow_code.specs.Stripes.{among, or_zero, after_lock, first_lock, end_lock, cell_wants, base_word, stripes_in, bound_of, range_wants, span_wants, wants, wants_number, wanted}
use Rattle.word_semantics.specs.Registers.{register}
use Rattle.word_semantics.specs.Values.{number}
use Rattle.guard_paths.proofs.Opened.{from_has}
use Rattle.open_regions.proofs.Promises.{both_true}

-- ---- ascending locks

first_small : (locks : List ℕ) (l : ℕ) → ascend locks ≡ true → among locks l ≡ true → or_zero (slice_get locks 0) ≤ l
first_small [] l a h = omega arith
first_small (x ∷ []) l a h = by (x == l) refl h
  where
    by : (b : Bool) → (x == l) ≡ b → (b || false) ≡ true → x ≤ l
    by true e h = let z : x ≡ l = grind (arith, nat_tests, e) in omega (arith, z)
    by false e h = cc
first_small (x ∷ y ∷ ys) l a h = by (x == l) refl h (λ b k. first_small (y ∷ ys) l b k)
  where
    parts : (nat_lt x y ≡ true) × (ascend (y ∷ ys) ≡ true)
    parts = both_true (nat_lt x y) (ascend (y ∷ ys)) a

    next : x < y
    next = let t = parts.0 in grind (arith, nat_tests, t)

    by : (b : Bool) → (x == l) ≡ b → (b || among (y ∷ ys) l) ≡ true → (ascend (y ∷ ys) ≡ true → among (y ∷ ys) l ≡ true → y ≤ l) → x ≤ l
    by true e h rec = let z : x ≡ l = grind (arith, nat_tests, e) in omega (arith, z)
    by false e h rec = omega (arith, next, rec parts.1 h)

last_large : (locks : List ℕ) (l : ℕ) → ascend locks ≡ true → among locks l ≡ true → l < after_lock (slice_get locks (length locks - 1))
last_large [] l a h = cc
last_large (x ∷ []) l a h = by (x == l) refl h
  where
    by : (b : Bool) → (x == l) ≡ b → (b || false) ≡ true → l < x + 1
    by true e h = let z : x ≡ l = grind (arith, nat_tests, e) in omega (arith, z)
    by false e h = cc
last_large (x ∷ y ∷ ys) l a h = by (x == l) refl h (λ n b k. last_large (y ∷ ys) n b k)
  where
    parts : (nat_lt x y ≡ true) × (ascend (y ∷ ys) ≡ true)
    parts = both_true (nat_lt x y) (ascend (y ∷ ys)) a

    next : x < y
    next = let t = parts.0 in grind (arith, nat_tests, t)

    last : after_lock (slice_get (x ∷ y ∷ ys) (length (x ∷ y ∷ ys) - 1)) ≡ after_lock (slice_get (y ∷ ys) (length (y ∷ ys) - 1))
    last = let e : length (x ∷ y ∷ ys) - 1 ≡ suc (length (y ∷ ys) - 1) = omega arith in ap (λ n. after_lock (slice_get (x ∷ y ∷ ys) n)) e

    itself : among (y ∷ ys) y ≡ true
    itself = let e : (y == y) ≡ true = grind (arith, nat_tests) in ap (λ b. b || among ys y) e

    by : (b : Bool) → (x == l) ≡ b → (b || among (y ∷ ys) l) ≡ true → ((n : ℕ) → ascend (y ∷ ys) ≡ true → among (y ∷ ys) n ≡ true → n < after_lock (slice_get (y ∷ ys) (length (y ∷ ys) - 1))) → l < after_lock (slice_get (x ∷ y ∷ ys) (length (x ∷ y ∷ ys) - 1))
    by true e h rec = let z : x ≡ l = grind (arith, nat_tests, e) in omega (arith, z, next, last, rec y parts.1 itself)
    by false e h rec = omega (arith, last, rec l parts.1 h)

-- ---- the locks of a region

module _ (code : Code) (fn : Function) where
  lock_within : (locks : List ℕ) (l : ℕ) → are_locks code locks ≡ true → among locks l ≡ true → l < length code.locks
  lock_within [] l a h = cc
  lock_within (x ∷ xs) l a h = by (x == l) refl h (λ b k. lock_within xs l b k)
    where
      parts : (nat_lt x (length code.locks) ≡ true) × (are_locks code xs ≡ true)
      parts = both_true (nat_lt x (length code.locks)) (are_locks code xs) a

      small : x < length code.locks
      small = let t = parts.0 in grind (arith, nat_tests, t)

      by : (b : Bool) → (x == l) ≡ b → (b || among xs l) ≡ true → (are_locks code xs ≡ true → among xs l ≡ true → l < length code.locks) → l < length code.locks
      by true e h rec = let z : x ≡ l = grind (arith, nat_tests, e) in omega (arith, z, small)
      by false e h rec = rec parts.1 h

  spans_within : (test : Span → Bool) (l : ℕ) (spans : List Span) → ((x : Span) → test x ≡ true → among x.locks l ≡ true) → spans_fit code fn spans ≡ true → list_any test spans ≡ true → l < length code.locks
  spans_within test l [] t a h = cc
  spans_within test l (x ∷ xs) t a h = by (test x) refl h (λ b k. spans_within test l xs t b k)
    where
      parts : (span_fits code fn x ≡ true) × (spans_fit code fn xs ≡ true)
      parts = both_true (span_fits code fn x) (spans_fit code fn xs) a

      by : (b : Bool) → test x ≡ b → (b || list_any test xs) ≡ true → (spans_fit code fn xs ≡ true → list_any test xs ≡ true → l < length code.locks) → l < length code.locks
      by true e h rec = lock_within x.locks l (both_true (ascend x.locks) (are_locks code x.locks) (both_true (base_fits code fn x.base) (locks_fit code x.locks) parts.0).1).1 (t x e)
      by false e h rec = rec parts.1 h

  -- each lock of which it wants a stripe is one of those
  lock_between : (rs : List ℕ) (r : Region) (lock stripe : ℕ) → length code.locks ≤ 65536 → region_fits code fn r ≡ true → wants code rs r lock stripe ≡ true → (first_lock r ≤ lock) × (lock < end_lock code r)
  lock_between rs (region.Whole locks) lock stripe few fits w =
      let a = (both_true (ascend locks) (are_locks code locks) fits).0 in
      let m = (both_true (among locks lock) (nat_lt stripe (stripes_in (slice_get code.locks lock))) w).0 in
      (first_small locks lock a m, last_large locks lock a m)
  lock_between rs (region.Ranged counter bound spans) lock stripe few fits w =
      let f = (both_true (has_whole fn counter && bound_is_whole fn bound) (spans_fit code fn spans) fits).1 in
      let lt = spans_within (span_wants code rs (number (register rs counter)) (bound_of rs bound) lock stripe) lock spans
      (λ x t. (both_true (among x.locks lock) (range_wants code (base_word code.sites rs x.base) (number (register rs counter)) (bound_of rs bound) x.shift lock stripe) t).0) f w in
      (omega arith, both (length code.locks) lt few)
    where
      both : (n : ℕ) → lock < n → n ≤ 65536 → lock < min n 65536
      both n lt le = omega (arith, lt, le)
  lock_between rs (region.Cell base locks) lock stripe few fits w =
      let a = (both_true (ascend locks) (are_locks code locks) (both_true (base_fits code fn base) (locks_fit code locks) fits).1).0 in
      let m = (both_true (among locks lock) (cell_wants code (base_word code.sites rs base) lock stripe) w).0 in
      (first_small locks lock a m, last_large locks lock a m)

  lock_of : (lock stripe : ℕ) → stripe < 8 → (8 * lock + stripe) / 8 ≡ lock
  lock_of lock stripe lt = omega (arith, lt)

  stripe_left : (lock stripe : ℕ) → stripe < 8 → (8 * lock + stripe) % 8 ≡ stripe
  stripe_left lock stripe lt = omega (arith, lt)

  -- a stripe that the region wants is among those that its Take takes
  pub wanted_has : (rs : List ℕ) (r : Region) (lock stripe : ℕ) → length code.locks ≤ 65536 → region_fits code fn r ≡ true → stripe < 8 → wants code rs r lock stripe ≡ true → has_stripe (wanted code rs r) (8 * lock + stripe) ≡ true
  wanted_has rs r lock stripe few fits small w =
      let b = lock_between rs r lock stripe few fits w in
      let n : wants_number code rs r (8 * lock + stripe) ≡ true = ap (λ k. wants code rs r k ((8 * lock + stripe) % 8)) (lock_of lock stripe small) ∙ ap (wants code rs r lock) (stripe_left lock stripe small) ∙ w in
      let low = b.0 in
      let high = b.1 in
      from_has (wants_number code rs r) (8 * end_lock code r - 8 * first_lock r) (8 * first_lock r) (8 * lock + stripe) (omega (arith, low)) (omega (arith, low, high, small)) n
