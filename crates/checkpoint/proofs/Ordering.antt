-- The words of a snapshot are those of its state.
use Rattle.std.proofs.Common.{◌≡◌, ◌≢◌, ℕ, zero, suc, ◌+◌, ◌-◌, ◌*◌, ◌/◌, ◌%◌, ◌<◌, ◌≤◌, ◌⊎◌, inl, inr, ⊎_elim, ◌&&◌, nat_lt, Bool, true, false, List, [], ◌∷◌, ◌++◌, length, map, take, replicate, Option, Some, None, refl, sym, ap, subst, ◌∙◌, arith, length-append}
use Rattle.std.specs.Prelude.{slice_get, slice_index}
use Rattle.std.specs.List.{filter_map, flat_map}
use Rattle.std.proofs.lemmas.Bool.{lt-ltb, ltb-true, ltb-false, and_parts}
use Rattle.std.proofs.lemmas.List.{length-take-le}
use Rattle.std.proofs.lemmas.Option.{slice_get_past, slice_get_within}
use Rattle.rr_base.proofs.Lists.{slice_get-append_left, slice_get-append_found, slice_get-append_right, slice_get-take, same_by_slice_get}
use Rattle.sync_objects.specs.Setup.{SetupView, IsWithinLimits}
use Rattle.sync_objects.specs.Start.{start_word}
use Rattle.sync_objects.specs.declared.object.ObjId.{ObjId}
use Rattle.sync_objects.specs.declared.object.ObjId.TheVariants as object
use Rattle.flow_code.specs.declared.code.Code.{Code}
use Rattle.core_run.specs.Words.{cells_of, has_object, place_of, start_cells, start_objects, start_words}
use Rattle.core_run.proofs.Beginnings.{length-start_cells, length-start_words, start_word_at}
use Rattle.snapshots.specs.Snapshots.{numbers_from, stripes_in_order, objects_in_order, cells_from, objects_at, with_cells, with_objects}
use Rattle.checkpoint.proofs.Listing.{AllIn, Has, cells_fill, StartsAt, stays, gets}

-- ---- the machine's objects are all in order

all_append : (P : ObjId → Type 0) (os ps : List ObjId) → AllIn P os → AllIn P ps → AllIn P (os ++ ps)
all_append P [] ps h k = k
all_append P (o ∷ os) ps h k = (h.0, all_append P os ps h.1 k)

all_numbers : (P : ObjId → Type 0) (f : ℕ → ObjId) (first n : ℕ) → ((i : ℕ) → i < first + n → P (f i)) → AllIn P (map f (numbers_from first n))
all_numbers P f first zero h = tt
all_numbers P f first (suc n) h = (h first (omega arith), all_numbers P f (first + 1) n (λ i lt. h i (omega arith)))

all_flat : (P : ObjId → Type 0) (f : ℕ → List ObjId) (first n : ℕ) → ((i : ℕ) → i < first + n → AllIn P (f i)) → AllIn P (flat_map f (numbers_from first n))
all_flat P f first zero h = tt
all_flat P f first (suc n) h = all_append P (f first) (flat_map f (numbers_from (first + 1) n)) (h first (omega arith)) (all_flat P f (first + 1) n (λ i lt. h i (omega arith)))

has_left : (o : ObjId) (os ps : List ObjId) → Has o os → Has o (os ++ ps)
has_left o os ps h = (h.0, slice_get-append_found os ps h.0 o h.1)

has_right : (o : ObjId) (os ps : List ObjId) → Has o ps → Has o (os ++ ps)
has_right o os ps h = (length os + h.0, slice_get-append_right os ps h.0 ∙ h.1)

has_number : (f : ℕ → ObjId) (first n i : ℕ) → i < n → Has (f (first + i)) (map f (numbers_from first n))
has_number f first zero i lt = absurd (omega arith)
has_number f first (suc n) zero lt = let same : first ≡ first + 0 = omega arith in (0, ap (λ k. Some (f k)) same)
has_number f first (suc n) (suc i) lt =
    let r = has_number f (first + 1) n i (omega arith) in
    let same : first + 1 + i ≡ first + suc i = omega arith in
    (suc r.0, r.1 ∙ ap (λ k. Some (f k)) same)

-- the same from 0 on
has_at : (f : ℕ → ObjId) (n i : ℕ) → i < n → Has (f i) (map f (numbers_from 0 n))
has_at f n i lt = let same : 0 + i ≡ i = omega arith in subst (λ k. Has (f k) (map f (numbers_from 0 n))) same (has_number f 0 n i lt)

has_flat : (o : ObjId) (f : ℕ → List ObjId) (first n i : ℕ) → i < n → Has o (f (first + i)) → Has o (flat_map f (numbers_from first n))
has_flat o f first zero i lt h = absurd (omega arith)
has_flat o f first (suc n) zero lt h = let same : first + 0 ≡ first = omega arith in has_left o (f first) (flat_map f (numbers_from (first + 1) n)) (subst (λ k. Has o (f k)) same h)
has_flat o f first (suc n) (suc i) lt h = let same : first + suc i ≡ first + 1 + i = omega arith in has_right o (f first) (flat_map f (numbers_from (first + 1) n)) (has_flat o f (first + 1) n i (omega arith) (subst (λ k. Has o (f k)) same h))

module _ (code : Code) (s : SetupView) where
  abbrev cell_objects : (ℕ → ObjId) → List ObjId
  cell_objects f = map f (numbers_from 0 (cells_of code s))

  abbrev mutexes : List ObjId
  mutexes = cell_objects (λ cell. object.Mutex cell)

  abbrev conds : List ObjId
  conds = cell_objects (λ cell. object.Cond cell)

  abbrev barriers : List ObjId
  barriers = cell_objects (λ cell. object.Barrier cell)

  abbrev stripes : List ObjId
  stripes = flat_map stripes_in_order (numbers_from 0 (length code.locks))

  abbrev slots : List ObjId
  slots = map (λ slot. object.Slot slot) (numbers_from 0 s.slots)

  abbrev singles : List ObjId
  singles = object.Threads ∷ object.Halt ∷ object.Input ∷ object.Output ∷ []

  abbrev rws : List ObjId
  rws = cell_objects (λ cell. object.Rw cell)

  abbrev IsThere : ObjId → Type 0
  IsThere o = has_object code s o ≡ true

  pub stripe_there : (lock stripe : ℕ) → lock < length code.locks → stripe < 8 → has_object code s (object.Weak lock stripe) ≡ true
  stripe_there lock stripe a b = ap (λ z. z && nat_lt stripe 8) (lt-ltb lock (length code.locks) a) ∙ lt-ltb stripe 8 b

  pub all_there : AllIn IsThere (objects_in_order code s)
  all_there =
      all_append IsThere (mutexes ++ conds ++ barriers ++ stripes ++ slots ++ singles) rws
      (all_append IsThere (mutexes ++ conds ++ barriers ++ stripes ++ slots) singles
      (all_append IsThere (mutexes ++ conds ++ barriers ++ stripes) slots
      (all_append IsThere (mutexes ++ conds ++ barriers) stripes
      (all_append IsThere (mutexes ++ conds) barriers
      (all_append IsThere mutexes conds
      (all_numbers IsThere (λ cell. object.Mutex cell) 0 (cells_of code s) (λ i lt. lt-ltb i (cells_of code s) (omega arith)))
      (all_numbers IsThere (λ cell. object.Cond cell) 0 (cells_of code s) (λ i lt. lt-ltb i (cells_of code s) (omega arith))))
      (all_numbers IsThere (λ cell. object.Barrier cell) 0 (cells_of code s) (λ i lt. lt-ltb i (cells_of code s) (omega arith))))
      (all_flat IsThere stripes_in_order 0 (length code.locks) (λ i lt. all_numbers IsThere (λ stripe. object.Weak i stripe) 0 8 (λ j small. stripe_there i j (omega arith) (omega arith)))))
      (all_numbers IsThere (λ slot. object.Slot slot) 0 s.slots (λ i lt. lt-ltb i s.slots (omega arith))))
      (refl, (refl, (refl, (refl, tt)))))
      (all_numbers IsThere (λ cell. object.Rw cell) 0 (cells_of code s) (λ i lt. lt-ltb i (cells_of code s) (omega arith)))

  front_1 : {o : ObjId} → Has o (mutexes ++ conds ++ barriers ++ stripes ++ slots ++ singles) → Has o (objects_in_order code s)
  front_1 {o} h = has_left o (mutexes ++ conds ++ barriers ++ stripes ++ slots ++ singles) rws h

  front_2 : {o : ObjId} → Has o (mutexes ++ conds ++ barriers ++ stripes ++ slots) → Has o (mutexes ++ conds ++ barriers ++ stripes ++ slots ++ singles)
  front_2 {o} h = has_left o (mutexes ++ conds ++ barriers ++ stripes ++ slots) singles h

  front_3 : {o : ObjId} → Has o (mutexes ++ conds ++ barriers ++ stripes) → Has o (mutexes ++ conds ++ barriers ++ stripes ++ slots)
  front_3 {o} h = has_left o (mutexes ++ conds ++ barriers ++ stripes) slots h

  front_4 : {o : ObjId} → Has o (mutexes ++ conds ++ barriers) → Has o (mutexes ++ conds ++ barriers ++ stripes)
  front_4 {o} h = has_left o (mutexes ++ conds ++ barriers) stripes h

  front_5 : {o : ObjId} → Has o (mutexes ++ conds) → Has o (mutexes ++ conds ++ barriers)
  front_5 {o} h = has_left o (mutexes ++ conds) barriers h

  from_zero : (lock stripe : ℕ) → Has (object.Weak lock stripe) (stripes_in_order lock) → Has (object.Weak lock stripe) (stripes_in_order (0 + lock))
  from_zero lock stripe h = let same : lock ≡ 0 + lock = omega arith in subst (λ k. Has (object.Weak lock stripe) (stripes_in_order k)) same h

  -- each object of the machine has its turn
  pub each_in_order : (o : ObjId) → has_object code s o ≡ true → Has o (objects_in_order code s)
  each_in_order (object.Mutex cell) h = front_1 (front_2 (front_3 (front_4 (front_5 (has_left _ mutexes conds (has_at (λ k. object.Mutex k) (cells_of code s) cell (ltb-true cell (cells_of code s) h)))))))
  each_in_order (object.Cond cell) h = front_1 (front_2 (front_3 (front_4 (front_5 (has_right _ mutexes conds (has_at (λ k. object.Cond k) (cells_of code s) cell (ltb-true cell (cells_of code s) h)))))))
  each_in_order (object.Barrier cell) h = front_1 (front_2 (front_3 (front_4 (has_right _ (mutexes ++ conds) barriers (has_at (λ k. object.Barrier k) (cells_of code s) cell (ltb-true cell (cells_of code s) h))))))
  each_in_order (object.Weak lock stripe) h =
      let p = and_parts (nat_lt lock (length code.locks)) (nat_lt stripe 8) h in
      front_1 (front_2 (front_3 (has_right _ (mutexes ++ conds ++ barriers) stripes (has_flat _ stripes_in_order 0 (length code.locks) lock (ltb-true lock (length code.locks) p.0) (from_zero lock stripe (has_at (λ k. object.Weak lock k) 8 stripe (ltb-true stripe 8 p.1)))))))
  each_in_order (object.Slot k) h = front_1 (front_2 (has_right _ (mutexes ++ conds ++ barriers ++ stripes) slots (has_at (λ k. object.Slot k) s.slots k (ltb-true k s.slots h))))
  each_in_order object.Threads h = front_1 (has_right _ (mutexes ++ conds ++ barriers ++ stripes ++ slots) singles (0, refl))
  each_in_order object.Halt h = front_1 (has_right _ (mutexes ++ conds ++ barriers ++ stripes ++ slots) singles (1, refl))
  each_in_order object.Input h = front_1 (has_right _ (mutexes ++ conds ++ barriers ++ stripes ++ slots) singles (2, refl))
  each_in_order object.Output h = front_1 (has_right _ (mutexes ++ conds ++ barriers ++ stripes ++ slots) singles (3, refl))
  each_in_order (object.Rw cell) h = has_right _ (mutexes ++ conds ++ barriers ++ stripes ++ slots ++ singles) rws (has_at (λ k. object.Rw k) (cells_of code s) cell (ltb-true cell (cells_of code s) h))

  -- ---- places

  -- a place after the cells is that of an object, or one for a slot that there isn't, or there is none
  pub data Place (i : ℕ) : Type 0 where
    of_object : (o : ObjId) → has_object code s o ≡ true → place_of (cells_of code s) o ≡ i → Place i
    of_none : 5 * cells_of code s + s.slots ≤ i → i < 5 * cells_of code s + 16 → Place i
    beyond : 5 * cells_of code s + 20 + 8 * length code.locks ≤ i → Place i

  split : (i n : ℕ) → (i < n) ⊎ (n ≤ i)
  split i n = by (nat_lt i n) refl
    where
      by : (b : Bool) → nat_lt i n ≡ b → (i < n) ⊎ (n ≤ i)
      by true h = inl (ltb-true i n h)
      by false h = inr (ltb-false i n h)

  abbrev all_cells : ℕ
  all_cells = cells_of code s

  stripe_place : (i : ℕ) → 5 * all_cells + 20 ≤ i → Place i
  stripe_place i low =
      ⊎_elim
      (λ lt.
      let n = i - (5 * all_cells + 20) in
      let lock : n / 8 < length code.locks = omega (arith, lt, low) in
      let stripe : n % 8 < 8 = omega arith in
      of_object (object.Weak (n / 8) (n % 8)) (stripe_there (n / 8) (n % 8) lock stripe) (omega (arith, low)))
      (λ le. beyond le)
      (split i (5 * all_cells + 20 + 8 * length code.locks))

  single_place : (i : ℕ) → 5 * all_cells + 16 ≤ i → Place i
  single_place i low =
      ⊎_elim (λ a. of_object object.Threads refl (omega (arith, a, low)))
      (λ b. ⊎_elim (λ a. of_object object.Halt refl (omega (arith, a, b)))
      (λ c. ⊎_elim (λ a. of_object object.Input refl (omega (arith, a, c)))
      (λ d. ⊎_elim (λ a. of_object object.Output refl (omega (arith, a, d)))
      (λ e. stripe_place i e)
      (split i (5 * all_cells + 20)))
      (split i (5 * all_cells + 19)))
      (split i (5 * all_cells + 18)))
      (split i (5 * all_cells + 17))

  slot_place : (i : ℕ) → 5 * all_cells ≤ i → Place i
  slot_place i low =
      ⊎_elim
      (λ lt. ⊎_elim
      (λ small. of_object (object.Slot (i - 5 * all_cells)) (lt-ltb (i - 5 * all_cells) s.slots (omega (arith, small, low))) (omega (arith, low)))
      (λ le. of_none le lt)
      (split i (5 * all_cells + s.slots)))
      (λ le. single_place i le)
      (split i (5 * all_cells + 16))

  pub place_is : (i : ℕ) → all_cells ≤ i → Place i
  place_is i low =
      ⊎_elim (λ a. of_object (object.Mutex (i - all_cells)) (lt-ltb (i - all_cells) all_cells (omega (arith, a, low))) (omega (arith, low)))
      (λ b. ⊎_elim (λ a. of_object (object.Cond (i - 2 * all_cells)) (lt-ltb (i - 2 * all_cells) all_cells (omega (arith, a, b))) (omega (arith, b)))
      (λ c. ⊎_elim (λ a. of_object (object.Barrier (i - 3 * all_cells)) (lt-ltb (i - 3 * all_cells) all_cells (omega (arith, a, c))) (omega (arith, c)))
      (λ d. ⊎_elim (λ a. of_object (object.Rw (i - 4 * all_cells)) (lt-ltb (i - 4 * all_cells) all_cells (omega (arith, a, d))) (omega (arith, d)))
      (λ e. slot_place i e)
      (split i (5 * all_cells)))
      (split i (4 * all_cells)))
      (split i (3 * all_cells)))
      (split i (2 * all_cells))

  -- no object stands at the place of a slot that there isn't
  pub no_object : (i : ℕ) → s.slots ≤ 16 → 5 * all_cells + s.slots ≤ i → i < 5 * all_cells + 16 → (o : ObjId) → has_object code s o ≡ true → place_of all_cells o ≡ i → ⊥
  no_object i few low high (object.Mutex cell) h e = let lt = ltb-true cell all_cells h in absurd (omega (arith, lt, e, low))
  no_object i few low high (object.Cond cell) h e = let lt = ltb-true cell all_cells h in absurd (omega (arith, lt, e, low))
  no_object i few low high (object.Barrier cell) h e = let lt = ltb-true cell all_cells h in absurd (omega (arith, lt, e, low))
  no_object i few low high (object.Rw cell) h e = let lt = ltb-true cell all_cells h in absurd (omega (arith, lt, e, low))
  no_object i few low high (object.Weak lock stripe) h e = absurd (omega (arith, e, high))
  no_object i few low high (object.Slot k) h e = let lt = ltb-true k s.slots h in absurd (omega (arith, lt, e, low))
  no_object i few low high object.Threads h e = absurd (omega (arith, e, high))
  no_object i few low high object.Halt h e = absurd (omega (arith, e, high))
  no_object i few low high object.Input h e = absurd (omega (arith, e, high))
  no_object i few low high object.Output h e = absurd (omega (arith, e, high))

  -- ---- all words

  -- the words that belong to no object are those at the start
  abbrev pub KeepsAside : List ℕ → Type 0
  KeepsAside words = (i : ℕ) → all_cells ≤ i → ((o : ObjId) → has_object code s o ≡ true → place_of all_cells o ≡ i → ⊥) → slice_get words i ≡ slice_get (start_words code s) i

  module _ (limits : IsWithinLimits s) (words : List ℕ) (len : length words ≡ length (start_words code s)) (aside : KeepsAside words) where
    abbrev with_all_cells : List ℕ
    with_all_cells = take all_cells words ++ start_objects code s

    few_cells : all_cells ≤ length words
    few_cells = omega (arith, len, length-start_words code s)

    front_length : length (take all_cells words) ≡ all_cells
    front_length = length-take-le all_cells words few_cells

    cells_put : with_cells (cells_from 0 (take all_cells words)) (replicate all_cells 0 ++ start_objects code s) ≡ with_all_cells
    cells_put = ap (λ n. with_cells (cells_from 0 (take all_cells words)) (replicate n 0 ++ start_objects code s)) (sym front_length) ∙ cells_fill (take all_cells words) [] (start_objects code s) 0 refl

    put_length : length with_all_cells ≡ length words
    put_length = omega (arith, length-append (take all_cells words) (start_objects code s), front_length, len, length-append (start_cells code s) (start_objects code s), length-start_cells code s)

    -- after the cells there are the words at the start
    after_cells : (i : ℕ) → all_cells ≤ i → slice_get with_all_cells i ≡ slice_get (start_words code s) i
    after_cells i low =
        let n = i - all_cells in
        let here : i ≡ length (take all_cells words) + n = omega (arith, low, front_length) in
        let there : i ≡ length (start_cells code s) + n = omega (arith, low, length-start_cells code s) in
        ap (slice_get with_all_cells) here
        ∙ slice_get-append_right (take all_cells words) (start_objects code s) n
        ∙ sym (slice_get-append_right (start_cells code s) (start_objects code s) n)
        ∙ ap (slice_get (start_words code s)) (sym there)

    starts_at : (o : ObjId) → has_object code s o ≡ true → StartsAt all_cells words (start_words code s) o
    starts_at o h =
        let at = start_word_at code s o limits h in
        (subst (λ n. place_of all_cells o < n) (sym len) (slice_get_within (start_words code s) (place_of all_cells o) (start_word o) at), at)

    all_start : (os : List ObjId) → AllIn IsThere os → AllIn (StartsAt all_cells words (start_words code s)) os
    all_start [] h = tt
    all_start (o ∷ os) h = (starts_at o h.0, all_start os h.1)

    word_same : (i : ℕ) → slice_get (with_objects all_cells (objects_at code s words) with_all_cells) i ≡ slice_get words i
    word_same i = ⊎_elim (λ lt. stay i (slice_get-append_left (take all_cells words) (start_objects code s) i (omega (arith, lt, front_length)) ∙ slice_get-take all_cells words i lt)) (λ low. by low (place_is i low)) (split i all_cells)
      where
        stay : (i : ℕ) → slice_get with_all_cells i ≡ slice_get words i → slice_get (with_objects all_cells (objects_at code s words) with_all_cells) i ≡ slice_get words i
        stay i e = stays all_cells words (start_words code s) (objects_in_order code s) with_all_cells i put_length e

        by : all_cells ≤ i → Place i → slice_get (with_objects all_cells (objects_at code s words) with_all_cells) i ≡ slice_get words i
        by low (of_object o has at) =
            let turn = each_in_order o has in
            gets all_cells words (start_words code s) (objects_in_order code s) with_all_cells i turn.0 o put_length (all_start (objects_in_order code s) all_there) turn.1 at (inr (after_cells i low))
        by low (of_none a b) = stay i (after_cells i low ∙ sym (aside i low (no_object i limits.few_slots a b)))
        by low (beyond a) = stay i (slice_get_past with_all_cells i (omega (arith, a, put_length, len, length-start_words code s)) ∙ sym (slice_get_past words i (omega (arith, a, len, length-start_words code s))))

    pub words_same : with_objects all_cells (objects_at code s words) (with_cells (cells_from 0 (take all_cells words)) (replicate all_cells 0 ++ start_objects code s)) ≡ words
    words_same = ap (with_objects all_cells (objects_at code s words)) cells_put ∙ same_by_slice_get _ words word_same
