-- Seats that are dealt out keep the rule, and the table's first words and first view meet it.
use Rattle.std.proofs.Common.{◌≡◌, ◌≢◌, ℕ, zero, suc, ◌+◌, ◌*◌, ◌-◌, ◌<◌, ◌⊎◌, inl, inr, List, [], ◌∷◌, ◌++◌, length, take, drop, replicate, Some, None, refl, sym, ap, subst, ◌∙◌, ⊎_elim, arith, append_assoc, length-append}
use Rattle.std.specs.Prelude.{slice_get, slice_set}
use Rattle.std.proofs.lemmas.List.{length-replicate}
use Rattle.std.proofs.lemmas.Option.{same_Some}
use mathlib.Core.Option.{some, some-injective, some-ne-none}
use lib.ListN.{get_elem?}
use Rattle.atomic_table.specs.Seated.{TableId}
use Rattle.atomic_table.specs.Table.{Splits, opening}
use Rattle.atomic_table.specs.declared.shared.Seat.{Seat as TableSeat}
use Rattle.atomic_table.proofs.Lists.{at_set, at_longer}
use Rattle.sync_objects.specs.Setup.{SetupView}
use Rattle.flow_code.specs.declared.code.Code.{Code}
use Rattle.core_run.specs.Machine.{Told, start_told, start_threads_from, start_state}
use Rattle.core_run.specs.Words.{cells_of, start_words}
use Rattle.rr_base.proofs.Lists.{slice_get-append_at, slice_get_inside}
use Rattle.core_run.proofs.Reached.{start_length}
use Rattle.core_run.proofs.ThreadRanges.{start_thread_is}
use Rattle.shared_cells.specs.Views.{SeatView, never}
use Rattle.shared_cells.specs.Words.{departure_place, first_words, lone_cells, IsSpread}
use Rattle.shared_cells.specs.Rule.{Knowledge, Carries, AreApart, IsPut, IsSeen, Shows, Holds, everyone, first_part, other_part}
use Rattle.shared_cells.specs.Plays.{Mine, IsReached}
use Rattle.shared_cells.specs.Seats.{view_of, IsSeatOf, start_view}
use Rattle.shared_cells.specs.declared.asked.Asked.{Asked}
use Rattle.shared_cells.specs.declared.seat.Seat.{Seat}
use Rattle.shared_cells.proofs.Moves.{put_kept}

-- ---- a split

-- each thread of u is one of v
record IsWithin (u v : SeatView) : Type 0 where
  at : (k : ℕ) → k < length u.carried → (l : ℕ) × (l < length v.carried) × (u.from + k ≡ v.from + l)

apart_within : (u v w : SeatView) → IsWithin u v → AreApart v w → AreApart u w
apart_within u v w h a k l lk ll = let p = h.at k lk in λ e. a p.0 l p.1 ll (sym p.2 ∙ e)

pub apart_sym : (v w : SeatView) → AreApart v w → AreApart w v
apart_sym v w h k l lk ll e = h l k ll lk (sym e)

-- a view at a place of the list with one more at its end
at_end : (l : List SeatView) (a b : SeatView) (j : ℕ) → get_elem? (l ++ a ∷ []) j ≡ some b → (get_elem? l j ≡ some b) ⊎ ((j ≡ length l) × (a ≡ b))
at_end [] a b zero e = inr (refl, some-injective a b e)
at_end [] a b (suc j) e = absurd (some-ne-none b (sym e))
at_end (x ∷ xs) a b zero e = inl e
at_end (x ∷ xs) a b (suc j) e = ⊎_elim inl (λ p. inr (ap suc p.0, p.1)) (at_end xs a b j e)

length-set_views : (l : List SeatView) (i : ℕ) (a : SeatView) → length (slice_set l i a) ≡ length l
length-set_views [] i a = refl
length-set_views (x ∷ xs) zero a = refl
length-set_views (x ∷ xs) (suc i) a = ap suc (length-set_views xs i a)

-- what the split leaves at a place: the first part, the rest, or what was there
data AfterSplit (views : List SeatView) (id : ℕ) (left right : SeatView) (j : ℕ) (w : SeatView) : Type 0 where
  is_left : j ≡ id → left ≡ w → AfterSplit views id left right j w
  is_right : j ≡ length views → right ≡ w → AfterSplit views id left right j w
  is_other : j ≢ id → get_elem? views j ≡ some w → AfterSplit views id left right j w

after_split : (views : List SeatView) (id : ℕ) (left right : SeatView) (j : ℕ) (w : SeatView) → get_elem? (slice_set views id left ++ right ∷ []) j ≡ some w → AfterSplit views id left right j w
after_split views id left right j w e =
    ⊎_elim
    (λ p. ⊎_elim (λ q. is_left q.0 q.1) (λ q. is_other q.0 q.1) (at_set views id j left w p))
    (λ p. is_right (p.0 ∙ length-set_views views id left) p.1)
    (at_end (slice_set views id left) right w j e)

module _ (code : Code) (s : SetupView) (words : List ℕ) (views : List SeatView) (id : ℕ) (v : SeatView) (told next_told : Told) (others : List Told) (h : Shows code s words views) (at : get_elem? views id ≡ some v) (are : v.carried ≡ told ∷ next_told ∷ others) where
  long : length v.carried ≡ length others + 2
  long = let e = ap length are in omega (arith, e)

  left_long : length (take 1 v.carried) ≡ 1
  left_long = ap length (ap (take 1) are)

  right_long : length (drop 1 v.carried) ≡ length others + 1
  right_long = let e = ap length (ap (drop 1) are) in omega (arith, e)

  left_within : IsWithin (first_part v) v
  left_within = record { at = λ k lt. (k, omega (arith, left_long, long, lt), refl) }

  right_within : IsWithin (other_part v) v
  right_within = record { at = λ k lt. (suc k, omega (arith, right_long, long, lt), omega arith) }

  parts_apart : AreApart (first_part v) (other_part v)
  parts_apart k l lk ll = omega (arith, left_long, lk)

  was : IsSeen code s h.state words v
  was = h.seen id v at (omega (arith, long))

  left_seen : IsSeen code s h.state words (first_part v)
  left_seen = record { code_is = was.code_is; setup_is = was.setup_is; carries = carries; notes = was.notes; met = was.met }
    where
      carries : Carries h.state (first_part v)
      carries zero x e = was.carries zero x (ap (λ z. slice_get z 0) are ∙ sym (ap (λ z. slice_get (take 1 z) 0) are) ∙ e)
      carries (suc k) x e = let none : slice_get (take 1 v.carried) (suc k) ≡ slice_get {X = Told} (told ∷ []) (suc k) = ap (λ z. slice_get (take 1 z) (suc k)) are in cc

  right_seen : IsSeen code s h.state words (other_part v)
  right_seen = record { code_is = was.code_is; setup_is = was.setup_is; carries = carries; notes = was.notes; met = was.met }
    where
      carries : Carries h.state (other_part v)
      carries k x e =
          let n : v.from + suc k ≡ v.from + 1 + k = omega arith in
          subst (λ z. slice_get h.state.threads z ≡ Some x) n (was.carries (suc k) x (ap (λ z. slice_get z (suc k)) are ∙ sym (ap (λ z. slice_get (drop 1 z) k) are) ∙ e))

  apart_pair : (i j : ℕ) (x y : SeatView) → i ≢ j → AfterSplit views id (first_part v) (other_part v) i x → AfterSplit views id (first_part v) (other_part v) j y → AreApart x y
  apart_pair i j x y ne (is_left a p) (is_left b q) = absurd (ne (a ∙ sym b))
  apart_pair i j x y ne (is_left a p) (is_right b q) = subst (λ z. AreApart z y) p (subst (AreApart (first_part v)) q parts_apart)
  apart_pair i j x y ne (is_left a p) (is_other b q) = subst (λ z. AreApart z y) p (apart_within (first_part v) v y left_within (h.apart id j v y (λ e. b (sym e)) at q))
  apart_pair i j x y ne (is_right a p) (is_left b q) = subst (λ z. AreApart z y) p (subst (AreApart (other_part v)) q (apart_sym (first_part v) (other_part v) parts_apart))
  apart_pair i j x y ne (is_right a p) (is_right b q) = absurd (ne (a ∙ sym b))
  apart_pair i j x y ne (is_right a p) (is_other b q) = subst (λ z. AreApart z y) p (apart_within (other_part v) v y right_within (h.apart id j v y (λ e. b (sym e)) at q))
  apart_pair i j x y ne (is_other a p) (is_left b q) = subst (AreApart x) q (apart_sym (first_part v) x (apart_within (first_part v) v x left_within (h.apart id i v x (λ e. a (sym e)) at p)))
  apart_pair i j x y ne (is_other a p) (is_right b q) = subst (AreApart x) q (apart_sym (other_part v) x (apart_within (other_part v) v x right_within (h.apart id i v x (λ e. a (sym e)) at p)))
  apart_pair i j x y ne (is_other a p) (is_other b q) = h.apart i j x y ne p q

  seen_at : (j : ℕ) (w : SeatView) → AfterSplit views id (first_part v) (other_part v) j w → 0 < length w.carried → IsSeen code s h.state words w
  seen_at j w (is_left a p) lt = subst (IsSeen code s h.state words) p left_seen
  seen_at j w (is_right a p) lt = subst (IsSeen code s h.state words) p right_seen
  seen_at j w (is_other a p) lt = h.seen j w p lt

  spent_at : (j : ℕ) (w : SeatView) → AfterSplit views id (first_part v) (other_part v) j w → length w.carried ≡ 0 → w.positions ≡ []
  spent_at j w (is_left a p) e = let q = ap (λ (z : SeatView). length z.carried) p in absurd (omega (arith, q, left_long, e))
  spent_at j w (is_right a p) e = let q = ap (λ (z : SeatView). length z.carried) p in absurd (omega (arith, q, right_long, e))
  spent_at j w (is_other a p) e = h.spent j w p e

  -- what was put stays put
  put_split : (d : ℕ) → IsPut views d → IsPut (slice_set views id (first_part v) ++ other_part v ∷ []) d
  put_split d put = ⊎_elim inl (λ p. inr (p.0, p.1, at_longer (slice_set views id (first_part v)) (other_part v ∷ []) p.0 p.1 p.2, p.3)) (put_kept views id v (first_part v) d at (λ x c. c) put)

  shows_split : Shows code s words (slice_set views id (first_part v) ++ other_part v ∷ [])
  shows_split = record {
    state = h.state;
    reached = h.reached;
    others = h.others;
    words_are = h.words_are;
    size = h.size;
    seen = λ j w e. seen_at j w (after_split views id (first_part v) (other_part v) j w e);
    apart = λ i j x y ne ei ej. apart_pair i j x y ne (after_split views id (first_part v) (other_part v) i x ei) (after_split views id (first_part v) (other_part v) j y ej);
    spent = λ j w e. spent_at j w (after_split views id (first_part v) (other_part v) j w e);
    low = h.low;
    departed = λ d e. put_split d (h.departed d e);
  }

-- ---- the start

module _ (key : Knowledge) where
  abbrev code : Code
  code = key.code

  abbrev s : SetupView
  s = key.setup

  -- the departure word at the start
  departure_first : slice_get (first_words code s) (departure_place code s) ≡ Some never
  departure_first =
      let wants : List ℕ = replicate (8 * length code.locks) 0 in
      slice_get-append_at (start_words code s ++ wants) never (0 ∷ []) (departure_place code s) (length-append (start_words code s) wants ∙ ap (λ n. length (start_words code s) + n) (length-replicate (8 * length code.locks) 0))

  alone : (P : SeatView → Type 0) → P (everyone key) → (id : ℕ) (v : SeatView) → get_elem? (everyone key ∷ []) id ≡ some v → P v
  alone P p zero v at = subst P (some-injective (everyone key) v at) p
  alone P p (suc id) v at = absurd (some-ne-none v (sym at))

  zero_only : (i : ℕ) (x : SeatView) → get_elem? (everyone key ∷ []) i ≡ some x → i ≡ 0
  zero_only zero x e = refl
  zero_only (suc i) x e = absurd (some-ne-none x (sym e))

  first_seen : IsSeen code s (start_state code s) (first_words code s) (everyone key)
  first_seen = record {
    code_is = refl;
    setup_is = refl;
    carries = λ k told e. (let z : 0 + k ≡ k = omega arith in ap (slice_get (start_state code s).threads) z ∙ e);
    notes = λ k n now e low high is. cc;
    met = λ d e. let same : never ≡ d = same_Some never d (sym departure_first ∙ e) in omega (arith, same);
  }

  starts : Shows code s (first_words code s) (everyone key ∷ [])
  starts = record {
    state = start_state code s;
    reached = ([], refl);
    others = replicate (8 * length code.locks) 0 ++ never ∷ 0 ∷ [];
    words_are = append_assoc (start_words code s) (replicate (8 * length code.locks) 0) (never ∷ 0 ∷ []);
    size = refl;
    seen = λ id v at lt. alone (IsSeen code s (start_state code s) (first_words code s)) first_seen id v at;
    apart = λ i j x y ne ei ej. absurd (ne (zero_only i x ei ∙ sym (zero_only j y ej)));
    spent = λ id v at e. alone (λ (z : SeatView). z.positions ≡ []) refl id v at;
    low = λ d e. let same : never ≡ d = same_Some never d (sym departure_first ∙ e) in omega (arith, same);
    departed = λ d e. inl (sym (same_Some never d (sym departure_first ∙ e)));
  }

  pub starts_with : (words table : List ℕ) → words ≡ first_words code s → IsSpread (cells_of code s) (lone_cells code s) words table → Holds key (opening {S = Asked} table [] (everyone key))
  starts_with words table e spread = (words, spread, subst (λ z. Shows code s z (everyone key ∷ [])) (sym e) starts)

  -- ---- dealing

  -- the view that carries the threads from k on, so many
  abbrev pub rest_view : (k n : ℕ) → SeatView
  rest_view k n = record { code = code; setup = s; from = k; carried = start_threads_from code s k n; notes = []; positions = []; met = never }

  -- a seat of its thread at the start
  pub record IsStarted (id : TableId) (k : ℕ) (seat : Seat) : Type 0 where
    pub seat_of : IsSeatOf (record { code = code; setup = s; table = id }) seat
    pub view : view_of seat ≡ start_view code s k
    pub marks : seat.marks ≡ 0

  -- the first k seats are dealt out, and the last one has all other threads
  pub record IsDealt (id : TableId) (k : ℕ) (last : TableSeat Asked SeatView) (seats : List Seat) : Type 0 where
    pub table : last.table_id ≡ id
    pub me : last.me ≡ (rest_view k (s.slots - k), [])
    pub count : length seats ≡ k
    pub each : (j : ℕ) (seat : Seat) → slice_get seats j ≡ Some seat → IsStarted id j seat

  more_left : (k : ℕ) → k + 1 < s.slots → rest_view k (s.slots - k) ≡ rest_view k (suc (suc (s.slots - k - 2)))
  more_left k lt = let n : s.slots - k ≡ suc (suc (s.slots - k - 2)) = omega (arith, lt) in ap (rest_view k) n

  pub split_allowed : (id : TableId) (k : ℕ) (last : TableSeat Asked SeatView) (seats : List Seat) → k + 1 < s.slots → IsDealt id k last seats → Splits {S = Asked} (Holds key) last.id last.me.0 (first_part last.me.0) (other_part last.me.0)
  split_allowed id k last seats lt d = λ st h at.
      let view = ap (λ (m : Mine). m.0) d.me ∙ more_left k lt in
      (h.0, h.1, shows_split code s h.0 st.views last.id last.me.0 (start_told code s k) (start_told code s (k + 1)) (start_threads_from code s (k + 1 + 1) (s.slots - k - 2)) h.2 at (ap (λ (v : SeatView). v.carried) view))

  -- a seat for thread k
  started : (id : TableId) (k : ℕ) (seat : Seat) → k < s.slots → seat.seat.table_id ≡ id → seat.seat.me ≡ (start_view code s k, []) → seat.thread ≡ k → seat.marks ≡ 0 → IsStarted id k seat
  started id k seat lt table me thread marks =
      let view = ap (λ (m : Mine). m.0) me in
      record {
        seat_of = record {
          table_is = table;
          no_slot = ap (λ (m : Mine). m.1) me;
          thread_is = ap (λ (v : SeatView). v.from) view ∙ sym thread;
          alone = ap (λ (v : SeatView). length v.carried) view;
          within = subst (λ n. n < s.slots) (sym thread) lt;
          code_is = ap (λ (v : SeatView). v.code) view;
          setup_is = ap (λ (v : SeatView). v.setup) view;
        };
        view = view;
        marks = marks;
      }

  -- one more seat
  pushed : (id : TableId) (seats : List Seat) (seat : Seat) → ((j : ℕ) (x : Seat) → slice_get seats j ≡ Some x → IsStarted id j x) → IsStarted id (length seats) seat → (j : ℕ) (x : Seat) → slice_get (seats ++ seat ∷ []) j ≡ Some x → IsStarted id j x
  pushed id seats seat each last j x at = ⊎_elim (λ e. each j x e) (λ e. subst (IsStarted id j) e.1 (subst (λ k. IsStarted id k seat) (sym e.0) last)) (split seats j at)
    where
      split : (xs : List Seat) (k : ℕ) → slice_get (xs ++ seat ∷ []) k ≡ Some x → (slice_get xs k ≡ Some x) ⊎ ((k ≡ length xs) × (seat ≡ x))
      split [] zero e = inr (refl, same_Some seat x e)
      split [] (suc k) e = cc
      split (y ∷ ys) zero e = inl e
      split (y ∷ ys) (suc k) e = ⊎_elim inl (λ p. inr (ap suc p.0, p.1)) (split ys k e)

  pub started_reached : (id : TableId) (k : ℕ) (seat : Seat) → IsStarted id k seat → k < s.slots → IsReached (view_of seat)
  started_reached id k seat h lt = subst IsReached (sym h.view) (start_state code s, ([], refl), carries)
    where
      there : slice_get (start_state code s).threads k ≡ Some (start_told code s k)
      there =
          let len = start_length code s 0 s.slots in
          let p = slice_get_inside (start_state code s).threads k (omega (arith, len, lt)) in
          p.1 ∙ ap Some (start_thread_is code s k p.0 p.1)

      carries : Carries (start_state code s) (start_view code s k)
      carries zero told e = let z : k + 0 ≡ k = omega arith in ap (slice_get (start_state code s).threads) z ∙ there ∙ e
      carries (suc j) told e = let none : slice_get {X = Told} (start_told code s k ∷ []) (suc j) ≡ None = refl in cc

  pub dealt_first : (id : TableId) (first : TableSeat Asked SeatView) (seats : List Seat) → first.table_id ≡ id → first.me ≡ (everyone key, []) → seats ≡ [] → IsDealt id 0 first seats
  dealt_first id first seats table me none = record {
    table = table;
    me = me ∙ ap (λ n. (rest_view 0 n, [])) (let e : s.slots ≡ s.slots - 0 = omega arith in e);
    count = ap length none;
    each = λ j x e. (let f = sym (ap (λ xs. slice_get xs j) none) ∙ e in cc);
  }

  pub dealt_more : (id : TableId) (k : ℕ) (last given rest : TableSeat Asked SeatView) (seats seats1 : List Seat) → k + 1 < s.slots → IsDealt id k last seats → given.table_id ≡ last.table_id → given.me ≡ (first_part last.me.0, last.me.1) → rest.table_id ≡ last.table_id → rest.me ≡ (other_part last.me.0, []) → seats1 ≡ seats ++ record { seat = given; thread = k; marks = 0 } ∷ [] → IsDealt id (k + 1) rest seats1
  dealt_more id k last given rest seats seats1 lt d given_table given_me rest_table rest_me is =
      let view = ap (λ (m : Mine). m.0) d.me ∙ more_left k lt in
      let m : suc (s.slots - k - 2) ≡ s.slots - (k + 1) = omega (arith, lt) in
      let seat : Seat = record { seat = given; thread = k; marks = 0 } in
      let n = d.count in
      record {
        table = rest_table ∙ d.table;
        me = rest_me ∙ ap (λ v. (other_part v, [])) view ∙ ap (λ z. (rest_view (k + 1) z, [])) m;
        count = ap length is ∙ length-append seats (seat ∷ []) ∙ ap (λ z. z + 1) n;
        each = subst (λ xs. (j : ℕ) (x : Seat) → slice_get xs j ≡ Some x → IsStarted id j x) (sym is)
            (pushed id seats seat d.each (subst (λ z. IsStarted id z seat) (sym n) (started id k seat (omega (arith, lt)) (given_table ∙ d.table)
            (given_me ∙ ap (λ v. (first_part v, last.me.1)) view ∙ ap (λ (z : Mine). (start_view code s k, z.1)) d.me) refl refl)));
      }

  -- all seats are dealt
  pub dealt_last : (id : TableId) (k : ℕ) (last : TableSeat Asked SeatView) (seats seats1 : List Seat) → k + 1 ≡ s.slots → IsDealt id k last seats → seats1 ≡ seats ++ record { seat = last; thread = k; marks = 0 } ∷ [] → (length seats1 ≡ s.slots) × ((j : ℕ) (x : Seat) → slice_get seats1 j ≡ Some x → IsStarted id j x)
  dealt_last id k last seats seats1 end d is =
      let one : s.slots - k ≡ 1 = omega (arith, end) in
      let seat : Seat = record { seat = last; thread = k; marks = 0 } in
      let n = d.count in (
        ap length is ∙ length-append seats (seat ∷ []) ∙ ap (λ z. z + 1) n ∙ end,
        subst (λ xs. (j : ℕ) (x : Seat) → slice_get xs j ≡ Some x → IsStarted id j x) (sym is)
            (pushed id seats seat d.each (subst (λ z. IsStarted id z seat) (sym n) (started id k seat (omega (arith, end)) d.table (d.me ∙ ap (λ z. (rest_view k z, [])) one) refl refl))),
      )
