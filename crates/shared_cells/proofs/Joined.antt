-- Seats that are joined keep the rule, and their view gathers what they had.
use Rattle.std.proofs.Common.{◌≡◌, ◌≢◌, ℕ, zero, suc, ◌+◌, ◌-◌, ◌<◌, ◌≤◌, ◌⊎◌, inl, inr, List, [], ◌∷◌, ◌++◌, length, Some, refl, sym, ap, subst, ◌∙◌, ⊎_elim, arith, append_assoc, length-append, min}
use Rattle.std.specs.Prelude.{slice_get, slice_set, Contains}
use Rattle.std.proofs.lemmas.Bool.{cases_eq, cases_lt}
use Rattle.std.proofs.lemmas.Option.{same_Some, slice_get_within}
use Rattle.std.proofs.Math.Nat.{min-le_left, min-le_right, le-min, le_trans}
use mathlib.Core.Option.{some, some-injective}
use lib.ListN.{get_elem?}
use Rattle.atomic_table.specs.Seated.{TableId}
use Rattle.atomic_table.specs.Table.{Joins}
use Rattle.atomic_table.specs.declared.shared.Seat.{Seat as TableSeat}
use Rattle.atomic_table.proofs.Lists.{at_set, set_here, set_else}
use Rattle.rr_base.proofs.Lists.{slice_get-append_right, slice_get-append_found}
use Rattle.sync_objects.specs.Setup.{SetupView}
use Rattle.flow_code.specs.declared.code.Code.{Code}
use Rattle.core_run.specs.Machine.{start_told}
use Rattle.shared_cells.specs.Views.{Note, SeatView, nobody}
use Rattle.shared_cells.specs.Threads.{own}
use Rattle.shared_cells.specs.Words.{HaveGoneOn}
use Rattle.shared_cells.specs.Rule.{Board, Knowledge, Carries, AreApart, IsPut, IsSeen, Shows, Holds, both}
use Rattle.shared_cells.specs.Plays.{Mine}
use Rattle.shared_cells.specs.Seats.{view_of, IsSeatOf, AreSeats}
use Rattle.shared_cells.specs.Closing.{Gathers}
use Rattle.shared_cells.specs.declared.asked.Asked.{Asked}
use Rattle.shared_cells.specs.declared.seat.Seat.{Seat}
use Rattle.shared_cells.proofs.Keeping.{only}
use Rattle.shared_cells.proofs.Moves.{get_within}
use Rattle.shared_cells.proofs.Dealt.{apart_sym}

-- an item of two lists, one after the other, is one of the two
data OfTwo {X : Type 0} (xs ys : List X) (k : ℕ) (x : X) : Type 0 where
  of_first : slice_get xs k ≡ Some x → OfTwo xs ys k x
  of_second : (m : ℕ) → k ≡ length xs + m → slice_get ys m ≡ Some x → OfTwo xs ys k x

of_two : {X : Type 0} (xs ys : List X) (k : ℕ) (x : X) → slice_get (xs ++ ys) k ≡ Some x → OfTwo xs ys k x
of_two [] ys k x e = of_second k (omega arith) e
of_two (y ∷ xs) ys zero x e = of_first e
of_two (y ∷ xs) ys (suc k) x e = by (of_two xs ys k x e)
  where
    by : OfTwo xs ys k x → OfTwo (y ∷ xs) ys (suc k) x
    by (of_first h) = of_first h
    by (of_second m q h) = of_second m (omega (arith, q)) h

contains_at : (xs : List ℕ) (x : ℕ) → Contains xs x → (k : ℕ) × (slice_get xs k ≡ Some x)
contains_at xs x c = (c.0, Rattle.std.proofs.lemmas.Option.slice_get-get_or xs c.0 x c.1 ∙ ap Some c.2)

at_contains : (xs : List ℕ) (x k : ℕ) → slice_get xs k ≡ Some x → Contains xs x
at_contains xs x k e = (k, slice_get_within xs k x e, Rattle.std.proofs.lemmas.Option.get_or_from_slice_get xs k x x e)

contains_left : (xs ys : List ℕ) (x : ℕ) → Contains xs x → Contains (xs ++ ys) x
contains_left xs ys x c = let p = contains_at xs x c in at_contains (xs ++ ys) x p.0 (slice_get-append_found xs ys p.0 x p.1)

contains_right : (xs ys : List ℕ) (x : ℕ) → Contains ys x → Contains (xs ++ ys) x
contains_right xs ys x c = let p = contains_at ys x c in at_contains (xs ++ ys) x (length xs + p.0) (slice_get-append_right xs ys p.0 ∙ p.1)

contains_of_two : (xs ys : List ℕ) (x : ℕ) → Contains (xs ++ ys) x → Contains xs x ⊎ Contains ys x
contains_of_two xs ys x c = let p = contains_at (xs ++ ys) x c in by p.0 (of_two xs ys p.0 x p.1)
  where
    by : (k : ℕ) → OfTwo xs ys k x → Contains xs x ⊎ Contains ys x
    by k (of_first h) = inl (at_contains xs x k h)
    by k (of_second m q h) = inr (at_contains ys x m h)

-- what a join leaves at a place: the one view, the spent one, or what was there
data AfterJoin (views : List SeatView) (id other : ℕ) (one : SeatView) (j : ℕ) (u : SeatView) : Type 0 where
  is_one : j ≡ id → one ≡ u → AfterJoin views id other one j u
  is_spent : nobody ≡ u → AfterJoin views id other one j u
  is_other : j ≢ id → j ≢ other → get_elem? views j ≡ some u → AfterJoin views id other one j u

after_join : (views : List SeatView) (id other : ℕ) (one : SeatView) (j : ℕ) (u : SeatView) → get_elem? (slice_set (slice_set views id one) other nobody) j ≡ some u → AfterJoin views id other one j u
after_join views id other one j u e =
    ⊎_elim
    (λ p. is_spent p.1)
    (λ p. ⊎_elim (λ q. is_one q.0 q.1) (λ q. is_other q.0 p.0 q.1) (at_set views id j one u p.1))
    (at_set (slice_set views id one) other j nobody u e)

module _ (code : Code) (s : SetupView) (words : List ℕ) (views : List SeatView) (id other : ℕ) (v w : SeatView) (h : Shows code s words views) (at : get_elem? views id ≡ some v) (ne : other ≢ id) (at_other : get_elem? (slice_set views id (both v w)) other ≡ some w) (some_v : 0 < length v.carried) (some_w : 0 < length w.carried) (next : w.from ≡ v.from + length v.carried) where
  there : get_elem? views other ≡ some w
  there = sym (set_else views id other (both v w) ne) ∙ at_other

  was : IsSeen code s h.state words v
  was = h.seen id v at some_v

  beside : IsSeen code s h.state words w
  beside = h.seen other w there some_w

  long : length (both v w).carried ≡ length v.carried + length w.carried
  long = length-append v.carried w.carried

  carries : Carries h.state (both v w)
  carries k told e = by (of_two v.carried w.carried k told e)
    where
      by : OfTwo v.carried w.carried k told → slice_get h.state.threads (v.from + k) ≡ Some told
      by (of_first q) = was.carries k told q
      by (of_second m q r) = let place : w.from + m ≡ v.from + k = omega (arith, next, q) in subst (λ n. slice_get h.state.threads n ≡ Some told) place (beside.carries m told r)

  notes : HaveGoneOn code s (both v w).notes words
  notes k n now e low high is = by (of_two v.notes w.notes k n e)
    where
      by : OfTwo v.notes w.notes k n → Rattle.shared_cells.specs.Words.HasGoneOn n.value now
      by (of_first q) = was.notes k n now q low high is
      by (of_second m q r) = beside.notes m n now r low high is

  one_seen : IsSeen code s h.state words (both v w)
  one_seen = record {
    code_is = was.code_is;
    setup_is = was.setup_is;
    carries = carries;
    notes = notes;
    met = λ d e. le-min (was.met d e) (beside.met d e);
  }

  one_apart : (j : ℕ) (u : SeatView) → j ≢ id → j ≢ other → get_elem? views j ≡ some u → AreApart (both v w) u
  one_apart j u no_id no_other e k l lk ll = ⊎_elim
      (λ lt. h.apart id j v u (λ q. no_id (sym q)) at e k l lt ll)
      (λ ge.
      let m : length v.carried + (k - length v.carried) ≡ k = omega (arith, ge) in
      let apart : w.from + (k - length v.carried) ≢ u.from + l = h.apart other j w u (λ q. no_other (sym q)) there e (k - length v.carried) l (omega (arith, ge, lk, long)) ll in
      λ q. apart (omega (arith, next, m, q)))
      (cases_lt k (length v.carried))

  spent_apart : (u : SeatView) → AreApart nobody u
  spent_apart u k l lk ll = absurd (omega (arith, lk))

  apart_pair : (i j : ℕ) (x y : SeatView) → i ≢ j → AfterJoin views id other (both v w) i x → AfterJoin views id other (both v w) j y → AreApart x y
  apart_pair i j x y differ (is_one a p) (is_one b q) = absurd (differ (a ∙ sym b))
  apart_pair i j x y differ (is_one a p) (is_spent q) = subst (AreApart x) q (apart_sym nobody x (spent_apart x))
  apart_pair i j x y differ (is_one a p) (is_other b c q) = subst (λ z. AreApart z y) p (one_apart j y b c q)
  apart_pair i j x y differ (is_spent p) b = subst (λ z. AreApart z y) p (spent_apart y)
  apart_pair i j x y differ (is_other a c p) (is_one b q) = subst (AreApart x) q (apart_sym (both v w) x (one_apart i x a c p))
  apart_pair i j x y differ (is_other a c p) (is_spent q) = subst (AreApart x) q (apart_sym nobody x (spent_apart x))
  apart_pair i j x y differ (is_other a c p) (is_other b d q) = h.apart i j x y differ p q

  seen_at : (j : ℕ) (u : SeatView) → AfterJoin views id other (both v w) j u → 0 < length u.carried → IsSeen code s h.state words u
  seen_at j u (is_one a p) lt = subst (IsSeen code s h.state words) p one_seen
  seen_at j u (is_spent p) lt = let none = ap (λ (z : SeatView). length z.carried) p in absurd (omega (arith, none, lt))
  seen_at j u (is_other a c p) lt = h.seen j u p lt

  spent_at : (j : ℕ) (u : SeatView) → AfterJoin views id other (both v w) j u → length u.carried ≡ 0 → u.positions ≡ []
  spent_at j u (is_one a p) e = let q = ap (λ (z : SeatView). length z.carried) p in absurd (omega (arith, q, long, some_v, e))
  spent_at j u (is_spent p) e = sym (ap (λ (z : SeatView). z.positions) p)
  spent_at j u (is_other a c p) e = h.spent j u p e

  abbrev after : List SeatView
  after = slice_set (slice_set views id (both v w)) other nobody

  one_there : get_elem? after id ≡ some (both v w)
  one_there = set_else (slice_set views id (both v w)) other id nobody (λ e. ne (sym e)) ∙ set_here views id (both v w) (get_within views id v at)

  put_joined : (d : ℕ) → IsPut views d → IsPut after d
  put_joined d put = ⊎_elim inl (λ p. inr (by p (cases_eq p.0 id) (cases_eq p.0 other))) put
    where
      by : (p : (j : ℕ) × (u : SeatView) × (get_elem? views j ≡ some u) × Contains u.positions d) → (p.0 ≡ id) ⊎ (p.0 ≢ id) → (p.0 ≡ other) ⊎ (p.0 ≢ other) → (j : ℕ) × (u : SeatView) × (get_elem? after j ≡ some u) × Contains u.positions d
      by p (inl e) c =
          let same : p.1 ≡ v = some-injective p.1 v (sym p.2 ∙ ap (get_elem? views) e ∙ at) in
          (id, both v w, one_there, contains_left v.positions w.positions d (subst (λ (z : SeatView). Contains z.positions d) same p.3))
      by p (inr differ) (inl e) =
          let same : p.1 ≡ w = some-injective p.1 w (sym p.2 ∙ ap (get_elem? views) e ∙ there) in
          (id, both v w, one_there, contains_right v.positions w.positions d (subst (λ (z : SeatView). Contains z.positions d) same p.3))
      by p (inr differ) (inr no_other) = (p.0, p.1, set_else (slice_set views id (both v w)) other p.0 nobody no_other ∙ set_else views id p.0 (both v w) differ ∙ p.2, p.3)

  pub shows_joined : Shows code s words after
  shows_joined = record {
    state = h.state;
    reached = h.reached;
    others = h.others;
    words_are = h.words_are;
    size = h.size;
    seen = λ j u e. seen_at j u (after_join views id other (both v w) j u e);
    apart = λ i j x y differ ei ej. apart_pair i j x y differ (after_join views id other (both v w) i x ei) (after_join views id other (both v w) j y ej);
    spent = λ j u e. spent_at j u (after_join views id other (both v w) j u e);
    low = h.low;
    departed = λ d e. put_joined d (h.departed d e);
  }

pub join_allowed : (key : Knowledge) (id other : ℕ) (v w : SeatView) → 0 < length v.carried → 0 < length w.carried → w.from ≡ v.from + length v.carried → Joins {S = Asked} (Holds key) id v other w (both v w) nobody
join_allowed key id other v w some_v some_w next = λ st h at ne at_other. (h.0, h.1, shows_joined key.code key.setup h.0 st.views id other v w h.2 at ne at_other some_v some_w next)

-- ---- what the one view has

own_first : (v : SeatView) → length v.carried ≡ 1 → slice_get v.carried 0 ≡ Some (own v)
own_first v one =
    let p = only v one in
    let own_is : own v ≡ p.0 = ap (λ xs. Rattle.std.specs.Option.unwrap_or (slice_get xs 0) (start_told v.code v.setup v.from)) p.1 in
    ap (λ xs. slice_get xs 0) p.1 ∙ ap Some (sym own_is)

pub gathers_last : (seat : Seat) → length (view_of seat).carried ≡ 1 → Gathers (seat ∷ []) (view_of seat).from (view_of seat)
gathers_last seat one = record {
  from_is = refl;
  long = one;
  threads = threads;
  notes = notes;
  met = met;
  positions = λ x c. (0, seat, refl, c);
}
  where
    threads : (t : ℕ) (x : Seat) → slice_get (seat ∷ []) t ≡ Some x → slice_get (view_of seat).carried t ≡ Some (own (view_of x))
    threads zero x e = own_first (view_of seat) one ∙ ap (λ (z : Seat). Some (own (view_of z))) (same_Some seat x e)
    threads (suc t) x e = cc

    notes : (t : ℕ) (x : Seat) (i : ℕ) (n : Note) → slice_get (seat ∷ []) t ≡ Some x → slice_get (view_of x).notes i ≡ Some n → (m : ℕ) × (slice_get (view_of seat).notes m ≡ Some n)
    notes zero x i n e f = (i, ap (λ (z : Seat). slice_get (view_of z).notes i) (same_Some seat x e) ∙ f)
    notes (suc t) x i n e f = cc

    met : (t : ℕ) (x : Seat) → slice_get (seat ∷ []) t ≡ Some x → (view_of seat).met ≤ (view_of x).met
    met zero x e = let same = ap (λ (z : Seat). (view_of z).met) (same_Some seat x e) in omega (arith, same)
    met (suc t) x e = cc

pub gathers_more : (seat : Seat) (back : List Seat) (w : SeatView) → length (view_of seat).carried ≡ 1 → Gathers back ((view_of seat).from + 1) w → Gathers (seat ∷ back) (view_of seat).from (both (view_of seat) w)
gathers_more seat back w one g = record {
  from_is = refl;
  long = (let l = length-append v.carried w.carried in let m = g.long in omega (arith, l, m, one));
  threads = threads;
  notes = notes;
  met = met;
  positions = λ x c. ⊎_elim (λ l. (0, seat, refl, l)) (λ r. (let p = g.positions x r in (suc p.0, p.1, p.2, p.3))) (contains_of_two v.positions w.positions x c);
}
  where
    v : SeatView
    v = view_of seat

    threads : (t : ℕ) (x : Seat) → slice_get (seat ∷ back) t ≡ Some x → slice_get (v.carried ++ w.carried) t ≡ Some (own (view_of x))
    threads zero x e = slice_get-append_found v.carried w.carried 0 (own v) (own_first v one) ∙ ap (λ (z : Seat). Some (own (view_of z))) (same_Some seat x e)
    threads (suc t) x e = let place : suc t ≡ length v.carried + t = omega (arith, one) in ap (slice_get (v.carried ++ w.carried)) place ∙ slice_get-append_right v.carried w.carried t ∙ g.threads t x e

    notes : (t : ℕ) (x : Seat) (i : ℕ) (n : Note) → slice_get (seat ∷ back) t ≡ Some x → slice_get (view_of x).notes i ≡ Some n → (m : ℕ) × (slice_get (v.notes ++ w.notes) m ≡ Some n)
    notes zero x i n e f = (i, slice_get-append_found v.notes w.notes i n (ap (λ (z : Seat). slice_get (view_of z).notes i) (same_Some seat x e) ∙ f))
    notes (suc t) x i n e f = let p = g.notes t x i n e f in (length v.notes + p.0, slice_get-append_right v.notes w.notes p.0 ∙ p.1)

    met : (t : ℕ) (x : Seat) → slice_get (seat ∷ back) t ≡ Some x → min v.met w.met ≤ (view_of x).met
    met zero x e = subst (λ n. min v.met w.met ≤ n) (ap (λ (z : Seat). (view_of z).met) (same_Some seat x e)) (min-le_left v.met w.met)
    met (suc t) x e = le_trans (min-le_right v.met w.met) (g.met t x e)

-- ---- all seats

-- the seats that are joined already stand after those that aren't
pub record IsJoining (b : Board) (id : TableId) (all front : List Seat) (whole : TableSeat Asked SeatView) : Type 0 where
  pub back : List Seat
  pub are : all ≡ front ++ back
  pub some_back : 0 < length back
  pub table : whole.table_id ≡ id
  pub no_slot : whole.me.1 ≡ []
  pub gathers : Gathers back (length front) whole.me.0

module _ (b : Board) (all : List Seat) (seats : AreSeats b all) where
  -- the last of the seats at the front
  last_front : (front back : List Seat) (seat : Seat) → all ≡ front ++ seat ∷ back → IsSeatOf b seat × ((view_of seat).from ≡ length front)
  last_front front back seat are = seats.each (length front) seat (ap (λ xs. slice_get xs (length front)) are ∙ Rattle.rr_base.proofs.Lists.slice_get-append_at front seat back (length front) refl)

  pub joining_starts : (front : List Seat) (seat : Seat) → all ≡ front ++ seat ∷ [] → IsJoining b b.table all front seat.seat
  joining_starts front seat are =
      let p = last_front front [] seat are in
      record {
        back = seat ∷ [];
        are = are;
        some_back = omega arith;
        table = p.0.table_is;
        no_slot = p.0.no_slot;
        gathers = subst (λ k. Gathers (seat ∷ []) k (view_of seat)) p.1 (gathers_last seat p.0.alone);
      }

  -- what joins the next one
  pub record MayJoin (seat : Seat) (whole : TableSeat Asked SeatView) : Type 0 where
    pub table : seat.seat.table_id ≡ b.table
    pub first : 0 < length (view_of seat).carried
    pub second : 0 < length whole.me.0.carried
    pub next : whole.me.0.from ≡ (view_of seat).from + length (view_of seat).carried

  pub may_join : (front front1 : List Seat) (seat : Seat) (whole : TableSeat Asked SeatView) → IsJoining b b.table all front whole → front ≡ front1 ++ seat ∷ [] → MayJoin seat whole
  may_join front front1 seat whole j is =
      let p = last_front front1 j.back seat (j.are ∙ ap (λ xs. xs ++ j.back) is ∙ append_assoc front1 (seat ∷ []) j.back) in
      let one = p.0.alone in
      let from = p.1 in
      let long = j.gathers.long in
      let many = j.some_back in
      let at = j.gathers.from_is in
      let len = ap length is ∙ length-append front1 (seat ∷ []) in
      record {
        table = p.0.table_is;
        first = omega (arith, one);
        second = omega (arith, long, many);
        next = omega (arith, at, len, from, one);
      }

  pub joining_more : (front front1 : List Seat) (seat : Seat) (whole one : TableSeat Asked SeatView) → IsJoining b b.table all front whole → front ≡ front1 ++ seat ∷ [] → one.table_id ≡ seat.seat.table_id → one.me ≡ (both seat.seat.me.0 whole.me.0, seat.seat.me.1) → IsJoining b b.table all front1 one
  joining_more front front1 seat whole one j is table me =
      let are : all ≡ front1 ++ seat ∷ j.back = j.are ∙ ap (λ xs. xs ++ j.back) is ∙ append_assoc front1 (seat ∷ []) j.back in
      let p = last_front front1 j.back seat are in
      let from = p.1 in
      let len = ap length is ∙ length-append front1 (seat ∷ []) in
      let count : length front ≡ (view_of seat).from + 1 = omega (arith, len, from) in
      let g : Gathers (seat ∷ j.back) (view_of seat).from (both (view_of seat) whole.me.0) = gathers_more seat j.back whole.me.0 p.0.alone (subst (λ k. Gathers j.back k whole.me.0) count j.gathers) in
      record {
        back = seat ∷ j.back;
        are = are;
        some_back = omega arith;
        table = table ∙ p.0.table_is;
        no_slot = ap (λ (m : Mine). m.1) me ∙ p.0.no_slot;
        gathers = subst (Gathers (seat ∷ j.back) (length front1)) (sym (ap (λ (m : Mine). m.0) me)) (subst (λ k. Gathers (seat ∷ j.back) k (both (view_of seat) whole.me.0)) from g);
      }

  pub joined : (front : List Seat) (whole : TableSeat Asked SeatView) → IsJoining b b.table all front whole → front ≡ [] → Gathers all 0 whole.me.0
  joined front whole j none =
      let are : all ≡ j.back = j.are ∙ ap (λ xs. xs ++ j.back) none in
      subst (λ xs. Gathers xs 0 whole.me.0) (sym are) (subst (λ k. Gathers j.back k whole.me.0) (ap length none) j.gathers)
