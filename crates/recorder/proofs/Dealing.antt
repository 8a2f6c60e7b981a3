-- Carriers that are made one after another, and taken apart again.
use Rattle.std.proofs.Common.{◌≡◌, ℕ, zero, suc, ◌+◌, ◌<◌, ◌≤◌, true, List, [], ◌∷◌, ◌++◌, length, drop, Some, refl, sym, ap, subst, ◌∙◌, ◌⊎◌, inl, inr, ⊎_elim, arith}
use Rattle.std.specs.Prelude.{slice_get}
use Rattle.std.proofs.lemmas.Bool.{cases_eq}
use Rattle.std.proofs.lemmas.List.{length-append, length-drop}
use Rattle.std.proofs.lemmas.Option.{same_Some, slice_get_within}
use Rattle.crew.proofs.Zips.{drop_next}
use Rattle.sync_objects.specs.declared.entry.Noted.{Noted}
use Rattle.shared_cells.specs.Plays.{IsReached}
use Rattle.shared_cells.specs.Rule.{Board}
use Rattle.shared_cells.specs.Seats.{AreAtStart, AreSeats, IsSeatOf, start_view, view_of}
use Rattle.shared_cells.specs.declared.seat.Seat.{Seat}
use Rattle.run_walk.specs.declared.remains.Remains.{Remains}
use Rattle.run_walk.specs.Remains.{remains_in}
use Rattle.weak_turns.specs.Carrying.{Carrying, IsSound, run_has_ended}
use Rattle.recorder.specs.Carriers.{AreCarriers, AreParts, IsCarrierOf, IsTaken}

-- ---- one item more

push_is : {X : Type 0} (xs : List X) (y x : X) (t : ℕ) → slice_get (xs ++ y ∷ []) t ≡ Some x → (slice_get xs t ≡ Some x) ⊎ ((t ≡ length xs) × (x ≡ y))
push_is [] y x zero e = inr (refl, same_Some x y (sym e))
push_is [] y x (suc t) e = cc
push_is (z ∷ xs) y x zero e = inl e
push_is (z ∷ xs) y x (suc t) e = ⊎_elim inl (λ p. inr (ap suc p.0, p.1)) (push_is xs y x t e)

push_before : {X : Type 0} (xs : List X) (y x : X) (t : ℕ) → slice_get xs t ≡ Some x → slice_get (xs ++ y ∷ []) t ≡ Some x
push_before [] y x t e = cc
push_before (z ∷ xs) y x zero e = e
push_before (z ∷ xs) y x (suc t) e = push_before xs y x t e

push_last : {X : Type 0} (xs : List X) (y : X) → slice_get (xs ++ y ∷ []) (length xs) ≡ Some y
push_last [] y = refl
push_last (z ∷ xs) y = push_last xs y

push_length : {X : Type 0} (xs : List X) (y : X) → length (xs ++ y ∷ []) ≡ length xs + 1
push_length xs y = length-append xs (y ∷ [])

none_left : {X : Type 0} (xs : List X) (n : ℕ) → length (drop n xs) ≡ 0 → length xs ≤ n
none_left xs n e = let rest = length-drop n xs in omega arith

-- ---- carriers

-- the next seat, of the thread with this number
pub record IsNextSeat (cells : Board) (n : ℕ) (seat : Seat) : Type 0 where
  pub of : IsSeatOf cells seat
  pub number : (view_of seat).from ≡ n
  pub view : view_of seat ≡ start_view cells.code cells.setup (view_of seat).from
  pub reached : IsReached (view_of seat)
  pub marks : seat.marks ≡ 0

module _ (cells : Board) (seats : List Seat) where
  pub next_seat : (n : ℕ) (seat : Seat) (rest : List Seat) → AreSeats cells seats → AreAtStart cells.code cells.setup seats → drop n seats ≡ seat ∷ rest → IsNextSeat cells n seat
  next_seat n seat rest are start e =
      let next = drop_next seats n seat rest e in
      let of = are.each n seat next.0 in
      let at = start n seat next.0 in
      record { of = of.0; number = of.1; view = subst (λ k. view_of seat ≡ start_view cells.code cells.setup k) (sym of.1) at.0; reached = at.1; marks = at.2 }

module _ (cells : Board) (budget : ℕ) (seats : List Seat) where
  pub record HasDealt (carriers : List Carrying) (rest : List Seat) : Type 0 where
    pub rest_is : rest ≡ drop (length carriers) seats
    pub few : length carriers ≤ length seats
    pub each : (t : ℕ) (c : Carrying) → slice_get carriers t ≡ Some c → IsCarrierOf cells budget t c

  pub deals_more : (carriers pushed : List Carrying) (c : Carrying) (seat : Seat) (rest more : List Seat) → HasDealt carriers rest → rest ≡ seat ∷ more → pushed ≡ carriers ++ c ∷ [] → IsCarrierOf cells budget (length carriers) c → HasDealt pushed more
  deals_more carriers pushed c seat rest more before e is of =
      let next = drop_next seats (length carriers) seat more (sym before.rest_is ∙ e) in
      let count : length pushed ≡ length carriers + 1 = ap length is ∙ push_length carriers c in
      let within = slice_get_within seats (length carriers) seat next.0 in
      let one : suc (length carriers) ≡ length pushed = omega arith in
      record {
        rest_is = next.1 ∙ ap (λ k. drop k seats) one;
        few = omega arith;
        each = λ t x at. ⊎_elim (before.each t x) (λ p. subst (λ k. IsCarrierOf cells budget k x) (sym p.0) (subst (IsCarrierOf cells budget (length carriers)) (sym p.1) of)) (push_is carriers c x t (ap (λ xs. slice_get xs t) (sym is) ∙ at));
      }

  pub all_dealt : (carriers : List Carrying) (rest : List Seat) → length rest ≡ 0 → AreSeats cells seats → HasDealt carriers rest → AreCarriers cells budget carriers
  all_dealt carriers rest none are d =
      let over = none_left seats (length carriers) (ap length (sym d.rest_is) ∙ none) in
      let few = d.few in
      let count = are.count in
      record { count = omega arith; each = d.each }

-- ---- parts

module _ (carriers : List Carrying) where
  pub record HasTaken (seats : List Seat) (lists : List (List Noted)) (remains : List Remains) (rest : List Carrying) : Type 0 where
    pub rest_is : rest ≡ drop (length seats) carriers
    pub few : length seats ≤ length carriers
    pub count : length lists ≡ length seats
    pub others : length remains ≡ length seats
    pub each : (t : ℕ) (c : Carrying) → t < length seats → slice_get carriers t ≡ Some c → IsTaken c t seats lists remains

  pub takes_more : (seats more_seats : List Seat) (lists more_lists : List (List Noted)) (remains more_remains : List Remains) (rest more : List Carrying) (c : Carrying) (seat : Seat) (list : List Noted) (left : Remains) → HasTaken seats lists remains rest → rest ≡ c ∷ more →
      more_seats ≡ seats ++ seat ∷ [] → more_lists ≡ lists ++ list ∷ [] → more_remains ≡ remains ++ left ∷ [] → seat ≡ c.seat → list ≡ c.run.entries → left ≡ remains_in c.run → IsSound c → run_has_ended c.run ≡ true → HasTaken more_seats more_lists more_remains more
  takes_more seats more_seats lists more_lists remains more_remains rest more c seat list left before e seats_are lists_are remains_are seat_is list_is left_is sound ended =
      let next = drop_next carriers (length seats) c more (sym before.rest_is ∙ e) in
      let within = slice_get_within carriers (length seats) c next.0 in
      let seat_count : length more_seats ≡ length seats + 1 = ap length seats_are ∙ push_length seats seat in
      let list_count : length more_lists ≡ length lists + 1 = ap length lists_are ∙ push_length lists list in
      let rest_count : length more_remains ≡ length remains + 1 = ap length remains_are ∙ push_length remains left in
      let counts = before.count in
      let others = before.others in
      let one : suc (length seats) ≡ length more_seats = omega arith in
      record {
        rest_is = next.1 ∙ ap (λ k. drop k carriers) one;
        few = omega arith;
        count = omega arith;
        others = omega arith;
        each = λ t x lt at. by t x at (cases_eq t (length seats)) lt;
      }
    where
      old : (t : ℕ) (x : Carrying) → IsTaken x t seats lists remains → IsTaken x t more_seats more_lists more_remains
      old t x k = record {
        seat = ap (λ xs. slice_get xs t) seats_are ∙ push_before seats seat x.seat t k.seat;
        list = ap (λ xs. slice_get xs t) lists_are ∙ push_before lists list x.run.entries t k.list;
        rest = ap (λ xs. slice_get xs t) remains_are ∙ push_before remains left (remains_in x.run) t k.rest;
        sound = k.sound;
        ended = k.ended;
      }

      new : (t : ℕ) → t ≡ length seats → IsTaken c t more_seats more_lists more_remains
      new t same = record {
        seat = ap (λ xs. slice_get xs t) seats_are ∙ ap (slice_get (seats ++ seat ∷ [])) same ∙ push_last seats seat ∙ ap Some seat_is;
        list = ap (λ xs. slice_get xs t) lists_are ∙ ap (slice_get (lists ++ list ∷ [])) (same ∙ sym before.count) ∙ push_last lists list ∙ ap Some list_is;
        rest = ap (λ xs. slice_get xs t) remains_are ∙ ap (slice_get (remains ++ left ∷ [])) (same ∙ sym before.others) ∙ push_last remains left ∙ ap Some left_is;
        sound = sound;
        ended = ended;
      }

      by : (t : ℕ) (x : Carrying) → slice_get carriers t ≡ Some x → (t ≡ length seats) ⊎ (t ≡ length seats → ⊥) → t < length more_seats → IsTaken x t more_seats more_lists more_remains
      by t x at (inl same) lt =
          let next = drop_next carriers (length seats) c more (sym before.rest_is ∙ e) in
          subst (λ z. IsTaken z t more_seats more_lists more_remains) (same_Some c x (sym next.0 ∙ ap (slice_get carriers) (sym same) ∙ at)) (new t same)
      by t x at (inr other) lt =
          let seat_count : length more_seats ≡ length seats + 1 = ap length seats_are ∙ push_length seats seat in
          old t x (before.each t x (omega arith) at)

  pub all_taken : (seats : List Seat) (lists : List (List Noted)) (remains : List Remains) (rest : List Carrying) → length rest ≡ 0 → HasTaken seats lists remains rest → AreParts carriers seats lists remains
  all_taken seats lists remains rest none h =
      let over = none_left carriers (length seats) (ap length (sym h.rest_is) ∙ none) in
      let few = h.few in
      let count = h.count in
      let others = h.others in
      record {
        seat_count = omega arith;
        list_count = omega arith;
        rest_count = omega arith;
        each = λ t c at. let within = slice_get_within carriers t c at in h.each t c (omega arith) at;
      }
