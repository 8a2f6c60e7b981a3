-- What the words show when all seats are given back.
use Rattle.std.proofs.Common.{◌≡◌, ◌≢◌, ℕ, zero, suc, ◌+◌, ◌*◌, ◌<◌, ◌≤◌, ◌⊎◌, inl, inr, List, [], ◌∷◌, ◌++◌, length, take, Some, refl, sym, ap, subst, ◌∙◌, ⊎_elim, arith}
use Rattle.std.specs.Prelude.{slice_get, slice_index, Contains}
use Rattle.std.proofs.lemmas.Bool.{cases_eq, cases_lt}
use Rattle.std.proofs.lemmas.List.{take-append-le, take_all}
use Rattle.std.proofs.lemmas.Option.{slice_get_within, slice_get-get_or, get_or_from_slice_get, same_Some}
use mathlib.Core.Option.{some, some-injective, some-ne-none}
use lib.ListN.{get_elem?}
use Rattle.atomic_table.specs.Seated.{TableId}
use Rattle.atomic_table.specs.Table.{Final, Seen}
use Rattle.rr_base.proofs.Lists.{slice_get_inside, slice_get-append_left}
use Rattle.sync_objects.specs.Setup.{SetupView, IsWithinLimits}
use Rattle.flow_code.specs.declared.code.Code.{Code}
use Rattle.flow_code.specs.Settle.{IsRunnable}
use Rattle.core_run.specs.Machine.{Told}
use Rattle.core_run.proofs.Reached.{kept}
use Rattle.shared_cells.specs.Views.{SeatView, never}
use Rattle.shared_cells.specs.Threads.{own}
use Rattle.core_run.specs.Words.{cells_of}
use Rattle.shared_cells.specs.Words.{objects_end, departure_place, lone_cells, spread, spot_of, IsSpread}
use Rattle.shared_cells.specs.Rule.{Knowledge, IsPut, IsSeen, Shows, Holds}
use Rattle.shared_cells.specs.Seats.{view_of, AreSeats}
use Rattle.shared_cells.specs.Closing.{Gathers, Closes}
use Rattle.shared_cells.specs.declared.asked.Asked.{Asked}
use Rattle.shared_cells.specs.declared.seat.Seat.{Seat}
use Rattle.shared_cells.proofs.Keeping.{length-first_words}

-- the item at a place, in the library's two words
pub at_place : (xs : List ℕ) (i x : ℕ) → get_elem? xs i ≡ some x → slice_get xs i ≡ Some x
at_place [] i x e = absurd (some-ne-none x (sym e))
at_place (y ∷ ys) zero x e = ap Some (some-injective y x e)
at_place (y ∷ ys) (suc i) x e = at_place ys i x e

-- one item more of a front
pub take_one : (xs : List ℕ) (k x : ℕ) → get_elem? xs k ≡ some x → take (k + 1) xs ≡ take k xs ++ x ∷ []
take_one [] k x e = absurd (some-ne-none x (sym e))
take_one (y ∷ ys) zero x e = ap (λ z. z ∷ []) (some-injective y x e)
take_one (y ∷ ys) (suc k) x e = let n : suc k + 1 ≡ suc (k + 1) = omega arith in ap (λ m. take m (y ∷ ys)) n ∙ ap (λ zs. y ∷ zs) (take_one ys k x e)

module _ (key : Knowledge) (words xs : List ℕ) (id : ℕ) (v : SeatView) (views : List SeatView) (h : Shows key.code key.setup words views) (at : get_elem? views id ≡ some v) where
  abbrev code : Code
  code = key.code

  abbrev s : SetupView
  s = key.setup

  size_is : length words ≡ objects_end code s + 8 * length code.locks + 2
  size_is = h.size ∙ length-first_words code s

  module _ (runnable : IsRunnable code) (limits : IsWithinLimits s) (seats : List Seat) (g : Gathers seats 0 v) (count : length seats ≡ s.slots) where
    kept_is : Rattle.core_run.specs.Kept.IsKept code s h.state
    kept_is = kept code s runnable limits h.state h.reached

    state_words : take (objects_end code s) words ≡ h.state.words
    state_words =
        let len = kept_is.words in
        ap (take (objects_end code s)) h.words_are
        ∙ ap (λ n. take n (h.state.words ++ h.others)) (sym len)
        ∙ take-append-le (length h.state.words) h.state.words h.others (omega arith)
        ∙ take_all (length h.state.words) h.state.words (omega arith)

    carrying : 0 < length v.carried
    carrying =
        let long = g.long in
        let some_slot = limits.some_slot in
        omega (arith, long, count, some_slot)

    seen : IsSeen code s h.state words v
    seen = h.seen id v at carrying

    -- every view that carries a thread is the seat's
    same_view : (j : ℕ) (u : SeatView) → get_elem? views j ≡ some u → 0 < length u.carried → j ≡ id
    same_view j u e some_u = ⊎_elim (λ q. q) (λ ne. absurd (apart ne)) (cases_eq j id)
      where
        first : (told : Told) × (slice_get u.carried 0 ≡ Some told)
        first = slice_get_inside u.carried 0 some_u

        apart : j ≢ id → ⊥
        apart ne =
            let there = (h.seen j u e some_u).carries 0 first.0 first.1 in
            let lt = slice_get_within h.state.threads (u.from + 0) first.0 there in
            let threads = kept_is.threads in
            let long = g.long in
            let from = g.from_is in
            h.apart id j v u (λ q. ne (sym q)) at e (u.from + 0) 0 (omega (arith, lt, threads, long, count)) some_u (omega (arith, from))

    put : (d : ℕ) → IsPut views d → (d ≡ never) ⊎ ((t : ℕ) × (seat : Seat) × (slice_get seats t ≡ Some seat) × Contains (view_of seat).positions d)
    put d is = ⊎_elim inl (λ p. inr (by p (cases_lt 0 (length p.1.carried)))) is
      where
        by : (p : (j : ℕ) × (u : SeatView) × (get_elem? views j ≡ some u) × Contains u.positions d) → (0 < length p.1.carried) ⊎ (length p.1.carried ≤ 0) → (t : ℕ) × (seat : Seat) × (slice_get seats t ≡ Some seat) × Contains (view_of seat).positions d
        by p (inl lt) =
            let same : p.1 ≡ v = some-injective p.1 v (sym p.2 ∙ ap (get_elem? views) (same_view p.0 p.1 p.2 lt) ∙ at) in
            g.positions d (subst (λ (z : SeatView). Contains z.positions d) same p.3)
        by p (inr le) =
            let none = h.spent p.0 p.1 p.2 (omega (arith, le)) in
            let lt = p.3.1 in
            let empty = ap length none in
            absurd (omega (arith, lt, empty))

    closes_from : (words1 : List ℕ) (d : ℕ) → words1 ≡ take (objects_end code s) words → slice_get words (departure_place code s) ≡ Some d → Closes code s seats words1 d
    closes_from words1 d is there =
        let words_are : words1 ≡ h.state.words = is ∙ state_words in
        record {
          state = h.state;
          reached = h.reached;
          words_are = words_are;
          threads = λ t seat e. (let place : v.from + t ≡ t = (let from = g.from_is in omega (arith, from)) in subst (λ n. slice_get h.state.threads n ≡ Some (own (view_of seat))) place (seen.carries t (own (view_of seat)) (g.threads t seat e)));
          notes = λ t seat e k n now f low high at_word.
              let m = g.notes t seat k n e f in
              let len = kept_is.words in
              let in_state : slice_get h.state.words n.word ≡ Some now = ap (λ ws. slice_get ws n.word) (sym words_are) ∙ at_word in
              seen.notes m.0 n now m.1 low high (ap (λ ws. slice_get ws n.word) h.words_are ∙ slice_get-append_left h.state.words h.others n.word (omega (arith, len, high)) ∙ in_state);
          met = λ t seat e.
              let a = seen.met d there in
              let b = g.met t seat e in
              omega (arith, a, b);
          put = put d (h.departed d there);
        }

-- the words that a table has at the spots of the first places, so many
abbrev pub gathered : (cells lone : ℕ) → List ℕ → ℕ → List ℕ
gathered cells lone table zero = []
gathered cells lone table (suc k) = gathered cells lone table k ++ slice_index table (spread cells lone k) ∷ []

pub gathered_one : (cells lone : ℕ) (table : List ℕ) (k x : ℕ) → get_elem? table (spread cells lone k) ≡ some x → gathered cells lone table (k + 1) ≡ gathered cells lone table k ++ x ∷ []
gathered_one cells lone table k x e =
    let n : k + 1 ≡ suc k = omega arith in
    ap (gathered cells lone table) n ∙ ap (λ z. gathered cells lone table k ++ z ∷ []) (get_or_from_slice_get table (spread cells lone k) x 0 (at_place table (spread cells lone k) x e))

-- they are the first words
gathered_is : (cells lone : ℕ) (words table : List ℕ) → IsSpread cells lone words table → (k : ℕ) → k ≤ length words → gathered cells lone table k ≡ take k words
gathered_is cells lone words table h zero le = refl
gathered_is cells lone words table h (suc k) le =
    let there = slice_get_inside words k (omega (arith, le)) in
    let n : k + 1 ≡ suc k = omega arith in
    ap (λ xs. xs ++ slice_index table (spread cells lone k) ∷ []) (gathered_is cells lone words table h k (omega (arith, le)))
    ∙ ap (λ x. take k words ++ x ∷ []) (h.at k (omega (arith, le)) ∙ get_or_from_slice_get words k there.0 0 there.1)
    ∙ sym (take_one words k there.0 (in_library words k there.0 there.1))
    ∙ ap (λ m. take m words) n
  where
    in_library : (xs : List ℕ) (i x : ℕ) → slice_get xs i ≡ Some x → get_elem? xs i ≡ some x
    in_library [] i x e = cc
    in_library (y ∷ ys) zero x e = ap some (same_Some y x e)
    in_library (y ∷ ys) (suc i) x e = in_library ys i x e

module _ (key : Knowledge) (ws : List ℕ) (xs : List Asked) (id : ℕ) (v : SeatView) (d : ℕ) (final : Final {S = Asked} (Seen (Holds key) id v) ws xs) (at : get_elem? ws (spot_of key.code key.setup (departure_place key.code key.setup)) ≡ some d) where
  abbrev words_then : List ℕ
  words_then = final.1.0.0

  spread_then : IsSpread (cells_of key.code key.setup) (lone_cells key.code key.setup) words_then ws
  spread_then = subst (IsSpread (cells_of key.code key.setup) (lone_cells key.code key.setup) words_then) final.2 final.1.0.1

  shows_then : Shows key.code key.setup words_then final.0.views
  shows_then = final.1.0.2

  long : length words_then ≡ objects_end key.code key.setup + 8 * length key.code.locks + 2
  long = shows_then.size ∙ length-first_words key.code key.setup

  departure_then : slice_get words_then (departure_place key.code key.setup) ≡ Some d
  departure_then =
      let place = departure_place key.code key.setup in
      let spot = spot_of key.code key.setup place in
      let inside : place < length words_then = (let n = long in omega (arith, n)) in
      slice_get-get_or words_then place 0 inside ∙ ap Some (sym (spread_then.at place inside) ∙ get_or_from_slice_get ws spot d 0 (at_place ws spot d at))

  -- what was the departure word when the table was closed
  pub departure_low : d ≤ never
  departure_low = shows_then.low d departure_then

  pub closes : (id : TableId) (seats : List Seat) (words : List ℕ) → IsRunnable key.code → IsWithinLimits key.setup → AreSeats (record { code = key.code; setup = key.setup; table = id }) seats → Gathers seats 0 v → words ≡ gathered (cells_of key.code key.setup) (lone_cells key.code key.setup) ws (objects_end key.code key.setup) → Closes key.code key.setup seats words d
  closes table seats words runnable limits are g words_are =
      let n = long in
      closes_from key words_then [] id v final.0.views shows_then final.1.1 runnable limits seats g are.count words d
      (words_are ∙ gathered_is (cells_of key.code key.setup) (lone_cells key.code key.setup) words_then ws spread_then (objects_end key.code key.setup) (omega (arith, n)))
      departure_then
