-- What each kind of step leaves of the rule.
use Rattle.std.proofs.Common.{◌≡◌, ◌≢◌, ℕ, zero, suc, ◌+◌, ◌*◌, ◌-◌, ◌<◌, ◌≤◌, ◌⊎◌, inl, inr, List, [], ◌∷◌, ◌++◌, length, Some, refl, sym, ap, subst, ◌∙◌, ⊎_elim, arith, length-set, min}
use Rattle.std.specs.Prelude.{slice_get, slice_set, Contains}
use Rattle.std.proofs.lemmas.Bool.{cases_eq, cases_lt}
use Rattle.std.proofs.lemmas.List.{set-append_left, set-append_right}
use Rattle.std.proofs.lemmas.Option.{same_Some}
use Rattle.std.proofs.Math.Nat.{min-eq_left, min-eq_right}
use mathlib.Core.Option.{some, some-injective, some-ne-none}
use lib.ListN.{get_elem?}
use Rattle.atomic_table.proofs.Lists.{set_here, set_else}
use Rattle.sync_objects.specs.Setup.{SetupView, IsWithinLimits}
use Rattle.flow_code.specs.declared.code.Code.{Code}
use Rattle.flow_code.specs.Settle.{IsRunnable}
use Rattle.core_run.specs.Machine.{Told}
use Rattle.core_run.specs.Words.{cells_of}
use Rattle.core_run.proofs.Reached.{kept}
use Rattle.run_theory.specs.Steps.{State}
use Rattle.rr_base.proofs.Lists.{slice_get_inside, slice_get-set_other, slice_get-set_within, slice_get-append_left}
use Rattle.shared_cells.specs.Views.{Note, SeatView, with_thread, lowered}
use Rattle.shared_cells.specs.Threads.{own}
use Rattle.shared_cells.specs.Words.{objects_end, departure_place, HasGoneOn, HaveGoneOn}
use Rattle.shared_cells.specs.Rule.{Carries, IsPut, IsSeen, Shows}
use Rattle.shared_cells.proofs.ThreadSteps.{GoesTo}
use Rattle.shared_cells.proofs.Keeping.{gone_on, gone_nowhere, length-first_words, only, Keeps}

pub get_within : {A : Type 0} (l : List A) (i : ℕ) (a : A) → get_elem? l i ≡ some a → i < length l
get_within [] i a e = absurd (some-ne-none a (sym e))
get_within (x ∷ xs) zero a e = omega arith
get_within (x ∷ xs) (suc i) a e = let lt = get_within xs i a e in omega (arith, lt)

-- a list with one place set, read at any place
set_cases : (xs : List ℕ) (p k x y : ℕ) → p < length xs → slice_get (slice_set xs p x) k ≡ Some y → ((k ≡ p) × (x ≡ y)) ⊎ ((k ≢ p) × (slice_get xs k ≡ Some y))
set_cases xs p k x y lt e = ⊎_elim
    (λ q. inl (q, same_Some x y (sym (slice_get-set_within xs p x lt) ∙ ap (slice_get (slice_set xs p x)) (sym q) ∙ e)))
    (λ ne. inr (ne, sym (slice_get-set_other xs p k x ne) ∙ e))
    (cases_eq k p)

-- a position that was put stays put, where the seat's view keeps its own
pub put_kept : (views : List SeatView) (id : ℕ) (v v1 : SeatView) (d : ℕ) → get_elem? views id ≡ some v → ((x : ℕ) → Contains v.positions x → Contains v1.positions x) → IsPut views d → IsPut (slice_set views id v1) d
put_kept views id v v1 d at keeps put = ⊎_elim inl (λ p. inr (by p (cases_eq p.0 id))) put
  where
    by : (p : (j : ℕ) × (w : SeatView) × (get_elem? views j ≡ some w) × Contains w.positions d) → (p.0 ≡ id) ⊎ (p.0 ≢ id) → (j : ℕ) × (w : SeatView) × (get_elem? (slice_set views id v1) j ≡ some w) × Contains w.positions d
    by p (inl e) =
        let same : p.1 ≡ v = some-injective p.1 v (sym p.2 ∙ ap (get_elem? views) e ∙ at) in
        (id, v1, set_here views id v1 (get_within views id v at), keeps d (subst (λ (z : SeatView). Contains z.positions d) same p.3))
    by p (inr ne) = (p.0, p.1, set_else views id p.0 v1 ne ∙ p.2, p.3)

-- after a position was put, the departure word is the lesser of the two
pub put_lowered : (views : List SeatView) (id : ℕ) (v : SeatView) (position found : ℕ) → get_elem? views id ≡ some v → IsPut views found → IsPut (slice_set views id (lowered v position found)) (min found position)
put_lowered views id v position found at put = ⊎_elim
    (λ lt. subst (IsPut (slice_set views id (lowered v position found))) (sym (min-eq_right (let le : position ≤ found = omega (arith, lt) in le))) (inr (id, lowered v position found, set_here views id (lowered v position found) (get_within views id v at), (0, omega arith, refl))))
    (λ le. subst (IsPut (slice_set views id (lowered v position found))) (sym (min-eq_left le)) (put_kept views id v (lowered v position found) found at (λ x c. (suc c.0, (let lt = c.1 in omega (arith, lt)), c.2)) put))
    (cases_lt position found)

module _ (code : Code) (s : SetupView) (words : List ℕ) (views : List SeatView) (id : ℕ) (v : SeatView) (h : Shows code s words views) (at : get_elem? views id ≡ some v) (one : length v.carried ≡ 1) where
  pub seen : IsSeen code s h.state words v
  seen = h.seen id v at (omega (arith, one))

  -- the state has the seat's thread
  pub own_there : slice_get h.state.threads v.from ≡ Some (own v)
  own_there =
      let p = only v one in
      let e : v.from + 0 ≡ v.from = omega arith in
      let own_is : own v ≡ p.0 = ap (λ xs. Rattle.std.specs.Option.unwrap_or (slice_get xs 0) (Rattle.core_run.specs.Machine.start_told v.code v.setup v.from)) p.1 in
      subst (λ k. slice_get h.state.threads k ≡ Some (own v)) e (seen.carries 0 (own v) (ap (λ xs. slice_get xs 0) p.1 ∙ ap Some (sym own_is)))

  -- a state with the seat's thread carries what the view has
  pub carries_own : (st : State Told) (w : SeatView) (told : Told) → w.carried ≡ told ∷ [] → slice_get st.threads w.from ≡ Some told → Carries st w
  carries_own st w told is there zero x e =
      let z : w.from + 0 ≡ w.from = omega arith in
      ap (slice_get st.threads) z ∙ there ∙ sym (ap (λ xs. slice_get xs 0) is) ∙ e
  carries_own st w told is there (suc k) x e = let none_there : slice_get w.carried (suc k) ≡ slice_get {X = Told} (told ∷ []) (suc k) = ap (λ xs. slice_get xs (suc k)) is in cc

  -- how many words there are
  pub size_is : length words ≡ objects_end code s + 8 * length code.locks + 2
  size_is = h.size ∙ length-first_words code s

  -- what was known of objects stays so, where their words go on
  pub notes_kept : (notes : List Note) (words1 : List ℕ) → HaveGoneOn code s notes words → ((k now now1 : ℕ) → cells_of code s ≤ k → k < objects_end code s → slice_get words k ≡ Some now → slice_get words1 k ≡ Some now1 → HasGoneOn now now1) → HaveGoneOn code s notes words1
  notes_kept notes words1 have goes k n now there low high is =
      let size = size_is in
      let before = slice_get_inside words n.word (omega (arith, size, high)) in
      gone_on n.value before.0 now (have k n before.0 there low high before.1) (goes n.word before.0 now low high before.1 is)

  same_departure : (p x d d1 : ℕ) → p < length words → departure_place code s ≢ p → slice_get words (departure_place code s) ≡ Some d → slice_get (slice_set words p x) (departure_place code s) ≡ Some d1 → d1 ≡ d
  same_departure p x d d1 lt ne e f = same_Some d1 d (sym f ∙ slice_get-set_other words p (departure_place code s) x ne ∙ e)

  -- no word changes, and the view has the same threads
  pub still_keeps : (v1 : SeatView) → v1.code ≡ v.code → v1.setup ≡ v.setup → v1.from ≡ v.from → v1.carried ≡ v.carried → v1.positions ≡ v.positions → HaveGoneOn code s v1.notes words → ((d : ℕ) → slice_get words (departure_place code s) ≡ Some d → d ≤ v1.met) → Keeps code s words words views id v v1 h
  still_keeps v1 code_is setup_is from_is carried_is positions_is notes met = record {
    state = h.state;
    reached = h.reached;
    others = h.others;
    words_are = h.words_are;
    size = refl;
    code_is = code_is;
    setup_is = setup_is;
    from_is = from_is;
    alone = ap length carried_is ∙ one;
    carries = λ k told e. ap (λ n. slice_get h.state.threads (n + k)) from_is ∙ seen.carries k told (ap (λ xs. slice_get xs k) (sym carried_is) ∙ e);
    elsewhere = λ k ne. refl;
    goes_on = λ k now now1 low high e e1. subst (HasGoneOn now) (same_Some now now1 (sym e ∙ e1)) (gone_nowhere now);
    notes = notes;
    met = met;
    falls = λ d d1 e f. let same : d1 ≡ d = same_Some d1 d (sym f ∙ e) in omega (arith, same);
    departed = λ d e. put_kept views id v v1 d at (λ x c. subst (λ ps. Contains ps x) (sym positions_is) c) (h.departed d e);
  }

  module _ (runnable : IsRunnable code) (limits : IsWithinLimits s) where
    pub state_length : length h.state.words ≡ objects_end code s
    state_length = (kept code s runnable limits h.state h.reached).words

    -- a word of the state stands at the same place on the table
    pub word_in_state : (p w : ℕ) → p < objects_end code s → slice_get words p ≡ Some w → slice_get h.state.words p ≡ Some w
    word_in_state p w lt e =
        let len = state_length in
        sym (slice_get-append_left h.state.words h.others p (omega (arith, len, lt))) ∙ ap (λ ws. slice_get ws p) (sym h.words_are) ∙ e

    -- steps of the seat's thread of which the last one changes a word of the machine
    pub label_keeps : (p x : ℕ) (now : Told) → p < objects_end code s → GoesTo code s h.state v.from (slice_set h.state.words p x) now → ((old : ℕ) → cells_of code s ≤ p → slice_get words p ≡ Some old → HasGoneOn old x) → Keeps code s words (slice_set words p x) views id v (with_thread v now) h
    label_keeps p x now lt g goes =
        let size = size_is in
        let len = state_length in
        let inside : p < length words = omega (arith, size, lt) in
        let apart : departure_place code s ≢ p = λ e. omega (arith, e, lt) in
        let goes_on : (k old new : ℕ) → cells_of code s ≤ k → k < objects_end code s → slice_get words k ≡ Some old → slice_get (slice_set words p x) k ≡ Some new → HasGoneOn old new =
        λ k old new low high e e1. ⊎_elim
        (λ q. subst (HasGoneOn old) q.1 (goes old (omega (arith, q.0, low)) (ap (slice_get words) (sym q.0) ∙ e)))
        (λ q. subst (HasGoneOn old) (same_Some old new (sym e ∙ q.1)) (gone_nowhere old))
        (set_cases words p k x new inside e1) in
        record {
          state = g.state;
          reached = g.reached;
          others = h.others;
          words_are = ap (λ ws. slice_set ws p x) h.words_are ∙ set-append_left h.state.words h.others p x (omega (arith, len, lt)) ∙ ap (λ ws. ws ++ h.others) (sym g.words);
          size = length-set words p x;
          code_is = refl;
          setup_is = refl;
          from_is = refl;
          alone = refl;
          carries = carries_own g.state (with_thread v now) now refl g.here;
          elsewhere = g.others;
          goes_on = goes_on;
          notes = notes_kept v.notes (slice_set words p x) seen.notes goes_on;
          met = λ d e.
              let before = slice_get_inside words (departure_place code s) (omega (arith, size)) in
              let same = same_departure p x before.0 d inside apart before.1 e in
              let m = seen.met before.0 before.1 in
              omega (arith, same, m);
          falls = λ d d1 e f. let same = same_departure p x d d1 inside apart e f in omega (arith, same);
          departed = λ d e.
              let before = slice_get_inside words (departure_place code s) (omega (arith, size)) in
              let same = same_departure p x before.0 d inside apart before.1 e in
              put_kept views id v (with_thread v now) d at (λ y c. c) (subst (IsPut views) (sym same) (h.departed before.0 before.1));
        }

    -- a word that is none of the machine changes, and the view has the same threads, and of the machine's words no new notes
    pub beside_keeps : (p x : ℕ) (v1 : SeatView) → objects_end code s ≤ p → p < length words → v1.code ≡ v.code → v1.setup ≡ v.setup → v1.from ≡ v.from → v1.carried ≡ v.carried → ((k : ℕ) (n : Note) → slice_get v1.notes k ≡ Some n → n.word < objects_end code s → (m : ℕ) × (slice_get v.notes m ≡ Some n)) → ((d : ℕ) → slice_get (slice_set words p x) (departure_place code s) ≡ Some d → d ≤ v1.met) → ((d d1 : ℕ) → slice_get words (departure_place code s) ≡ Some d → slice_get (slice_set words p x) (departure_place code s) ≡ Some d1 → d1 ≤ d) → ((d : ℕ) → slice_get (slice_set words p x) (departure_place code s) ≡ Some d → IsPut (slice_set views id v1) d) → Keeps code s words (slice_set words p x) views id v v1 h
    beside_keeps p x v1 high inside code_is setup_is from_is carried_is notes_of met falls departed =
        let len = state_length in
        let goes_on : (k old new : ℕ) → cells_of code s ≤ k → k < objects_end code s → slice_get words k ≡ Some old → slice_get (slice_set words p x) k ≡ Some new → HasGoneOn old new =
        λ k old new low lt e e1.
        let same = sym (slice_get-set_other words p k x (λ q. omega (arith, q, lt, high))) ∙ e1 in
        subst (HasGoneOn old) (same_Some old new (sym e ∙ same)) (gone_nowhere old) in
        record {
          state = h.state;
          reached = h.reached;
          others = slice_set h.others (p - objects_end code s) x;
          words_are = ap (λ ws. slice_set ws p x) h.words_are ∙ set-append_right h.state.words h.others (objects_end code s) p x len high;
          size = length-set words p x;
          code_is = code_is;
          setup_is = setup_is;
          from_is = from_is;
          alone = ap length carried_is ∙ one;
          carries = λ k told e. ap (λ n. slice_get h.state.threads (n + k)) from_is ∙ seen.carries k told (ap (λ xs. slice_get xs k) (sym carried_is) ∙ e);
          elsewhere = λ k ne. refl;
          goes_on = goes_on;
          notes = λ k n now e low high_end there.
              let was = notes_of k n e high_end in
              notes_kept v.notes (slice_set words p x) seen.notes goes_on was.0 n now was.1 low high_end there;
          met = met;
          falls = falls;
          departed = departed;
        }
