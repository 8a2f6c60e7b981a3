-- Each kind of step is one that the rule of the table allows, and tells what it says.
use Rattle.std.proofs.Common.{◌≡◌, ◌≢◌, ℕ, zero, suc, ◌+◌, ◌*◌, ◌<◌, ◌≤◌, true, false, List, ◌∷◌, length, Some, refl, sym, ap, subst, ◌∙◌, ⊎_elim, arith, eqb, min}
use Rattle.std.specs.Prelude.{slice_get, slice_set, slice_index, Contains}
use Rattle.std.proofs.lemmas.Bool.{cases_eq, cases_order}
use Rattle.std.proofs.lemmas.List.{set-get_or}
use Rattle.std.proofs.lemmas.Option.{slice_get-get_or, same_Some, slice_get_within, get_or_from_slice_get}
use Rattle.std.proofs.Math.Nat.{min-le_left, le-min, le_trans}
use mathlib.Core.Option.{some, none}
use lib.ListN.{get_elem?}
use prog.Atomic.{either}
use Rattle.atomic_table.specs.Table.{step, Allows, keeps, stepped, Act, Valid, carried_after}
use Rattle.atomic_table.proofs.Lists.{exchanged}
use Rattle.sync_objects.specs.Advance.{advanced, Advances}
use Rattle.sync_objects.specs.Setup.{SetupView, IsWithinLimits}
use Rattle.sync_objects.specs.Words.{number_of}
use Rattle.sync_objects.specs.declared.object.ObjId.{ObjId}
use Rattle.sync_objects.proofs.Soundness.{number_rises}
use Rattle.word_semantics.specs.declared.event.Action.{Action}
use Rattle.word_semantics.specs.declared.event.Action.TheVariants as action
use Rattle.flow_code.specs.declared.code.Code.{Code}
use Rattle.flow_code.specs.Settle.{IsRunnable, next}
use Rattle.core_run.specs.Machine.{Told}
use Rattle.core_run.specs.Words.{cells_of, has_object, place_of}
use Rattle.core_run.proofs.Beginnings.{start_word_at, length-start_words}
use Rattle.core_run.proofs.Places.{place_past}
use Rattle.rr_base.proofs.Lists.{slice_get-set_other, slice_get-set_within}
use Rattle.shared_cells.specs.Views.{Note, SeatView, with_thread, looked, missed, departing, lowered}
use Rattle.shared_cells.specs.Threads.{own, pending, after_marks, AreMarks, IsNext, IsDueIn, after_load, after_store, after_operation}
use Rattle.shared_cells.specs.Words.{objects_end, departure_place, HasGoneOn, HaveGoneOn}
use Rattle.shared_cells.specs.Rule.{Knowledge, IsPut, Shows, HoldsDense}
use Rattle.shared_cells.specs.Plays.{Mine, LoadsAt, StoresAt, ExchangesAt, LooksAt, DepartsAt, Lowers, PutsAt, Stays}
use Rattle.shared_cells.specs.declared.asked.Asked.{Asked}
use Rattle.shared_cells.proofs.ThreadSteps.{GoesTo, goes_nowhere, goes_marks, goes_load, goes_store, goes_operation}
use Rattle.shared_cells.proofs.Keeping.{gone_nowhere, shows_kept}
use Rattle.shared_cells.proofs.Moves.{seen, own_there, carries_own, size_is, still_keeps, word_in_state, label_keeps, beside_keeps, put_kept, put_lowered}

-- what the table of a view's code and setup is told
abbrev pub known_of : SeatView → Knowledge
known_of v = record { code = v.code; setup = v.setup }

-- ---- how many marks come before an access

module _ (code : Code) (s : SetupView) (t : ℕ) (told : Told) where
  -- before the last of some marks comes a mark
  marks_below : (m k : ℕ) → AreMarks code s t m told → k < m → next code s t (after_marks code s t k told).thread ≡ action.Mark
  marks_below zero k h lt = absurd (omega (arith, lt))
  marks_below (suc m) k h lt = ⊎_elim
      (λ e. subst (λ n. next code s t (after_marks code s t n told).thread ≡ action.Mark) (sym e) h.1)
      (λ ne. marks_below m k h.0 (omega (arith, lt, ne)))
      (cases_eq k m)

  -- marks after which something else comes are all of them
  same_marks : (n m : ℕ) (a b : Action) → (a ≡ action.Mark → ⊥) → (b ≡ action.Mark → ⊥) → AreMarks code s t n told → next code s t (after_marks code s t n told).thread ≡ a → AreMarks code s t m told → next code s t (after_marks code s t m told).thread ≡ b → n ≡ m
  same_marks n m a b no_a no_b hn en hm em = ⊎_elim
      (λ e. e)
      (λ o. ⊎_elim
      (λ lt. absurd (no_a (sym en ∙ marks_below m n hm lt)))
      (λ lt. absurd (no_b (sym em ∙ marks_below n m hn lt)))
      o)
      (cases_order n m)

same_count : (v : SeatView) (n m : ℕ) (a b : Action) → (a ≡ action.Mark → ⊥) → (b ≡ action.Mark → ⊥) → IsNext v n a → IsNext v m b → n ≡ m
same_count v n m a b no_a no_b h k = same_marks v.code v.setup v.from (own v) n m a b no_a no_b h.marks h.comes k.marks k.comes

load_is_no_mark : (c : ℕ) → action.Load c ≡ action.Mark → ⊥
load_is_no_mark c e = cc

store_is_no_mark : (c w : ℕ) → action.Store c w ≡ action.Mark → ⊥
store_is_no_mark c w e = cc

-- an object's word is one of the machine, after those of cells
pub object_place : (code : Code) (s : SetupView) (obj : ObjId) → IsWithinLimits s → has_object code s obj ≡ true → (cells_of code s ≤ place_of (cells_of code s) obj) × (place_of (cells_of code s) obj < objects_end code s)
object_place code s obj limits has = (place_past (cells_of code s) obj, slice_get_within _ _ _ (start_word_at code s obj limits has))

pub cell_within : (code : Code) (s : SetupView) (c : ℕ) → c < cells_of code s → c < objects_end code s
cell_within code s c lt = let len = length-start_words code s in omega (arith, len, lt)

module _ (v : SeatView) (xs : List (ℕ × Asked)) (slots id : ℕ) (one : length v.carried ≡ 1) where
  abbrev me : Mine
  me = (v, xs)

  module _ (words : List ℕ) (views : List SeatView) (h : Shows v.code v.setup words views) (at : get_elem? views id ≡ some v) where
    -- the seat's thread with its marks made
    after_its_marks : (n : ℕ) → AreMarks v.code v.setup v.from n (own v) → GoesTo v.code v.setup h.state v.from h.state.words (pending v n)
    after_its_marks n marks = goes_marks v.code v.setup n h.state v.from h.state.words (own v) (goes_nowhere v.code v.setup h.state v.from (own v) h.reached (own_there v.code v.setup words views id v h at one)) marks

    -- one more note, of a word as it is
    note_added : (n : Note) → n.value ≡ slice_index words n.word → HaveGoneOn v.code v.setup (n ∷ v.notes) words
    note_added n is zero m now e low high there =
        let same : n ≡ m = same_Some n m e in
        let now_is : slice_index words m.word ≡ now = get_or_from_slice_get words m.word now 0 there in
        let value_is : m.value ≡ now = subst (λ (z : Note). z.value ≡ slice_index words z.word) same is ∙ now_is in
        subst (HasGoneOn m.value) value_is (gone_nowhere m.value)
    note_added n is (suc k) m now e low high there = (seen v.code v.setup words views id v h at one).notes k m now e low high there

    -- nothing changes
    stays : (p : ℕ) (v1 : SeatView) → Shows v.code v.setup words (slice_set views id v1) → Shows v.code v.setup (slice_set words p (slice_index words p)) (slice_set views id v1)
    stays p v1 k = subst (λ ws. Shows v.code v.setup ws (slice_set views id v1)) (sym (set-get_or words p 0)) k

  module _ (runnable : IsRunnable v.code) (limits : IsWithinLimits v.setup) where
    pub load_allowed : (c n : ℕ) → IsNext v n (action.Load c) → c < cells_of v.code v.setup → Allows (HoldsDense (known_of v)) slots id me c (λ w. w) (λ found after. LoadsAt c me found after)
    load_allowed c n comes lt = λ s h len at fits.
        let code = v.code in
        let setup = v.setup in
        let w = slice_index s.words c in
        let inside : c < objects_end code setup = cell_within code setup c lt in
        let size = size_is code setup s.words s.views id v h at one in
        let there = slice_get-get_or s.words c 0 (omega (arith, size, inside)) in
        let in_state = word_in_state code setup s.words s.views id v h at one runnable limits c w inside there in
        let g = goes_load code setup h.state v.from h.state.words (pending v n) (after_its_marks s.words s.views h at n comes.marks) c w comes.comes lt in_state in
        let now = after_load code setup v.from (pending v n) c w in
        let same : slice_set h.state.words c w ≡ h.state.words = Rattle.rr_base.proofs.Lists.slice_set-get h.state.words c w in_state in
        let k = label_keeps code setup s.words s.views id v h at one runnable limits c w now inside (subst (λ ws. GoesTo code setup h.state v.from ws now) (sym same) g) (λ old low e. subst (HasGoneOn old) (same_Some old w (sym e ∙ there)) (gone_nowhere old)) in (
          with_thread v now,
          keeps,
          tt,
          shows_kept code setup s.words (slice_set s.words c w) s.views id v (with_thread v now) h at one k,
          record {
            slots = refl;
            view = λ m other. ap (λ z. with_thread v (after_load code setup v.from (pending v z) c w)) (same_count v n m (action.Load c) (action.Load c) (load_is_no_mark c) (load_is_no_mark c) comes other);
            reached = (g.state, g.reached, carries_own code setup s.words s.views id v h at one g.state (with_thread v now) now refl g.here);
          },
        )

    pub store_allowed : (c w n : ℕ) → IsNext v n (action.Store c w) → c < cells_of v.code v.setup → Allows (HoldsDense (known_of v)) slots id me c (λ _. w) (λ _ after. StoresAt w c me w after)
    store_allowed c w n comes lt = λ s h len at fits.
        let code = v.code in
        let setup = v.setup in
        let old = slice_index s.words c in
        let inside : c < objects_end code setup = cell_within code setup c lt in
        let size = size_is code setup s.words s.views id v h at one in
        let there = slice_get-get_or s.words c 0 (omega (arith, size, inside)) in
        let in_state = word_in_state code setup s.words s.views id v h at one runnable limits c old inside there in
        let g = goes_store code setup h.state v.from h.state.words (pending v n) (after_its_marks s.words s.views h at n comes.marks) c w old comes.comes lt in_state in
        let now = after_store code setup v.from (pending v n) c w in
        let k = label_keeps code setup s.words s.views id v h at one runnable limits c w now inside g (λ was low e. absurd (omega (arith, low, lt))) in (
          with_thread v now,
          keeps,
          tt,
          shows_kept code setup s.words (slice_set s.words c w) s.views id v (with_thread v now) h at one k,
          record {
            slots = refl;
            view = λ m other. ap (λ z. with_thread v (after_store code setup v.from (pending v z) c w)) (same_count v n m (action.Store c w) (action.Store c w) (store_is_no_mark c w) (store_is_no_mark c w) comes other);
            reached = (g.state, g.reached, carries_own code setup s.words s.views id v h at one g.state (with_thread v now) now refl g.here);
          },
        )

    module _ (it : Asked) (place seen_word new : ℕ) (has : has_object v.code v.setup it.obj ≡ true) (place_is : place ≡ place_of (cells_of v.code v.setup) it.obj) (due : IsDueIn v it.marks it.op it.obj) (moves : advanced it.op v.from seen_word ≡ Advances new it.answer) where
      raised : HasGoneOn seen_word new
      raised =
          let up = number_rises it.op v.from seen_word new it.answer moves in
          record { number = omega (arith, up); same = λ e. absurd (omega (arith, up, e)) }

      pub exchange_allowed : Allows (HoldsDense (known_of v)) slots id me place (λ w. either (eqb w seen_word) new w) (λ found after. ExchangesAt it seen_word place me found after)
      exchange_allowed = λ s h len at fits.
          exchanged (slice_index s.words place) seen_word new
          (λ x. (w : SeatView) × (b : Act Asked) × Valid s.homes xs b × HoldsDense (known_of v) (stepped s place x id xs w b) × ExchangesAt it seen_word place me (slice_index s.words place) (w, carried_after xs b))
          (λ hit.
          let code = v.code in
          let setup = v.setup in
          let spot : (cells_of code setup ≤ place) × (place < objects_end code setup) = subst (λ p. (cells_of code setup ≤ p) × (p < objects_end code setup)) (sym place_is) (object_place code setup it.obj limits has) in
          let following = spot.0 in
          let inside = spot.1 in
          let size = size_is code setup s.words s.views id v h at one in
          let there : slice_get s.words place ≡ Some seen_word = slice_get-get_or s.words place 0 (omega (arith, size, inside)) ∙ ap Some hit in
          let in_state = word_in_state code setup s.words s.views id v h at one runnable limits place seen_word inside there in
          let before = after_its_marks s.words s.views h at it.marks due.marks in
          let now = after_operation code setup v.from (pending v it.marks) it.op it.obj it.answer (number_of seen_word) in
          let made = goes_operation code setup h.state v.from h.state.words (pending v it.marks) before it.op it.obj seen_word new it.answer has (ap (slice_get h.state.words) (sym place_is) ∙ in_state) moves due.due in
          let g = subst (λ p. GoesTo code setup h.state v.from (slice_set h.state.words p new) now) (sym place_is) made in
          let k = label_keeps code setup s.words s.views id v h at one runnable limits place new now inside g (λ old low e. subst (λ z. HasGoneOn z new) (same_Some seen_word old (sym there ∙ e)) raised) in (
            with_thread v now,
            keeps,
            tt,
            shows_kept code setup s.words (slice_set s.words place new) s.views id v (with_thread v now) h at one k,
            record {
              slots = refl;
              done = λ e. record {
                view = refl;
                reached = (g.state, g.reached, carries_own code setup s.words s.views id v h at one g.state (with_thread v now) now refl g.here);
                state = before.state;
                before = before.reached;
                thread = before.here;
                word = ap (λ ws. slice_get ws place) before.words ∙ in_state;
              };
              other = λ ne. absurd (ne hit);
            },
          ))
          (λ miss.
          let code = v.code in
          let setup = v.setup in
          let found = slice_index s.words place in
          let was = seen code setup s.words s.views id v h at one in
          let k = still_keeps code setup s.words s.views id v h at one (missed v place found) refl refl refl refl refl (note_added s.words s.views h at (record { failed = true; word = place; value = found }) refl) was.met in (
            missed v place found,
            keeps,
            tt,
            stays s.words s.views h at place (missed v place found) (shows_kept code setup s.words s.words s.views id v (missed v place found) h at one k),
            record {
              slots = refl;
              done = λ e. absurd (miss e);
              other = λ ne. refl;
            },
          ))

    -- a look at a word of the table
    pub look_allowed : (p : ℕ) → Allows (HoldsDense (known_of v)) slots id me p (λ w. w) (λ found after. LooksAt p me found after)
    look_allowed p = λ s h len at fits.
        let code = v.code in
        let setup = v.setup in
        let found = slice_index s.words p in
        let was = seen code setup s.words s.views id v h at one in
        let size = size_is code setup s.words s.views id v h at one in
        let k = still_keeps code setup s.words s.views id v h at one (looked v p found) refl refl refl refl refl (note_added s.words s.views h at (record { failed = false; word = p; value = found }) refl) was.met in
        let there : p < objects_end code setup → slice_get s.words p ≡ Some found = λ lt. slice_get-get_or s.words p 0 (omega (arith, size, lt)) in (
          looked v p found,
          keeps,
          tt,
          stays s.words s.views h at p (looked v p found) (shows_kept code setup s.words s.words s.views id v (looked v p found) h at one k),
          record {
            slots = refl;
            view = refl;
            state = λ low lt. (h.state, h.reached, was.carries, word_in_state code setup s.words s.views id v h at one runnable limits p found lt (there lt));
            later = λ low lt i n e is. was.notes i n found e (subst (λ z. cells_of code setup ≤ z) (sym is) low) (subst (λ z. z < objects_end code setup) (sym is) lt) (ap (slice_get s.words) is ∙ there lt);
          },
        )

    -- a look at the departure word
    pub depart_allowed : Allows (HoldsDense (known_of v)) slots id me (departure_place v.code v.setup) (λ w. w) (λ found after. DepartsAt (departure_place v.code v.setup) me found after)
    depart_allowed = λ s h len at fits.
        let code = v.code in
        let setup = v.setup in
        let p = departure_place code setup in
        let found = slice_index s.words p in
        let was = seen code setup s.words s.views id v h at one in
        let size = size_is code setup s.words s.views id v h at one in
        let there : slice_get s.words p ≡ Some found = slice_get-get_or s.words p 0 (omega (arith, size)) in
        let k = still_keeps code setup s.words s.views id v h at one (departing v p found) refl refl refl refl refl (note_added s.words s.views h at (record { failed = false; word = p; value = found }) refl)
        (λ d e. le-min (was.met d e) (let same : found ≡ d = same_Some found d (sym there ∙ e) in omega (arith, same))) in (
          departing v p found,
          keeps,
          tt,
          stays s.words s.views h at p (departing v p found) (shows_kept code setup s.words s.words s.views id v (departing v p found) h at one k),
          record { slots = refl; view = refl; below = was.met found there; low = h.low found there },
        )

    module _ (p x : ℕ) (high : objects_end v.code v.setup ≤ p) (ne : p ≢ departure_place v.code v.setup) (lt : p < objects_end v.code v.setup + 8 * length v.code.locks + 2) where
      -- a store into a want word or the memory word; the view has the same threads and positions, and of the machine's words no
      -- new notes
      set_beside : (v1 : SeatView) → v1.code ≡ v.code → v1.setup ≡ v.setup → v1.from ≡ v.from → v1.carried ≡ v.carried → v1.positions ≡ v.positions → v1.met ≡ v.met → ((k : ℕ) (n : Note) → slice_get v1.notes k ≡ Some n → n.word < objects_end v.code v.setup → (m : ℕ) × (slice_get v.notes m ≡ Some n)) → (words : List ℕ) (views : List SeatView) → Shows v.code v.setup words views → get_elem? views id ≡ some v → Shows v.code v.setup (slice_set words p x) (slice_set views id v1)
      set_beside v1 code_is setup_is from_is carried_is positions_are met_is notes_of words views h at =
          let code = v.code in
          let setup = v.setup in
          let was = seen code setup words views id v h at one in
          let size = size_is code setup words views id v h at one in
          let same : (d : ℕ) → slice_get (slice_set words p x) (departure_place code setup) ≡ Some d → slice_get words (departure_place code setup) ≡ Some d =
          λ d e. sym (slice_get-set_other words p (departure_place code setup) x (λ q. ne (sym q))) ∙ e in
          shows_kept code setup words (slice_set words p x) views id v v1 h at one
          (beside_keeps code setup words views id v h at one runnable limits p x v1 high (omega (arith, size, lt)) code_is setup_is from_is carried_is notes_of
          (λ d e. subst (λ m. d ≤ m) (sym met_is) (was.met d (same d e)))
          (λ d d1 e f. (let q : d1 ≡ d = same_Some d1 d (sym (same d1 f) ∙ e) in omega (arith, q)))
          (λ d e. put_kept views id v v1 d at (λ y c. subst (λ ps. Contains ps y) (sym positions_are) c) (h.departed d (same d e))))

      -- one that tells nothing
      pub stay_allowed : Allows (HoldsDense (known_of v)) slots id me p (λ _. x) (λ _ after. Stays (step slots p x 0 none) me x after)
      stay_allowed = λ s h len at fits.
          (v, keeps, tt, set_beside v refl refl refl refl refl refl (λ k n e low. (k, e)) s.words s.views h at, record { slots = refl; view = refl })

      -- only the first note is new, which is of the word itself
      older_note : (k : ℕ) (n : Note) → slice_get (looked v p x).notes k ≡ Some n → n.word < objects_end v.code v.setup → (m : ℕ) × (slice_get v.notes m ≡ Some n)
      older_note zero n e low = let here : p ≡ n.word = ap (λ (z : Note). z.word) (same_Some (record { failed = false; word = p; value = x }) n e) in absurd (omega (arith, here, low, high))
      older_note (suc k) n e low = (k, e)

      -- one that the seat takes note of
      pub put_allowed : Allows (HoldsDense (known_of v)) slots id me p (λ _. x) (λ _ after. PutsAt x p me x after)
      put_allowed = λ s h len at fits.
          (looked v p x, keeps, tt, set_beside (looked v p x) refl refl refl refl refl refl older_note s.words s.views h at, record { slots = refl; view = refl })

    -- the departure word is lowered to a position, if that is less
    pub lower_allowed : (position : ℕ) → Allows (HoldsDense (known_of v)) slots id me (departure_place v.code v.setup) (λ w. min w position) (λ found after. Lowers (step slots (departure_place v.code v.setup) position 0 none) me found after)
    lower_allowed position = λ s h len at fits.
        let code = v.code in
        let setup = v.setup in
        let p = departure_place code setup in
        let found = slice_index s.words p in
        let was = seen code setup s.words s.views id v h at one in
        let size = size_is code setup s.words s.views id v h at one in
        let inside : p < length s.words = omega (arith, size) in
        let there : slice_get s.words p ≡ Some found = slice_get-get_or s.words p 0 inside in
        let x = min found position in
        let v1 = lowered v position found in
        let is : (d : ℕ) → slice_get (slice_set s.words p x) p ≡ Some d → x ≡ d = λ d e. same_Some x d (sym (slice_get-set_within s.words p x inside) ∙ e) in
        let k = beside_keeps code setup s.words s.views id v h at one runnable limits p x v1 (omega arith) inside refl refl refl refl (λ k n e low. (k, e))
        (λ d e. subst (λ z. z ≤ v1.met) (is d e) (le-min (le_trans (min-le_left found position) (was.met found there)) (omega arith)))
        (λ d d1 e f. (let q : found ≡ d = same_Some found d (sym there ∙ e) in subst (λ z. z ≤ d) (is d1 f) (subst (λ z. x ≤ z) q (min-le_left found position))))
        (λ d e. subst (IsPut (slice_set s.views id v1)) (is d e) (put_lowered s.views id v position found at (h.departed found there))) in
        (v1, keeps, tt, shows_kept code setup s.words (slice_set s.words p x) s.views id v v1 h at one k, record { slots = refl; view = refl; below = was.met found there; low = h.low found there })
