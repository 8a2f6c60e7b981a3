-- The words of a state without weak locks follow those with them.
use Rattle.std.proofs.Common.{◌≡◌, ℕ, ◌+◌, ◌<◌, ◌^◌, Bool, true, false, ℤ, pos, List, Some, refl, sym, ap, subst, ◌∙◌, arith, nat_eq}
use Rattle.std.specs.Prelude.{slice_get, slice_set}
use Rattle.std.proofs.lemmas.Bool.{eqb-true, true≢false}
use Rattle.std.proofs.lemmas.Option.{same_Some}
use Rattle.rr_base.proofs.Lists.{slice_get-set_other, slice_get-set_same, slice_get-append_left}
use Rattle.sync_objects.specs.Advance.{Advances, advanced}
use Rattle.sync_objects.specs.Names.{name_of, kind_of, Fits}
use Rattle.sync_objects.specs.Packing.{packed, shown, slot_of, halt_of}
use Rattle.sync_objects.specs.Setup.{SetupView, IsWithinLimits}
use Rattle.sync_objects.specs.Start.{packed_start, start_word}
use Rattle.sync_objects.specs.States.{SlotState, Idle, Closed, Shut, Started}
use Rattle.sync_objects.specs.Table.{Moves, first_row, rows}
use Rattle.sync_objects.specs.Words.{number_of, word_of}
use Rattle.sync_objects.specs.declared.kind.ObjKind.TheVariants as kind
use Rattle.sync_objects.specs.declared.object.ObjId.{ObjId}
use Rattle.sync_objects.specs.declared.object.ObjId.TheVariants as object
use Rattle.sync_objects.specs.declared.operation.Op.{Op}
use Rattle.sync_objects.specs.declared.operation.Op.TheVariants as op
use Rattle.sync_objects.proofs.Facts.{allowed}
use Rattle.sync_objects.proofs.Packings.{state_of-word_of}
use Rattle.sync_objects.proofs.RowsOf.{close_rows}
use Rattle.sync_objects.proofs.Soundness.{advanced_inverse}
use Rattle.sync_objects.proofs.Starts.{starts-Halt}
use Rattle.flow_code.specs.declared.code.Code.{Code}
use Rattle.weak_code.specs.Stripped.{strip}
use Rattle.core_run.specs.Words.{cells_of, has_object, place_of, start_cells, start_objects, start_words}
use Rattle.core_run.proofs.Beginnings.{length-start_cells, start_word_at}
use Rattle.core_run.proofs.Places.{place_past, place_apart}
use Rattle.run_theory.specs.Same.{same_object}
use Rattle.run_theory.proofs.SameEntries.{same_object-true, same_object-refl}
use Rattle.lowering_simulation.proofs.NoStripes.{no_lock}
use Rattle.erased_states.specs.States.{IsPlainSlot, same, closed, shut, IsPlainWord}

-- ---- what an operation does to both words of an object

shown_slot : (n k : ℕ) → k < 2 ^ 32 → shown kind.Slot (word_of n k) ≡ slot_of k
shown_slot n k lt = ap slot_of (state_of-word_of n k lt)

-- the operation is allowed on the plain word too, with the same answer
pub record AlsoMoves (o : Op) (t : ℕ) (obj : ObjId) (new plain : ℕ) (answer : ℤ) : Type 0 where
  pub word : ℕ
  pub moves : advanced o t plain ≡ Advances word answer
  pub is_plain : IsPlainWord obj new word

module _ (t old new : ℕ) (answer : ℤ) where
  abbrev SlotMoves : Op → ℕ → Type 0
  SlotMoves o plain = (word : ℕ) × (advanced o t plain ≡ Advances word answer) × IsPlainSlot new word

  same_slot : (o : Op) (plain : ℕ) → advanced o t old ≡ Advances new answer → old ≡ plain → SlotMoves o plain
  same_slot o plain row e = (new, ap (advanced o t) (sym e) ∙ row, same refl)

  -- a closed slot can be started and joined, as an idle one
  closed_start : (f plain : ℕ) → advanced (op.Start f) t old ≡ Advances new answer → shown kind.Slot old ≡ Closed → shown kind.Slot plain ≡ Idle → SlotMoves (op.Start f) plain
  closed_start f plain row was idle =
      let i = advanced_inverse (op.Start f) t old new answer row in
      let moves : Moves Shut (pos 0) ≡ Moves i.0 answer = ap (first_row (rows (op.Start f) t)) (sym was) ∙ i.1 in
      let state : Shut ≡ i.0 = cc in
      let answers : pos 0 ≡ answer = cc in
      let new_is : new ≡ word_of (number_of old + 1) (packed kind.Slot Shut) = i.2 ∙ ap (λ x. word_of (number_of old + 1) (packed kind.Slot x)) (sym state) in
      let go = allowed (op.Start f) t plain (Started f) (pos 0) (ap (first_row (rows (op.Start f) t)) idle) in
      (word_of (number_of plain + 1) (packed kind.Slot (Started f)), go ∙ ap (Advances (word_of (number_of plain + 1) (packed kind.Slot (Started f)))) answers, shut (ap (shown kind.Slot) new_is ∙ shown_slot (number_of old + 1) 5 (omega arith)))

  closed_join : (plain : ℕ) → advanced op.Join t old ≡ Advances new answer → shown kind.Slot old ≡ Closed → shown kind.Slot plain ≡ Idle → SlotMoves op.Join plain
  closed_join plain row was idle =
      let i = advanced_inverse op.Join t old new answer row in
      let moves = ap (first_row (rows op.Join t)) (sym was) ∙ i.1 in
      let state : Closed ≡ i.0 = cc in
      let new_is : new ≡ word_of (number_of old + 1) (packed kind.Slot Closed) = i.2 ∙ ap (λ x. word_of (number_of old + 1) (packed kind.Slot x)) (sym state) in
      let idle_row : first_row (rows op.Join t) (shown kind.Slot plain) ≡ Moves Idle answer = ap (first_row (rows op.Join t)) idle ∙ cc in
      (word_of (number_of plain + 1) (packed kind.Slot Idle), allowed op.Join t plain Idle answer idle_row, closed (ap (shown kind.Slot) new_is ∙ shown_slot (number_of old + 1) 1 (omega arith)) (shown_slot (number_of plain + 1) 0 (omega arith)))

  closed_moves : (o : Op) (plain : ℕ) → kind_of (name_of o) ≡ kind.Slot → advanced o t old ≡ Advances new answer → shown kind.Slot old ≡ Closed → shown kind.Slot plain ≡ Idle → SlotMoves o plain
  closed_moves (op.Start f) plain fits row was idle = closed_start f plain row was idle
  closed_moves op.Join plain fits row was idle = closed_join plain row was idle
  closed_moves op.Begin plain fits row was idle = let none = ap (first_row (rows op.Begin t)) (sym was) ∙ (advanced_inverse op.Begin t old new answer row).1 in cc
  closed_moves op.End plain fits row was idle = let none = ap (first_row (rows op.End t)) (sym was) ∙ (advanced_inverse op.End t old new answer row).1 in cc
  closed_moves op.Close plain fits row was idle = let none = ap (first_row (rows op.Close t)) (sym was) ∙ (advanced_inverse op.Close t old new answer row).1 in cc
  closed_moves o plain fits row was idle = cc

  -- nothing can be made of a shut one
  shut_moves : (o : Op) → kind_of (name_of o) ≡ kind.Slot → advanced o t old ≡ Advances new answer → shown kind.Slot old ≡ Shut → ⊥
  shut_moves (op.Start f) fits row was = let none = ap (first_row (rows (op.Start f) t)) (sym was) ∙ (advanced_inverse (op.Start f) t old new answer row).1 in cc
  shut_moves op.Join fits row was = let none = ap (first_row (rows op.Join t)) (sym was) ∙ (advanced_inverse op.Join t old new answer row).1 in cc
  shut_moves op.Begin fits row was = let none = ap (first_row (rows op.Begin t)) (sym was) ∙ (advanced_inverse op.Begin t old new answer row).1 in cc
  shut_moves op.End fits row was = let none = ap (first_row (rows op.End t)) (sym was) ∙ (advanced_inverse op.End t old new answer row).1 in cc
  shut_moves op.Close fits row was = let none = ap (first_row (rows op.Close t)) (sym was) ∙ (advanced_inverse op.Close t old new answer row).1 in cc
  shut_moves o fits row was = cc

  slot_moves : (o : Op) (plain : ℕ) → kind_of (name_of o) ≡ kind.Slot → advanced o t old ≡ Advances new answer → IsPlainSlot old plain → SlotMoves o plain
  slot_moves o plain fits row (same e) = same_slot o plain row e
  slot_moves o plain fits row (closed a b) = closed_moves o plain fits row a b
  slot_moves o plain fits row (shut a) = absurd (shut_moves o fits row a)

  -- where one slot is closed, the plain one stays idle
  pub closes_slot : (plain : ℕ) → advanced op.Close t old ≡ Advances new answer → IsPlainSlot old plain → IsPlainSlot new plain
  closes_slot plain row h = by h
    where
      new_shows : (x : SlotState) → shown kind.Slot old ≡ x → (x ≡ Idle) × (shown kind.Slot new ≡ Closed)
      new_shows x was =
          let i = advanced_inverse op.Close t old new answer row in
          let r = close_rows t x i.0 answer (ap (first_row (rows op.Close t)) (sym was) ∙ i.1) in
          (r.0, ap (shown kind.Slot) (i.2 ∙ ap (λ y. word_of (number_of old + 1) (packed kind.Slot y)) r.1) ∙ shown_slot (number_of old + 1) 1 (omega arith))

      by : IsPlainSlot old plain → IsPlainSlot new plain
      by (same e) = let n = new_shows (shown kind.Slot old) refl in closed n.1 (ap (shown kind.Slot) (sym e) ∙ n.0)
      by (closed a b) = let n = (new_shows Closed a).0 in cc
      by (shut a) = let n = (new_shows Shut a).0 in cc

  pub also_moves : (o : Op) (obj : ObjId) (plain : ℕ) → Fits (name_of o) obj → (obj ≡ object.Halt → ⊥) → advanced o t old ≡ Advances new answer → IsPlainWord obj old plain → AlsoMoves o t obj new plain answer
  also_moves o (object.Slot k) plain fits other row h = let m = slot_moves o plain fits row h in record { word = m.0; moves = m.1; is_plain = m.2 }
  also_moves o object.Halt plain fits other row h = absurd (other refl)
  also_moves o (object.Mutex c) plain fits other row h = record { word = new; moves = ap (advanced o t) (sym h) ∙ row; is_plain = refl }
  also_moves o (object.Cond c) plain fits other row h = record { word = new; moves = ap (advanced o t) (sym h) ∙ row; is_plain = refl }
  also_moves o (object.Barrier c) plain fits other row h = record { word = new; moves = ap (advanced o t) (sym h) ∙ row; is_plain = refl }
  also_moves o (object.Rw c) plain fits other row h = record { word = new; moves = ap (advanced o t) (sym h) ∙ row; is_plain = refl }
  also_moves o (object.Weak lock k) plain fits other row h = record { word = new; moves = ap (advanced o t) (sym h) ∙ row; is_plain = refl }
  also_moves o object.Threads plain fits other row h = record { word = new; moves = ap (advanced o t) (sym h) ∙ row; is_plain = refl }
  also_moves o object.Input plain fits other row h = record { word = new; moves = ap (advanced o t) (sym h) ∙ row; is_plain = refl }
  also_moves o object.Output plain fits other row h = record { word = new; moves = ap (advanced o t) (sym h) ∙ row; is_plain = refl }

-- ---- the words of all cells and objects

pub eq_is : (m n : ℕ) → m ≡ n → nat_eq m n ≡ true
eq_is m n e = grind (arith, e)

module _ (w : Code) (s : SetupView) (limits : IsWithinLimits s) where
  abbrev place : ObjId → ℕ
  place o = place_of (cells_of w s) o

  pub record SameWords (ws bs : List ℕ) : Type 0 where
    pub cells : (c : ℕ) → c < cells_of w s → slice_get bs c ≡ slice_get ws c
    pub objects : (o : ObjId) (v : ℕ) → has_object (strip w) s o ≡ true → slice_get ws (place_of (cells_of w s) o) ≡ Some v → (u : ℕ) × (slice_get bs (place_of (cells_of w s) o) ≡ Some u) × IsPlainWord o v u

  -- the plain code's objects are those of the other, but for stripes
  pub had : (o : ObjId) → has_object (strip w) s o ≡ true → has_object w s o ≡ true
  had (object.Weak lock k) h = absurd (no_lock (strip w) s refl lock k h)
  had (object.Mutex c) h = h
  had (object.Cond c) h = h
  had (object.Barrier c) h = h
  had (object.Rw c) h = h
  had (object.Slot k) h = h
  had object.Threads h = h
  had object.Halt h = h
  had object.Input h = h
  had object.Output h = h

  -- after a store

  stored_cell : (ws bs : List ℕ) (c v x d : ℕ) (b : Bool) → nat_eq d c ≡ b → c < cells_of w s → d < cells_of w s → slice_get ws c ≡ Some x → SameWords ws bs → slice_get (slice_set bs c v) d ≡ slice_get (slice_set ws c v) d
  stored_cell ws bs c v x d true e lt ld at h =
      let one : d ≡ c = eqb-true d c e in
      ap (slice_get (slice_set bs c v)) one ∙ slice_get-set_same bs c v x (h.cells c lt ∙ at) ∙ sym (slice_get-set_same ws c v x at) ∙ sym (ap (slice_get (slice_set ws c v)) one)
  stored_cell ws bs c v x d false e lt ld at h =
      let other : d ≡ c → ⊥ = λ one. true≢false (sym (eq_is d c one) ∙ e) in
      slice_get-set_other bs c d v other ∙ h.cells d ld ∙ sym (slice_get-set_other ws c d v other)

  pub stored : (ws bs : List ℕ) (c v x : ℕ) → c < cells_of w s → slice_get ws c ≡ Some x → SameWords ws bs → SameWords (slice_set ws c v) (slice_set bs c v)
  stored ws bs c v x lt at h = record {
    cells = λ d ld. stored_cell ws bs c v x d (nat_eq d c) refl lt ld at h;
    objects = λ o u has is.
        let following = place_past (cells_of w s) o in
        let other : place o ≡ c → ⊥ = λ e. absurd (omega (arith, following, lt, e)) in
        let r = h.objects o u has (sym (slice_get-set_other ws c (place o) v other) ∙ is) in
        (r.0, slice_get-set_other bs c (place o) v other ∙ r.1, r.2);
  }

  -- after an operation

  module _ (obj : ObjId) (has_obj : has_object w s obj ≡ true) where
    cell_apart : (c : ℕ) → c < cells_of w s → c ≡ place obj → ⊥
    cell_apart c lt e = let following = place_past (cells_of w s) obj in absurd (omega (arith, following, lt, e))

    object_apart : (o : ObjId) → has_object (strip w) s o ≡ true → same_object o obj ≡ false → place o ≡ place obj → ⊥
    object_apart o has e at = let one = place_apart w s o obj limits (had o has) has_obj at in true≢false (sym (ap (same_object o) (sym one) ∙ same_object-refl o) ∙ e)

    abbrev Shows : List ℕ → ObjId → ℕ → Type 0
    Shows bs o v = (u : ℕ) × (slice_get bs (place_of (cells_of w s) o) ≡ Some u) × IsPlainWord o v u

    -- both words of the object change
    pub both_set : (ws bs : List ℕ) (old before new after : ℕ) → slice_get ws (place_of (cells_of w s) obj) ≡ Some old → slice_get bs (place_of (cells_of w s) obj) ≡ Some before → IsPlainWord obj new after → SameWords ws bs →
        SameWords (slice_set ws (place_of (cells_of w s) obj) new) (slice_set bs (place_of (cells_of w s) obj) after)
    both_set ws bs old before new after at there is h = record {
      cells = λ c lt. slice_get-set_other bs (place obj) c after (cell_apart c lt) ∙ h.cells c lt ∙ sym (slice_get-set_other ws (place obj) c new (cell_apart c lt));
      objects = λ o v has e. by o v has e (same_object o obj) refl;
    }
      where
        by : (o : ObjId) (v : ℕ) → has_object (strip w) s o ≡ true → slice_get (slice_set ws (place obj) new) (place o) ≡ Some v → (b : Bool) → same_object o obj ≡ b → Shows (slice_set bs (place obj) after) o v
        by o v has e true one =
            let o_is = same_object-true o obj one in
            let v_is : new ≡ v = same_Some new v (sym (slice_get-set_same ws (place obj) new old at) ∙ ap (λ z. slice_get (slice_set ws (place obj) new) (place z)) (sym o_is) ∙ e) in
            (after, ap (λ z. slice_get (slice_set bs (place obj) after) (place z)) o_is ∙ slice_get-set_same bs (place obj) after before there, subst (λ z. IsPlainWord z v after) (sym o_is) (subst (λ z. IsPlainWord obj z after) v_is is))
        by o v has e false apart =
            let r = h.objects o v has (sym (slice_get-set_other ws (place obj) (place o) new (object_apart o has apart)) ∙ e) in
            (r.0, slice_get-set_other bs (place obj) (place o) after (object_apart o has apart) ∙ r.1, r.2)

    -- one of them changes
    pub one_set : (ws bs : List ℕ) (old new : ℕ) → slice_get ws (place_of (cells_of w s) obj) ≡ Some old → (has_object (strip w) s obj ≡ true → (u : ℕ) → IsPlainWord obj old u → IsPlainWord obj new u) → SameWords ws bs →
        SameWords (slice_set ws (place_of (cells_of w s) obj) new) bs
    one_set ws bs old new at keeps h = record {
      cells = λ c lt. h.cells c lt ∙ sym (slice_get-set_other ws (place obj) c new (cell_apart c lt));
      objects = λ o v has e. by o v has e (same_object o obj) refl;
    }
      where
        by : (o : ObjId) (v : ℕ) → has_object (strip w) s o ≡ true → slice_get (slice_set ws (place obj) new) (place o) ≡ Some v → (b : Bool) → same_object o obj ≡ b → Shows bs o v
        by o v has e true one =
            let o_is = same_object-true o obj one in
            let v_is : new ≡ v = same_Some new v (sym (slice_get-set_same ws (place obj) new old at) ∙ ap (λ z. slice_get (slice_set ws (place obj) new) (place z)) (sym o_is) ∙ e) in
            let has_it = subst (λ z. has_object (strip w) s z ≡ true) o_is has in
            let r = h.objects obj old has_it at in
            (r.0, ap (λ z. slice_get bs (place z)) o_is ∙ r.1, subst (λ z. IsPlainWord z v r.0) (sym o_is) (subst (λ z. IsPlainWord obj z r.0) v_is (keeps has_it r.0 r.2)))
        by o v has e false apart = h.objects o v has (sym (slice_get-set_other ws (place obj) (place o) new (object_apart o has apart)) ∙ e)

  -- ---- at the start

  starts_plain : (o : ObjId) → IsPlainWord o (start_word o) (start_word o)
  starts_plain (object.Slot k) = same refl
  starts_plain object.Halt = ap halt_of (state_of-word_of 0 (packed_start object.Halt) (omega (arith, starts-Halt)) ∙ starts-Halt)
  starts_plain (object.Mutex c) = refl
  starts_plain (object.Cond c) = refl
  starts_plain (object.Barrier c) = refl
  starts_plain (object.Rw c) = refl
  starts_plain (object.Weak lock k) = refl
  starts_plain object.Threads = refl
  starts_plain object.Input = refl
  starts_plain object.Output = refl

  pub start_same : SameWords (start_words w s) (start_words (strip w) s)
  start_same = record {
    cells = λ c lt.
        let len = length-start_cells w s in
        slice_get-append_left (start_cells w s) (start_objects (strip w) s) c (omega (arith, len, lt)) ∙ sym (slice_get-append_left (start_cells w s) (start_objects w s) c (omega (arith, len, lt)));
    objects = λ o v has at.
        let v_is : start_word o ≡ v = same_Some (start_word o) v (sym (start_word_at w s o limits (had o has)) ∙ at) in
        (start_word o, start_word_at (strip w) s o limits has, subst (λ z. IsPlainWord o z (start_word o)) v_is (starts_plain o));
  }
