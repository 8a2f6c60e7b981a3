-- What a step does to the word of one object: it leaves it as it is, or it is an operation on the object by a row of the table.
use Rattle.std.proofs.Common.{◌≡◌, ◌≢◌, ℕ, ◌<◌, ◌⊎◌, inl, inr, ⊎_elim, true, List, Some, refl, sym, ap, subst, ◌∙◌, ℤ, arith}
use Rattle.std.specs.Prelude.{slice_get, slice_set, slice_index, unwrap_or}
use Rattle.std.proofs.lemmas.Option.{slice_get_within, get_or_from_slice_get, same_Some, unwrap_or-slice_get}
use Rattle.rr_base.proofs.Lists.{slice_get-set_other, slice_get-set_same}
use Rattle.sync_objects.specs.Setup.{SetupView, IsWithinLimits}
use Rattle.sync_objects.specs.Names.{name_of, kind_of, object_kind, Fits}
use Rattle.sync_objects.specs.Packing.{shown}
use Rattle.sync_objects.specs.Sound.{IsSoundWord, IsInRange}
use Rattle.sync_objects.specs.Table.{Moves, first_row, rows}
use Rattle.sync_objects.specs.declared.entry.Noted.{Noted}
use Rattle.sync_objects.specs.declared.object.ObjId.{ObjId}
use Rattle.sync_objects.specs.declared.operation.Op.{Op}
use Rattle.sync_objects.specs.declared.operation.Op.TheVariants as op
use Rattle.sync_objects.proofs.Facts.{moves}
use Rattle.flow_code.specs.declared.code.Code.{Code}
use Rattle.flow_code.specs.Threads.{Thread}
use Rattle.flow_code.specs.Settle.{settled, IsRunnable}
use Rattle.flow_code.proofs.Asked.{own_action}
use Rattle.core_run.specs.Histories.{IsReachable}
use Rattle.core_run.specs.Kept.{IsKept}
use Rattle.core_run.specs.Words.{cells_of, has_object}
use Rattle.core_run.specs.Machine.{Told, machine}
use Rattle.core_run.proofs.Places.{place_past, place_apart}
use Rattle.core_run.proofs.Reached.{kept}
use Rattle.run_theory.specs.Labels.{Label, label_thread}
use Rattle.run_theory.specs.Ordered.{Event, Did, event_of}
use Rattle.run_theory.specs.Steps.{State}
use Rattle.run_theory.proofs.SameEntries.{object_cases}
use Rattle.lock_ownership.specs.Holders.{word_of_object}
use Rattle.lock_ownership.proofs.Stepping.{IsNoOperation, place, Makes, by_itself, by_revoke, by_stop, by_close, IsAccessStep, IsOperationStep, HasStepped}

-- an operation that is made fits its object, and its numbers are in range
pub made_fits : (code : Code) (s : SetupView) (l : Label) (th : Thread) (o : Op) (obj : ObjId) (answer : ℤ) (q : Thread) → IsRunnable code → IsWithinLimits s → Makes code s l th o obj answer q → Fits (name_of o) obj × IsInRange o
made_fits code s l th o obj answer q run limits (by_itself c) = let own = own_action code s (label_thread l) (settled code s (label_thread l) th) o obj run c.comes in (own.fits, own.range limits)
made_fits code s l th o obj answer q run limits (by_revoke lock stripe may e f after) = subst (λ z. Fits (name_of z) obj × IsInRange z) (sym e) (subst (λ z. Fits (name_of op.Revoke) z × IsInRange op.Revoke) (sym f) (refl, tt))
made_fits code s l th o obj answer q run limits (by_stop may e f after) = subst (λ z. Fits (name_of z) obj × IsInRange z) (sym e) (subst (λ z. Fits (name_of op.Stop) z × IsInRange op.Stop) (sym f) (refl, tt))
made_fits code s l th o obj answer q run limits (by_close may e f after) = subst (λ z. Fits (name_of z) obj × IsInRange z) (sym e) (subst (λ z. Fits (name_of op.Close) z × IsInRange op.Close) (sym f) (refl, tt))

module _ (code : Code) (s : SetupView) (obj : ObjId) where
  -- the step leaves the object's word, and is no operation on it
  pub record LeavesAlone (st : State Told) (l : Label) (st1 : State Told) : Type 0 where
    pub same : word_of_object code s obj st1 ≡ word_of_object code s obj st
    pub none : (t : ℕ) (x : Noted) (word : ℕ) (answer : ℤ) → event_of (machine code s) st l ≡ Some (Did t x word answer) → x.entry.obj ≡ obj → ⊥

  -- the step is an operation on the object, by a row of the table
  pub record OperatesOn (st : State Told) (l : Label) (st1 : State Told) : Type 0 where
    pub operation : Op
    pub answer : ℤ
    pub noted : Noted
    pub named : noted.entry.op ≡ name_of operation
    pub on : noted.entry.obj ≡ obj
    pub happens : event_of (machine code s) st l ≡ Some (Did (label_thread l) noted (word_of_object code s obj st) answer)
    pub fits : kind_of (name_of operation) ≡ object_kind obj
    pub row : first_row (rows operation (label_thread l)) (shown (kind_of (name_of operation)) (word_of_object code s obj st)) ≡ Moves (shown (kind_of (name_of operation)) (word_of_object code s obj st1)) answer
    pub before : Told
    pub after : Told
    pub stands : slice_get st.threads (label_thread l) ≡ Some before
    pub threads : st1.threads ≡ slice_set st.threads (label_thread l) after
    pub makes : Makes code s l before.thread operation obj answer after.thread

  abbrev pub ObjectStep : State Told → Label → State Told → Type 0
  ObjectStep st l st1 = LeavesAlone st l st1 ⊎ OperatesOn st l st1

  module _ (run : IsRunnable code) (limits : IsWithinLimits s) (has : has_object code s obj ≡ true) (st st1 : State Told) (l : Label) (reached : IsReachable code s st) (h : HasStepped code s st l st1) where
    invariant : IsKept code s st
    invariant = kept code s run limits st reached

    -- the thread of the label is one of the slots
    pub small : label_thread l < 16
    small =
        let within = slice_get_within st.threads (label_thread l) h.before h.stands in
        let slots = invariant.threads in
        let few = limits.few_slots in
        omega arith

    pub alone_by_access : IsAccessStep code s st.words st1.words (event_of (machine code s) st l) l h.before.thread h.after.thread → LeavesAlone st l st1
    alone_by_access a = record {
      same = index_same st1.words st.words (place code s obj) (a.objects (place code s obj) (place_past (cells_of code s) obj));
      none = λ t x word answer e on. no a.what t x word answer (same_Some a.what (Did t x word answer) (sym a.happens ∙ e)) a.no_operation;
    }
      where
        index_same : (xs ys : List ℕ) (i : ℕ) → slice_get xs i ≡ slice_get ys i → slice_index xs i ≡ slice_index ys i
        index_same xs ys i e = sym (unwrap_or-slice_get xs i 0) ∙ ap (λ o. unwrap_or o 0) e ∙ unwrap_or-slice_get ys i 0

        no : (v : Event) (t : ℕ) (x : Noted) (word : ℕ) (answer : ℤ) → v ≡ Did t x word answer → IsNoOperation v → ⊥
        no v t x word answer e n = subst IsNoOperation e n

    same_noted : (t : ℕ) (x y : Noted) (v w : ℕ) (a b : ℤ) → Some (Did (label_thread l) x v a) ≡ Some (Did t y w b) → x ≡ y
    same_noted t x y v w a b e = cc

    pub elsewhere : (x : IsOperationStep code s st.words st1.words (event_of (machine code s) st l) l h.before.thread h.after.thread) → x.obj ≢ obj → LeavesAlone st l st1
    elsewhere x ne = record {
      same = ap (λ ws. slice_index ws (place code s obj)) x.changes ∙ sym (unwrap_or-slice_get (slice_set st.words (place code s x.obj) x.new) (place code s obj) 0)
          ∙ ap (λ o. unwrap_or o 0) (slice_get-set_other st.words (place code s x.obj) (place code s obj) x.new (λ e. ne (sym (place_apart code s obj x.obj limits has x.has e))))
          ∙ unwrap_or-slice_get st.words (place code s obj) 0;
      none = λ t y word answer e on. ne (sym x.on ∙ ap (λ (z : Noted). z.entry.obj) (same_noted t x.noted y x.old word x.answer answer (sym x.happens ∙ e)) ∙ on);
    }

    -- the row of the table by which the object's word moves
    pub row_here : (x : IsOperationStep code s st.words st1.words (event_of (machine code s) st l) l h.before.thread h.after.thread) → x.obj ≡ obj → first_row (rows x.op (label_thread l)) (shown (kind_of (name_of x.op)) (word_of_object code s obj st)) ≡ Moves (shown (kind_of (name_of x.op)) (word_of_object code s obj st1)) x.answer
    row_here x e =
        let f = made_fits code s l h.before.thread x.op x.obj x.answer h.after.thread run limits x.makes in
        let fits : kind_of (name_of x.op) ≡ object_kind obj = f.0 ∙ ap object_kind e in
        let at : slice_get st.words (place code s obj) ≡ Some x.old = ap (λ o. slice_get st.words (place code s o)) (sym e) ∙ x.at in
        let old_is : word_of_object code s obj st ≡ x.old = get_or_from_slice_get st.words (place code s obj) x.old 0 at in
        let there : slice_get st1.words (place code s obj) ≡ Some x.new = ap (λ ws. slice_get ws (place code s obj)) (x.changes ∙ ap (λ o. slice_set st.words (place code s o) x.new) e) ∙ slice_get-set_same st.words (place code s obj) x.new x.old at in
        let new_is : word_of_object code s obj st1 ≡ x.new = get_or_from_slice_get st1.words (place code s obj) x.new 0 there in
        let sound = invariant.sound.each obj x.old has at in
        let few = sound.1 in
        let row = moves x.op (label_thread l) x.old x.new x.answer small f.1 (omega arith) (subst (λ k. IsSoundWord k x.old) (sym fits) sound.0) x.moves in
        subst (λ w. first_row (rows x.op (label_thread l)) (shown (kind_of (name_of x.op)) w) ≡ Moves (shown (kind_of (name_of x.op)) (word_of_object code s obj st1)) x.answer) (sym old_is)
        (subst (λ w. first_row (rows x.op (label_thread l)) (shown (kind_of (name_of x.op)) x.old) ≡ Moves (shown (kind_of (name_of x.op)) w) x.answer) (sym new_is) row)

    word_before : (x : IsOperationStep code s st.words st1.words (event_of (machine code s) st l) l h.before.thread h.after.thread) → x.obj ≡ obj → word_of_object code s obj st ≡ x.old
    word_before x e = get_or_from_slice_get st.words (place code s obj) x.old 0 (ap (λ o. slice_get st.words (place code s o)) (sym e) ∙ x.at)

    here : (x : IsOperationStep code s st.words st1.words (event_of (machine code s) st l) l h.before.thread h.after.thread) → x.obj ≡ obj → OperatesOn st l st1
    here x e =
        record {
          operation = x.op;
          answer = x.answer;
          noted = x.noted;
          named = x.named;
          on = x.on ∙ e;
          happens = x.happens ∙ ap (λ w. Some (Did (label_thread l) x.noted w x.answer)) (sym (word_before x e));
          fits = (made_fits code s l h.before.thread x.op x.obj x.answer h.after.thread run limits x.makes).0 ∙ ap object_kind e;
          row = row_here x e;
          before = h.before;
          after = h.after;
          stands = h.stands;
          threads = h.threads;
          makes = subst (λ o. Makes code s l h.before.thread x.op o x.answer h.after.thread) e x.makes;
        }

    pub object_step : ObjectStep st l st1
    object_step =
        ⊎_elim
        (λ a. inl (alone_by_access a))
        (λ x. ⊎_elim (λ e. inr (here x e)) (λ ne. inl (elsewhere x ne)) (object_cases x.obj obj))
        h.kind
