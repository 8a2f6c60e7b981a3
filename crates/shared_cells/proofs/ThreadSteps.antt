-- What a thread's marks, its accesses and its operations make of a state that can be reached.
use Rattle.std.proofs.Common.{◌≡◌, ◌≢◌, ℕ, zero, suc, ◌<◌, ℤ, pos, true, List, [], Some, refl, sym, ap, ◌∙◌, arith}
use Rattle.std.specs.Prelude.{slice_get, slice_set, if◌then◌else◌, nat_lt}
use Rattle.std.proofs.lemmas.Bool.Decides.{nat_tests}
use Rattle.sync_objects.specs.Advance.{advanced, Advances}
use Rattle.sync_objects.specs.Names.{name_of}
use Rattle.sync_objects.specs.Setup.{SetupView}
use Rattle.sync_objects.specs.Words.{number_of}
use Rattle.sync_objects.specs.declared.object.ObjId.{ObjId}
use Rattle.sync_objects.specs.declared.object.ObjId.TheVariants as object
use Rattle.sync_objects.specs.declared.operation.Op.{Op}
use Rattle.sync_objects.specs.declared.operation.Op.TheVariants as op
use Rattle.word_semantics.specs.declared.event.Action.{Action}
use Rattle.word_semantics.specs.declared.event.Action.TheVariants as action
use Rattle.flow_code.specs.declared.code.Code.{Code}
use Rattle.flow_code.specs.Next.{stepped as thread_stepped, gave_up, stopped, slot_closed}
use Rattle.flow_code.specs.Settle.{settled, next}
use Rattle.flow_code.specs.Threads.{Thread}
use Rattle.core_run.specs.Histories.{IsReachable}
use Rattle.core_run.specs.Machine.{Told, effect_of, action_effect, operation, change_of, entry_of, operated, machine, start_state}
use Rattle.thread_interpreter.specs.Pieces.{piece_next}
use Rattle.core_run.specs.Words.{cells_of, has_object, place_of}
use Rattle.core_run.proofs.Lawful.{effect_go, effect_revoke, effect_stop, effect_close}
use Rattle.run_theory.specs.Labels.{Label, Go, Revoke, Stop, Close, label_thread}
use Rattle.run_theory.specs.Steps.{State, Refused, Loads, Stores, Operates, Change, Becomes, Leaves, outcome, load_outcome, change_outcome, changed_outcome, step_of_thread, with_thread}
use Rattle.run_theory.proofs.Kept.{reaches_step}
use Rattle.rr_base.proofs.Lists.{slice_get-set_other, slice_get-set_same}
use Rattle.shared_cells.specs.Threads.{after_mark, after_marks, AreMarks, at_rest, after_load, after_store, Way, Own, Revokes, Stops, Closes, way_of, IsDueBy, IsDue, after_by, after_operation}

-- ---- which operation is made from outside

pub is_revoke : (o : Op) (obj : ObjId) (lock stripe : ℕ) → way_of o obj ≡ Revokes lock stripe → (o ≡ op.Revoke) × (obj ≡ object.Weak lock stripe)
is_revoke op.Revoke (object.Weak l p) lock stripe e = (refl, cc)
is_revoke op.Revoke obj lock stripe e = cc
is_revoke op.Stop object.Halt lock stripe e = cc
is_revoke op.Stop obj lock stripe e = cc
is_revoke op.Close (object.Slot k) lock stripe e = cc
is_revoke op.Close obj lock stripe e = cc
is_revoke o obj lock stripe e = cc

pub is_stop : (o : Op) (obj : ObjId) → way_of o obj ≡ Stops → (o ≡ op.Stop) × (obj ≡ object.Halt)
is_stop op.Revoke (object.Weak l p) e = cc
is_stop op.Revoke obj e = cc
is_stop op.Stop object.Halt e = (refl, refl)
is_stop op.Stop obj e = cc
is_stop op.Close (object.Slot k) e = cc
is_stop op.Close obj e = cc
is_stop o obj e = cc

pub is_close : (o : Op) (obj : ObjId) (slot : ℕ) → way_of o obj ≡ Closes slot → (o ≡ op.Close) × (obj ≡ object.Slot slot)
is_close op.Revoke (object.Weak l p) slot e = cc
is_close op.Revoke obj slot e = cc
is_close op.Stop object.Halt slot e = cc
is_close op.Stop obj slot e = cc
is_close op.Close (object.Slot k) slot e = (refl, cc)
is_close op.Close obj slot e = cc
is_close o obj slot e = cc

less_is : (c n : ℕ) → c < n → nat_lt c n ≡ true
less_is c n lt = grind (arith, nat_tests, lt)

module _ (code : Code) (s : SetupView) where
  -- a state that is reached from another one by steps of one thread: it has these words and this thread, and all other threads
  -- as before
  pub record GoesTo (st : State Told) (t : ℕ) (vs : List ℕ) (now : Told) : Type 0 where
    pub state : State Told
    pub reached : IsReachable code s state
    pub words : state.words ≡ vs
    pub here : slice_get state.threads t ≡ Some now
    pub others : (k : ℕ) → k ≢ t → slice_get state.threads k ≡ slice_get st.threads k

  pub goes_nowhere : (st : State Told) (t : ℕ) (told : Told) → IsReachable code s st → slice_get st.threads t ≡ Some told → GoesTo st t st.words told
  goes_nowhere st t told reached here = record { state = st; reached = reached; words = refl; here = here; others = λ k ne. refl }

  module _ (st : State Told) (t : ℕ) (ws : List ℕ) (told : Told) (g : GoesTo st t ws told) where
    -- one label more
    goes_on : (l : Label) (vs : List ℕ) (now : Told) → label_thread l ≡ t → outcome (machine code s) ws (effect_of code s l told) ≡ Leaves vs now → GoesTo st t vs now
    goes_on l vs now of leaves = record {
      state = record { words = vs; threads = slice_set g.state.threads t now };
      reached = reaches_step (machine code s) (start_state code s) g.state (record { words = vs; threads = slice_set g.state.threads t now }) l g.reached
          (ap (λ k. step_of_thread (machine code s) g.state l (slice_get g.state.threads k)) of
          ∙ ap (step_of_thread (machine code s) g.state l) g.here
          ∙ ap (λ ws. with_thread (machine code s) g.state.threads (label_thread l) (outcome (machine code s) ws (effect_of code s l told))) g.words
          ∙ ap (with_thread (machine code s) g.state.threads (label_thread l)) leaves
          ∙ ap (λ k. Some (record { words = vs; threads = slice_set g.state.threads k now })) of);
      words = refl;
      here = slice_get-set_same g.state.threads t now told g.here;
      others = λ k ne. slice_get-set_other g.state.threads t k now ne ∙ g.others k ne;
    }

    effect_here : (a : Action) → next code s t told.thread ≡ a → effect_of code s (Go t) told ≡ action_effect code s t told (settled code s t told.thread) a
    effect_here a e = effect_go code s t told ∙ ap (action_effect code s t told (settled code s t told.thread)) e

    -- a mark
    pub goes_mark : next code s t told.thread ≡ action.Mark → GoesTo st t ws (after_mark code s t told)
    goes_mark e = goes_on (Go t) ws (after_mark code s t told) refl (ap (outcome (machine code s) ws) (effect_here action.Mark e))

    -- a load of a cell
    pub goes_load : (c w : ℕ) → next code s t told.thread ≡ action.Load c → c < cells_of code s → slice_get ws c ≡ Some w → GoesTo st t ws (after_load code s t told c w)
    goes_load c w e within there = goes_on (Go t) ws (after_load code s t told c w) refl
        (ap (outcome (machine code s) ws) (effect_here (action.Load c) e)
        ∙ ap (λ b. outcome (machine code s) ws (if b then Loads c next_told else Refused)) (less_is c (cells_of code s) within)
        ∙ ap (load_outcome ws next_told) there)
      where
        next_told : ℕ → Told
        next_told v = after_load code s t told c v

    -- a store into a cell
    pub goes_store : (c w old : ℕ) → next code s t told.thread ≡ action.Store c w → c < cells_of code s → slice_get ws c ≡ Some old → GoesTo st t (slice_set ws c w) (after_store code s t told c w)
    goes_store c w old e within there = goes_on (Go t) (slice_set ws c w) (after_store code s t told c w) refl
        (ap (outcome (machine code s) ws) (effect_here (action.Store c w) e)
        ∙ ap (λ b. outcome (machine code s) ws (if b then Stores c w (after_store code s t told c w) else Refused)) (less_is c (cells_of code s) within)
        ∙ ap (change_outcome ws c (λ _. Becomes w (pos 0) (after_store code s t told c w))) there)

    module _ (o : Op) (obj : ObjId) (old new : ℕ) (answer : ℤ) (has : has_object code s obj ≡ true) (there : slice_get ws (place_of (cells_of code s) obj) ≡ Some old) (moves : advanced o t old ≡ Advances new answer) where
      abbrev place : ℕ
      place = place_of (cells_of code s) obj

      operation_leaves : (base : Told) (printed : List (List ℕ)) (onward : ℤ → Thread) → outcome (machine code s) ws (operation code s t base o obj printed onward) ≡ Leaves (slice_set ws place new) (operated base (onward answer) (record { entry = entry_of t base.thread (name_of o) obj; number = number_of old }) printed)
      operation_leaves base printed onward =
          ap (λ b. outcome (machine code s) ws (if b then Operates (entry_of t base.thread (name_of o) obj) change else Refused)) has
          ∙ ap (change_outcome ws place change) there
          ∙ ap (λ z. changed_outcome ws place (change_of base (entry_of t base.thread (name_of o) obj) printed onward old z)) moves
        where
          change : ℕ → Change Told
          change w = change_of base (entry_of t base.thread (name_of o) obj) printed onward w (advanced o t w)

      -- an operation, in each way
      goes_by : (w : Way) → way_of o obj ≡ w → IsDueBy w code s t told o obj → GoesTo st t (slice_set ws place new) (after_by w code s t told o obj answer (number_of old))
      goes_by Own is due = goes_on (Go t) (slice_set ws place new) (after_by Own code s t told o obj answer (number_of old)) refl
          (ap (outcome (machine code s) ws) (effect_here (action.Operate o obj) due)
          ∙ operation_leaves (at_rest code s t told) (piece_next code (settled code s t told.thread) o) (λ z. thread_stepped code s t (settled code s t told.thread) z))
      goes_by (Revokes lock stripe) is due =
          let p = is_revoke o obj lock stripe is in
          goes_on (Revoke t lock stripe) (slice_set ws place new) (after_by (Revokes lock stripe) code s t told o obj answer (number_of old)) refl
          (ap (outcome (machine code s) ws)
          (effect_revoke code s t lock stripe told
          ∙ ap (λ b. if b then operation code s t told op.Revoke (object.Weak lock stripe) [] (λ z. gave_up told.thread lock stripe) else Refused) due
          ∙ ap (λ x. operation code s t told x (object.Weak lock stripe) [] (λ z. gave_up told.thread lock stripe)) (sym p.0)
          ∙ ap (λ x. operation code s t told o x [] (λ z. gave_up told.thread lock stripe)) (sym p.1))
          ∙ operation_leaves told [] (λ z. gave_up told.thread lock stripe))
      goes_by Stops is due =
          let p = is_stop o obj is in
          goes_on (Stop t) (slice_set ws place new) (after_by Stops code s t told o obj answer (number_of old)) refl
          (ap (outcome (machine code s) ws)
          (effect_stop code s t told
          ∙ ap (λ b. if b then operation code s t told op.Stop object.Halt [] (λ z. stopped told.thread) else Refused) due
          ∙ ap (λ x. operation code s t told x object.Halt [] (λ z. stopped told.thread)) (sym p.0)
          ∙ ap (λ x. operation code s t told o x [] (λ z. stopped told.thread)) (sym p.1))
          ∙ operation_leaves told [] (λ z. stopped told.thread))
      goes_by (Closes k) is due =
          let p = is_close o obj k is in
          goes_on (Close t) (slice_set ws place new) (after_by (Closes k) code s t told o obj answer (number_of old)) refl
          (ap (outcome (machine code s) ws)
          (effect_close code s t told
          ∙ ap (λ b. if b then operation code s t told op.Close (object.Slot t) [] (λ z. slot_closed told.thread) else Refused) due.1
          ∙ ap (λ x. operation code s t told x (object.Slot t) [] (λ z. slot_closed told.thread)) (sym p.0)
          ∙ ap (λ x. operation code s t told o (object.Slot x) [] (λ z. slot_closed told.thread)) (sym due.0)
          ∙ ap (λ x. operation code s t told o x [] (λ z. slot_closed told.thread)) (sym p.1))
          ∙ operation_leaves told [] (λ z. slot_closed told.thread))

      pub goes_operation : IsDue code s t told o obj → GoesTo st t (slice_set ws place new) (after_operation code s t told o obj answer (number_of old))
      goes_operation due = goes_by (way_of o obj) refl due

  -- all pending marks
  pub goes_marks : (n : ℕ) (st : State Told) (t : ℕ) (ws : List ℕ) (told : Told) → GoesTo st t ws told → AreMarks code s t n told → GoesTo st t ws (after_marks code s t n told)
  goes_marks zero st t ws told g h = g
  goes_marks (suc n) st t ws told g h = goes_mark st t ws (after_marks code s t n told) (goes_marks n st t ws told g h.0) h.1
