-- In each state that is reached a slot's word tells how far the life of its thread is.
use Rattle.std.proofs.Common.{◌≡◌, ◌≢◌, ℕ, zero, suc, ◌⊎◌, inl, inr, ⊎_elim, true, false, [], Some, refl, sym, ap, subst, ◌∙◌, ℤ, arith}
use Rattle.std.specs.Prelude.{slice_get, slice_set}
use Rattle.std.proofs.lemmas.Bool.{cases_eq, true≢false, lt-ltb}
use Rattle.std.proofs.lemmas.Option.{same_Some, slice_get_within, get_or_from_slice_get}
use Rattle.rr_base.proofs.Lists.{slice_get-set_other, slice_get-set_same}
use Rattle.sync_objects.specs.Setup.{SetupView, IsWithinLimits}
use Rattle.sync_objects.specs.States.{SlotState, Idle, Closed, Begun, Ended, Joined, Shut, Started}
use Rattle.sync_objects.specs.Packing.{slot_of}
use Rattle.sync_objects.specs.Start.{start_word}
use Rattle.sync_objects.specs.Words.{state_of, word_of}
use Rattle.sync_objects.specs.declared.object.ObjId.TheVariants as object
use Rattle.sync_objects.specs.declared.operation.Op.{Op}
use Rattle.sync_objects.specs.declared.operation.Op.TheVariants as op
use Rattle.sync_objects.proofs.Starts.{starts-first_slot, starts-other_slot}
use Rattle.flow_code.specs.declared.code.Code.{Code}
use Rattle.flow_code.specs.declared.thread.Phase.TheVariants as phase
use Rattle.flow_code.specs.Threads.{Thread}
use Rattle.flow_code.specs.Next.{has_ended}
use Rattle.flow_code.specs.Settle.{IsRunnable}
use Rattle.core_run.specs.Histories.{IsReachable}
use Rattle.core_run.specs.Words.{cells_of, has_object, place_of, start_words}
use Rattle.core_run.specs.Machine.{Told, machine, start_told, start_state}
use Rattle.thread_interpreter.specs.Starts.{start_thread}
use Rattle.core_run.proofs.Beginnings.{start_word_at}
use Rattle.core_run.proofs.Reached.{kept}
use Rattle.core_run.proofs.ThreadRanges.{start_thread_is}
use Rattle.run_theory.specs.Labels.{Label, label_thread}
use Rattle.run_theory.specs.Ordered.{event_of}
use Rattle.run_theory.specs.Steps.{State}
use Rattle.run_theory.proofs.Kept.{kept_along, reaches_step}
use Rattle.lock_ownership.specs.Holders.{word_of_object}
use Rattle.lock_ownership.proofs.SlotMoves.{life, SlotMove, starts, shuts, begins, ends, joins, misses, closes, slot_moves, waits, is_shut, is_over}
use Rattle.lock_ownership.proofs.SlotThreads.{IsOver}
use Rattle.lock_ownership.proofs.SlotMakes.{IsFresh, fresh_access, fresh_makes, ended_access, ended_makes, gone_access, gone_makes, end_makes, close_makes, own_makes}
use Rattle.lock_ownership.proofs.Stepping.{Makes, IsAccessStep, IsOperationStep, HasStepped, has_stepped}
use Rattle.lock_ownership.proofs.ObjectSteps.{LeavesAlone, OperatesOn, ObjectStep, object_step}

module _ (code : Code) (s : SetupView) where
  -- what the life that a slot's word tells says of its thread
  pub record IsAlive (k : ℕ) (x : SlotState) (th : Thread) : Type 0 where
    pub waiting : waits x ≡ true → (th ≡ start_thread code s k) × (th.phase ≡ phase.Fresh)
    pub closed : is_shut x ≡ true → has_ended th.phase ≡ true
    pub over : is_over x ≡ true → IsOver code s k th

  pub record AreAlive (st : State Told) : Type 0 where
    pub each : (k : ℕ) (told : Told) → slice_get st.threads k ≡ Some told → IsAlive k (life code s k st) told.thread

  -- the operation on the slot, as a move
  pub life_moves : (k : ℕ) (st st1 : State Told) (l : Label) → (x : OperatesOn code s (object.Slot k) st l st1) → SlotMove x.operation x.answer (life code s k st) (life code s k st1)
  life_moves k st st1 l x = slot_moves x.operation (label_thread l) x.answer (word_of_object code s (object.Slot k) st) (word_of_object code s (object.Slot k) st1) x.fits x.row

  pub life_kept : (k : ℕ) (st st1 : State Told) (l : Label) → LeavesAlone code s (object.Slot k) st l st1 → life code s k st1 ≡ life code s k st
  life_kept k st st1 l a = ap (λ w. slot_of (state_of w)) a.same

  -- ---- a life that is told in one way is not in another

  not_waiting : (x y : SlotState) → x ≡ y → waits y ≡ false → waits x ≡ true → ⊥
  not_waiting x y e f h = true≢false (sym h ∙ ap waits e ∙ f)

  not_shut : (x y : SlotState) → x ≡ y → is_shut y ≡ false → is_shut x ≡ true → ⊥
  not_shut x y e f h = true≢false (sym h ∙ ap is_shut e ∙ f)

  not_over : (x y : SlotState) → x ≡ y → is_over y ≡ false → is_over x ≡ true → ⊥
  not_over x y e f h = true≢false (sym h ∙ ap is_over e ∙ f)

  same_life : (k : ℕ) (x y : SlotState) (th : Thread) → y ≡ x → IsAlive k x th → IsAlive k y th
  same_life k x y th e h = subst (λ z. IsAlive k z th) (sym e) h

  -- ---- the label's own thread

  module _ (run : IsRunnable code) (limits : IsWithinLimits s) (l : Label) where
    fresh_of : (x : SlotState) (th q : Thread) → IsAlive (label_thread l) x th → waits x ≡ true → IsFresh code s l th q
    fresh_of x th q h w = let f = h.waiting w in record { same = f.0; phase = f.1 }

    -- by an operation on its own slot
    own_move : (o : Op) (answer : ℤ) (x y : SlotState) (th q : Thread) → SlotMove o answer x y → Makes code s l th o (object.Slot (label_thread l)) answer q → IsAlive (label_thread l) x th → IsAlive (label_thread l) y q
    own_move o answer x y th q (starts f is e g) m h = absurd (no (fresh_makes code s l th q limits (fresh_of x th q h (ap waits e)) o (object.Slot (label_thread l)) answer m).0 is)
      where
        no : (o ≡ op.Begin) ⊎ (o ≡ op.Close) → o ≡ op.Start f → ⊥
        no (inl a) b = cc
        no (inr a) b = cc
    own_move o answer x y th q (shuts f is e g) m h = absurd (ended_makes code s l th q (h.closed (ap is_shut e)) o (object.Slot (label_thread l)) answer m)
    own_move o answer x y th q (begins f is e g) m h = record { waiting = λ w. absurd (not_waiting y Begun g refl w); closed = λ w. absurd (not_shut y Begun g refl w); over = λ w. absurd (not_over y Begun g refl w) }
    own_move o answer x y th q (ends is e g) m h = record { waiting = λ w. absurd (not_waiting y Ended g refl w); closed = λ w. absurd (not_shut y Ended g refl w); over = λ w. end_makes code s l th q o (object.Slot (label_thread l)) answer is m }
    own_move o answer x y th q (joins is e g) m h =
        record { waiting = λ w. absurd (not_waiting y Joined g refl w); closed = λ w. absurd (not_shut y Joined g refl w); over = λ w. gone_makes code s l th q (h.over (ap is_over e)) o (object.Slot (label_thread l)) answer m }
    own_move o answer x y th q (misses is e g) m h = record {
      waiting = λ w. absurd (no (fresh_makes code s l th q limits (fresh_of x th q h (sym (ap waits g) ∙ w)) o (object.Slot (label_thread l)) answer m).0 is);
      closed = λ w. absurd (ended_makes code s l th q (h.closed (sym (ap is_shut g) ∙ w)) o (object.Slot (label_thread l)) answer m);
      over = λ w. gone_makes code s l th q (h.over (sym (ap is_over g) ∙ w)) o (object.Slot (label_thread l)) answer m;
    }
      where
        no : (o ≡ op.Begin) ⊎ (o ≡ op.Close) → o ≡ op.Join → ⊥
        no (inl a) b = cc
        no (inr a) b = cc
    own_move o answer x y th q (closes is e g) m h = record { waiting = λ w. absurd (not_waiting y Closed g refl w); closed = λ w. close_makes code s l th q run o (object.Slot (label_thread l)) answer is m; over = λ w. absurd (not_over y Closed g refl w) }

    -- the operations on a slot that its own thread alone makes
    other_move : (u : ℕ) (o : Op) (answer : ℤ) (x y : SlotState) (th q : Thread) (other : Thread) → u ≢ label_thread l → SlotMove o answer x y → Makes code s l th o (object.Slot u) answer q → IsAlive u x other → IsAlive u y other
    other_move u o answer x y th q other ne (starts f is e g) m h = record { waiting = λ w. h.waiting (ap waits e); closed = λ w. absurd (not_shut y (Started f) g refl w); over = λ w. absurd (not_over y (Started f) g refl w) }
    other_move u o answer x y th q other ne (shuts f is e g) m h = record { waiting = λ w. absurd (not_waiting y Shut g refl w); closed = λ w. h.closed (ap is_shut e); over = λ w. absurd (not_over y Shut g refl w) }
    other_move u o answer x y th q other ne (begins f is e g) m h = let own : object.Slot u ≡ object.Slot (label_thread l) = own_makes code s l th q run o (object.Slot u) answer (inl is) m in absurd (ne cc)
    other_move u o answer x y th q other ne (ends is e g) m h = let own : object.Slot u ≡ object.Slot (label_thread l) = own_makes code s l th q run o (object.Slot u) answer (inr (inl is)) m in absurd (ne cc)
    other_move u o answer x y th q other ne (joins is e g) m h = record { waiting = λ w. absurd (not_waiting y Joined g refl w); closed = λ w. absurd (not_shut y Joined g refl w); over = λ w. h.over (ap is_over e) }
    other_move u o answer x y th q other ne (misses is e g) m h = same_life u x y other g h
    other_move u o answer x y th q other ne (closes is e g) m h = let own : object.Slot u ≡ object.Slot (label_thread l) = own_makes code s l th q run o (object.Slot u) answer (inr (inr is)) m in absurd (ne cc)

  -- ---- each step

  module _ (run : IsRunnable code) (limits : IsWithinLimits s) (st st1 : State Told) (l : Label) (reached : IsReachable code s st) (h : HasStepped code s st l st1) (before : AreAlive st) where
    has_slot : (k : ℕ) (told : Told) → slice_get st.threads k ≡ Some told → has_object code s (object.Slot k) ≡ true
    has_slot k told e =
        let within = slice_get_within st.threads k told e in
        let slots = (kept code s run limits st reached).threads in
        lt-ltb k s.slots (omega arith)

    on_slot : (k : ℕ) (told : Told) → slice_get st.threads k ≡ Some told → ObjectStep code s (object.Slot k) st l st1
    on_slot k told e = object_step code s (object.Slot k) run limits (has_slot k told e) st st1 l reached h

    others : (u : ℕ) → u ≢ label_thread l → slice_get st1.threads u ≡ slice_get st.threads u
    others u ne = ap (λ ths. slice_get ths u) h.threads ∙ slice_get-set_other st.threads (label_thread l) u h.after ne

    there : (after : Told) → st1.threads ≡ slice_set st.threads (label_thread l) after → slice_get st1.threads (label_thread l) ≡ Some after
    there after e = ap (λ ths. slice_get ths (label_thread l)) e ∙ slice_get-set_same st.threads (label_thread l) after h.before h.stands

    -- a step that leaves the slot alone is an access, or an operation on another object
    alone_after : LeavesAlone code s (object.Slot (label_thread l)) st l st1 → IsAlive (label_thread l) (life code s (label_thread l) st) h.before.thread → IsAlive (label_thread l) (life code s (label_thread l) st) h.after.thread
    alone_after a alive = ⊎_elim by_access by_operation h.kind
      where
        by_access : IsAccessStep code s st.words st1.words (event_of (machine code s) st l) l h.before.thread h.after.thread → IsAlive (label_thread l) (life code s (label_thread l) st) h.after.thread
        by_access x = record {
          waiting = λ w. absurd (fresh_access code s l h.before.thread h.after.thread limits (fresh_of run limits l (life code s (label_thread l) st) h.before.thread h.after.thread alive w) x.action x.answer x.is_access x.comes);
          closed = λ w. absurd (ended_access code s l h.before.thread h.after.thread (alive.closed w) x.action x.answer x.is_access x.comes);
          over = λ w. absurd (gone_access code s l h.before.thread h.after.thread (alive.over w) x.action x.answer x.is_access x.comes);
        }

        by_operation : IsOperationStep code s st.words st1.words (event_of (machine code s) st l) l h.before.thread h.after.thread → IsAlive (label_thread l) (life code s (label_thread l) st) h.after.thread
        by_operation x = record {
          waiting = λ w. absurd (a.none (label_thread l) x.noted x.old x.answer x.happens (x.on ∙ (fresh_makes code s l h.before.thread h.after.thread limits (fresh_of run limits l (life code s (label_thread l) st) h.before.thread h.after.thread alive w) x.op x.obj x.answer x.makes).1));
          closed = λ w. absurd (ended_makes code s l h.before.thread h.after.thread (alive.closed w) x.op x.obj x.answer x.makes);
          over = λ w. gone_makes code s l h.before.thread h.after.thread (alive.over w) x.op x.obj x.answer x.makes;
        }

    own_after : (told : Told) → slice_get st1.threads (label_thread l) ≡ Some told → IsAlive (label_thread l) (life code s (label_thread l) st1) told.thread
    own_after told e = by (on_slot (label_thread l) h.before h.stands)
      where
        alive : IsAlive (label_thread l) (life code s (label_thread l) st) h.before.thread
        alive = before.each (label_thread l) h.before h.stands

        by : ObjectStep code s (object.Slot (label_thread l)) st l st1 → IsAlive (label_thread l) (life code s (label_thread l) st1) told.thread
        by (inl a) =
            subst (λ (z : Told). IsAlive (label_thread l) (life code s (label_thread l) st1) z.thread) (same_Some h.after told (sym (there h.after h.threads) ∙ e))
            (same_life (label_thread l) (life code s (label_thread l) st) (life code s (label_thread l) st1) h.after.thread (life_kept (label_thread l) st st1 l a) (alone_after a alive))
        by (inr x) =
            subst (λ (z : Told). IsAlive (label_thread l) (life code s (label_thread l) st1) z.thread) (same_Some x.after told (sym (there x.after x.threads) ∙ e))
            (own_move run limits l x.operation x.answer (life code s (label_thread l) st) (life code s (label_thread l) st1) x.before.thread x.after.thread (life_moves (label_thread l) st st1 l x) x.makes (before.each (label_thread l) x.before x.stands))

    other_after : (u : ℕ) (told : Told) → u ≢ label_thread l → slice_get st.threads u ≡ Some told → IsAlive u (life code s u st1) told.thread
    other_after u told ne e = by (on_slot u told e)
      where
        by : ObjectStep code s (object.Slot u) st l st1 → IsAlive u (life code s u st1) told.thread
        by (inl a) = same_life u (life code s u st) (life code s u st1) told.thread (life_kept u st st1 l a) (before.each u told e)
        by (inr x) = other_move run limits l u x.operation x.answer (life code s u st) (life code s u st1) x.before.thread x.after.thread told.thread ne (life_moves u st st1 l x) x.makes (before.each u told e)

    alive_after : AreAlive st1
    alive_after = record {
      each = λ k told e. ⊎_elim
          (λ same. subst (λ u. IsAlive u (life code s u st1) told.thread) (sym same) (own_after told (ap (slice_get st1.threads) (sym same) ∙ e)))
          (λ ne. other_after k told ne (sym (others k ne) ∙ e))
          (cases_eq k (label_thread l));
    }

  -- ---- the start

  pub first_life : IsWithinLimits s → has_object code s (object.Slot 0) ≡ true → life code s 0 (start_state code s) ≡ Begun
  first_life limits has = ap (λ w. slot_of (state_of w)) (get_or_from_slice_get (start_words code s) (place_of (cells_of code s) (object.Slot 0)) (start_word (object.Slot 0)) 0 (start_word_at code s (object.Slot 0) limits has) ∙ ap (word_of 0) starts-first_slot)

  pub other_life : IsWithinLimits s → (k : ℕ) → has_object code s (object.Slot (suc k)) ≡ true → life code s (suc k) (start_state code s) ≡ Idle
  other_life limits k has =
      ap (λ w. slot_of (state_of w)) (get_or_from_slice_get (start_words code s) (place_of (cells_of code s) (object.Slot (suc k))) (start_word (object.Slot (suc k))) 0 (start_word_at code s (object.Slot (suc k)) limits has) ∙ ap (word_of 0) (starts-other_slot (suc k) (λ e. absurd (omega arith))))

  module _ (run : IsRunnable code) (limits : IsWithinLimits s) where
    slot_at_start : (k : ℕ) (told : Told) → slice_get (start_state code s).threads k ≡ Some told → has_object code s (object.Slot k) ≡ true
    slot_at_start k told e =
        let within = slice_get_within (start_state code s).threads k told e in
        let slots = (kept code s run limits (start_state code s) ([], refl)).threads in
        lt-ltb k s.slots (omega arith)

    alive_at : (k : ℕ) (told : Told) → slice_get (start_state code s).threads k ≡ Some told → told ≡ start_told code s k → IsAlive k (life code s k (start_state code s)) told.thread
    alive_at zero told e f =
        let is = first_life limits (slot_at_start 0 told e) in
        record { waiting = λ w. absurd (not_waiting (life code s 0 (start_state code s)) Begun is refl w); closed = λ w. absurd (not_shut (life code s 0 (start_state code s)) Begun is refl w); over = λ w. absurd (not_over (life code s 0 (start_state code s)) Begun is refl w) }
    alive_at (suc k) told e f =
        let is = other_life limits k (slot_at_start (suc k) told e) in
        record {
          waiting = λ w. (ap (λ (z : Told). z.thread) f, ap (λ (z : Told). z.thread.phase) f);
          closed = λ w. absurd (not_shut (life code s (suc k) (start_state code s)) Idle is refl w);
          over = λ w. absurd (not_over (life code s (suc k) (start_state code s)) Idle is refl w);
        }

    -- a state that is reached, with what holds of it
    record Lives (st : State Told) : Type 0 where
      reached : IsReachable code s st
      lives : AreAlive st

    pub alive : (st : State Told) → IsReachable code s st → AreAlive st
    alive st reached =
        (kept_along (machine code s) Lives
        (λ a b l h e. record { reached = reaches_step (machine code s) (start_state code s) a b l h.reached e; lives = alive_after run limits a b l h.reached (has_stepped code s a b l e) h.lives })
        reached.0 (start_state code s) st reached.1
        (record { reached = ([], refl); lives = record { each = λ k told e. alive_at k told e (start_thread_is code s k told e) } })).lives
