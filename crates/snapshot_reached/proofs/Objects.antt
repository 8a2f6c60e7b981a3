-- The objects that a checkpoint of a reached state lists are as they must be.
use Rattle.std.proofs.Common.{◌≡◌, ℕ, zero, suc, ◌+◌, ◌^◌, ◌<◌, ◌≤◌, ◌==◌, Bool, true, false, not, List, [], ◌∷◌, length, Option, Some, None, ℤ, refl, sym, ap, ◌∙◌, subst, ⊎_elim, arith}
use Rattle.std.specs.Prelude.{max, if◌then◌else◌, slice_get, slice_index}
use Rattle.std.specs.List.{cons_option, filter_map}
use Rattle.std.proofs.lemmas.Bool.{lt-ltb, le-leb, eq-eqb}
use Rattle.std.proofs.lemmas.Nat.{pow_pos, div-add-mod'}
use Rattle.std.proofs.lemmas.Option.{slice_get_within, get_or_from_slice_get, slice_get-get_or}
use Rattle.sync_objects.specs.Setup.{SetupView, IsWithinLimits}
use Rattle.sync_objects.specs.Names.{name_of, kind_of, object_kind}
use Rattle.sync_objects.specs.Packing.{packed, unpacked, shown}
use Rattle.sync_objects.specs.Sound.{IsSoundState, IsSoundWord}
use Rattle.sync_objects.specs.Start.{packed_start, start_word}
use Rattle.sync_objects.specs.States.{Free, HeldBy, Epoch, Waits, Shared, Idle, Closed, Begun, Ended, Joined, Shut, Started, Counts, Position, StateOf, LockState}
use Rattle.sync_objects.specs.Table.{Move, Moves, first_row, rows}
use Rattle.sync_objects.specs.Words.{number_of, state_of, word_of}
use Rattle.sync_objects.specs.declared.kind.ObjKind.{ObjKind}
use Rattle.sync_objects.specs.declared.kind.ObjKind.TheVariants as kind
use Rattle.sync_objects.specs.declared.object.ObjId.{ObjId}
use Rattle.sync_objects.specs.declared.object.ObjId.TheVariants as object
use Rattle.sync_objects.specs.declared.operation.Op.{Op}
use Rattle.flow_code.specs.declared.code.Code.{Code}
use Rattle.flow_code.specs.Settle.{IsRunnable, settled}
use Rattle.flow_code.specs.Threads.{Thread}
use Rattle.flow_code.specs.Valid.{is_valid}
use Rattle.core_run.specs.Histories.{IsReachable}
use Rattle.core_run.specs.Kept.{most_operations}
use Rattle.core_run.specs.Machine.{Told, machine, start_state}
use Rattle.core_run.specs.Words.{cells_of, has_object, place_of, start_words}
use Rattle.core_run.proofs.Beginnings.{start_word_at}
use Rattle.core_run.proofs.Reached.{kept}
use Rattle.run_theory.specs.Labels.{Label, label_thread}
use Rattle.run_theory.specs.Steps.{State, stepped}
use Rattle.run_theory.proofs.Kept.{kept_along, reaches_step}
use Rattle.lock_ownership.specs.Holders.{word_of_object}
use Rattle.lock_ownership.proofs.ObjectSteps.{OperatesOn, object_step}
use Rattle.lock_ownership.proofs.Stepping.{Makes, by_itself, by_revoke, by_stop, by_close, has_stepped}
use Rattle.snapshots.specs.Conditions.{AllFit, is_after, lock_fits, state_fits, number_fits, object_fits, objects_judged}
use Rattle.snapshots.specs.Snapshots.{object_with, objects_in_order, snapshot_of}
use Rattle.snapshot_reached.proofs.Cells.{both}
use Rattle.snapshot_reached.proofs.WordsFit.{HolderFits, StateFits, MoveFits, Carries, row_fits}
use Rattle.snapshot_reached.proofs.Asks.{carries}
use Rattle.snapshot_reached.proofs.ObjectOrder.{place_in, Ranked, all_ranked}

-- ---- what the state of each object names is there, in each state that is reached

module _ (code : Code) (s : SetupView) where
  starts_fit : (o : ObjId) → 1 ≤ s.slots → StateFits code s (object_kind o) (shown (object_kind o) (start_word o))
  unfolding packed_start
  starts_fit (object.Mutex cell) some = tt
  starts_fit (object.Cond cell) some = tt
  starts_fit (object.Barrier cell) some = tt
  starts_fit (object.Rw cell) some = (pow_pos s.slots, tt)
  starts_fit (object.Weak lock stripe) some = tt
  starts_fit (object.Slot zero) some = tt
  starts_fit (object.Slot (suc k)) some = tt
  starts_fit object.Threads some = some
  starts_fit object.Halt some = tt
  starts_fit object.Input some = omega arith
  starts_fit object.Output some = tt

  made_carries : is_valid code ≡ true → (l : Label) (th : Thread) (o : Op) (obj : ObjId) (answer : ℤ) (q : Thread) → Makes code s l th o obj answer q → Carries code s o
  made_carries valid l th o obj answer q (by_itself c) = carries code s valid (label_thread l) (settled code s (label_thread l) th) o obj c.comes
  made_carries valid l th o obj answer q (by_revoke lock stripe may e f after) = subst (Carries code s) (sym e) tt
  made_carries valid l th o obj answer q (by_stop may e f after) = subst (Carries code s) (sym e) tt
  made_carries valid l th o obj answer q (by_close may e f after) = subst (Carries code s) (sym e) tt

  module _ (valid : is_valid code ≡ true) (run : IsRunnable code) (limits : IsWithinLimits s) (o : ObjId) (has : has_object code s o ≡ true) where
    abbrev Fit : State Told → Type 0
    Fit st = StateFits code s (object_kind o) (shown (object_kind o) (word_of_object code s o st))

    record IsFit (st : State Told) : Type 0 where
      reached : IsReachable code s st
      fit : Fit st

    start_fit : Fit (start_state code s)
    start_fit =
        let word_is : word_of_object code s o (start_state code s) ≡ start_word o = get_or_from_slice_get (start_words code s) (place_of (cells_of code s) o) (start_word o) 0 (start_word_at code s o limits has) in
        subst (λ w. StateFits code s (object_kind o) (shown (object_kind o) w)) (sym word_is) (starts_fit o limits.some_slot)

    moved : (k : ObjKind) (x : StateOf k) (answer : ℤ) (m : Move (StateOf k)) → m ≡ Moves x answer → MoveFits code s k m → StateFits code s k x
    moved k x answer m e h = subst (MoveFits code s k) e h

    operated : (st st1 : State Told) (l : Label) → IsReachable code s st → Fit st → OperatesOn code s o st l st1 → Fit st1
    operated st st1 l reached fit x =
        let k = kind_of (name_of x.operation) in
        let within = slice_get_within st.threads (label_thread l) x.before x.stands in
        let slots = (kept code s run limits st reached).threads in
        let before : StateFits code s k (shown k (word_of_object code s o st)) = subst (λ z. StateFits code s z (shown z (word_of_object code s o st))) (sym x.fits) fit in
        let after : StateFits code s k (shown k (word_of_object code s o st1)) =
        moved k (shown k (word_of_object code s o st1)) x.answer (first_row (rows x.operation (label_thread l)) (shown k (word_of_object code s o st))) x.row
        (row_fits code s x.operation (label_thread l) (shown k (word_of_object code s o st)) (omega (arith, within, slots)) (made_carries valid l x.before.thread x.operation o x.answer x.after.thread x.makes) before) in
        subst (λ z. StateFits code s z (shown z (word_of_object code s o st1))) x.fits after

    step_fits : (st st1 : State Told) (l : Label) → IsFit st → stepped (machine code s) st l ≡ Some st1 → IsFit st1
    step_fits st st1 l h e = record {
      reached = reaches_step (machine code s) (start_state code s) st st1 l h.reached e;
      fit = ⊎_elim
          (λ a. subst (λ w. StateFits code s (object_kind o) (shown (object_kind o) w)) (sym a.same) h.fit)
          (λ x. operated st st1 l h.reached h.fit x)
          (object_step code s o run limits has st st1 l h.reached (has_stepped code s st st1 l e));
    }

    pub reached_fits : (st : State Told) → IsReachable code s st → Fit st
    reached_fits st reached = (kept_along (machine code s) IsFit step_fits reached.0 (start_state code s) st reached.1 (record { reached = ([], refl); fit = start_fit })).fit

-- ---- as the conditions say it

module _ (code : Code) (s : SetupView) where
  lock_is : (x : LockState) → HolderFits code s x → lock_fits s.slots x ≡ true
  lock_is Free h = refl
  lock_is (HeldBy t) h = lt-ltb t s.slots h

  state_is : (n : ℕ) (k : ObjKind) (x : StateOf k) → IsSoundState k n x → StateFits code s k x → state_fits code s n k x ≡ true
  state_is n kind.Mutex x sound h = lock_is x h
  state_is n kind.Cond (Epoch e) sound h = le-leb e n sound
  state_is n kind.Barrier (Waits c a g) sound h = both _ _ (le-leb c 16 sound.0) (both _ _ (lt-ltb a (max c 1) sound.1) (both _ _ (lt-ltb g (2 ^ 22) sound.2) (le-leb g n sound.3)))
  state_is n kind.Rw (Shared r w) sound h = both _ _ (lt-ltb r (2 ^ s.slots) h.0) (lock_is w h.1)
  state_is n kind.Weak x sound h = lock_is x h
  state_is n kind.Slot Idle sound h = refl
  state_is n kind.Slot Closed sound h = refl
  state_is n kind.Slot Begun sound h = refl
  state_is n kind.Slot Ended sound h = refl
  state_is n kind.Slot Joined sound h = refl
  state_is n kind.Slot Shut sound h = refl
  state_is n kind.Slot (Started f) sound h = h
  state_is n kind.Threads (Counts d l) sound h = both _ _ (le-leb 1 d sound.0) (both _ _ (le-leb d s.slots h) (le-leb l d sound.2))
  state_is n kind.Halt x sound h = refl
  state_is n kind.Input (Position p) sound h = both _ _ (le-leb p n sound) (le-leb p (length s.input) h)
  state_is n kind.Output x sound h = refl

  number_is : (k : ObjKind) (w : ℕ) → IsSoundWord k w → StateFits code s k (shown k w) → number_fits code s (number_of w) k (state_of w) ≡ true
  number_is k w sound h = both _ _ (eq-eqb (packed k (unpacked k (state_of w))) (state_of w) (sym sound.shows)) (state_is (number_of w) k (shown k w) sound.state h)

  back : (w : ℕ) → word_of (number_of w) (state_of w) ≡ w
  back w = omega (arith, div-add-mod' w (2 ^ 32))

  module _ (words : List ℕ) (fits : (o : ObjId) → has_object code s o ≡ true → (number_of (slice_index words (place_of (cells_of code s) o)) ≤ most_operations) × (number_fits code s (number_of (slice_index words (place_of (cells_of code s) o))) (object_kind o) (state_of (slice_index words (place_of (cells_of code s) o))) ≡ true)) where
    abbrev word : ObjId → ℕ
    word o = slice_index words (place_of (cells_of code s) o)

    abbrev found : ObjId → Option (ObjId × ℕ × ℕ)
    found o = object_with o (word o)

    one : (before : Option ℕ) (o : ObjId) → is_after before (place_in code s o) ≡ true → has_object code s o ≡ true → (word o == start_word o) ≡ false → object_fits code s before (o, number_of (word o), state_of (word o)) ≡ true
    one before o after has e =
        let f = fits o has in
        both _ _ has (both _ _ after (both _ _ (le-leb (number_of (word o)) most_operations f.0) (both _ _ f.1 (ap (λ z. not (z == start_word o)) (back (word o)) ∙ ap not e))))

    -- each number before is below this one
    above : (before : Option ℕ) (low n : ℕ) → ((m : ℕ) → before ≡ Some m → m < low) → low ≤ n → is_after before n ≡ true
    above None low n h le = refl
    above (Some m) low n h le = let lt = h m refl in lt-ltb m n (omega arith)

    pub listed : (before : Option ℕ) (low high : ℕ) (os : List ObjId) → ((m : ℕ) → before ≡ Some m → m < low) → Ranked code s low high os → AllFit (objects_judged code s before (filter_map found os))
    listed before low high [] h r = tt
    listed before low high (o ∷ os) h r = by (word o == start_word o) refl (listed before (place_in code s o + 1) high os skipped r.2) (listed (Some (place_in code s o)) (place_in code s o + 1) high os taken r.2)
      where
        skipped : (m : ℕ) → before ≡ Some m → m < place_in code s o + 1
        skipped m e = let lt = h m e in let le = r.0 in omega arith

        taken : (m : ℕ) → Some (place_in code s o) ≡ Some m → m < place_in code s o + 1
        taken m e = let same : place_in code s o ≡ m = cc in omega (arith, same)

        by : (b : Bool) → (word o == start_word o) ≡ b → AllFit (objects_judged code s before (filter_map found os)) → AllFit (objects_judged code s (Some (place_in code s o)) (filter_map found os)) → AllFit (objects_judged code s before (cons_option (if b then None else Some (o, number_of (word o), state_of (word o))) (filter_map found os)))
        by true e without more = without
        by false e without more = (one before o (above before low (place_in code s o) h r.0) r.1 e, more)

  pub objects_fit : (at : ℕ) (st : State Told) → is_valid code ≡ true → IsRunnable code → IsWithinLimits s → IsReachable code s st → AllFit (objects_judged code s None (snapshot_of code s at st).objects)
  objects_fit at st valid run limits reached =
      listed st.words each None 0 _ (objects_in_order code s) (λ m e. cc) (all_ranked code s limits)
    where
      each : (o : ObjId) → has_object code s o ≡ true → (number_of (word_of_object code s o st) ≤ most_operations) × (number_fits code s (number_of (word_of_object code s o st)) (object_kind o) (state_of (word_of_object code s o st)) ≡ true)
      each o has =
          let k = kept code s run limits st reached in
          let there : place_of (cells_of code s) o < length st.words = omega (arith, k.words, slice_get_within (start_words code s) (place_of (cells_of code s) o) (start_word o) (start_word_at code s o limits has)) in
          let at_word : slice_get st.words (place_of (cells_of code s) o) ≡ Some (word_of_object code s o st) = slice_get-get_or st.words (place_of (cells_of code s) o) 0 there in
          let sound = k.sound.each o (word_of_object code s o st) has at_word in
          (sound.1, number_is (object_kind o) (word_of_object code s o st) sound.0 (reached_fits code s valid run limits o has st reached))
