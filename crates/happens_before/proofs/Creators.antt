-- Along a run one thread creates the thread of a slot, which is the one that starts it.
use Rattle.std.proofs.Common.{◌≡◌, ◌≢◌, ℕ, suc, ◌<◌, ◌≤◌, nat_lt, inl, inr, ⊎_elim, Bool, true, false, List, [], Some, refl, sym, ap, subst, ◌∙◌, ℤ, arith}
use Rattle.std.specs.Prelude.{slice_get}
use Rattle.std.proofs.lemmas.Bool.{true≢false, lt-ltb, ltb-true, ltb-false, cases_eq}
use Rattle.std.proofs.lemmas.Option.{same_Some}
use Rattle.sync_objects.specs.Setup.{SetupView, IsWithinLimits}
use Rattle.sync_objects.specs.Names.{name_of, kind_of, object_kind}
use Rattle.sync_objects.specs.States.{SlotState}
use Rattle.sync_objects.specs.declared.entry.Noted.{Noted}
use Rattle.sync_objects.specs.declared.object.ObjId.TheVariants as object
use Rattle.sync_objects.specs.declared.operation.Op.{Op}
use Rattle.sync_objects.specs.declared.operation.Op.TheVariants as op
use Rattle.sync_objects.specs.declared.operation.OpName.TheVariants as name
use Rattle.flow_code.specs.declared.code.Code.{Code}
use Rattle.flow_code.specs.Settle.{IsRunnable}
use Rattle.core_run.specs.Histories.{IsReachable}
use Rattle.core_run.specs.Machine.{Told, machine, start_state}
use Rattle.core_run.specs.Words.{has_object}
use Rattle.lock_ownership.specs.Holders.{word_of_object}
use Rattle.lock_ownership.specs.HandOffs.{IsOnSlot}
use Rattle.lock_ownership.proofs.ObjectSteps.{made_fits, row_here}
use Rattle.lock_ownership.proofs.SlotMoves.{SlotMove, starts, shuts, begins, ends, joins, misses, closes, slot_moves}
use Rattle.lock_ownership.proofs.SlotStates.{first_life}
use Rattle.lock_ownership.proofs.Stepping.{IsNoOperation, IsOperationStep, StepKind, HasStepped, has_stepped}
use Rattle.lock_ownership.proofs.Turns.{Place, place_at, along}
use Rattle.run_theory.specs.Labels.{Label, label_thread}
use Rattle.run_theory.specs.Laws.{NoAccess}
use Rattle.run_theory.specs.Ordered.{Event, Did, event_access, event_of, event_at, state_at}
use Rattle.run_theory.specs.Steps.{State, stepped}
use Rattle.points_to_sound.specs.Creations.{Creation, creation, was_started, slot_state, drawn}
use Rattle.points_to_sound.proofs.HandedOver.{hands_over}
use Rattle.points_to_sound.proofs.Handing.{CreatedBy, before, drawn_now, creation_step, drawn_more, slot_step}
use Rattle.points_to_sound.proofs.Layouts.{set_got}

-- the slot's number is drawn, and no other thread is creating its thread
pub record OnlyCreates (code : Code) (s : SetupView) (t k : ℕ) (st : State Told) : Type 0 where
  pub few : k < drawn code s st
  pub only : (u : ℕ) (told : Told) (y : Creation) → slice_get st.threads u ≡ Some told → creation code told.thread ≡ Some y → y.slot ≡ k → u ≡ t

is_start : (o : Op) → name_of o ≡ name.Start → (f : ℕ) × (o ≡ op.Start f)
is_start (op.Start f) e = (f, refl)
is_start _ e = cc

module _ (code : Code) (s : SetupView) (run : IsRunnable code) (limits : IsWithinLimits s) where
  -- ---- one step

  module _ (st st1 : State Told) (l : Label) (reached : IsReachable code s st) (e : stepped (machine code s) st l ≡ Some st1) where
    h : HasStepped code s st l st1
    h = has_stepped code s st st1 l e

    only_after : (t k : ℕ) → OnlyCreates code s t k st → OnlyCreates code s t k st1
    only_after t k c = record {
      few = let a = c.few in let b = drawn_more code s run limits st st1 l reached h in omega (arith, a, b);
      only = λ u told y at is slot. ⊎_elim
          (λ o. c.only u told y o.1 is slot)
          (λ o. own u y o.0 slot (creation_step code s run limits st st1 l reached h y (subst (λ (z : Told). creation code z.thread ≡ Some y) (sym o.1) is)))
          (set_got st.threads (label_thread l) u h.after told (subst (λ ths. slice_get ths u ≡ Some told) h.threads at));
    }
      where
        own : (u : ℕ) (y : Creation) → u ≡ label_thread l → y.slot ≡ k → CreatedBy code s run limits st st1 l reached h y → u ≡ t
        own u y same slot (before x is from) = same ∙ c.only (label_thread l) h.before x h.stands is (sym from ∙ slot)
        own u y same slot (drawn_now new within more fresh) = let a = c.few in absurd (omega (arith, a, new, slot))

    still : (k : ℕ) → k < s.slots → was_started (slot_state code s st k) ≡ true → was_started (slot_state code s st1 k) ≡ true
    still k lt = (slot_step code s run limits st st1 l reached h k lt).still

    -- a start is of a thread that wasn't started, and its thread was creating it
    module _ (v k : ℕ) (lt : k < s.slots) (x : Noted) (word : ℕ) (answer : ℤ) (is : event_of (machine code s) st l ≡ Some (Did v x word answer)) (on : x.entry.obj ≡ object.Slot k) (named : x.entry.op ≡ name.Start) where
      pub record StartsHere : Type 0 where
        pub now : was_started (slot_state code s st1 k) ≡ true
        pub of : Creation
        pub slot : of.slot ≡ k
        pub starter : Told
        pub at : slice_get st.threads v ≡ Some starter
        pub creating : creation code starter.thread ≡ Some of

      moves : (o : Op) (f : ℕ) (a : ℤ) (y z : SlotState) → o ≡ op.Start f → SlotMove o a y z → (was_started y ≡ false) × (was_started z ≡ true)
      moves o f a y z i (starts g n b c) = (ap was_started b, ap was_started c)
      moves o f a y z i (shuts g n b c) = (ap was_started b, ap was_started c)
      moves o f a y z i (begins g n b c) = let m = sym i ∙ n in cc
      moves o f a y z i (ends n b c) = let m = sym i ∙ n in cc
      moves o f a y z i (joins n b c) = let m = sym i ∙ n in cc
      moves o f a y z i (misses n b c) = let m = sym i ∙ n in cc
      moves o f a y z i (closes n b c) = let m = sym i ∙ n in cc

      by_operation : IsOperationStep code s st.words st1.words (event_of (machine code s) st l) l h.before.thread h.after.thread → StartsHere
      by_operation o =
          let noted = same_noted (label_thread l) v o.noted x o.old word o.answer answer (sym o.happens ∙ is) in
          let who = same_thread (label_thread l) v o.noted x o.old word o.answer answer (sym o.happens ∙ is) in
          let obj : o.obj ≡ object.Slot k = sym o.on ∙ ap (λ (z : Noted). z.entry.obj) noted ∙ on in
          let start = is_start o.op (sym o.named ∙ ap (λ (z : Noted). z.entry.op) noted ∙ named) in
          let has : has_object code s (object.Slot k) ≡ true = lt-ltb k s.slots lt in
          let row = row_here code s (object.Slot k) run limits has st st1 l reached h o obj in
          let fits : kind_of (name_of o.op) ≡ object_kind (object.Slot k) = (made_fits code s l h.before.thread o.op o.obj o.answer h.after.thread run limits o.makes).0 ∙ ap object_kind obj in
          let m = moves o.op start.0 o.answer (slot_state code s st k) (slot_state code s st1 k) start.1 (slot_moves o.op (label_thread l) o.answer (word_of_object code s (object.Slot k) st) (word_of_object code s (object.Slot k) st1) fits row) in
          let n = (slot_step code s run limits st st1 l reached h k lt).newly m.0 m.1 in
          record { now = m.1; of = record { slot = k; function = n.0; handed = true }; slot = refl; starter = h.before; at = ap (slice_get st.threads) (sym who) ∙ h.stands; creating = n.1 }
        where
          same_noted : (u w : ℕ) (y z : Noted) (m n : ℕ) (f g : ℤ) → Some (Did u y m f) ≡ Some (Did w z n g) → y ≡ z
          same_noted u w y z m n f g i = cc

          same_thread : (u w : ℕ) (y z : Noted) (m n : ℕ) (f g : ℤ) → Some (Did u y m f) ≡ Some (Did w z n g) → u ≡ w
          same_thread u w y z m n f g i = cc

      starts_here : StartsHere
      starts_here = by h.kind
        where
          by : StepKind code s st.words st1.words (event_of (machine code s) st l) l h.before.thread h.after.thread → StartsHere
          by (inl a) = absurd (subst IsNoOperation (same_Some a.what (Did v x word answer) (sym a.happens ∙ is)) a.no_operation)
          by (inr o) = by_operation o

  -- ---- along a run

  module _ (labels : List Label) where
    abbrev State_at : ℕ → State Told → Type 0
    State_at i st = state_at (machine code s) labels (start_state code s) i ≡ Some st

    pub still_started : (k : ℕ) → k < s.slots → (a b : State Told) (i j : ℕ) → i ≤ j → State_at i a → State_at j b → was_started (slot_state code s a k) ≡ true → was_started (slot_state code s b k) ≡ true
    still_started k lt a b i j le e f =
        along code s (λ y z. was_started (slot_state code s y k) ≡ true → was_started (slot_state code s z k) ≡ true) (λ y p. p) (λ y z w p q r. q (p r))
        (λ y z l r q. still y z l r q k lt)
        labels (start_state code s) a b i j ([], refl) le e f

    pub still_only : (t k : ℕ) (a b : State Told) (i j : ℕ) → i ≤ j → State_at i a → State_at j b → OnlyCreates code s t k a → OnlyCreates code s t k b
    still_only t k a b i j le e f =
        along code s (λ y z. OnlyCreates code s t k y → OnlyCreates code s t k z) (λ y p. p) (λ y z w p q r. q (p r))
        (λ y z l r q. only_after y z l r q t k)
        labels (start_state code s) a b i j ([], refl) le e f

    -- the first thread has its slot from the start on
    pub first_started : (a : State Told) (i : ℕ) → 0 < s.slots → State_at i a → was_started (slot_state code s a 0) ≡ true
    first_started a i lt e = still_started 0 lt (start_state code s) a 0 i (omega arith) refl e (ap was_started (first_life code s limits (lt-ltb 0 s.slots lt)))

    -- who creates a thread is alone with it
    pub creates_alone : (t : ℕ) (st : State Told) (told : Told) (y : Creation) → IsReachable code s st → slice_get st.threads t ≡ Some told → creation code told.thread ≡ Some y → OnlyCreates code s t y.slot st
    creates_alone t st told y reached at is =
        let hands = hands_over code s run limits st reached in
        record { few = (hands.creating t told y at is).few; only = λ u other z there c slot. hands.one u t other told z y there at c is slot }

    -- a start of a thread that is being created comes later, and is its creator's
    module _ (i t : ℕ) (x : Event) (p : Place code s labels (start_state code s) i x) (some : event_access x ≢ NoAccess) (told : Told) (y : Creation) (at : slice_get p.before.threads t ≡ Some told) (is : creation code told.thread ≡ Some y) where
      idle : was_started (slot_state code s p.before y.slot) ≡ false
      idle = ((hands_over code s run limits p.before p.reached).creating t told y at is).idle

      within : y.slot < s.slots
      within = ((hands_over code s run limits p.before p.reached).creating t told y at is).within

      module _ (v a : ℕ) (starting : IsOnSlot (event_at (machine code s) labels (start_state code s)) name.Start v y.slot a) where
        place : Place code s labels (start_state code s) a (Did v starting.noted starting.word starting.answer)
        place = place_at code s labels (start_state code s) a (Did v starting.noted starting.word starting.answer) ([], refl) starting.happens

        made : StartsHere place.before place.after place.label place.reached place.steps v y.slot within starting.noted starting.word starting.answer place.event starting.on starting.named
        made = starts_here place.before place.after place.label place.reached place.steps v y.slot within starting.noted starting.word starting.answer place.event starting.on starting.named

        at_i : event_at (machine code s) labels (start_state code s) i ≡ Some x → i ≡ a → ⊥
        at_i e same = some (ap event_access (same_Some x (Did v starting.noted starting.word starting.answer) (sym e ∙ ap (event_at (machine code s) labels (start_state code s)) same ∙ starting.happens)))

        pub starts_later : event_at (machine code s) labels (start_state code s) i ≡ Some x → i < a
        starts_later e = by (nat_lt i a) refl
          where
            by : (b : Bool) → nat_lt i a ≡ b → i < a
            by true n = ltb-true i a n
            by false n =
                let le = ltb-false i a n in
                absurd (⊎_elim (λ same. at_i e same) (λ ne. true≢false (sym (still_started y.slot within place.after p.before (suc a) i (omega arith) place.next p.at made.now) ∙ idle)) (cases_eq i a))

        pub starter_is : i < a → v ≡ t
        starter_is lt = (still_only t y.slot p.before place.before i a (omega (arith, lt)) p.at place.at (creates_alone t p.before told y p.reached at is)).only v made.starter made.of made.at made.creating made.slot
