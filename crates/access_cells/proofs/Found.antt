-- In each state that is reached: what the next actions of its threads name.
use Rattle.std.proofs.Common.{◌≡◌, ◌≢◌, ℕ, ◌*◌, ◌<◌, ◌≤◌, ◌⊎◌, inl, inr, ⊎_elim, Bool, true, false, List, Some, refl, sym, ap, subst, ◌∙◌, arith}
use Rattle.std.specs.Prelude.{slice_get}
use Rattle.std.proofs.lemmas.Bool.{true≢false}
use Rattle.std.proofs.lemmas.Option.{same_Some, slice_get_within}
use Rattle.sync_objects.specs.Setup.{SetupView}
use Rattle.sync_objects.specs.declared.object.ObjId.{ObjId}
use Rattle.sync_objects.specs.declared.object.ObjId.TheVariants as object
use Rattle.sync_objects.specs.declared.operation.Op.{Op}
use Rattle.sync_objects.specs.declared.operation.Op.TheVariants as op
use Rattle.word_semantics.specs.declared.event.Action.{Action}
use Rattle.word_semantics.specs.declared.event.Action.TheVariants as action
use Rattle.word_semantics.specs.declared.event.Due.{Due}
use Rattle.word_semantics.specs.declared.event.Due.TheVariants as due
use Rattle.flow_code.specs.declared.code.Code.{Code}
use Rattle.flow_code.specs.declared.thread.Phase.TheVariants as phase
use Rattle.flow_code.specs.Next.{phase_due, due_of, action_of, action_at}
use Rattle.flow_code.specs.Settle.{settled, IsRunnable}
use Rattle.flow_code.specs.Threads.{Thread}
use Rattle.flow_code.proofs.Counts.{IsAccessAction, settled_keeps_all}
use Rattle.flow_code.proofs.Dues.{access_by_code, operate_by_code}
use Rattle.flow_code.proofs.Runnable.{valid_runnable}
use Rattle.flow_code.proofs.Settle.{action_is}
use Rattle.core_run.specs.Histories.{IsReachable}
use Rattle.core_run.specs.Machine.{Told}
use Rattle.core_run.specs.Words.{cells_of, has_object}
use Rattle.core_run.proofs.Reached.{kept}
use Rattle.run_theory.specs.Steps.{State}
use Rattle.lock_ownership.proofs.SlotMoves.{is_over, life}
use Rattle.lock_ownership.proofs.SlotStates.{alive}
use Rattle.lock_ownership.proofs.SlotThreads.{calm_over, over_access}
use Rattle.points_to_sound.specs.Creations.{Creation, creation, was_started, slot_state, HandsOver}
use Rattle.points_to_sound.specs.Objects.{Object}
use Rattle.points_to_sound.specs.States.{marks_of, PointsWell}
use Rattle.points_to_sound.proofs.HandedOver.{hands_over}
use Rattle.points_to_sound.proofs.Handing.{was_creating}
use Rattle.points_to_sound.proofs.Settling.{Sets}
use Rattle.access_cells.specs.Accesses.{names_cell, IsAccess, at_rest}
use Rattle.access_cells.proofs.Joined.{was_joining, are_over}
use Rattle.access_cells.proofs.Naming.{HandOff, takes_argument, hands_argument, takes_result, hands_result, Names, IsKnown, IsThere, phase_there}
use Rattle.access_cells.proofs.Resting.{resting_at}
use Rattle.access_cells.proofs.Stripes.{stripe_there}

-- ---- what is named, by what comes next

same_named : (p q : ℕ × Bool) → Some p ≡ Some q → (p.0 ≡ q.0) × (p.1 ≡ q.1)
same_named p q e = let same = same_Some p q e in (ap (λ (x : ℕ × Bool). x.0) same, ap (λ (x : ℕ × Bool). x.1) same)

-- an action that names a cell is due
pub named_due : (P : ℕ → Bool → Type 0) (d : Due) (c : ℕ) (store : Bool) → names_cell (action_of d) ≡ Some (c, store) → ((k : ℕ) → d ≡ due.Load k → P k false) → ((k w : ℕ) → d ≡ due.Store k w → P k true) → P c store
named_due P due.Nothing c store e f g = cc
named_due P due.Quiet c store e f g = cc
named_due P (due.Load k) c store e f g = let q = same_named (k, false) (c, store) e in subst (P c) q.1 (subst (λ n. P n false) q.0 (f k refl))
named_due P (due.Store k w) c store e f g = let q = same_named (k, true) (c, store) e in subst (P c) q.1 (subst (λ n. P n true) q.0 (g k w refl))
named_due P due.Mark c store e f g = cc
named_due P (due.Operate o obj) c store e f g = cc
named_due P (due.Trap kind) c store e f g = cc

-- an operation is due, or it is a trap
operates_or_traps : (d : Due) (o : Op) (obj : ObjId) → action_of d ≡ action.Operate o obj → (d ≡ due.Operate o obj) ⊎ (obj ≡ object.Halt)
operates_or_traps due.Nothing o obj e = cc
operates_or_traps due.Quiet o obj e = cc
operates_or_traps (due.Load c) o obj e = cc
operates_or_traps (due.Store c w) o obj e = cc
operates_or_traps due.Mark o obj e = cc
operates_or_traps (due.Operate p q) o obj e = let f : p ≡ o = cc in let g : q ≡ obj = cc in inl cc
operates_or_traps (due.Trap kind) o obj e = let f : object.Halt ≡ obj = cc in inr (sym f)

names_access : (a : Action) (c : ℕ) (store : Bool) → names_cell a ≡ Some (c, store) → IsAccessAction a
names_access (action.Load k) c store e = tt
names_access (action.Store k w) c store e = tt
names_access action.Quiet c store e = cc
names_access action.Mark c store e = tt
names_access (action.Operate o obj) c store e = cc
names_access action.Ended c store e = cc

module _ (code : Code) (s : SetupView) (x : Sets code s) (st : State Told) (reached : IsReachable code s st) (made : List Object) (good : PointsWell code s made (at_rest code s st)) where
  run : IsRunnable code
  run = valid_runnable code x.valid

  hands : HandsOver code s st
  hands = hands_over code s run x.limits st reached

  -- ---- one thread

  module _ (t : ℕ) (told : Told) (at : slice_get st.threads t ≡ Some told) where
    abbrev z : Thread
    z = settled code s t told.thread

    lt : t < s.slots
    lt = let few = slice_get_within st.threads t told at in let n = (kept code s run x.limits st reached).threads in omega arith

    few : (y : Creation) → creation code z ≡ Some y → y.slot < s.slots
    few y e = (hands.creating t told y at (was_creating code s t told.thread y e)).within

    there : IsThere code s t made z (phase_due code s t z z.phase)
    there = phase_there code s t lt x.valid made st.words (marks_of (at_rest code s st).threads) good.laid z few z.phase refl (good.threads t _ (resting_at code s st t told at))

    -- the cell that the next action names is one of a hand-off, or of an access of the program
    pub names : (c : ℕ) (store : Bool) → names_cell (action_at code s t z) ≡ Some (c, store) → Names code s t made z c store
    names c store e =
        named_due (Names code s t made z) (due_of code s t z) c store (ap names_cell (sym (action_is code s t z)) ∙ e)
        (λ k d. subst (IsThere code s t made z) (access_by_code code s t z (due.Load k) tt d).0 there)
        (λ k w d. subst (IsThere code s t made z) (access_by_code code s t z (due.Store k w) tt d).0 there)

    -- and the object of an operation is there
    known : (o : Op) (obj : ObjId) → action_at code s t z ≡ action.Operate o obj → IsKnown code s t made z o obj
    known o obj e =
        ⊎_elim
        (λ d. ⊎_elim
        (λ p. subst (IsThere code s t made z) p.0 there)
        (λ r. subst (λ y. IsKnown code s t made z o y) (sym r.2) (subst (λ p. IsKnown code s t made z p (object.Weak r.0.lock r.0.stripe)) (sym r.1) tt))
        (operate_by_code code s t z o obj d))
        (λ h. subst (IsKnown code s t made z o) (sym h) refl)
        (operates_or_traps (due_of code s t z) o obj (sym (action_is code s t z) ∙ e))

    weak_there : (lock k : ℕ) → phase_due code s t z z.phase ≡ due.Operate op.Take (object.Weak lock k) → has_object code s (object.Weak lock k) ≡ true
    weak_there lock k e = subst (IsThere code s t made z) e there

    object_known : (o : Op) (obj : ObjId) → action_at code s t z ≡ action.Operate o obj → IsKnown code s t made z o obj → has_object code s obj ≡ true
    object_known o (object.Weak lock k) e h =
        ⊎_elim
        (λ d. stripe_there code s run x.limits st reached t told at o lock k d (weak_there lock k))
        (λ (i : object.Weak lock k ≡ object.Halt). ap (has_object code s) i ∙ refl)
        (operates_or_traps (due_of code s t z) o (object.Weak lock k) (sym (action_is code s t z) ∙ e))
    object_known o (object.Mutex c) e h = h
    object_known o (object.Cond c) e h = h
    object_known o (object.Barrier c) e h = h
    object_known o (object.Rw c) e h = h
    object_known o (object.Slot c) e h = h
    object_known o object.Threads e h = h
    object_known o object.Halt e h = h
    object_known o object.Input e h = h
    object_known o object.Output e h = h

    -- the object of the next operation is there
    pub object_there : (o : Op) (obj : ObjId) → action_at code s t z ≡ action.Operate o obj → has_object code s obj ≡ true
    object_there o obj e = object_known o obj e (known o obj e)

    -- a hand-off cell is one of the first cells
    pub low : (c : ℕ) (store : Bool) → HandOff code t z c store → c < 2 * s.slots
    low c store (takes_argument f p e i) = let l = lt in omega arith
    low c store (hands_argument y n e i) = let l = few y n in omega arith
    low c store (takes_result k j e i) = let l = ((are_over code s run x.limits st reached).each t k told at (was_joining code s t told.thread k j)).0 in omega arith
    low c store (hands_result e i) = let l = lt in omega arith

    -- and no cell of an object
    pub high : (c : ℕ) (store : Bool) → IsAccess code s made z c store → (2 * s.slots ≤ c) × (c < cells_of code s)
    high c store a = let r = a.reaches in let w = r.within in good.laid.inside r.object c r.is (record { from = omega (arith, r.cell); to = omega (arith, r.cell) })

    pub cell_there : (c : ℕ) (store : Bool) → names_cell (action_at code s t z) ≡ Some (c, store) → c < cells_of code s
    cell_there c store e = ⊎_elim (λ h. let l = low c store h in omega arith) (λ a. (high c store a).1) (names c store e)

    -- a hand-off cell is named by a hand-off
    pub hand_off : (c : ℕ) (store : Bool) → names_cell (action_at code s t z) ≡ Some (c, store) → c < 2 * s.slots → HandOff code t z c store
    hand_off c store e l = ⊎_elim (λ h. h) (λ a. let up = (high c store a).0 in absurd (omega arith)) (names c store e)

    -- who accesses a cell hasn't ended its slot
    pub lives : (c : ℕ) (store : Bool) → names_cell (action_at code s t z) ≡ Some (c, store) → is_over (life code s t st) ≡ true → ⊥
    lives c store e over = over_access code s t z (action_at code s t z) (names_access (action_at code s t z) c store e) refl (calm_over code s t told.thread (((alive code s run x.limits st reached).each t told at).over over))

    pub begun : (f : ℕ) → z.phase ≡ phase.Begun f → was_started (slot_state code s st t) ≡ true
    begun f p = hands.begun t f told at (sym (settled_keeps_all code s t told.thread).phase ∙ p)

  -- ---- two threads

  module _ (t u : ℕ) (ne : t ≢ u) (told other : Told) (at : slice_get st.threads t ≡ Some told) (there_at : slice_get st.threads u ≡ Some other) where
    -- where one of two hand-offs stores, they are of different cells
    apart : (c : ℕ) (a b : Bool) → names_cell (action_at code s t (settled code s t told.thread)) ≡ Some (c, a) → HandOff code t (settled code s t told.thread) c a → HandOff code u (settled code s u other.thread) c b → a ≡ true → ⊥
    apart c a b e (takes_argument f p i n) h is = true≢false (sym is ∙ n)
    apart c a b e (takes_result k j i n) h is = true≢false (sym is ∙ n)
    apart c a b e (hands_argument y m i n) (takes_argument f p j o) is =
        let slot_is : y.slot ≡ u = omega arith in
        let idle = (hands.creating t told y at (was_creating code s t told.thread y m)).idle in
        true≢false (sym (begun u other there_at f p) ∙ ap (λ k. was_started (slot_state code s st k)) (sym slot_is) ∙ idle)
    apart c a b e (hands_argument y m i n) (hands_argument v q j o) is =
        let slot_is : y.slot ≡ v.slot = omega arith in
        ne (hands.one t u told other y v at there_at (was_creating code s t told.thread y m) (was_creating code s u other.thread v q) slot_is)
    apart c a b e (hands_argument y m i n) (takes_result k q j o) is = absurd (omega arith)
    apart c a b e (hands_argument y m i n) (hands_result j o) is = absurd (omega arith)
    apart c a b e (hands_result i n) (takes_argument f p j o) is = absurd (omega arith)
    apart c a b e (hands_result i n) (hands_argument v q j o) is = absurd (omega arith)
    apart c a b e (hands_result i n) (takes_result k q j o) is =
        let same : k ≡ t = omega arith in
        let over = ((are_over code s run x.limits st reached).each u k other there_at (was_joining code s u other.thread k q)).1 in
        lives t told at c a e (subst (λ m. is_over (life code s m st) ≡ true) same over)
    apart c a b e (hands_result i n) (hands_result j o) is = ne (omega arith)

    pub first_loads : (c : ℕ) (a b : Bool) → names_cell (action_at code s t (settled code s t told.thread)) ≡ Some (c, a) → names_cell (action_at code s u (settled code s u other.thread)) ≡ Some (c, b) → c < 2 * s.slots → a ≡ false
    first_loads c true b e i l = absurd (apart c true b e (hand_off t told at c true e l) (hand_off u other there_at c b i l) refl)
    first_loads c false b e i l = refl
