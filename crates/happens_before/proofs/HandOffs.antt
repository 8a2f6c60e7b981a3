-- Two conflicting accesses of a cell by which threads hand over are ordered by a thread's start or by its join.
use Rattle.std.proofs.Common.{◌≡◌, ◌≢◌, ℕ, ◌*◌, ◌<◌, ◌||◌, Bool, true, false, List, Some, refl, sym, ap, subst, ◌∙◌, arith}
use Rattle.std.specs.Prelude.{slice_get}
use Rattle.std.proofs.lemmas.Bool.{true≢false}
use Rattle.sync_objects.specs.Setup.{SetupView, IsWithinLimits}
use Rattle.sync_objects.specs.declared.operation.OpName.TheVariants as name
use Rattle.flow_code.specs.declared.code.Code.{Code}
use Rattle.flow_code.specs.declared.thread.Phase.TheVariants as phase
use Rattle.flow_code.specs.Constants.{constants_fit}
use Rattle.flow_code.specs.Settle.{next, settled, IsRunnable}
use Rattle.flow_code.specs.Threads.{Thread}
use Rattle.flow_code.specs.Valid.{is_valid}
use Rattle.flow_code.proofs.Runnable.{valid_runnable}
use Rattle.core_run.specs.Histories.{IsReachable}
use Rattle.core_run.specs.Machine.{Told, machine, start_state}
use Rattle.lock_ownership.specs.HandOffs.{IsOnSlot, IsStarted}
use Rattle.lock_ownership.proofs.HandOrders.{is_started, ordered_by_start, ordered_by_join}
use Rattle.lock_ownership.proofs.SlotMoves.{life, is_over}
use Rattle.lock_ownership.proofs.Turns.{Place}
use Rattle.run_theory.specs.Labels.{Label}
use Rattle.run_theory.specs.Laws.{NoAccess}
use Rattle.run_theory.specs.Ordered.{Event, event_thread, event_access, event_at, Ordered}
use Rattle.run_theory.specs.Steps.{State}
use Rattle.points_to_sound.specs.Creations.{Creation, creation, was_started, slot_state}
use Rattle.points_to_sound.specs.Objects.{Object}
use Rattle.points_to_sound.specs.States.{PointsWell}
use Rattle.points_to_sound.proofs.HandedOver.{hands_over}
use Rattle.points_to_sound.proofs.Handing.{was_creating}
use Rattle.points_to_sound.proofs.Settling.{Sets}
use Rattle.access_cells.specs.Accesses.{names_cell, at_rest}
use Rattle.access_cells.proofs.Found.{hand_off, lives, begun}
use Rattle.access_cells.proofs.Joined.{was_joining}
use Rattle.access_cells.proofs.Joining.{joining}
use Rattle.access_cells.proofs.Naming.{HandOff, takes_argument, hands_argument, takes_result, hands_result}
use Rattle.access_cells.proofs.Settled.{code_sets, points_at_rest}
use Rattle.happens_before.proofs.Acting.{opens_none}
use Rattle.happens_before.proofs.Creators.{still_started, still_only, first_started, creates_alone, starts_later, starter_is}
use Rattle.happens_before.proofs.Joiners.{joined_before, over_later}

module _ (code : Code) (s : SetupView) (valid : is_valid code ≡ true) (fit : constants_fit code ≡ true) (limits : IsWithinLimits s) (labels : List Label) where
  run : IsRunnable code
  run = valid_runnable code valid

  -- a thread at an access of a hand-off cell
  pub record HandsAt (st : State Told) (t cell : ℕ) (store : Bool) : Type 0 where
    pub reached : IsReachable code s st
    pub told : Told
    pub at : slice_get st.threads t ≡ Some told
    pub named : names_cell (next code s t told.thread) ≡ Some (cell, store)

  module _ (st : State Told) (t cell : ℕ) (store : Bool) (d : HandsAt st t cell store) where
    abbrev z : Thread
    z = settled code s t d.told.thread

    sets : Sets code s
    sets = code_sets code s valid fit limits st d.reached

    rests : (made : List Object) × PointsWell code s made (at_rest code s st)
    rests = points_at_rest code s valid fit limits st d.reached

    what : cell < 2 * s.slots → HandOff code t z cell store
    what low = hand_off code s sets st d.reached rests.0 rests.1 t d.told d.at cell store d.named low

    started : (f : ℕ) → z.phase ≡ phase.Begun f → was_started (slot_state code s st t) ≡ true
    started f p = begun code s sets st d.reached rests.0 rests.1 t d.told d.at f p

    creating : (y : Creation) → creation code z ≡ Some y → creation code d.told.thread ≡ Some y
    creating y e = was_creating code s t d.told.thread y e

    idle : (y : Creation) → creation code z ≡ Some y → (y.slot < s.slots) × (was_started (slot_state code s st y.slot) ≡ false)
    idle y e = let c = (hands_over code s run limits st d.reached).creating t d.told y d.at (creating y e) in (c.within, c.idle)

    alive : is_over (life code s t st) ≡ true → ⊥
    alive over = lives code s sets st d.reached rests.0 rests.1 t d.told d.at cell store d.named over

  module _ (i j : ℕ) (lt : i < j) (x y : Event) (p : Place code s labels (start_state code s) i x) (q : Place code s labels (start_state code s) j y)
      (at_first : event_at (machine code s) labels (start_state code s) i ≡ Some x) (at_second : event_at (machine code s) labels (start_state code s) j ≡ Some y)
      (ne : event_thread x ≢ event_thread y) (some : event_access x ≢ NoAccess) (some_too : event_access y ≢ NoAccess)
      (cell : ℕ) (a b : Bool) (one_stores : (a || b) ≡ true) (low : cell < 2 * s.slots)
      (d : HandsAt p.before (event_thread x) cell a) (e : HandsAt q.before (event_thread y) cell b) where
    abbrev t : ℕ
    t = event_thread x

    abbrev u : ℕ
    u = event_thread y

    abbrev Goal : Type 0
    Goal = Ordered (event_at (machine code s) labels (start_state code s)) i j

    abbrev First : Type 0
    First = HandOff code t (settled code s t d.told.thread) cell a

    abbrev Second : Type 0
    Second = HandOff code u (settled code s u e.told.thread) cell b

    loads_both : a ≡ false → b ≡ false → Goal
    loads_both n m = absurd (true≢false (sym one_stores ∙ ap (λ k. k || b) n ∙ m))

    -- ---- arguments

    -- the argument is handed over, then the thread is started, begins and takes it
    module _ (c : Creation) (creates : creation code (settled code s t d.told.thread) ≡ Some c) (slot_is : c.slot ≡ u) where
      not_first : u ≢ 0
      not_first zero_is =
          let i1 = idle p.before t cell a d c creates in
          let slot_zero : c.slot ≡ 0 = slot_is ∙ zero_is in
          let few : 0 < s.slots = subst (λ n. n < s.slots) slot_zero i1.0 in
          true≢false (sym (first_started code s run limits labels p.before i few p.at) ∙ ap (λ n. was_started (slot_state code s p.before n)) (sym slot_zero) ∙ i1.1)

      by_start : Goal
      by_start =
          let z = is_started code s run limits labels j y at_second not_first (opens_none y some_too) in
          from z
        where
          from : IsStarted (event_at (machine code s) labels (start_state code s)) u j → Goal
          from z =
              let starting : IsOnSlot (event_at (machine code s) labels (start_state code s)) name.Start z.starter c.slot z.a = subst (λ n. IsOnSlot (event_at (machine code s) labels (start_state code s)) name.Start z.starter n z.a) (sym slot_is) z.starts in
              let was = creating p.before t cell a d c creates in
              let later = starts_later code s run limits labels i t x p some d.told c d.at was z.starter z.a starting at_first in
              let who = starter_is code s run limits labels i t x p some d.told c d.at was z.starter z.a starting later in
              ordered_by_start code s run limits labels t u i z.a j x y (subst (λ n. IsOnSlot (event_at (machine code s) labels (start_state code s)) name.Start n u z.a) who z.starts) at_first refl later at_second refl (opens_none y some_too)

    -- once a thread has begun, no argument is handed to it
    begun_first : (f : ℕ) (c : Creation) → (settled code s t d.told.thread).phase ≡ phase.Begun f → creation code (settled code s u e.told.thread) ≡ Some c → c.slot ≡ t → ⊥
    begun_first f c begins creates slot_is =
        let free = idle q.before u cell b e c creates in
        let was = started p.before t cell a d f begins in
        let now = still_started code s run limits labels c.slot free.0 p.before q.before i j (omega (arith, lt)) p.at q.at (subst (λ n. was_started (slot_state code s p.before n) ≡ true) (sym slot_is) was) in
        true≢false (sym now ∙ free.1)

    -- and no two threads hand one over
    both_hand : (c g : Creation) → creation code (settled code s t d.told.thread) ≡ Some c → creation code (settled code s u e.told.thread) ≡ Some g → g.slot ≡ c.slot → ⊥
    both_hand c g creates too slot_is =
        let alone = creates_alone code s run limits labels t p.before d.told c d.reached d.at (creating p.before t cell a d c creates) in
        let later = still_only code s run limits labels t c.slot p.before q.before i j (omega (arith, lt)) p.at q.at alone in
        ne (sym (later.only u e.told g e.at (creating q.before u cell b e g too) slot_is))

    -- ---- results

    -- the result is handed over, then the thread is joined, and its joiner takes it
    by_join : (k : ℕ) → k < s.slots → t ≡ k → joining code (settled code s u e.told.thread) ≡ Some k → Goal
    by_join k few same joins =
        let z = joined_before code s run limits labels u k j q.before e.told few q.at e.at (was_joining code s u e.told.thread k joins) in
        ordered_by_join code s run limits labels u k i z.b j x y z.joins z.answer at_first same some z.less at_second refl

    -- whoever was joined hands none over
    joined_first : (k : ℕ) → u ≡ k → joining code (settled code s t d.told.thread) ≡ Some k → ⊥
    joined_first k same joins =
        alive q.before u cell b e
        (subst (λ n. is_over (life code s n q.before) ≡ true) (sym same)
        (over_later code s run limits labels t k p.before q.before i j d.told (omega (arith, lt)) d.reached p.at q.at d.at (was_joining code s t d.told.thread k joins)))

    -- ---- all

    by : First → Second → Goal
    by (takes_argument f ph c n) (takes_argument g pg k m) = loads_both n m
    by (takes_argument f ph c n) (hands_argument g m k o) = absurd (begun_first f g ph m (omega (arith, c, k)))
    by (takes_argument f ph c n) (takes_result k m g o) = loads_both n o
    by (takes_argument f ph c n) (hands_result k m) = absurd (omega (arith, c, k))
    by (hands_argument g m c o) (takes_argument f ph k n) = by_start g m (omega (arith, c, k))
    by (hands_argument g m c o) (hands_argument f n k l) = absurd (both_hand g f m n (omega (arith, c, k)))
    by (hands_argument g m c o) (takes_result k n f l) = absurd (omega (arith, c, f))
    by (hands_argument g m c o) (hands_result k n) = absurd (omega (arith, c, k))
    by (takes_result k m c o) (takes_argument f ph g n) = loads_both o n
    by (takes_result k m c o) (hands_argument f n g l) = absurd (omega (arith, c, g))
    by (takes_result k m c o) (takes_result g n f l) = loads_both o l
    by (takes_result k m c o) (hands_result g n) = absurd (joined_first k (omega (arith, c, g)) m)
    by (hands_result c o) (takes_argument f ph g n) = absurd (omega (arith, c, g))
    by (hands_result c o) (hands_argument f n g l) = absurd (omega (arith, c, g))
    by (hands_result c o) (takes_result k m g n) = by_join k (omega (arith, g, low)) (omega (arith, c, g)) m
    by (hands_result c o) (hands_result g n) = absurd (ne (omega (arith, c, g)))

    pub hand_offs_ordered : Goal
    hand_offs_ordered = by (what p.before t cell a d low) (what q.before u cell b e low)
