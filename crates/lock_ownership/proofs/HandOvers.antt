-- From the start of a thread to its begin, and from its end to its join.
use Rattle.std.proofs.Common.{◌≡◌, ◌≢◌, ℕ, zero, suc, ◌<◌, ◌≤◌, nat_lt, ◌⊎◌, inl, inr, ⊎_elim, Bool, true, false, List, [], Option, Some, refl, sym, ap, subst, ◌∙◌, ℤ, pos, arith}
use Rattle.std.proofs.lemmas.Bool.{true≢false, ltb-true, ltb-false, cases_eq}
use Rattle.std.proofs.lemmas.Option.{same_Some}
use Rattle.sync_objects.specs.Setup.{SetupView, IsWithinLimits}
use Rattle.sync_objects.specs.States.{SlotState, Idle}
use Rattle.sync_objects.specs.declared.entry.Noted.{Noted}
use Rattle.sync_objects.specs.declared.object.ObjId.TheVariants as object
use Rattle.sync_objects.specs.declared.operation.Op.{Op}
use Rattle.sync_objects.specs.declared.operation.OpName.{OpName}
use Rattle.sync_objects.specs.declared.operation.OpName.TheVariants as name
use Rattle.flow_code.specs.declared.code.Code.{Code}
use Rattle.flow_code.specs.Settle.{IsRunnable}
use Rattle.core_run.specs.Histories.{IsReachable}
use Rattle.core_run.specs.Words.{has_object}
use Rattle.core_run.specs.Machine.{Told, machine, start_state}
use Rattle.core_run.proofs.Lawful.{lawful}
use Rattle.run_theory.specs.Labels.{Label, label_thread}
use Rattle.run_theory.specs.Laws.{NoAccess}
use Rattle.run_theory.specs.Ordered.{Event, Did, event_thread, event_access, event_of, event_at, state_at, HandsOver, start_to_begin, end_to_join, PassesTo}
use Rattle.run_theory.specs.Steps.{State, stepped, number_at}
use Rattle.run_theory.proofs.Locked.{drawn_at, rises_at}
use Rattle.lock_ownership.specs.HandOffs.{IsOnSlot, IsStarted, IsNoOpening, HasEnded}
use Rattle.lock_ownership.proofs.SlotMoves.{life, SlotMove, waits, is_shut, was_started, has_run, is_over, is_used, shut_stays, started_stays, run_stays, over_stays, used_stays}
use Rattle.lock_ownership.proofs.SlotStates.{first_life, other_life}
use Rattle.lock_ownership.proofs.SlotSteps.{life_cases, stays, Happens, begins_here, starts_here, ends_here, start_says, join_says, Opens, opens, shut_up, shut_silent, over_silent, waiting_opens}
use Rattle.lock_ownership.proofs.Stepping.{has_stepped, event_is_own}
use Rattle.lock_ownership.proofs.Turns.{Place, place_at, along, Turn, turn}

module _ (code : Code) (s : SetupView) (run : IsRunnable code) (limits : IsWithinLimits s) (labels : List Label) where
  abbrev begin_state : State Told
  begin_state = start_state code s

  abbrev events : ℕ → Option Event
  events = event_at (machine code s) labels begin_state

  at_begin : IsReachable code s begin_state
  at_begin = ([], refl)

  module _ (k : ℕ) (has : has_object code s (object.Slot k) ≡ true) where
    abbrev life_at : State Told → SlotState
    life_at st = life code s k st

    abbrev Keeps : (SlotState → Bool) → Type 0
    Keeps p = (o : Op) (answer : ℤ) (a b : SlotState) → SlotMove o answer a b → p a ≡ true → p b ≡ true

    -- what once holds of a life holds at each later place
    later : (p : SlotState → Bool) → Keeps p → (a b : State Told) (i j : ℕ) → i ≤ j → state_at (machine code s) labels begin_state i ≡ Some a → state_at (machine code s) labels begin_state j ≡ Some b → p (life_at a) ≡ true → p (life_at b) ≡ true
    later p keeps a b i j le e f =
        along code s (λ x y. p (life_at x) ≡ true → p (life_at y) ≡ true) (λ x h. h) (λ x y z g h w. h (g w))
        (λ x y l r q. stays code s run limits k has x y l r q p keeps)
        labels begin_state a b i j at_begin le e f

    -- and the numbers of its slot never fall
    numbers : (a b : State Told) (i j : ℕ) → i ≤ j → state_at (machine code s) labels begin_state i ≡ Some a → state_at (machine code s) labels begin_state j ≡ Some b → number_at (machine code s) a.words (object.Slot k) ≤ number_at (machine code s) b.words (object.Slot k)
    numbers a b i j le e f =
        along code s (λ x y. number_at (machine code s) x.words (object.Slot k) ≤ number_at (machine code s) y.words (object.Slot k)) (λ x. omega arith) (λ x y z g h. omega arith)
        (λ x y l r q. rises_at (machine code s) (lawful code s run limits) x y l (object.Slot k) has q)
        labels begin_state a b i j at_begin le e f

    -- an operation on the slot that happens at a place
    abbrev on_slot_at : (o : OpName) (t c : ℕ) (st st1 : State Told) (l : Label) (r : IsReachable code s st) (q : stepped (machine code s) st l ≡ Some st1) → events c ≡ event_of (machine code s) st l → Happens code s run limits k has st st1 l r q o t → IsOnSlot events o t k c
    on_slot_at o t c st st1 l r q e h = record { noted = h.noted; word = h.word; answer = h.answer; happens = e ∙ h.happens; named = h.named; on = h.on }

    -- of two operations on the slot at two places the first passes to the second, where it is one that does
    passes_to : (c d : ℕ) (a a1 b b1 : State Told) (l m : Label) → c < d → state_at (machine code s) labels begin_state (suc c) ≡ Some a1 → state_at (machine code s) labels begin_state d ≡ Some b → stepped (machine code s) a l ≡ Some a1 → stepped (machine code s) b m ≡ Some b1 →
        (t u : ℕ) (x y : Noted) (v w : ℕ) (f g : ℤ) → event_of (machine code s) a l ≡ Some (Did t x v f) → event_of (machine code s) b m ≡ Some (Did u y w g) → x.entry.obj ≡ object.Slot k → y.entry.obj ≡ object.Slot k → HandsOver x.entry.obj x.entry.op t v y.entry.op g → PassesTo t x v y g
    passes_to c d a a1 b b1 l m lt next at e h t u x y v w f g p q on_x on_y hands =
        let first = drawn_at (machine code s) (lawful code s run limits) a a1 l t x v f e p in
        let second = drawn_at (machine code s) (lawful code s run limits) b b1 m u y w g h q in
        let risen = first.after in
        let drawn = second.before in
        let more = numbers a1 b (suc c) d (omega arith) next at in
        let first_is = ap (number_at (machine code s) a1.words) on_x in
        let second_is = ap (number_at (machine code s) b.words) on_y in
        record { same_object = on_x ∙ sym on_y; earlier = omega arith; hands = hands }

    -- ---- from start to begin

    idle : (n : ℕ) → n ≢ 0 → has_object code s (object.Slot n) ≡ true → life code s n begin_state ≡ Idle
    idle zero ne h = absurd (ne refl)
    idle (suc n) ne h = other_life code s limits n h

    opening : (x : Event) (o : OpName) (y : Noted) (word : ℕ) (f : ℤ) → x ≡ Did k y word f → y.entry.op ≡ o → (o ≡ name.Begin) ⊎ (o ≡ name.Close) → IsNoOpening x → ⊥
    opening x o y word f e is (inl g) h = (subst IsNoOpening e h).0 (is ∙ g)
    opening x o y word f e is (inr g) h = (subst IsNoOpening e h).1 (is ∙ g)

    -- at an event that is no opening the thread has begun
    runs_at : (j : ℕ) (x : Event) → IsNoOpening x → event_thread x ≡ k → (p : Place code s labels begin_state j x) → has_run (life_at p.before) ≡ true
    runs_at j x goes_on whose p = by (life_cases (life_at p.before))
      where
        own : label_thread p.label ≡ k
        own = sym (event_is_own code s p.before p.after p.label (has_stepped code s p.before p.after p.label p.steps) x p.event) ∙ whose

        by_opening : Opens code s run limits k has p.before p.after p.label p.reached p.steps → ⊥
        by_opening (opens h r) = opening x name.Begin h.noted h.word h.answer (same_Some x (Did k h.noted h.word h.answer) (sym p.event ∙ h.happens)) h.named (inl refl) goes_on
        by_opening (shut_up h r) = opening x name.Close h.noted h.word h.answer (same_Some x (Did k h.noted h.word h.answer) (sym p.event ∙ h.happens)) h.named (inr refl) goes_on

        by : (waits (life_at p.before) ≡ true) ⊎ ((is_shut (life_at p.before) ≡ true) ⊎ (has_run (life_at p.before) ≡ true)) → has_run (life_at p.before) ≡ true
        by (inl w) = absurd (by_opening (waiting_opens code s run limits k has p.before p.after p.label p.reached p.steps own w))
        by (inr (inl w)) = absurd (shut_silent code s run limits k has p.before p.after p.label p.reached p.steps own w)
        by (inr (inr w)) = w

    begin_turn : k ≢ 0 → (j : ℕ) (x : Event) → IsNoOpening x → event_thread x ≡ k → Place code s labels begin_state j x → Turn code s (λ st. has_run (life_at st)) labels begin_state j
    begin_turn ne j x goes_on whose p = turn code s (λ st. has_run (life_at st)) labels begin_state p.before j at_begin p.at (ap has_run (idle k ne has)) (runs_at j x goes_on whose p)

    module _ (ne : k ≢ 0) (j : ℕ) (t : Turn code s (λ st. has_run (life_at st)) labels begin_state j) where
      begun : Happens code s run limits k has t.before t.after t.label t.reached t.steps name.Begin k × (was_started (life_at t.before) ≡ true) × (is_shut (life_at t.before) ≡ false)
      begun = begins_here code s run limits k has t.before t.after t.label t.reached t.steps t.was t.now

      start_turn : Turn code s (λ st. was_started (life_at st)) labels begin_state t.b
      start_turn = turn code s (λ st. was_started (life_at st)) labels begin_state t.before t.b at_begin t.at (ap was_started (idle k ne has)) begun.1

      -- before its begin the thread makes no event
      silent : (i : ℕ) (x : Event) → events i ≡ Some x → event_thread x ≡ k → i < t.b → ⊥
      silent i x e whose lt = by (life_cases (life_at p.before))
        where
          p : Place code s labels begin_state i x
          p = place_at code s labels begin_state i x at_begin e

          own : label_thread p.label ≡ k
          own = sym (event_is_own code s p.before p.after p.label (has_stepped code s p.before p.after p.label p.steps) x p.event) ∙ whose

          by_opening : Opens code s run limits k has p.before p.after p.label p.reached p.steps → ⊥
          by_opening (opens h r) = true≢false (sym (later has_run run_stays p.after t.before (suc i) t.b (omega arith) p.next t.at r) ∙ t.was)
          by_opening (shut_up h r) = true≢false (sym (later is_shut shut_stays p.after t.before (suc i) t.b (omega arith) p.next t.at r) ∙ begun.2)

          by : (waits (life_at p.before) ≡ true) ⊎ ((is_shut (life_at p.before) ≡ true) ⊎ (has_run (life_at p.before) ≡ true)) → ⊥
          by (inl w) = by_opening (waiting_opens code s run limits k has p.before p.after p.label p.reached p.steps own w)
          by (inr (inl w)) = shut_silent code s run limits k has p.before p.after p.label p.reached p.steps own w
          by (inr (inr w)) = true≢false (sym (later has_run run_stays p.before t.before i t.b (omega arith) p.at t.at w) ∙ t.was)

      module _ (u : Turn code s (λ st. was_started (life_at st)) labels begin_state t.b) where
        started : Happens code s run limits k has u.before u.after u.label u.reached u.steps name.Start (label_thread u.label) × (is_used (life_at u.before) ≡ false)
        started = starts_here code s run limits k has u.before u.after u.label u.reached u.steps u.was u.now

        -- there is no other start of it
        only_start : (c v : ℕ) → IsOnSlot events name.Start v k c → c ≡ u.b
        only_start c v o = ⊎_elim (λ e. e) (λ ne2. absurd (apart ne2 (nat_lt c u.b) refl)) (cases_eq c u.b)
          where
            p : Place code s labels begin_state c (Did v o.noted o.word o.answer)
            p = place_at code s labels begin_state c (Did v o.noted o.word o.answer) at_begin o.happens

            says : (was_started (life_at p.before) ≡ false) × (is_used (life_at p.after) ≡ true)
            says = start_says code s run limits k has p.before p.after p.label p.reached p.steps v o.noted o.word o.answer p.event o.on o.named

            apart : c ≢ u.b → (b : Bool) → nat_lt c u.b ≡ b → ⊥
            apart ne2 true e = let less = ltb-true c u.b e in true≢false (sym (later is_used used_stays p.after u.before (suc c) u.b (omega arith) p.next u.at says.1) ∙ started.1)
            apart ne2 false e = let over = ltb-false c u.b e in true≢false (sym (later was_started started_stays u.after p.before (suc u.b) c (omega arith) u.next p.at u.now) ∙ says.0)

        is_started : IsStarted events k j
        is_started = record {
          a = u.b;
          b = t.b;
          order = u.less;
          before = t.less;
          starter = label_thread u.label;
          starts = record { noted = started.0.noted; word = started.0.word; answer = started.0.answer; happens = u.event ∙ started.0.happens; named = started.0.named; on = started.0.on };
          begins = record { noted = begun.0.noted; word = begun.0.word; answer = begun.0.answer; happens = t.event ∙ begun.0.happens; named = begun.0.named; on = begun.0.on };
          passes = passes_to u.b t.b u.before u.after t.before t.after u.label t.label u.less u.next t.at u.steps t.steps (label_thread u.label) k started.0.noted begun.0.noted started.0.word begun.0.word started.0.answer begun.0.answer started.0.happens begun.0.happens started.0.on begun.0.on
              (subst (λ z. HandsOver started.0.noted.entry.obj z (label_thread u.label) started.0.word begun.0.noted.entry.op begun.0.answer) (sym started.0.named)
              (subst (λ z. HandsOver started.0.noted.entry.obj name.Start (label_thread u.label) started.0.word z begun.0.answer) (sym begun.0.named) (start_to_begin started.0.noted.entry.obj (label_thread u.label) started.0.word begun.0.answer)));
          only = only_start;
          first = silent;
        }

    pub started_before : k ≢ 0 → (j : ℕ) (x : Event) → IsNoOpening x → event_thread x ≡ k → Place code s labels begin_state j x → IsStarted events k j
    started_before ne j x goes_on whose p = let t = begin_turn ne j x goes_on whose p in is_started ne j t (start_turn ne j t)

    -- the first thread is never started
    pub not_first : (c v : ℕ) → (o : IsOnSlot events name.Start v k c) → Place code s labels begin_state c (Did v o.noted o.word o.answer) → k ≢ 0
    not_first c v o p e = true≢false (sym (later was_started started_stays begin_state p.before 0 c (omega arith) refl p.at (was_begun k e has)) ∙ (start_says code s run limits k has p.before p.after p.label p.reached p.steps v o.noted o.word o.answer p.event o.on o.named).0)
      where
        was_begun : (n : ℕ) → n ≡ 0 → has_object code s (object.Slot n) ≡ true → was_started (life code s n begin_state) ≡ true
        was_begun zero z h = ap was_started (first_life code s limits h)
        was_begun (suc n) z h = cc

    -- ---- from end to join

    not_over : (n : ℕ) → has_object code s (object.Slot n) ≡ true → is_over (life code s n begin_state) ≡ false
    not_over zero h = ap is_over (first_life code s limits h)
    not_over (suc n) h = ap is_over (other_life code s limits n h)

    module _ (t b : ℕ) (joins : IsOnSlot events name.Join t k b) (zero_is : joins.answer ≡ pos 0) (p : Place code s labels begin_state b (Did t joins.noted joins.word joins.answer)) where
      end_turn : Turn code s (λ st. is_over (life_at st)) labels begin_state b
      end_turn =
          turn code s (λ st. is_over (life_at st)) labels begin_state p.before b at_begin p.at (not_over k has)
          (join_says code s run limits k has p.before p.after p.label p.reached p.steps t joins.noted joins.word (p.event ∙ ap (λ f. Some (Did t joins.noted joins.word f)) zero_is) joins.on joins.named)

      module _ (u : Turn code s (λ st. is_over (life_at st)) labels begin_state b) where
        over : Happens code s run limits k has u.before u.after u.label u.reached u.steps name.End k
        over = ends_here code s run limits k has u.before u.after u.label u.reached u.steps u.was u.now

        -- from the end on the thread makes no access
        no_more : (i : ℕ) (x : Event) → events i ≡ Some x → event_thread x ≡ k → event_access x ≢ NoAccess → (lt : Bool) → nat_lt i u.b ≡ lt → i < u.b
        no_more i x e whose access true l = ltb-true i u.b l
        no_more i x e whose access false l = let high = ltb-false i u.b l in ⊎_elim (λ same. absurd (at_end same)) (λ ne. absurd (following (omega arith))) (cases_eq i u.b)
          where
            at_end : i ≡ u.b → ⊥
            at_end same = access (ap event_access (same_Some x (Did k over.noted over.word over.answer) (sym e ∙ ap events same ∙ u.event ∙ over.happens)))

            following : u.b < i → ⊥
            following lt =
                let q = place_at code s labels begin_state i x at_begin e in
                over_silent code s run limits k has q.before q.after q.label q.reached q.steps (sym (event_is_own code s q.before q.after q.label (has_stepped code s q.before q.after q.label q.steps) x q.event) ∙ whose) x
                (later is_over over_stays u.after q.before (suc u.b) i (omega arith) u.next q.at u.now) q.event access

        has_ended : HasEnded events k t b joins
        has_ended = record {
          a = u.b;
          order = u.less;
          ends = record { noted = over.noted; word = over.word; answer = over.answer; happens = u.event ∙ over.happens; named = over.named; on = over.on };
          passes = passes_to u.b b u.before u.after p.before p.after u.label p.label u.less u.next p.at u.steps p.steps k t over.noted joins.noted over.word joins.word over.answer joins.answer over.happens p.event over.on joins.on
              (subst (λ z. HandsOver over.noted.entry.obj z k over.word joins.noted.entry.op joins.answer) (sym over.named)
              (subst (λ z. HandsOver over.noted.entry.obj name.End k over.word z joins.answer) (sym joins.named) (end_to_join over.noted.entry.obj k over.word joins.answer)));
          last = λ i x e whose access. no_more i x e whose access (nat_lt i u.b) refl;
        }

    pub ended_before : (t b : ℕ) (joins : IsOnSlot events name.Join t k b) → joins.answer ≡ pos 0 → Place code s labels begin_state b (Did t joins.noted joins.word joins.answer) → HasEnded events k t b joins
    ended_before t b joins zero_is p = has_ended t b joins zero_is p (end_turn t b joins zero_is p)
