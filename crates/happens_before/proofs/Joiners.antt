-- Before a thread loads the result of another one it has joined it.
use Rattle.std.proofs.Common.{◌≡◌, ◌≢◌, ℕ, zero, suc, ◌<◌, ◌≤◌, ◌==◌, ⊎_elim, Bool, true, false, List, [], Option, Some, None, refl, sym, ap, subst, ◌∙◌, ℤ, pos, eqb-true, eq-eqb}
use Rattle.std.specs.Prelude.{slice_get}
use Rattle.std.proofs.lemmas.Bool.{true≢false, lt-ltb}
use Rattle.std.proofs.lemmas.Option.{same_Some}
use Rattle.sync_objects.specs.Setup.{SetupView, IsWithinLimits}
use Rattle.sync_objects.specs.Names.{name_of, kind_of}
use Rattle.sync_objects.specs.Packing.{shown}
use Rattle.sync_objects.specs.States.{SlotState}
use Rattle.sync_objects.specs.Table.{Moves, first_row, rows}
use Rattle.sync_objects.specs.declared.entry.Noted.{Noted}
use Rattle.sync_objects.specs.declared.object.ObjId.{ObjId}
use Rattle.sync_objects.specs.declared.object.ObjId.TheVariants as object
use Rattle.sync_objects.specs.declared.operation.Op.{Op}
use Rattle.sync_objects.specs.declared.operation.Op.TheVariants as op
use Rattle.sync_objects.specs.declared.operation.OpName.TheVariants as name
use Rattle.sync_objects.proofs.RowsOf.{join_rows}
use Rattle.word_semantics.specs.Library.{is_misuse}
use Rattle.word_semantics.specs.declared.event.Action.{Action}
use Rattle.word_semantics.specs.declared.event.Action.TheVariants as action
use Rattle.word_semantics.specs.declared.event.Due.{Due}
use Rattle.word_semantics.specs.declared.event.Due.TheVariants as due
use Rattle.flow_code.specs.declared.code.Code.{Code}
use Rattle.flow_code.specs.Next.{due_of, action_of, stopped, slot_closed}
use Rattle.flow_code.specs.Settle.{settled, IsRunnable}
use Rattle.flow_code.specs.Threads.{Thread}
use Rattle.flow_code.proofs.Counts.{IsAccessAction}
use Rattle.flow_code.proofs.Settle.{action_is}
use Rattle.core_run.specs.Histories.{IsReachable}
use Rattle.core_run.specs.Machine.{Told, machine, start_state}
use Rattle.thread_interpreter.specs.Starts.{start_thread}
use Rattle.core_run.specs.Words.{has_object}
use Rattle.core_run.proofs.ThreadRanges.{start_thread_is}
use Rattle.lock_ownership.specs.Holders.{word_of_object}
use Rattle.lock_ownership.specs.HandOffs.{IsOnSlot}
use Rattle.lock_ownership.proofs.ObjectSteps.{row_here}
use Rattle.lock_ownership.proofs.SlotMoves.{life, is_over, over_stays}
use Rattle.lock_ownership.proofs.SlotSteps.{stays as life_stays}
use Rattle.lock_ownership.proofs.Stepping.{ComesTo, Makes, by_itself, by_revoke, by_stop, by_close, IsAccessStep, IsOperationStep, HasStepped, has_stepped}
use Rattle.lock_ownership.proofs.Turns.{Turn, turn, along}
use Rattle.run_theory.specs.Labels.{Label, label_thread}
use Rattle.run_theory.specs.Ordered.{Did, event_of, event_at, state_at}
use Rattle.run_theory.specs.Steps.{State, stepped}
use Rattle.points_to_sound.proofs.Handing.{ends_at}
use Rattle.points_to_sound.proofs.Layouts.{set_got}
use Rattle.access_cells.proofs.Joined.{was_joining, are_over, step_joins}
use Rattle.access_cells.proofs.Joining.{joining, Joins, none, stays, joins}

-- ---- who has joined whom

abbrev is_this : ℕ → Option ℕ → Bool
is_this k None = false
is_this k (Some n) = n == k

abbrev joined_in : Code → ℕ → Option Told → Bool
joined_in code k None = false
joined_in code k (Some told) = is_this k (joining code told.thread)

-- thread u has joined thread k, and loads its result next
abbrev has_joined : Code → (u k : ℕ) → State Told → Bool
has_joined code u k st = joined_in code k (slice_get st.threads u)

this_one : (k : ℕ) (o : Option ℕ) → is_this k o ≡ true → o ≡ Some k
this_one k None e = cc
this_one k (Some n) e = ap Some (eqb-true n k e)

module _ (code : Code) (s : SetupView) (run : IsRunnable code) (limits : IsWithinLimits s) where
  -- ---- the step of a join

  -- the operation by which the thread has joined the other
  pub record JoinsHere (st : State Told) (l : Label) (u k : ℕ) : Type 0 where
    pub noted : Noted
    pub word : ℕ
    pub happens : event_of (machine code s) st l ≡ Some (Did u noted word (pos 0))
    pub named : noted.entry.op ≡ name.Join
    pub on : noted.entry.obj ≡ object.Slot k

  module _ (st st1 : State Told) (l : Label) (reached : IsReachable code s st) (e : stepped (machine code s) st l ≡ Some st1) (k : ℕ) (lt : k < s.slots) where
    abbrev t : ℕ
    t = label_thread l

    h : HasStepped code s st l st1
    h = has_stepped code s st st1 l e

    abbrev z : Thread
    z = settled code s t h.before.thread

    no_join : {P : Type 0} → None ≡ Some k → P
    no_join i = cc

    module _ (was : joining code h.before.thread ≡ Some k → ⊥) (now : joining code h.after.thread ≡ Some k) where
      -- it came about by a join that is due, and was no misuse
      after_step : (q : Thread) (d : Due) (answer : ℤ) → joining code q ≡ Some k → Joins code z q d answer → (d ≡ due.Operate op.Join (object.Slot k)) × (is_misuse answer ≡ false)
      after_step q d answer j (none n) = no_join (sym n ∙ j)
      after_step q d answer j (stays n) = absurd (was (was_joining code s t h.before.thread k (sym n ∙ j)))
      after_step q d answer j (joins i is ne n) = let same : i ≡ k = same_Some i k (sym n ∙ j) in (is ∙ ap (λ m. due.Operate op.Join (object.Slot m)) same, ne)

      comes_joins : (a : Action) (answer : ℤ) (c : ComesTo code s l h.before.thread a answer h.after.thread) → a ≢ action.Ended → (due_of code s t z ≡ due.Operate op.Join (object.Slot k)) × (is_misuse answer ≡ false)
      comes_joins a answer c ne =
          after_step h.after.thread (due_of code s t z) answer now
          (subst (λ q. Joins code z q (due_of code s t z) answer) (sym c.after) (step_joins code s t z answer (ends_at (due_of code s t z) (λ i. ne (sym c.comes ∙ action_is code s t z ∙ i)))))

      no_access : (a : Action) → IsAccessAction a → a ≢ action.Ended
      no_access a i n = subst IsAccessAction n i

      not_join : (a : Action) → IsAccessAction a → a ≡ action.Operate op.Join (object.Slot k) → ⊥
      not_join a i n = subst IsAccessAction n i

      same_op : (o p : Op) (a b : ObjId) → action.Operate o a ≡ action.Operate p b → (o ≡ p) × (a ≡ b)
      same_op o p a b n = (cc, cc)

      answers : (x y : SlotState) (answer : ℤ) → first_row (rows op.Join t) x ≡ Moves y answer → is_misuse answer ≡ false → answer ≡ pos 0
      answers x y answer row ne = ⊎_elim (λ r. r.2) (λ r. absurd (true≢false (sym (ap is_misuse r.2) ∙ ne))) (join_rows t x y answer row)

      by_row : (x : IsOperationStep code s st.words st1.words (event_of (machine code s) st l) l h.before.thread h.after.thread) → x.op ≡ op.Join → x.obj ≡ object.Slot k → is_misuse x.answer ≡ false → JoinsHere st l t k
      by_row x is on ne =
          let has : has_object code s (object.Slot k) ≡ true = lt-ltb k s.slots lt in
          let row = row_here code s (object.Slot k) run limits has st st1 l reached h x on in
          let zero_is = answers (life code s k st) (life code s k st1) x.answer (subst (λ p. first_row (rows p t) (shown (kind_of (name_of p)) (word_of_object code s (object.Slot k) st)) ≡ Moves (shown (kind_of (name_of p)) (word_of_object code s (object.Slot k) st1)) x.answer) is row) ne in
          record { noted = x.noted; word = x.old; happens = x.happens ∙ ap (λ a. Some (Did t x.noted x.old a)) zero_is; named = x.named ∙ ap name_of is; on = x.on ∙ on }

      by_makes : (x : IsOperationStep code s st.words st1.words (event_of (machine code s) st l) l h.before.thread h.after.thread) → Makes code s l h.before.thread x.op x.obj x.answer h.after.thread → JoinsHere st l t k
      by_makes x (by_itself c) =
          let d = comes_joins (action.Operate x.op x.obj) x.answer c (λ n. cc) in
          let same = same_op x.op op.Join x.obj (object.Slot k) (sym c.comes ∙ action_is code s t z ∙ ap action_of d.0) in
          by_row x same.0 same.1 d.1
      by_makes x (by_revoke lock stripe m a b c) = absurd (was (sym (ap (joining code) c) ∙ now))
      by_makes x (by_stop m a b c) = let n : joining code (stopped h.before.thread) ≡ None = refl in no_join (sym n ∙ sym (ap (joining code) c) ∙ now)
      by_makes x (by_close m a b c) = let n : joining code (slot_closed h.before.thread) ≡ None = refl in no_join (sym n ∙ sym (ap (joining code) c) ∙ now)

      by_access : IsAccessStep code s st.words st1.words (event_of (machine code s) st l) l h.before.thread h.after.thread → JoinsHere st l t k
      by_access x =
          let d = comes_joins x.action x.answer x.comes (no_access x.action x.is_access) in
          absurd (not_join x.action x.is_access (sym x.comes.comes ∙ action_is code s t z ∙ ap action_of d.0))

      joins_by : JoinsHere st l t k
      joins_by = ⊎_elim by_access (λ x. by_makes x x.makes) h.kind

    -- a thread that has newly joined another
    joins_here : (u : ℕ) → has_joined code u k st ≡ false → has_joined code u k st1 ≡ true → JoinsHere st l u k
    joins_here u was now = by (slice_get st1.threads u) refl now
      where
        before : (told : Told) → slice_get st.threads u ≡ Some told → joining code told.thread ≡ Some k → ⊥
        before told at j = true≢false (sym (ap (joined_in code k) at ∙ ap (is_this k) j ∙ eq-eqb k k refl) ∙ was)

        own : (told : Told) → u ≡ t → h.after ≡ told → joining code told.thread ≡ Some k → JoinsHere st l u k
        own told same is j =
            subst (λ n. JoinsHere st l n k) (sym same)
            (joins_by (before h.before (ap (slice_get st.threads) same ∙ h.stands)) (ap (λ (q : Told). joining code q.thread) is ∙ j))

        by : (o : Option Told) → slice_get st1.threads u ≡ o → joined_in code k o ≡ true → JoinsHere st l u k
        by None at n = cc
        by (Some told) at n =
            ⊎_elim
            (λ o. absurd (before told o.1 (this_one k (joining code told.thread) n)))
            (λ o. own told o.0 o.1 (this_one k (joining code told.thread) n))
            (set_got st.threads t u h.after told (subst (λ ths. slice_get ths u ≡ Some told) h.threads at))

  -- ---- along a run

  none_at_start : (u k : ℕ) → has_joined code u k (start_state code s) ≡ false
  none_at_start u k = by (slice_get (start_state code s).threads u) refl
    where
      fresh : (u : ℕ) → is_this k (joining code (start_thread code s u)) ≡ false
      fresh zero = refl
      fresh (suc u) = refl

      by : (o : Option Told) → slice_get (start_state code s).threads u ≡ o → joined_in code k o ≡ false
      by None at = refl
      by (Some told) at = ap (λ (q : Told). is_this k (joining code q.thread)) (start_thread_is code s u told at) ∙ fresh u

  module _ (labels : List Label) where
    -- before a thread loads the other's result it has joined it, and that was no misuse
    pub record JoinedBefore (u k j : ℕ) : Type 0 where
      pub b : ℕ
      pub less : b < j
      pub joins : IsOnSlot (event_at (machine code s) labels (start_state code s)) name.Join u k b
      pub answer : joins.answer ≡ pos 0

    pub joined_before : (u k j : ℕ) (st : State Told) (told : Told) → k < s.slots → state_at (machine code s) labels (start_state code s) j ≡ Some st → slice_get st.threads u ≡ Some told → joining code told.thread ≡ Some k → JoinedBefore u k j
    joined_before u k j st told lt at there is =
        let t = turn code s (has_joined code u k) labels (start_state code s) st j ([], refl) at (none_at_start u k) (ap (joined_in code k) there ∙ ap (is_this k) is ∙ eq-eqb k k refl) in
        from t
      where
        from : Turn code s (has_joined code u k) labels (start_state code s) j → JoinedBefore u k j
        from t =
            let x = joins_here t.before t.after t.label t.reached t.steps k lt u t.was t.now in
            record { b = t.b; less = t.less; joins = record { noted = x.noted; word = x.word; answer = pos 0; happens = t.event ∙ x.happens; named = x.named; on = x.on }; answer = refl }

    -- whom a thread has joined is over from then on
    pub over_later : (u k : ℕ) (a b : State Told) (i j : ℕ) (told : Told) → i ≤ j → IsReachable code s a → state_at (machine code s) labels (start_state code s) i ≡ Some a → state_at (machine code s) labels (start_state code s) j ≡ Some b → slice_get a.threads u ≡ Some told → joining code told.thread ≡ Some k → is_over (life code s k b) ≡ true
    over_later u k a b i j told le reached e f at is =
        let over = (are_over code s run limits a reached).each u k told at is in
        along code s (λ y z. is_over (life code s k y) ≡ true → is_over (life code s k z) ≡ true) (λ y p. p) (λ y z w p q r. q (p r))
        (λ y z l r q. life_stays code s run limits k (lt-ltb k s.slots over.0) y z l r q is_over over_stays)
        labels (start_state code s) a b i j ([], refl) le e f over.1
