-- How many ending entries a thread has.
use Rattle.std.proofs.Common.{◌≡◌, ℕ, ◌+◌, ◌<◌, ◌≤◌, ◌⊎◌, inl, inr, Bool, true, false, if◌then◌else◌, refl, sym, ap, subst, ◌∙◌, ℤ, pos, arith}
use Rattle.std.proofs.lemmas.Bool.{true≢false}
use Rattle.sync_objects.specs.Setup.{SetupView}
use Rattle.sync_objects.specs.Names.{name_of, is_ending}
use Rattle.sync_objects.specs.declared.object.ObjId.{ObjId}
use Rattle.sync_objects.specs.declared.object.ObjId.TheVariants as object
use Rattle.sync_objects.specs.declared.operation.Op.{Op}
use Rattle.sync_objects.specs.declared.operation.Op.TheVariants as op
use Rattle.flow_code.specs.declared.code.Code.{Code}
use Rattle.flow_code.specs.declared.thread.Stripe.{Stripe}
use Rattle.word_semantics.specs.declared.event.Due.{Due}
use Rattle.word_semantics.specs.declared.event.Due.TheVariants as due
use Rattle.word_semantics.specs.declared.event.Action.{Action}
use Rattle.word_semantics.specs.declared.event.Action.TheVariants as action
use Rattle.flow_code.specs.Threads.{Thread}
use Rattle.flow_code.specs.Next.{phase_due, due_of, action_of, action_at, phase_after, counted, after_due, gave_up, stopped, slot_closed, has_ended, stepped}
use Rattle.flow_code.specs.Settle.{settled}
use Rattle.word_semantics.specs.Limits.{is_free_of_limit}
use Rattle.flow_code.proofs.Dues.{operate_by_code, leave_due}
use Rattle.flow_code.proofs.Goings.{ThreadOperates, runs, slot_ends, thread_ends, thread_goes}
use Rattle.flow_code.proofs.Counts.{KeepsRest, IsAccessAction, phase_keeps, stepped_is, operate_after, ended_due, ended_action}
use Rattle.flow_code.proofs.Ranges.{phase_leaves, leave_by_code}
use Rattle.flow_code.proofs.Settle.{settled_keeps, action_is}

-- so many ending entries, and so many others, after an operation more
abbrev pub ending_more : Op → ℕ → ℕ
ending_more o n = if is_ending (name_of o) then n + 1 else n

abbrev pub other_more : Op → ℕ → ℕ
other_more o n = if is_ending (name_of o) then n else n + 1

module _ (code : Code) (s : SetupView) (t : ℕ) where
  -- a thread has at most two ending entries: none before its end, and one where it is about to leave the live threads
  pub data EndsSo (th : Thread) (n : ℕ) : Type 0 where
    none_yet : n ≡ 0 → EndsSo th n
    leaves_next : n ≤ 1 → due_of code s t th ≡ due.Operate op.Leave object.Threads → EndsSo th n
    all_over : n ≤ 2 → has_ended th.phase ≡ true → EndsSo th n

  pub few_endings : (th : Thread) (n : ℕ) → EndsSo th n → n ≤ 2
  few_endings th n (none_yet e) = omega arith
  few_endings th n (leaves_next h d) = omega arith
  few_endings th n (all_over h e) = h

  one_at_most : (th : Thread) (n : ℕ) → EndsSo th n → (has_ended th.phase ≡ true → ⊥) → n ≤ 1
  one_at_most th n (none_yet e) lives = omega arith
  one_at_most th n (leaves_next h d) lives = h
  one_at_most th n (all_over h e) lives = absurd (lives e)

  no_ending : (th : Thread) (n : ℕ) → EndsSo th n → (has_ended th.phase ≡ true → ⊥) → (due_of code s t th ≡ due.Operate op.Leave object.Threads → ⊥) → n ≡ 0
  no_ending th n (none_yet e) lives stays = e
  no_ending th n (leaves_next h d) lives stays = absurd (stays d)
  no_ending th n (all_over h e) lives stays = absurd (lives e)

  -- something is due in a thread that hasn't ended
  lives_on : (th : Thread) (d : Due) → due_of code s t th ≡ d → (d ≡ due.Nothing → ⊥) → has_ended th.phase ≡ true → ⊥
  lives_on th d e n h = n (sym e ∙ ended_due code s t th h)

  -- quiet steps, accesses and marks

  quiet_ends : (th : Thread) (answer : ℤ) (n : ℕ) → due_of code s t th ≡ due.Quiet → EndsSo th n → EndsSo (stepped code s t th answer) n
  quiet_ends th answer n e h = none_yet (no_ending th n h (lives_on th due.Quiet e (λ k. cc)) (λ l. let is : due.Operate op.Leave object.Threads ≡ due.Quiet = sym l ∙ e in cc))

  pub settled_ends : (th : Thread) (n : ℕ) → EndsSo th n → EndsSo (settled code s t th) n
  settled_ends th n h = settled_keeps code s t (λ q. EndsSo q n) (λ q e k. quiet_ends q (pos 0) n e k) th h

  pub access_ends : (th : Thread) (a : Action) (answer : ℤ) (n : ℕ) → IsAccessAction a → action_at code s t th ≡ a → EndsSo th n → EndsSo (stepped code s t th answer) n
  access_ends th a answer n is e h =
      none_yet (no_ending th n h
      (λ k. subst IsAccessAction (sym e ∙ ended_action code s t th k) is)
      (λ l. subst IsAccessAction (sym e ∙ action_is code s t th ∙ ap action_of l) is))

  -- operations

  -- what becomes of both numbers with an operation
  abbrev pub Ends : Op → Thread → Thread → ℕ → Type 0
  Ends o th q n = EndsSo q (ending_more o n) × (q.entries ≡ other_more o th.entries)

  most_more : (o : Op) (n : ℕ) → ending_more o n ≤ n + 1
  most_more o n = by (is_ending (name_of o))
    where
      by : (b : Bool) → (if b then n + 1 else n) ≤ n + 1
      by true = omega arith
      by false = omega arith

  by_goes : (th q : Thread) (o : Op) (obj : ObjId) (n : ℕ) → EndsSo th n → due_of code s t th ≡ due.Operate o obj → KeepsRest th q → ThreadOperates code s t th o q → Ends o th (counted o q) n
  by_goes th q o obj n h e k (runs ends r) =
      let none = no_ending th n h (lives_on th (due.Operate o obj) e (λ l. cc)) (λ l. let same : op.Leave ≡ o = leave_is (sym l ∙ e) in true≢false (ap (λ z. is_ending (name_of z)) same ∙ ends)) in
      (subst (EndsSo (counted o q)) (sym (ap (λ b. if b then n + 1 else n) ends)) (none_yet none), ap (other_more o) k.entries)
    where
      leave_is : due.Operate op.Leave object.Threads ≡ due.Operate o obj → op.Leave ≡ o
      leave_is x = cc
  by_goes th q o obj n h e k (slot_ends is r next) =
      let none = no_ending th n h (lives_on th (due.Operate o obj) e (λ l. cc)) (λ l. let same : due.Operate op.Leave object.Threads ≡ due.Operate o obj = sym l ∙ e in cc) in
      (subst (λ z. EndsSo (counted z q) (ending_more z n)) (sym is) (leaves_next (omega arith) (leave_due code s t (counted op.End q) next)), ap (other_more o) k.entries)
  by_goes th q o obj n h e k (thread_ends is ended shaped) =
      let few = one_at_most th n h (lives_on th (due.Operate o obj) e (λ l. cc)) in
      let more = most_more o n in
      (all_over (omega arith) ended, ap (other_more o) k.entries)

  operated_ends : (th : Thread) (o : Op) (obj : ObjId) (answer : ℤ) (n : ℕ) → due_of code s t th ≡ due.Operate o obj → EndsSo th n → Ends o th (after_due code s t th (due.Operate o obj) answer) n
  operated_ends th o obj answer n e h = by (operate_by_code code s t th o obj e)
    where
      by : (phase_due code s t th th.phase ≡ due.Operate o obj) × (is_free_of_limit o ≡ false → th.count < s.limit) ⊎ ((x : Stripe) × (o ≡ op.Retake) × (obj ≡ object.Weak x.lock x.stripe)) → Ends o th (after_due code s t th (due.Operate o obj) answer) n
      by (inl p) =
          let g = thread_goes code s t th (due.Operate o obj) answer p.0 in
          subst (λ z. Ends o th z n) (sym (operate_after code s t th o obj answer g.0.first)) (by_goes th (phase_after code s t th th.phase answer) o obj n h e (phase_keeps code s t th th.phase answer) g.2)
      by (inr r) =
          let none = no_ending th n h (lives_on th (due.Operate o obj) e (λ l. cc)) (λ l. let same : due.Operate op.Leave object.Threads ≡ due.Operate o obj = sym l ∙ e in cc) in
          subst (λ z. Ends z th (after_due code s t th (due.Operate z obj) answer) n) (sym r.1) (none_yet none, refl)

  due_ends : (th : Thread) (d : Due) (o : Op) (obj : ObjId) (answer : ℤ) (n : ℕ) → due_of code s t th ≡ d → action_of d ≡ action.Operate o obj → EndsSo th n → Ends o th (after_due code s t th d answer) n
  due_ends th due.Nothing o obj answer n e a h = cc
  due_ends th due.Quiet o obj answer n e a h = cc
  due_ends th (due.Load c) o obj answer n e a h = cc
  due_ends th (due.Store c w) o obj answer n e a h = cc
  due_ends th due.Mark o obj answer n e a h = cc
  due_ends th (due.Operate p obj') o obj answer n e a h =
      let same : p ≡ o = cc in
      subst (λ z. Ends z th (after_due code s t th (due.Operate p obj') answer) n) same (operated_ends th p obj' answer n e h)
  due_ends th (due.Trap kind) o obj answer n e a h =
      let same : op.TrapHere ≡ o = cc in
      let few = one_at_most th n h (lives_on th (due.Trap kind) e (λ l. cc)) in
      subst (λ z. Ends z th (after_due code s t th (due.Trap kind) answer) n) same (all_over (omega arith) refl, refl)

  pub operate_ends : (th : Thread) (o : Op) (obj : ObjId) (answer : ℤ) (n : ℕ) → action_at code s t th ≡ action.Operate o obj → EndsSo th n → Ends o th (stepped code s t th answer) n
  operate_ends th o obj answer n e h =
      subst (λ z. Ends o th z n) (sym (stepped_is code s t th (due_of code s t th) answer refl))
      (due_ends th (due_of code s t th) o obj answer n refl (sym (action_is code s t th) ∙ e) h)

  -- what others do to the thread

  pub gave_up_ends : (th : Thread) (lock stripe n : ℕ) → EndsSo th n → EndsSo (gave_up th lock stripe) n
  gave_up_ends th lock stripe n (none_yet e) = none_yet e
  gave_up_ends th lock stripe n (leaves_next h d) = leaves_next h (leave_due code s t (gave_up th lock stripe) (phase_leaves code s t th lock stripe th.phase (leave_by_code code s 0 t th d)))
  gave_up_ends th lock stripe n (all_over h e) = all_over h e

  pub stopped_ends : (th : Thread) (n : ℕ) → has_ended th.phase ≡ false → EndsSo th n → EndsSo (stopped th) (n + 1)
  stopped_ends th n lives h = let few = one_at_most th n h (λ e. true≢false (sym e ∙ lives)) in all_over (omega arith) refl

  pub shut_ends : (th : Thread) (n : ℕ) → has_ended th.phase ≡ false → EndsSo th n → EndsSo (slot_closed th) (n + 1)
  shut_ends th n lives h = let few = one_at_most th n h (λ e. true≢false (sym e ∙ lives)) in all_over (omega arith) refl
