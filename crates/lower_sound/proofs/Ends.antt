-- The end of a thread's first function.
use Rattle.std.proofs.Common.{◌≡◌, ℕ, ◌+◌, ◌-◌, inr, Bool, true, false, not, cond, nat_le, nat_eq, ◌&&◌, ℤ, pos, [], length, Some, None, slice_get, refl, sym, ◌∙◌, ap, subst}
use Rattle.sync_objects.specs.Setup.{SetupView}
use Rattle.sync_objects.specs.Names.{name_of, is_ending}
use Rattle.sync_objects.specs.declared.object.ObjId.{ObjId}
use Rattle.sync_objects.specs.declared.object.ObjId.TheVariants as object_id
use Rattle.sync_objects.specs.declared.operation.Op.{Op}
use Rattle.sync_objects.specs.declared.operation.Op.TheVariants as op
use Rattle.rr_base.specs.declared.trap.Trap.TheVariants as trap
use Rattle.flow_code.specs.declared.act.Act.TheVariants as act
use Rattle.flow_code.specs.declared.thread.Phase.TheVariants as phase
use Rattle.word_semantics.specs.declared.event.Due.TheVariants as due
use Rattle.word_semantics.specs.declared.event.Action.TheVariants as action
use Rattle.flow_code.specs.Threads.{Frame, Thread, line_of, instr_at, line_in}
use Rattle.word_semantics.specs.Cells.{result_cell}
use Rattle.flow_code.specs.Threads as threads
use Rattle.flow_code.specs.Next as next
use Rattle.flow_code.specs.Next.{in_frame, act_at, act_due, act_after, due_of, stepped, listed, limited, owing, first_owed, phase_due, phase_after, after_due, one_more, one_made, value_of, end_due, end_onward}
use Rattle.word_semantics.specs.Limits.{most_entries, is_free_of_limit}
use Rattle.core_tree.specs.Core.{Function, Program}
use Rattle.core_tree.specs.Runs.{Run, does, traps, ends, State, is_free}
use Rattle.core_tree.specs.Meaning as meaning
use Rattle.flow_lower.specs.Lowered.{lowered}
use Rattle.lower_sound.specs.Follows.{Prints, Follows, here}
use Rattle.lower_sound.proofs.Machine.{Shows, act_of, line_at}
use Rattle.lower_sound.proofs.Events.{plain_by, action_is}
use Rattle.lower_sound.proofs.Loops.{ReturnsHere}
use Rattle.lower_sound.proofs.Functions.{in_code}

module _ (p : Program) (s : SetupView) (t : ℕ) (i : ℕ) (f : Function) (is : slice_get p.functions i ≡ Some f) (budget : ℕ) (o : Thread) (σ : State) (w line : ℕ) (shown : Shows p s t i f is [] budget o σ) (ret : ReturnsHere p s t i f is [] budget o w line) where
  stands : act_at (lowered p) o.top ≡ Some (act.Return ret.value)
  stands = act_of p s t i f is [] budget o σ ret.at (act.Return ret.value) shown ret.stands

  is_line : line_of (lowered p) o.phase o.top ≡ line
  is_line = line_at p s t i f is [] budget o σ ret.at (act.Return ret.value) shown ret.stands ∙ ret.same_line

  main_here : threads.is_main (lowered p) o.top.function ≡ meaning.is_main f
  main_here = ap (threads.is_main (lowered p)) shown.function ∙ ap threads.is_main_in (in_code p s t i f is)

  -- n is at the same return, after so many of its events
  pub record AtReturn (n : Thread) (made : ℕ) : Type 0 where
    frame : n.top ≡ record o.top { made = made; kept = pos 0 }
    phase : n.phase ≡ phase.Running
    below : n.below ≡ []
    stripes : n.stripes ≡ []

  pub due_there : (n : Thread) (made : ℕ) → AtReturn n made → due_of (lowered p) s t n ≡ listed (nat_le most_entries n.entries) (owing None (limited (nat_le s.limit n.count) (end_due (meaning.is_main f) t made w)))
  due_there n made h =
      ap (λ x. listed (nat_le most_entries n.entries) (owing (first_owed x) (limited (nat_le s.limit n.count) (phase_due (lowered p) s t n n.phase)))) h.stripes
      ∙ ap (λ x. listed (nat_le most_entries n.entries) (owing None (limited (nat_le s.limit n.count) (phase_due (lowered p) s t n x)))) h.phase
      ∙ ap (λ x. listed (nat_le most_entries n.entries) (owing None (limited (nat_le s.limit n.count) (act_due (lowered p) s t n x)))) (ap (act_at (lowered p)) h.frame ∙ stands)
      ∙ ap (λ b. listed (nat_le most_entries n.entries) (owing None (limited (nat_le s.limit n.count) (cond (nat_eq (length b) 0) (end_due (threads.is_main (lowered p) n.top.function) t n.top.made (value_of n.top.registers ret.value)) due.Quiet)))) h.below
      ∙ ap (λ (x : Frame). listed (nat_le most_entries n.entries) (owing None (limited (nat_le s.limit n.count) (end_due (threads.is_main (lowered p) x.function) t x.made (value_of x.registers ret.value))))) h.frame
      ∙ ap (λ b. listed (nat_le most_entries n.entries) (owing None (limited (nat_le s.limit n.count) (end_due b t made (value_of o.top.registers ret.value))))) main_here
      ∙ ap (λ v. listed (nat_le most_entries n.entries) (owing None (limited (nat_le s.limit n.count) (end_due (meaning.is_main f) t made v)))) ret.gives

  line_there : (n : Thread) (made : ℕ) → AtReturn n made → line_of (lowered p) n.phase n.top ≡ line
  line_there n made h =
      ap (λ x. line_of (lowered p) x n.top) h.phase ∙ ap (λ x. line_in (instr_at (lowered p) x)) h.frame ∙ sym (ap (λ x. line_of (lowered p) x o.top) shown.phase) ∙ is_line

  after_there : (n : Thread) (made : ℕ) (answer : ℤ) → AtReturn n made → phase_after (lowered p) s t n n.phase answer ≡ end_onward (meaning.is_main f) n made
  after_there n made answer h =
      ap (λ x. phase_after (lowered p) s t n x answer) h.phase
      ∙ ap (λ x. act_after (lowered p) s t n x answer) (ap (act_at (lowered p)) h.frame ∙ stands)
      ∙ ap (λ b. cond (nat_eq (length b) 0) (end_onward (threads.is_main (lowered p) n.top.function) n n.top.made) (next.back_in (lowered p) (record n { below = b }) (value_of n.top.registers ret.value) (slice_get b (length b - 1)))) h.below
      ∙ ap (λ (x : Frame). end_onward (threads.is_main (lowered p) x.function) n x.made) h.frame
      ∙ ap (λ b. end_onward b n made) main_here

  -- an operation with which a thread ends comes at the limit, and where its list of entries is full
  ending_passes : (e : Op) (obj : ObjId) → is_free_of_limit e ≡ true → is_ending (name_of e) ≡ true → (l b : Bool) → listed l (owing None (limited b (due.Operate e obj))) ≡ due.Operate e obj
  ending_passes e obj free ending l true = ap (λ x. listed l (cond x (due.Operate e obj) (due.Trap trap.Limit))) free ∙ listed_ending l
    where
      listed_ending : (l : Bool) → listed l (due.Operate e obj) ≡ due.Operate e obj
      listed_ending true = ap (λ x. cond x (due.Operate e obj) (due.Trap trap.LogFull)) ending
      listed_ending false = refl
  ending_passes e obj free ending true false = ap (λ x. cond x (due.Operate e obj) (due.Trap trap.LogFull)) ending
  ending_passes e obj free ending false false = refl

  ends_by : (n : Thread) (c : ℕ) (e : Op) (obj : ObjId) (more : ℤ → Run) → is_free_of_limit e ≡ true → due_of (lowered p) s t n ≡ due.Operate e obj → Prints (lowered p) n (action.Operate e obj) [] → ((answer : ℤ) → Follows (lowered p) s t (more answer) (stepped (lowered p) s t n answer))
      → Follows (lowered p) s t (cond (nat_le s.limit c && not (is_free (action.Operate e obj))) (traps trap.Limit line) (does (action.Operate e obj) [] more)) n
  ends_by n c e obj more free is_due none next' =
      let same : (nat_le s.limit c && not (is_free_of_limit e)) ≡ false = ap (λ b. nat_le s.limit c && not b) free ∙ and_false (nat_le s.limit c) in
      subst (λ b. Follows (lowered p) s t (cond b (traps trap.Limit line) (does (action.Operate e obj) [] more)) n) (sym same) (n, here, inr (action_is p s t i f is [] budget n (due.Operate e obj) is_due, none, next'))
    where
      and_false : (b : Bool) → (b && false) ≡ false
      and_false true = refl
      and_false false = refl

  nothing_due : (n : Thread) → n.stripes ≡ [] → phase_due (lowered p) s t n n.phase ≡ due.Nothing → due_of (lowered p) s t n ≡ due.Nothing
  nothing_due n d e =
      ap (λ x. listed (nat_le most_entries n.entries) (owing (first_owed x) (limited (nat_le s.limit n.count) (phase_due (lowered p) s t n n.phase)))) d
      ∙ ap (λ x. listed (nat_le most_entries n.entries) (owing None (limited (nat_le s.limit n.count) x))) e
      ∙ passes (nat_le most_entries n.entries) (nat_le s.limit n.count)
    where
      passes : (l b : Bool) → listed l (owing None (limited b due.Nothing)) ≡ due.Nothing
      passes true true = refl
      passes true false = refl
      passes false true = refl
      passes false false = refl

  begins : AtReturn o 0
  begins = record {
    frame = ap (λ z. record o.top { made = z }) shown.made ∙ ap (λ z. record o.top { made = 0; kept = z }) shown.kept;
    phase = shown.phase;
    below = shown.below;
    stripes = shown.stripes;
  }

  step_store : (n : Thread) (made cell v : ℕ) (answer : ℤ) → AtReturn n made → due_of (lowered p) s t n ≡ due.Store cell v → stepped (lowered p) s t n answer ≡ one_more (end_onward (meaning.is_main f) n made)
  unfolding stepped
  step_store n made cell v answer h e = ap (λ x. after_due (lowered p) s t n x answer) e ∙ ap one_more (after_there n made answer h)

  step_end : (n : Thread) (made : ℕ) (obj : ObjId) (answer : ℤ) → AtReturn n made → due_of (lowered p) s t n ≡ due.Operate op.End obj → stepped (lowered p) s t n answer ≡ one_more (end_onward (meaning.is_main f) n made)
  unfolding stepped
  step_end n made obj answer h e = ap (λ x. after_due (lowered p) s t n x answer) e ∙ ap one_more (after_there n made answer h)

  step_leave : (n : Thread) (made : ℕ) (obj : ObjId) (answer : ℤ) → AtReturn n made → due_of (lowered p) s t n ≡ due.Operate op.Leave obj → stepped (lowered p) s t n answer ≡ one_more (end_onward (meaning.is_main f) n made)
  unfolding stepped
  step_leave n made obj answer h e = ap (λ x. after_due (lowered p) s t n x answer) e ∙ ap one_more (after_there n made answer h)

  step_halt : (n : Thread) (made : ℕ) (obj : ObjId) (answer : ℤ) → AtReturn n made → due_of (lowered p) s t n ≡ due.Operate op.HaltAll obj → stepped (lowered p) s t n answer ≡ one_more (end_onward (meaning.is_main f) n made)
  unfolding stepped
  step_halt n made obj answer h e = ap (λ x. after_due (lowered p) s t n x answer) e ∙ ap one_more (after_there n made answer h)

  -- `main` halts
  main_ends : meaning.is_main f ≡ true → Follows (lowered p) s t (meaning.finish p s t true line w σ (λ u σ'. ends)) o
  main_ends is_main' =
      let is_due = due_there o 0 begins ∙ ap (λ b. listed (nat_le most_entries o.entries) (owing None (limited (nat_le s.limit o.count) (end_due b t 0 w)))) is_main' ∙ ending_passes op.HaltAll object_id.Halt refl refl (nat_le most_entries o.entries) (nat_le s.limit o.count) in
      ends_by o σ.count op.HaltAll object_id.Halt _ refl is_due refl (λ answer.
      let halted = one_more (end_onward true o 0) in
      subst (λ x. Follows (lowered p) s t ends x) (sym (step_halt o 0 object_id.Halt answer begins is_due ∙ ap (λ b. one_more (end_onward b o 0)) is_main')) (halted, here, nothing_due halted shown.stripes refl))

  at_next : (n : Thread) (made : ℕ) → AtReturn n made → AtReturn (one_more (in_frame n (one_made n.top (pos 0)))) (made + 1)
  at_next n made h = record {
    frame = ap (λ (x : Frame). record x { made = x.made + 1; kept = pos 0 }) h.frame;
    phase = h.phase;
    below = h.below;
    stripes = h.stripes;
  }

  -- any other first function hands its value over, ends its slot and leaves the live threads
  root_ends : meaning.is_main f ≡ false → Follows (lowered p) s t (meaning.finish p s t false line w σ (λ u σ'. ends)) o
  root_ends not_main = handed
    where
      o1 : Thread
      o1 = one_more (in_frame o (one_made o.top (pos 0)))

      h1 : AtReturn o1 1
      h1 = at_next o 0 begins

      o2 : Thread
      o2 = one_more (in_frame o1 (one_made o1.top (pos 0)))

      h2 : AtReturn o2 2
      h2 = at_next o1 1 h1

      o3 : Thread
      o3 = one_more (record o2 { phase = phase.Ended })

      due_by : (n : Thread) (made : ℕ) → AtReturn n made → due_of (lowered p) s t n ≡ listed (nat_le most_entries n.entries) (owing None (limited (nat_le s.limit n.count) (end_due false t made w)))
      due_by n made h = due_there n made h ∙ ap (λ b. listed (nat_le most_entries n.entries) (owing None (limited (nat_le s.limit n.count) (end_due b t made w)))) not_main

      leaves : (c : ℕ) → Follows (lowered p) s t (cond (nat_le s.limit c && not (is_free (action.Operate op.Leave object_id.Threads))) (traps trap.Limit line) (does (action.Operate op.Leave object_id.Threads) [] (λ answer. ends))) o2
      leaves c =
          let is_due = due_by o2 2 h2 ∙ ending_passes op.Leave object_id.Threads refl refl (nat_le most_entries o2.entries) (nat_le s.limit o2.count) in
          ends_by o2 c op.Leave object_id.Threads (λ answer. ends) refl is_due refl (λ answer.
          subst (λ x. Follows (lowered p) s t ends x) (sym (step_leave o2 2 object_id.Threads answer h2 is_due ∙ ap (λ b. one_more (end_onward b o2 2)) not_main)) (o3, here, nothing_due o3 h2.stripes refl))

      rest : Run
      rest = cond (nat_le s.limit (σ.count + 1) && not (is_free (action.Operate op.End (object_id.Slot t)))) (traps trap.Limit line) (does (action.Operate op.End (object_id.Slot t)) [] (λ answer. cond (nat_le s.limit (σ.count + 1 + 1) && not (is_free (action.Operate op.Leave object_id.Threads))) (traps trap.Limit line) (does (action.Operate op.Leave object_id.Threads) [] (λ answer'. ends))))

      ended : Follows (lowered p) s t rest o1
      ended =
          let is_due = due_by o1 1 h1 ∙ ending_passes op.End (object_id.Slot t) refl refl (nat_le most_entries o1.entries) (nat_le s.limit o1.count) in
          ends_by o1 (σ.count + 1) op.End (object_id.Slot t) _ refl is_due refl (λ answer.
          subst (λ x. Follows (lowered p) s t (cond (nat_le s.limit (σ.count + 1 + 1) && not (is_free (action.Operate op.Leave object_id.Threads))) (traps trap.Limit line) (does (action.Operate op.Leave object_id.Threads) [] (λ answer'. ends))) x)
          (sym (step_end o1 1 (object_id.Slot t) answer h1 is_due ∙ ap (λ b. one_more (end_onward b o1 1)) not_main)) (leaves (σ.count + 1 + 1)))

      store_passes : (l b : Bool) → listed l (owing None (limited b (due.Store (result_cell t) w))) ≡ cond b (due.Trap trap.Limit) (due.Store (result_cell t) w)
      store_passes true true = refl
      store_passes true false = refl
      store_passes false true = refl
      store_passes false false = refl

      handed : Follows (lowered p) s t (meaning.finish p s t false line w σ (λ u σ'. ends)) o
      handed =
          let is_due = due_by o 0 begins ∙ store_passes (nat_le most_entries o.entries) (nat_le s.limit o.count) in
          let same : (nat_le s.limit σ.count && not false) ≡ nat_le s.limit o.count = and_true (nat_le s.limit σ.count) ∙ ap (nat_le s.limit) (sym shown.count) in
          subst (λ b. Follows (lowered p) s t (cond b (traps trap.Limit line) (does (action.Store (result_cell t) w) [] (λ answer. rest))) o) (sym same)
          (plain_by p s t i f is [] budget o line (due.Store (result_cell t) w) (λ answer. rest) (nat_le s.limit o.count) is_line is_due refl (λ low answer.
          subst (λ x. Follows (lowered p) s t rest x) (sym (step_store o 0 (result_cell t) w answer begins (is_due ∙ ap (λ b. cond b (due.Trap trap.Limit) (due.Store (result_cell t) w)) low) ∙ ap (λ b. one_more (end_onward b o 0)) not_main)) ended))
        where
          and_true : (b : Bool) → (b && true) ≡ b
          and_true true = refl
          and_true false = refl

  pub finishes : Follows (lowered p) s t (meaning.finish p s t (meaning.is_main f) line w σ (λ u σ'. ends)) o
  finishes = by (meaning.is_main f) refl
    where
      by : (b : Bool) → meaning.is_main f ≡ b → Follows (lowered p) s t (meaning.finish p s t b line w σ (λ u σ'. ends)) o
      by true e = main_ends e
      by false e = root_ends e
