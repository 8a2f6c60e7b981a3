-- Turns of a loop: each begins with a Mark.
use Rattle.std.proofs.Common.{◌≡◌, ℕ, zero, suc, ◌+◌, ◌≤◌, Bool, true, false, nat_le, List, Option, Some, None, slice_get, refl, ◌∙◌, ap, arith}
use Rattle.std.proofs.lemmas.Bool.Decides.{nat_tests}
use Rattle.sync_objects.specs.Setup.{SetupView}
use Rattle.rr_base.specs.declared.trap.Trap.TheVariants as trap
use Rattle.flow_code.specs.declared.act.Act.TheVariants as act
use Rattle.word_semantics.specs.declared.event.Due.TheVariants as due
use Rattle.flow_code.specs.Threads.{Frame, Thread}
use Rattle.flow_code.specs.Next.{one_more, in_frame, past, value_of, listed, limited, owing}
use Rattle.word_semantics.specs.Limits.{most_entries}
use Rattle.rr_base.specs.declared.position.Position.{Position}
use Rattle.core_tree.specs.Core.{Function, Program}
use Rattle.core_tree.specs.Runs.{Run, State, M, ◌>>=◌, ◌>>◌, pure, counted, choose}
use Rattle.core_tree.specs.Meaning as meaning
use Rattle.core_tree.specs.Meaning.{Completion, goes, breaks, continues, returns, if_turns}
use Rattle.flow_lower.specs.Lowered.{instr, lowered, body_code}
use Rattle.lower_sound.specs.Follows.{Follows, here}
use Rattle.lower_sound.proofs.Machine.{Shows, due_at, line_at}
use Rattle.lower_sound.proofs.Events.{by_mark}
use Rattle.lower_sound.proofs.Arriving.{shows_counted, shows_past}

module _ (p : Program) (s : SetupView) (t : ℕ) (i : ℕ) (f : Function) (is : slice_get p.functions i ≡ Some f) (callers : List Frame) (budget : ℕ) where
  -- the thread stands at an instruction that returns this value, at this line
  pub record ReturnsHere (n : Thread) (w line : ℕ) : Type 0 where
    pub at : Position
    pub value : Option ℕ
    pub stands : slice_get (body_code f) n.top.instr ≡ Some (instr at (act.Return value))
    pub gives : value_of n.top.registers value ≡ w
    pub same_line : at.line ≡ line

  -- where a statement ends: after it, where its loop is left or continued, or at a return
  abbrev pub Reached : Thread → Completion → (end out on : ℕ) → Type 0
  Reached n goes end out on = n.top.instr ≡ end
  Reached n breaks end out on = n.top.instr ≡ out
  Reached n continues end out on = n.top.instr ≡ on
  Reached n (returns w line) end out on = ReturnsHere n w line

  pub record Lands (m n : Thread) (σ : State) (fl : Completion) (end out on : ℕ) : Type 0 where
    pub reached : Reached n fl end out on
    pub shows : Shows p s t i f is callers budget n σ
    pub later : m.count ≤ n.count

  abbrev pub TestFollows : M ℕ → (from yes' no' : ℕ) → Type 0
  TestFollows test from yes' no' = (Y N : M Completion) (k : Completion → State → Run) (m : Thread) (σ : State) → m.top.instr ≡ from → Shows p s t i f is callers budget m σ
      → ((o : Thread) (σ' : State) → o.top.instr ≡ yes' → Shows p s t i f is callers budget o σ' → m.count ≤ o.count → Follows (lowered p) s t (Y σ' k) o)
      → ((o : Thread) (σ' : State) → o.top.instr ≡ no' → Shows p s t i f is callers budget o σ' → m.count ≤ o.count → Follows (lowered p) s t (N σ' k) o)
      → Follows (lowered p) s t ((test >>= λ w. choose w Y N) σ k) m

  abbrev pub StepFollows : M ℕ → (from to : ℕ) → Type 0
  StepFollows step from to = (R : M Completion) (k : Completion → State → Run) (m : Thread) (σ : State) → m.top.instr ≡ from → Shows p s t i f is callers budget m σ
      → ((o : Thread) (σ' : State) → o.top.instr ≡ to → Shows p s t i f is callers budget o σ' → m.count ≤ o.count → Follows (lowered p) s t (R σ' k) o)
      → Follows (lowered p) s t ((step >> R) σ k) m

  abbrev pub BodyFollows : M Completion → (from end out on : ℕ) → Type 0
  BodyFollows body from end out on = (k : Completion → State → Run) (m : Thread) (σ : State) → m.top.instr ≡ from → Shows p s t i f is callers budget m σ
      → ((o : Thread) (fl : Completion) (σ' : State) → Lands m o σ' fl end out on → Follows (lowered p) s t (k fl σ') o) → Follows (lowered p) s t (body σ k) m

  -- no turn may begin
  at_limit : (m : Thread) (σ : State) (at : Position) → Shows p s t i f is callers budget m σ → slice_get (body_code f) m.top.instr ≡ Some (instr at act.Mark) → s.limit ≤ m.count → Follows (lowered p) s t (Run.traps trap.Limit at.line) m
  at_limit m σ at h e full = (
    m,
    here,
    due_at p s t i f is callers budget m σ at act.Mark h e ∙ ap (λ b. listed (nat_le most_entries m.entries) (owing None (limited b due.Mark))) is_full ∙ passes (nat_le most_entries m.entries),
    line_at p s t i f is callers budget m σ at act.Mark h e,
  )
    where
      is_full : nat_le s.limit m.count ≡ true
      is_full = grind (arith, nat_tests)

      passes : (l : Bool) → listed l (owing None (limited true due.Mark)) ≡ due.Trap trap.Limit
      passes true = refl
      passes false = refl

  module _ (at : Position) (mark body last end : ℕ) (code_mark : slice_get (body_code f) mark ≡ Some (instr at act.Mark)) (test : M ℕ) (inside : M Completion) (step : M ℕ)
      (tests : TestFollows test (mark + 1) body end) (does_body : BodyFollows inside body last end last) (steps : StepFollows step last mark)
      (k : Completion → State → Run) (start : Thread) (done : (n : Thread) (σ : State) → n.top.instr ≡ end → Shows p s t i f is callers budget n σ → start.count ≤ n.count → Follows (lowered p) s t (k goes σ) n)
      (leaves : (n : Thread) (w line : ℕ) (σ : State) → ReturnsHere n w line → Shows p s t i f is callers budget n σ → start.count ≤ n.count → Follows (lowered p) s t (k (returns w line) σ) n) where
    -- after the body
    turned : (turns : ℕ) → ((m : Thread) (σ : State) → m.top.instr ≡ mark → Shows p s t i f is callers budget m σ → s.limit ≤ m.count + turns → start.count ≤ m.count → Follows (lowered p) s t (meaning.turns p s t turns at.line test inside step σ k) m) → (q : Thread) (fl : Completion) (σ2 : State) → Reached q fl last end last → Shows p s t i f is callers budget q σ2 → s.limit ≤ q.count + turns → start.count ≤ q.count → Follows (lowered p) s t (if_turns fl (step >> meaning.turns p s t turns at.line test inside step) σ2 k) q
    turned turns ih q goes σ2 reached shows left later = steps (meaning.turns p s t turns at.line test inside step) k q σ2 reached shows (λ o σ3 place shows' more. ih o σ3 place shows' (omega (arith, left, more)) (omega (arith, later, more)))
    turned turns ih q breaks σ2 reached shows left later = done q σ2 reached shows later
    turned turns ih q continues σ2 reached shows left later = steps (meaning.turns p s t turns at.line test inside step) k q σ2 reached shows (λ o σ3 place shows' more. ih o σ3 place shows' (omega (arith, left, more)) (omega (arith, later, more)))
    turned turns ih q (returns w line) σ2 reached shows left later = leaves q w line σ2 reached shows later

    -- so many turns at most are left
    pub rounds : (turns : ℕ) → (m : Thread) (σ : State) → m.top.instr ≡ mark → Shows p s t i f is callers budget m σ → s.limit ≤ m.count + turns → start.count ≤ m.count → Follows (lowered p) s t (meaning.turns p s t turns at.line test inside step σ k) m
    rounds zero m σ e h left later = at_limit m σ at h (ap (slice_get (body_code f)) e ∙ code_mark) (omega (arith, left))
    rounds (suc turns) m σ e h left later =
        by_mark p s t i f is callers budget m σ at (λ answer σ'. (test >>= λ w. choose w (inside >>= λ fl. if_turns fl (step >> meaning.turns p s t turns at.line test inside step)) (pure goes)) σ' k) h (ap (slice_get (body_code f)) e ∙ code_mark) (λ low answer.
        let m1 = one_more (in_frame m (past m.top)) in
        tests (inside >>= λ fl. if_turns fl (step >> meaning.turns p s t turns at.line test inside step)) (pure goes) k m1 (counted σ) (ap (λ z. z + 1) e) (shows_counted p s t i f is callers budget (in_frame m (past m.top)) σ low (shows_past p s t i f is callers budget m σ h))
        (λ o σ1 place shows more. does_body (λ fl σ2. if_turns fl (step >> meaning.turns p s t turns at.line test inside step) σ2 k) o σ1 place shows (λ q fl σ2 x. turned turns (rounds turns) q fl σ2 x.reached x.shows (omega (arith, left, more, x.later)) (omega (arith, later, more, x.later))))
        (λ o σ1 place shows more. done o σ1 place shows (omega (arith, later, more))))

  module _ (at : Position) (mark last end : ℕ) (code_mark : slice_get (body_code f) mark ≡ Some (instr at act.Mark)) (test : M ℕ) (inside : M Completion)
      (does_body : BodyFollows inside (mark + 1) last end last) (tests : TestFollows test last mark end)
      (k : Completion → State → Run) (start : Thread) (done : (n : Thread) (σ : State) → n.top.instr ≡ end → Shows p s t i f is callers budget n σ → start.count ≤ n.count → Follows (lowered p) s t (k goes σ) n)
      (leaves : (n : Thread) (w line : ℕ) (σ : State) → ReturnsHere n w line → Shows p s t i f is callers budget n σ → start.count ≤ n.count → Follows (lowered p) s t (k (returns w line) σ) n) where
    tested : (turns : ℕ) → ((m : Thread) (σ : State) → m.top.instr ≡ mark → Shows p s t i f is callers budget m σ → s.limit ≤ m.count + turns → start.count ≤ m.count → Follows (lowered p) s t (meaning.turns_after p s t turns at.line inside test σ k) m) → (q : Thread) (fl : Completion) (σ2 : State) → Reached q fl last end last → Shows p s t i f is callers budget q σ2 → s.limit ≤ q.count + turns → start.count ≤ q.count → Follows (lowered p) s t (if_turns fl (test >>= λ w. choose w (meaning.turns_after p s t turns at.line inside test) (pure goes)) σ2 k) q
    tested turns ih q goes σ2 reached shows left later =
        tests _ (pure goes) k q σ2 reached shows (λ o σ3 place shows' more. ih o σ3 place shows' (omega (arith, left, more)) (omega (arith, later, more)))
        (λ o σ3 place shows' more. done o σ3 place shows' (omega (arith, later, more)))
    tested turns ih q breaks σ2 reached shows left later = done q σ2 reached shows later
    tested turns ih q continues σ2 reached shows left later =
        tests _ (pure goes) k q σ2 reached shows (λ o σ3 place shows' more. ih o σ3 place shows' (omega (arith, left, more)) (omega (arith, later, more)))
        (λ o σ3 place shows' more. done o σ3 place shows' (omega (arith, later, more)))
    tested turns ih q (returns w line) σ2 reached shows left later = leaves q w line σ2 reached shows later

    -- the same with the condition after the body
    pub rounds_after : (turns : ℕ) → (m : Thread) (σ : State) → m.top.instr ≡ mark → Shows p s t i f is callers budget m σ → s.limit ≤ m.count + turns → start.count ≤ m.count → Follows (lowered p) s t (meaning.turns_after p s t turns at.line inside test σ k) m
    rounds_after zero m σ e h left later = at_limit m σ at h (ap (slice_get (body_code f)) e ∙ code_mark) (omega (arith, left))
    rounds_after (suc turns) m σ e h left later =
        by_mark p s t i f is callers budget m σ at (λ answer σ'. (inside >>= λ fl. if_turns fl (test >>= λ w. choose w (meaning.turns_after p s t turns at.line inside test) (pure goes))) σ' k) h (ap (slice_get (body_code f)) e ∙ code_mark) (λ low answer.
        let m1 = one_more (in_frame m (past m.top)) in
        does_body _ m1 (counted σ) (ap (λ z. z + 1) e) (shows_counted p s t i f is callers budget (in_frame m (past m.top)) σ low (shows_past p s t i f is callers budget m σ h))
        (λ q fl σ2 x. tested turns (rounds_after turns) q fl σ2 x.reached x.shows (omega (arith, left, x.later)) (omega (arith, later, x.later))))
