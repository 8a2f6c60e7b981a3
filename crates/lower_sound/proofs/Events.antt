-- Events and results at the instructions of a function.
use Rattle.std.proofs.Common.{◌≡◌, ℕ, ◌<◌, ◌≢◌, inr, Bool, true, false, not, cond, nat_le, nat_eq, ◌&&◌, ℤ, pos, List, [], Some, None, slice_get, Result, Ok, Err, refl, sym, ◌∙◌, ap, subst, arith}
use Rattle.std.proofs.lemmas.Bool.Decides.{nat_tests}
use Rattle.sync_objects.specs.Setup.{SetupView}
use Rattle.rr_base.specs.declared.trap.Trap.{Trap}
use Rattle.rr_base.specs.declared.trap.Trap.TheVariants as trap
use Rattle.rr_base.specs.declared.layout.CellKind.{CellKind}
use Rattle.flow_code.specs.declared.act.Act.{Act}
use Rattle.flow_code.specs.declared.act.Act.TheVariants as act
use Rattle.flow_code.specs.declared.work.Work.{Work}
use Rattle.word_semantics.specs.declared.event.Due.{Due}
use Rattle.word_semantics.specs.declared.event.Due.TheVariants as due
use Rattle.word_semantics.specs.declared.event.Action.TheVariants as action
use Rattle.word_semantics.specs.Values.{word}
use Rattle.word_semantics.specs.Pointers.{resolved}
use Rattle.flow_code.specs.Works.{is_pointer, work_of}
use Rattle.word_semantics.specs.Registers.{register}
use Rattle.flow_code.specs.Threads.{Frame, Thread, line_of}
use Rattle.flow_code.specs.Next.{past, jumped, with_register, in_frame, act_due, act_after, due_of, action_of, action_at, stepped, limited, listed, owing, quiet_unless, load_due, store_due, computed, phase_after, after_due, one_more, branch_to}
use Rattle.word_semantics.specs.Limits.{most_entries}
use Rattle.word_semantics.specs.Cells.{access_kind}
use Rattle.rr_base.specs.declared.position.Position.{Position}
use Rattle.core_tree.specs.Core.{Function, Program}
use Rattle.core_tree.specs.Runs.{Run, does, traps, State, M, result_at, event, counted, choose, is_free}
use Rattle.core_tree.specs.Meaning.{load_in, load_at, store_in, store_at}
use Rattle.flow_lower.specs.Lowered.{instr, lowered, function_kinds, body_code}
use Rattle.lower_sound.specs.Follows.{here, Prints, Follows}
use Rattle.lower_sound.proofs.Machine.{Shows, act_of, kinds_of, due_at, by_quiet, by_trap, line_at}

-- the thread after an instruction that gave a register a value
abbrev pub sets : Thread → ℕ → ℕ → Thread
sets m r v = in_frame m (past (with_register m.top r v))

-- the thread at another instruction
abbrev pub goes_to : Thread → ℕ → Thread
goes_to m pc = in_frame m (jumped m.top pc)

module _ (p : Program) (s : SetupView) (t : ℕ) (i : ℕ) (f : Function) (is : slice_get p.functions i ≡ Some f) (callers : List Frame) (budget : ℕ) where
  -- ---- results

  computed_by : (m : Thread) (σ : State) (at : Position) (r : ℕ) (w : Work) (result : Result ℕ Trap) (k : ℕ → State → Run) → Shows p s t i f is callers budget m σ
      → slice_get (body_code f) m.top.instr ≡ Some (instr at (act.Compute r w))
      → act_due (lowered p) s t m (Some (act.Compute r w)) ≡ quiet_unless result → act_after (lowered p) s t m (Some (act.Compute r w)) (pos 0) ≡ computed m r result
      → ((v : ℕ) → result ≡ Ok v → Follows (lowered p) s t (k v σ) (sets m r v)) → Follows (lowered p) s t (result_at at.line result σ k) m
  computed_by m σ at r w (Ok v) k h e is_due is_after go = by_quiet p s t i f is callers budget (k v σ) m (sets m r v) σ at (act.Compute r w) h e is_due is_after (go v refl)
  computed_by m σ at r w (Err kind) k h e is_due is_after go = by_trap p s t i f is callers budget m σ at (act.Compute r w) kind h e is_due

  -- an instruction that computes
  pub by_compute : (m : Thread) (σ : State) (at : Position) (r : ℕ) (w : Work) (result : Result ℕ Trap) (k : ℕ → State → Run) → Shows p s t i f is callers budget m σ
      → slice_get (body_code f) m.top.instr ≡ Some (instr at (act.Compute r w))
      → work_of s.slots p.sites (function_kinds f) m.top.registers w ≡ result
      → ((v : ℕ) → result ≡ Ok v → Follows (lowered p) s t (k v σ) (sets m r v)) → Follows (lowered p) s t (result_at at.line result σ k) m
  by_compute m σ at r w result k h e gives go =
      let gives' = ap (λ ks. work_of s.slots p.sites ks m.top.registers w) (kinds_of p s t i f is callers budget m σ h) ∙ gives in
      computed_by m σ at r w result k h e (ap quiet_unless gives') (ap (computed m r) gives') go

  -- ---- jumps

  pub by_jump : (r : Run) (m : Thread) (σ : State) (at : Position) (to : ℕ) → Shows p s t i f is callers budget m σ
      → slice_get (body_code f) m.top.instr ≡ Some (instr at (act.Jump to)) → Follows (lowered p) s t r (goes_to m to) → Follows (lowered p) s t r m
  by_jump r m σ at to h e go = by_quiet p s t i f is callers budget r m (goes_to m to) σ at (act.Jump to) h e refl refl go

  -- ---- events

  -- at the limit the trap comes, and else what is due
  at_limit : (m : Thread) (σ : State) (at : Position) (a : Act) (d : Due) → Shows p s t i f is callers budget m σ → slice_get (body_code f) m.top.instr ≡ Some (instr at a)
      → act_due (lowered p) s t m (Some a) ≡ d → due_of (lowered p) s t m ≡ listed (nat_le most_entries m.entries) (limited (nat_le s.limit m.count) d)
  at_limit m σ at a d h e q =
      due_at p s t i f is callers budget m σ at a h e ∙ ap (λ x. listed (nat_le most_entries m.entries) (owing None (limited (nat_le s.limit m.count) x))) q

  pub action_is : (m : Thread) (d : Due) → due_of (lowered p) s t m ≡ d → action_at (lowered p) s t m ≡ action_of d
  unfolding action_at
  action_is m d e = ap action_of e

  -- at a count below the limit
  pub below : (b : Bool) (m : Thread) → nat_le s.limit m.count ≡ b → b ≡ false → m.count < s.limit
  below b m le e = grind (arith, nat_tests)

  pub plain_by : (m : Thread) (line : ℕ) (d : Due) (more : ℤ → Run) (b : Bool) → line_of (lowered p) m.phase m.top ≡ line
      → due_of (lowered p) s t m ≡ cond b (due.Trap trap.Limit) d → Prints (lowered p) m (action_of d) [] → (b ≡ false → (answer : ℤ) → Follows (lowered p) s t (more answer) (stepped (lowered p) s t m answer))
      → Follows (lowered p) s t (cond b (traps trap.Limit line) (does (action_of d) [] more)) m
  plain_by m line d more true at e none go = (m, here, e, at)
  plain_by m line d more false at e none go = (m, here, inr (action_is m d e, none, go refl))

  -- a load, a store or a Mark
  by_plain : (m : Thread) (σ : State) (at : Position) (a : Act) (d : Due) (more : ℤ → Run) → Shows p s t i f is callers budget m σ → slice_get (body_code f) m.top.instr ≡ Some (instr at a)
      → act_due (lowered p) s t m (Some a) ≡ d → ((l b : Bool) → listed l (limited b d) ≡ cond b (due.Trap trap.Limit) d) → is_free (action_of d) ≡ false → Prints (lowered p) m (action_of d) []
      → (m.count < s.limit → due_of (lowered p) s t m ≡ d → (answer : ℤ) → Follows (lowered p) s t (more answer) (stepped (lowered p) s t m answer))
      → Follows (lowered p) s t (cond (nat_le s.limit σ.count && not (is_free (action_of d))) (traps trap.Limit at.line) (does (action_of d) [] more)) m
  by_plain m σ at a d more h e q passes free none go =
      let due' = at_limit m σ at a d h e q ∙ passes (nat_le most_entries m.entries) (nat_le s.limit m.count) in
      let same : (nat_le s.limit σ.count && not (is_free (action_of d))) ≡ nat_le s.limit m.count = ap (λ b. nat_le s.limit σ.count && not b) free ∙ and_true (nat_le s.limit σ.count) ∙ ap (nat_le s.limit) (sym h.count) in
      subst (λ b. Follows (lowered p) s t (cond b (traps trap.Limit at.line) (does (action_of d) [] more)) m) (sym same)
      (plain_by m at.line d more (nat_le s.limit m.count) (line_at p s t i f is callers budget m σ at a h e) due' none
      (λ low. go (below (nat_le s.limit m.count) m refl low) (due' ∙ ap (λ b. cond b (due.Trap trap.Limit) d) low)))
    where
      and_true : (b : Bool) → (b && true) ≡ b
      and_true true = refl
      and_true false = refl

  pub load_passes : (c : ℕ) (l b : Bool) → listed l (limited b (due.Load c)) ≡ cond b (due.Trap trap.Limit) (due.Load c)
  load_passes c true true = refl
  load_passes c true false = refl
  load_passes c false true = refl
  load_passes c false false = refl

  pub store_passes : (c w : ℕ) (l b : Bool) → listed l (limited b (due.Store c w)) ≡ cond b (due.Trap trap.Limit) (due.Store c w)
  store_passes c w true true = refl
  store_passes c w true false = refl
  store_passes c w false true = refl
  store_passes c w false false = refl

  pub mark_passes : (l b : Bool) → listed l (limited b due.Mark) ≡ cond b (due.Trap trap.Limit) due.Mark
  mark_passes true true = refl
  mark_passes true false = refl
  mark_passes false true = refl
  mark_passes false false = refl

  -- what an instruction's event leads to
  after_event : (m : Thread) (σ : State) (at : Position) (a : Act) (d : Due) (answer : ℤ) → Shows p s t i f is callers budget m σ → slice_get (body_code f) m.top.instr ≡ Some (instr at a)
      → phase_after (lowered p) s t m m.phase answer ≡ act_after (lowered p) s t m (Some a) answer
  after_event m σ at a d answer h e =
      ap (λ x. phase_after (lowered p) s t m x answer) h.phase ∙ ap (λ x. act_after (lowered p) s t m x answer) (act_of p s t i f is callers budget m σ at a h e)

  after_load : (m : Thread) (σ : State) (at : Position) (a : Act) (c : ℕ) (answer : ℤ) → Shows p s t i f is callers budget m σ → slice_get (body_code f) m.top.instr ≡ Some (instr at a)
      → due_of (lowered p) s t m ≡ due.Load c → stepped (lowered p) s t m answer ≡ one_more (act_after (lowered p) s t m (Some a) answer)
  unfolding stepped
  after_load m σ at a c answer h e d = ap (λ x. after_due (lowered p) s t m x answer) d ∙ ap one_more (after_event m σ at a (due.Load c) answer h e)

  after_store : (m : Thread) (σ : State) (at : Position) (a : Act) (c w : ℕ) (answer : ℤ) → Shows p s t i f is callers budget m σ → slice_get (body_code f) m.top.instr ≡ Some (instr at a)
      → due_of (lowered p) s t m ≡ due.Store c w → stepped (lowered p) s t m answer ≡ one_more (act_after (lowered p) s t m (Some a) answer)
  unfolding stepped
  after_store m σ at a c w answer h e d = ap (λ x. after_due (lowered p) s t m x answer) d ∙ ap one_more (after_event m σ at a (due.Store c w) answer h e)

  after_mark : (m : Thread) (σ : State) (at : Position) (a : Act) (answer : ℤ) → Shows p s t i f is callers budget m σ → slice_get (body_code f) m.top.instr ≡ Some (instr at a)
      → due_of (lowered p) s t m ≡ due.Mark → stepped (lowered p) s t m answer ≡ one_more (act_after (lowered p) s t m (Some a) answer)
  unfolding stepped
  after_mark m σ at a answer h e d = ap (λ x. after_due (lowered p) s t m x answer) d ∙ ap one_more (after_event m σ at a due.Mark answer h e)

  -- a cell is loaded into a register
  pub by_load : (m : Thread) (σ : State) (at : Position) (r through w : ℕ) (kind : CellKind) (k : ℕ → State → Run) → Shows p s t i f is callers budget m σ
      → slice_get (body_code f) m.top.instr ≡ Some (instr at (act.LoadCell r through)) → register m.top.registers through ≡ w → access_kind (is_pointer (function_kinds f) r) ≡ kind
      → (m.count < s.limit → (v : ℕ) → Follows (lowered p) s t (k v (counted σ)) (one_more (sets m r v)))
      → Follows (lowered p) s t (load_at p s t at.line w kind σ k) m
  by_load m σ at r through w kind k h e holds of_kind go = by (resolved p.sites w kind) refl
    where
      is_due : act_due (lowered p) s t m (Some (act.LoadCell r through)) ≡ load_due (resolved p.sites w kind)
      is_due =
          ap (λ ks. load_due (resolved p.sites (register m.top.registers through) (access_kind (is_pointer ks r)))) (kinds_of p s t i f is callers budget m σ h)
          ∙ ap (λ x. load_due (resolved p.sites x (access_kind (is_pointer (function_kinds f) r)))) holds
          ∙ ap (λ x. load_due (resolved p.sites w x)) of_kind

      by : (c : Result ℕ Trap) → resolved p.sites w kind ≡ c → Follows (lowered p) s t (load_in p s t at.line c σ k) m
      by (Ok c) is_c =
          by_plain m σ at (act.LoadCell r through) (due.Load c) (λ answer. k (word answer) (counted σ)) h e (is_due ∙ ap load_due is_c) (load_passes c) refl refl
          (λ low d answer. subst (λ n. Follows (lowered p) s t (k (word answer) (counted σ)) n) (sym (after_load m σ at (act.LoadCell r through) c answer h e d)) (go low (word answer)))
      by (Err kind') is_c = by_trap p s t i f is callers budget m σ at (act.LoadCell r through) kind' h e (is_due ∙ ap load_due is_c)

  -- a word is stored in a cell
  pub by_store : (m : Thread) (σ : State) (at : Position) (through from pointer w : ℕ) (kind : CellKind) (k : Unit {0} → State → Run) → Shows p s t i f is callers budget m σ
      → slice_get (body_code f) m.top.instr ≡ Some (instr at (act.StoreCell through from)) → register m.top.registers through ≡ pointer → register m.top.registers from ≡ w
      → access_kind (is_pointer (function_kinds f) from) ≡ kind
      → (m.count < s.limit → Follows (lowered p) s t (k tt (counted σ)) (one_more (in_frame m (past m.top))))
      → Follows (lowered p) s t (store_at p s t at.line pointer kind w σ k) m
  by_store m σ at through from pointer w kind k h e holds holds' of_kind go = by (resolved p.sites pointer kind) refl
    where
      is_due : act_due (lowered p) s t m (Some (act.StoreCell through from)) ≡ store_due (resolved p.sites pointer kind) w
      is_due =
          ap (λ ks. store_due (resolved p.sites (register m.top.registers through) (access_kind (is_pointer ks from))) (register m.top.registers from)) (kinds_of p s t i f is callers budget m σ h)
          ∙ ap (λ x. store_due (resolved p.sites x (access_kind (is_pointer (function_kinds f) from))) (register m.top.registers from)) holds
          ∙ ap (λ x. store_due (resolved p.sites pointer (access_kind (is_pointer (function_kinds f) from))) x) holds'
          ∙ ap (λ x. store_due (resolved p.sites pointer x) w) of_kind

      by : (c : Result ℕ Trap) → resolved p.sites pointer kind ≡ c → Follows (lowered p) s t (store_in p s t at.line c w σ k) m
      by (Ok c) is_c =
          by_plain m σ at (act.StoreCell through from) (due.Store c w) (λ answer. k tt (counted σ)) h e (is_due ∙ ap (λ x. store_due x w) is_c) (store_passes c w) refl refl
          (λ low d answer. subst (λ n. Follows (lowered p) s t (k tt (counted σ)) n) (sym (after_store m σ at (act.StoreCell through from) c w answer h e d)) (go low))
      by (Err kind') is_c = by_trap p s t i f is callers budget m σ at (act.StoreCell through from) kind' h e (is_due ∙ ap (λ x. store_due x w) is_c)

  -- a turn of a loop begins
  pub by_mark : (m : Thread) (σ : State) (at : Position) (k : ℤ → State → Run) → Shows p s t i f is callers budget m σ
      → slice_get (body_code f) m.top.instr ≡ Some (instr at act.Mark)
      → (m.count < s.limit → (answer : ℤ) → Follows (lowered p) s t (k answer (counted σ)) (one_more (in_frame m (past m.top))))
      → Follows (lowered p) s t (event s.limit at.line action.Mark σ k) m
  by_mark m σ at k h e go =
      by_plain m σ at act.Mark due.Mark (λ answer. k answer (counted σ)) h e refl mark_passes refl refl
      (λ low d answer. subst (λ n. Follows (lowered p) s t (k answer (counted σ)) n) (sym (after_mark m σ at act.Mark answer h e d)) (go low answer))

  -- a branch
  pub by_branch : {A : Type 0} (m : Thread) (σ : State) (at : Position) (x yes' no' w : ℕ) (y n : M A) (σ' : State) (k : A → State → Run) → Shows p s t i f is callers budget m σ
      → slice_get (body_code f) m.top.instr ≡ Some (instr at (act.Branch x yes' no')) → register m.top.registers x ≡ w
      → (w ≢ 0 → Follows (lowered p) s t (y σ' k) (goes_to m yes')) → (w ≡ 0 → Follows (lowered p) s t (n σ' k) (goes_to m no'))
      → Follows (lowered p) s t (choose w y n σ' k) m
  by_branch m σ at x yes' no' w y n σ' k h e holds go_yes go_no = by (nat_eq w 0) refl
    where
      next : (b : Bool) → nat_eq w 0 ≡ b → branch_to (register m.top.registers x) yes' no' ≡ cond b no' yes'
      next b is_b = ap (λ z. branch_to z yes' no') holds ∙ ap (λ b. cond b no' yes') is_b

      by : (b : Bool) → nat_eq w 0 ≡ b → Follows (lowered p) s t (cond b n y σ' k) m
      by true is_b = by_quiet p s t i f is callers budget (n σ' k) m (goes_to m no') σ at (act.Branch x yes' no') h e refl (ap (goes_to m) (next true is_b)) (go_no (grind (arith, nat_tests)))
      by false is_b = by_quiet p s t i f is callers budget (y σ' k) m (goes_to m yes') σ at (act.Branch x yes' no') h e refl (ap (goes_to m) (next false is_b)) (go_yes (λ z. grind (arith, nat_tests)))
