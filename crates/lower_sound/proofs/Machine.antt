-- Steps of a thread in the code of one function of a core tree.
use Rattle.std.proofs.Common.{◌≡◌, ℕ, ◌+◌, ◌≤◌, ◌<◌, ◌≢◌, Bool, true, false, nat_le, pos, List, [], length, Some, None, option_map, slice_get, slice_set, refl, sym, ◌∙◌, ap, subst}
use Rattle.std.proofs.lemmas.List.{get_or-set_same, get_or-set_other}
use Rattle.std.proofs.lemmas.Option.{slice_get-map}
use Rattle.sync_objects.specs.Setup.{SetupView}
use Rattle.rr_base.specs.declared.trap.Trap.{Trap}
use Rattle.flow_code.specs.declared.act.Act.{Act}
use Rattle.flow_code.specs.declared.code.Code.{Code}
use Rattle.flow_code.specs.declared.thread.Phase.TheVariants as phase
use Rattle.word_semantics.specs.declared.event.Due.TheVariants as due
use Rattle.word_semantics.specs.Registers.{register}
use Rattle.flow_code.specs.Threads.{Frame, Thread, instr_at, instr_in, line_of, line_in}
use Rattle.flow_code.specs.Next.{act_in, act_at, pointers_of, pointers_in, act_due, act_after, due_of, stepped, limited, listed, owing, first_owed, phase_due, phase_after, after_due}
use Rattle.word_semantics.specs.Limits.{most_entries}
use Rattle.rr_base.specs.declared.position.Position.{Position}
use Rattle.core_tree.specs.Core.{Function, Program}
use Rattle.core_tree.specs.Runs.{Run, does, traps, ends, State}
use Rattle.flow_lower.specs.Lowered.{instr, lowered, function_code, function_kinds, body_code}
use Rattle.lower_sound.specs.Follows.{Comes, here, quietly, Follows}

-- ---- registers

pub same_register : (xs : List ℕ) (r v : ℕ) → r < length xs → register (slice_set xs r v) r ≡ v
same_register xs r v lt = get_or-set_same xs r v 0 lt

pub other_register : (xs : List ℕ) (r v q : ℕ) → q ≢ r → register (slice_set xs r v) q ≡ register xs q
other_register xs r v q ne = get_or-set_other xs r q v 0 ne

-- ---- what limits and lists leave as it is

pub quiet_passes : (full at_limit : Bool) → listed full (owing None (limited at_limit due.Quiet)) ≡ due.Quiet
quiet_passes true true = refl
quiet_passes true false = refl
quiet_passes false true = refl
quiet_passes false false = refl

pub trap_passes : (full at_limit : Bool) (kind : Trap) → listed full (owing None (limited at_limit (due.Trap kind))) ≡ due.Trap kind
trap_passes true true kind = refl
trap_passes true false kind = refl
trap_passes false true kind = refl
trap_passes false false kind = refl

module _ (code : Code) (s : SetupView) (t : ℕ) where
  pub comes_on : {m n : Thread} (o : Thread) → Comes code s t m n → Comes code s t n o → Comes code s t m o
  comes_on o here d = d
  comes_on o (quietly e c) d = quietly e (comes_on o c d)

  -- a quiet step, and the run from there on
  pub goes_quietly : (r : Run) (m n : Thread) → due_of code s t m ≡ due.Quiet → stepped code s t m (pos 0) ≡ n → Follows code s t r n → Follows code s t r m
  goes_quietly (does a out more) m n e is f = (f.0, quietly e (subst (λ n. Comes code s t n f.0) (sym is) f.1), f.2)
  goes_quietly (traps kind line) m n e is f = (f.0, quietly e (subst (λ n. Comes code s t n f.0) (sym is) f.1), f.2, f.3)
  goes_quietly ends m n e is f = (f.0, quietly e (subst (λ n. Comes code s t n f.0) (sym is) f.1), f.2)

-- ---- in one function

module _ (p : Program) (s : SetupView) (t : ℕ) (i : ℕ) (f : Function) (is : slice_get p.functions i ≡ Some f) (callers : List Frame) (budget : ℕ) where
  code : Code
  code = lowered p

  abbrev pub first : ℕ
  first = length f.pointers

  abbrev pub kinds : List Bool
  kinds = function_kinds f

  -- the thread shows the state of the source
  pub record Shows (m : Thread) (σ : State) : Type 0 where
    pub function : m.top.function ≡ i
    pub made : m.top.made ≡ 0
    pub kept : m.top.kept ≡ pos 0
    pub phase : m.phase ≡ phase.Running
    pub below : m.below ≡ callers
    pub stripes : m.stripes ≡ []
    pub size : length m.top.registers ≡ length kinds
    pub registers : (n : ℕ) → n < first → register m.top.registers n ≡ σ.registers n
    pub objects : (k : ℕ) → k < length f.objects → register m.top.registers (first + k) ≡ σ.objects k
    pub count : m.count ≡ σ.count
    pub arena : m.arena ≡ σ.arena
    pub printed : m.printed ≡ σ.printed
    pub depth : σ.depth ≡ length callers + 1
    pub small : m.count ≤ s.limit
    pub enough : s.limit ≤ m.count + budget

  is_function : slice_get (lowered p).functions i ≡ Some (function_code f)
  is_function = slice_get-map function_code p.functions i ∙ ap (option_map function_code) is

  pub instr_of : (m : Thread) (σ : State) → Shows m σ → instr_at (lowered p) m.top ≡ slice_get (body_code f) m.top.instr
  instr_of m σ h = ap (λ n. instr_in (slice_get (lowered p).functions n) m.top.instr) h.function ∙ ap (λ o. instr_in o m.top.instr) is_function

  pub act_of : (m : Thread) (σ : State) (at : Position) (a : Act) → Shows m σ → slice_get (body_code f) m.top.instr ≡ Some (instr at a) → act_at (lowered p) m.top ≡ Some a
  act_of m σ at a h e = ap act_in (instr_of m σ h ∙ e)

  pub kinds_of : (m : Thread) (σ : State) → Shows m σ → pointers_of (lowered p) m.top ≡ kinds
  kinds_of m σ h = ap (λ n. pointers_in (slice_get (lowered p).functions n)) h.function ∙ ap pointers_in is_function

  -- what is due at an instruction
  pub due_at : (m : Thread) (σ : State) (at : Position) (a : Act) → Shows m σ → slice_get (body_code f) m.top.instr ≡ Some (instr at a)
      → due_of (lowered p) s t m ≡ listed (nat_le most_entries m.entries) (owing None (limited (nat_le s.limit m.count) (act_due (lowered p) s t m (Some a))))
  due_at m σ at a h e =
      ap (λ x. listed (nat_le most_entries m.entries) (owing (first_owed x) (limited (nat_le s.limit m.count) (phase_due (lowered p) s t m m.phase)))) h.stripes
      ∙ ap (λ x. listed (nat_le most_entries m.entries) (owing None (limited (nat_le s.limit m.count) (phase_due (lowered p) s t m x)))) h.phase
      ∙ ap (λ x. listed (nat_le most_entries m.entries) (owing None (limited (nat_le s.limit m.count) (act_due (lowered p) s t m x)))) (act_of m σ at a h e)

  -- a quiet instruction
  pub quiet_due : (m : Thread) (σ : State) (at : Position) (a : Act) → Shows m σ → slice_get (body_code f) m.top.instr ≡ Some (instr at a)
      → act_due (lowered p) s t m (Some a) ≡ due.Quiet → due_of (lowered p) s t m ≡ due.Quiet
  quiet_due m σ at a h e q =
      due_at m σ at a h e
      ∙ ap (λ x. listed (nat_le most_entries m.entries) (owing None (limited (nat_le s.limit m.count) x))) q
      ∙ quiet_passes (nat_le most_entries m.entries) (nat_le s.limit m.count)

  after_quiet : (m : Thread) (σ : State) (at : Position) (a : Act) → Shows m σ → slice_get (body_code f) m.top.instr ≡ Some (instr at a)
      → due_of (lowered p) s t m ≡ due.Quiet → stepped (lowered p) s t m (pos 0) ≡ act_after (lowered p) s t m (Some a) (pos 0)
  unfolding stepped
  after_quiet m σ at a h e q =
      ap (λ d. after_due (lowered p) s t m d (pos 0)) q
      ∙ ap (λ x. phase_after (lowered p) s t m x (pos 0)) h.phase
      ∙ ap (λ x. act_after (lowered p) s t m x (pos 0)) (act_of m σ at a h e)

  pub by_quiet : (r : Run) (m n : Thread) (σ : State) (at : Position) (a : Act) → Shows m σ → slice_get (body_code f) m.top.instr ≡ Some (instr at a)
      → act_due (lowered p) s t m (Some a) ≡ due.Quiet → act_after (lowered p) s t m (Some a) (pos 0) ≡ n
      → Follows (lowered p) s t r n → Follows (lowered p) s t r m
  by_quiet r m n σ at a h e q is_next go =
      let quiet = quiet_due m σ at a h e q in
      goes_quietly (lowered p) s t r m n quiet (after_quiet m σ at a h e quiet ∙ is_next) go

  pub line_at : (m : Thread) (σ : State) (at : Position) (a : Act) → Shows m σ → slice_get (body_code f) m.top.instr ≡ Some (instr at a) → line_of (lowered p) m.phase m.top ≡ at.line
  line_at m σ at a h e = ap (λ x. line_of (lowered p) x m.top) h.phase ∙ ap line_in (instr_of m σ h ∙ e)

  -- a trap at an instruction
  pub by_trap : (m : Thread) (σ : State) (at : Position) (a : Act) (kind : Trap) → Shows m σ → slice_get (body_code f) m.top.instr ≡ Some (instr at a)
      → act_due (lowered p) s t m (Some a) ≡ due.Trap kind → Follows (lowered p) s t (traps kind at.line) m
  by_trap m σ at a kind h e q = (
    m,
    here,
    due_at m σ at a h e
        ∙ ap (λ x. listed (nat_le most_entries m.entries) (owing None (limited (nat_le s.limit m.count) x))) q
        ∙ trap_passes (nat_le most_entries m.entries) (nat_le s.limit m.count) kind,
    line_at m σ at a h e,
  )
