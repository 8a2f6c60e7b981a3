-- What a call instruction and a call of the core tree have in common.
use Rattle.std.proofs.Common.{◌≡◌, ℕ, ◌+◌, ◌≤◌, ◌<◌, List, [], length, Some}
use Rattle.sync_objects.specs.Setup.{SetupView}
use Rattle.flow_code.specs.declared.act.Act.TheVariants as act
use Rattle.flow_code.specs.declared.thread.Phase.TheVariants as phase
use Rattle.flow_code.specs.Threads.{Thread, line_of}
use Rattle.flow_code.specs.Next.{past, given, act_at}
use Rattle.word_semantics.specs.Registers.{words_of}
use Rattle.core_tree.specs.Core.{Program}
use Rattle.core_tree.specs.Runs.{Run, State}
use Rattle.core_tree.specs.Meaning.{Calls}
use Rattle.flow_lower.specs.Lowered.{lowered}
use Rattle.lower_sound.specs.Follows.{Follows}

-- n is m after its call, with the value v
pub record Returns (limit budget : ℕ) (m n : Thread) (σ σ' : State) (into v : ℕ) : Type 0 where
  pub top : n.top ≡ past (given m.top (Some into) v)
  pub phase : n.phase ≡ phase.Running
  pub below : n.below ≡ m.below
  pub stripes : n.stripes ≡ []
  pub registers : (q : ℕ) → σ'.registers q ≡ σ.registers q
  pub objects : (q : ℕ) → σ'.objects q ≡ σ.objects q
  pub count : n.count ≡ σ'.count
  pub arena : n.arena ≡ σ'.arena
  pub printed : n.printed ≡ σ'.printed
  pub depth : σ'.depth ≡ σ.depth
  pub small : n.count ≤ limit
  pub later : m.count ≤ n.count

-- at a call the handler does what the code does, where so many calls more are enough
abbrev pub Serves : Program → SetupView → ℕ → Calls → ℕ → Type 0
Serves p s t handler budget =
    (g into : ℕ) (arguments : List ℕ) (line : ℕ) (m : Thread) (σ : State) (k : ℕ → State → Run)
    → g < length p.functions → act_at (lowered p) m.top ≡ Some (act.Call g arguments (Some into)) → line_of (lowered p) m.phase m.top ≡ line
    → m.phase ≡ phase.Running → m.stripes ≡ [] → m.count ≡ σ.count → m.arena ≡ σ.arena → m.printed ≡ σ.printed → σ.depth ≡ length m.below + 1 → m.count ≤ s.limit → s.limit ≤ m.count + budget
    → ((v : ℕ) (n : Thread) (σ' : State) → Returns s.limit budget m n σ σ' into v → Follows (lowered p) s t (k v σ') n)
    → Follows (lowered p) s t (handler g (words_of m.top.registers arguments) line σ k) m
