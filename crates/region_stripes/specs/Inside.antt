-- How a frame goes through the turns of a loop, from where it entered it.
use Rattle.std.specs.Prelude.{ℕ, ◌+◌, ◌≤◌, List}
use Rattle.flow_code.specs.declared.act.Instr.{Instr}
use Rattle.flow_code.specs.declared.code.LoopInfo.{LoopInfo}
use Rattle.weak_lock_facts.specs.Loops.{nth}
use Rattle.loop_bounds.specs.Turns.{Setting, Goes}

-- the frame entered the loop at its Mark with the registers `start`, and has not left it since, in however many turns
pub data Inside (s : Setting) (is : List Instr) (l : LoopInfo) (start : List ℕ) : ℕ → List ℕ → Type 0 where
  enters : Inside s is l start l.at start
  goes : {k j : ℕ} {rs qs : List ℕ} → Inside s is l start k rs → Goes s (nth is k) k rs j qs → l.at ≤ j → j ≤ l.last + 1 → Inside s is l start j qs
