-- What is known of the pointer of an access with a range, in whichever turn of its loop.
use Rattle.std.specs.Prelude.{◌≡◌, ℕ, ℤ, ◌+ℤ◌, ◌≤ℤ◌, ◌<ℤ◌, List, Some, Ok}
use Rattle.rr_base.specs.Words.{site_of}
use Rattle.word_semantics.specs.Operators.{based}
use Rattle.word_semantics.specs.Pointers.{moved_by}
use Rattle.word_semantics.specs.Registers.{register}
use Rattle.word_semantics.specs.Values.{number}
use Rattle.flow_code.specs.declared.act.Act.TheVariants as act
use Rattle.flow_code.specs.declared.act.Instr.{Instr}
use Rattle.flow_code.specs.declared.code.LoopInfo.{LoopInfo}
use Rattle.flow_code.specs.declared.region.Base.{Base}
use Rattle.flow_code.specs.declared.region.Base.TheVariants as base
use Rattle.flow_code.specs.declared.work.Work.TheVariants as work
use Rattle.flow_code.specs.Stripes.{bound_of}
use Rattle.weak_lock_facts.specs.Loops.{nth}
use Rattle.loop_bounds.specs.Turns.{Setting}

-- the word is an address of the global that one of the instructions computes, or what the register has
abbrev pub HasBase : Setting → List Instr → List ℕ → Base → ℕ → Type 0
HasBase s is rs (base.Site g) v = (k : ℕ) × (into : ℕ) × (w : ℕ) × (nth is k ≡ Some (act.Compute into (work.Address w))) × (site_of w ≡ g) × (v ≡ based s.slots w)
HasBase s is rs (base.Register r) v = v ≡ register rs r

-- the word is the base's moved by a count and so many elements more, where the count is from the counter to before the bound,
-- and base, counter and bound are those of the registers
pub record IsInRange (s : Setting) (is : List Instr) (rs : List ℕ) (l : LoopInfo) (b : Base) (d : ℤ) (v : ℕ) : Type 0 where
  pub count : ℤ
  pub from : number (register rs l.counter) ≤ℤ count
  pub before : count <ℤ bound_of rs l.bound
  pub base_word : ℕ
  pub is_base : HasBase s is rs b base_word
  pub moves : moved_by s.sites base_word (count +ℤ d) ≡ Ok v
