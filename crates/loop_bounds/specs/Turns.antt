-- How a frame goes through a turn of a loop, from its Mark on, as far as the frame's own instruction and registers go. What an
-- allocation, a load or a call gives may be any word.
use Rattle.std.specs.Prelude.{◌≡◌, ◌≢◌, ℕ, ◌+◌, ◌<◌, Bool, true, ℤ, ◌+ℤ◌, List, Option, Some, None, slice_set, Ok, FitsSigned}
use mir.Syntax.{w64}
use Rattle.rr_base.specs.Words.{site_of}
use Rattle.rr_base.specs.declared.layout.Site.{Site}
use Rattle.flow_code.specs.declared.act.Act.{Act}
use Rattle.flow_code.specs.declared.act.Act.TheVariants as act
use Rattle.flow_code.specs.declared.act.Instr.{Instr}
use Rattle.flow_code.specs.declared.code.Function.{Function}
use Rattle.flow_code.specs.declared.code.LoopInfo.{LoopInfo}
use Rattle.flow_code.specs.declared.region.Base.{Base}
use Rattle.flow_code.specs.declared.region.Base.TheVariants as base
use Rattle.flow_code.specs.declared.work.Work.{Work}
use Rattle.flow_code.specs.declared.work.Work.TheVariants as work
use Rattle.flow_code.specs.Next.{branch_to}
use Rattle.word_semantics.specs.Pointers.{moved_by}
use Rattle.word_semantics.specs.Values.{number}
use Rattle.flow_code.specs.Works.{work_of}
use Rattle.word_semantics.specs.Registers.{register}
use Rattle.word_semantics.specs.Operators.{based}
use Rattle.facts.specs.Blocks.{assigned, assigns}
use Rattle.weak_lock_facts.specs.declared.range.Range.{Range}
use Rattle.weak_lock_facts.specs.Loops.{nth, is_counted}

-- what the words that a function computes rest on: the slots of the run, the sites of the code, and the kinds of its registers
pub record Setting : Type 0 where
  pub slots : ℕ
  pub sites : List Site
  pub pointers : List Bool

-- the register gets the word that the work gives
abbrev pub Computes : Setting → (into : ℕ) → Work → (rs qs : List ℕ) → Type 0
Computes s into w rs qs = (v : ℕ) × (work_of s.slots s.sites s.pointers rs w ≡ Ok v) × (qs ≡ slice_set rs into v)

-- the register gets a word, if there is one
abbrev pub Puts : Option ℕ → (rs qs : List ℕ) → Type 0
Puts None rs qs = qs ≡ rs
Puts (Some into) rs qs = (v : ℕ) × (qs ≡ slice_set rs into v)

-- from the k-th instruction, which does this, to the j-th
abbrev pub Goes : Setting → Option Act → (k : ℕ) (rs : List ℕ) (j : ℕ) (qs : List ℕ) → Type 0
Goes s None k rs j qs = ⊥
Goes s (Some (act.Return value)) k rs j qs = ⊥
Goes s (Some (act.Jump to)) k rs j qs = (j ≡ to) × (qs ≡ rs)
Goes s (Some (act.Branch on then_at else_at)) k rs j qs = (j ≡ branch_to (register rs on) then_at else_at) × (qs ≡ rs)
Goes s (Some (act.Compute into w)) k rs j qs = (j ≡ k + 1) × Computes s into w rs qs
Goes s (Some a) k rs j qs = (j ≡ k + 1) × Puts (assigned a) rs qs

-- in this turn, which began with the registers `start` at the Mark, the frame comes to an instruction with such registers
pub data Comes (s : Setting) (is : List Instr) (mark : ℕ) (start : List ℕ) : ℕ → List ℕ → Type 0 where
  begins : Comes s is mark start mark start
  goes : {k j : ℕ} {rs qs : List ℕ} → Comes s is mark start k rs → Goes s (nth is k) k rs j qs → j ≢ mark → Comes s is mark start j qs

-- the instructions assign only the first n registers, and their constants are numbers of 64 bits, as in each valid code
pub record AreFit (is : List Instr) (n : ℕ) : Type 0 where
  pub registers : (k r : ℕ) → assigns r (nth is k) ≡ true → r < n
  pub constants : (k into : ℕ) (z : ℤ) → nth is k ≡ Some (act.Compute into (work.Constant z)) → FitsSigned w64 z

-- the word is the address of an object of the global, or what the register has
abbrev pub IsBaseWord : Setting → List ℕ → Base → ℕ → Type 0
IsBaseWord s rs (base.Site g) v = (w : ℕ) × (site_of w ≡ g) × (v ≡ based s.slots w)
IsBaseWord s rs (base.Register r) v = v ≡ register rs r

-- the word is the base's, as it was at the Mark, moved by the counter, as it was there, and so many elements of one cell more
pub record IsMoved (s : Setting) (start : List ℕ) (l : LoopInfo) (b : Base) (d : ℤ) (v : ℕ) : Type 0 where
  pub base_word : ℕ
  pub is_base : IsBaseWord s start b base_word
  pub moves : moved_by s.sites base_word (number (register start l.counter) +ℤ d) ≡ Ok v

-- the word is that of a base of the range's loop, moved by the counter and the range's shift
pub record IsElement (s : Setting) (fn : Function) (start : List ℕ) (r : Range) (v : ℕ) : Type 0 where
  pub counted : LoopInfo
  pub bears_out : is_counted fn counted ≡ true
  pub begins_at : counted.at ≡ r.loop_at
  pub moved_base : Base
  pub is_moved : IsMoved s start counted moved_base r.shift v
