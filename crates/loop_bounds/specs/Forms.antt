-- What a counted loop is, instruction by instruction.
use Rattle.std.specs.Prelude.{◌≡◌, ◌≢◌, ◌⊎◌, ℕ, ◌+◌, ◌-◌, ◌<◌, ◌≤◌, true, false, List, Option, Some}
use Rattle.flow_code.specs.declared.act.Act.{Act}
use Rattle.flow_code.specs.declared.act.Act.TheVariants as act
use Rattle.flow_code.specs.declared.act.Instr.{Instr}
use Rattle.flow_code.specs.declared.code.LoopInfo.{LoopInfo}
use Rattle.flow_code.specs.declared.region.Bound.{Bound}
use Rattle.flow_code.specs.declared.region.Bound.TheVariants as bound
use Rattle.flow_code.specs.declared.work.Work.TheVariants as work
use Rattle.word_semantics.specs.declared.operator.BinaryOp.TheVariants as op
use Rattle.facts.specs.Blocks.{assigns, goes_to}
use Rattle.weak_lock_facts.specs.Loops.{nth, bound_size, condition_end}

-- the bound is in the register: a number is put there by the instruction
abbrev pub HasBound : Bound → Option Act → ℕ → Type 0
HasBound (bound.Number z) a b = a ≡ Some (act.Compute b (work.Constant z))
HasBound (bound.Register r) a b = b ≡ r

-- an instruction that goes to one after a and not after b is itself one from a to b
abbrev pub IsEnteredAt : List Instr → (a b : ℕ) → Type 0
IsEnteredAt is a b = (k j : ℕ) (x : Act) → nth is k ≡ Some x → goes_to j x ≡ true → a < j → j ≤ b → (a ≤ k) × (k ≤ b)

-- `i < b`, and a branch into the loop or after it
pub record IsCondition (is : List Instr) (l : LoopInfo) : Type 0 where
  pub b : ℕ
  pub less : ℕ
  pub has_bound : HasBound l.bound (nth is (l.at + 1)) b
  pub compares : nth is (l.at + 1 + bound_size l.bound) ≡ Some (act.Compute less (work.Binary op.Less l.counter b))
  pub apart : l.counter ≢ b
  pub branches : nth is (condition_end l) ≡ Some (act.Branch less l.first (l.last + 2))

-- the counter is raised by the step
pub record IsLastPart (is : List Instr) (l : LoopInfo) : Type 0 where
  -- where it begins
  pub begin : ℕ
  pub old : ℕ
  pub by : ℕ
  pub new : ℕ
  -- what is added to is the counter itself or a copy
  pub is_old : ((begin ≡ l.last - 3) × (old ≡ l.counter)) ⊎ ((begin ≡ l.last - 4) × (nth is (l.last - 4) ≡ Some (act.Compute old (work.Copy l.counter))))
  pub puts : nth is (l.last - 3) ≡ Some (act.Compute by (work.Constant l.step))
  pub adds : nth is (l.last - 2) ≡ Some (act.Compute new (work.Binary op.Add old by))
  pub apart : old ≢ by
  pub raises : nth is (l.last - 1) ≡ Some (act.Compute l.counter (work.Copy new))

-- the instructions are those of a counted `for` (C99 6.8.5.3)
pub record IsBorneOut (is : List Instr) (l : LoopInfo) : Type 0 where
  pub begins : l.first ≡ condition_end l + 1
  pub marks : nth is l.at ≡ Some act.Mark
  pub condition : IsCondition is l
  pub last_part : IsLastPart is l
  pub ends : l.first ≤ last_part.begin
  pub value : (into : ℕ) × (from : ℕ) × (nth is l.last ≡ Some (act.Compute into (work.Copy from)))
  pub jumps_back : nth is (l.last + 1) ≡ Some (act.Jump l.at)
  -- only the last part assigns the counter, and nothing in the loop a register that is its bound
  pub keeps_counter : (k : ℕ) → l.at ≤ k → k ≤ l.last + 1 → k ≢ l.last - 1 → assigns l.counter (nth is k) ≡ false
  pub keeps_bound : (r k : ℕ) → l.bound ≡ bound.Register r → l.at ≤ k → k ≤ l.last + 1 → assigns r (nth is k) ≡ false
  -- the loop is entered at its Mark, and so are its condition, and its last part where it begins
  pub entered : IsEnteredAt is l.at (l.last + 1)
  pub condition_entered : IsEnteredAt is l.at (condition_end l)
  pub last_part_entered : IsEnteredAt is last_part.begin (l.last + 1)
