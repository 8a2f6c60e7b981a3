-- The ways of a frame through a function's instructions, with its registers, and with the registers that it had where it took
-- each region that is open.
use Rattle.std.specs.Prelude.{ℕ, ◌==◌, if◌then◌else◌, List, [], ◌∷◌, length, Option, Some, slice_get}
use Rattle.flow_code.specs.declared.act.Act.{Act}
use Rattle.flow_code.specs.declared.act.Act.TheVariants as act
use Rattle.flow_code.specs.declared.act.Instr.{Instr}
use Rattle.flow_code.specs.Next.{act_in}
use Rattle.flow_code.specs.Threads.{objects_of}
use Rattle.loop_bounds.specs.Turns.{Setting, Goes}

-- a region that is open, and what the registers had at its Take
abbrev pub Opening : Type 0
Opening = ℕ × List ℕ

-- without the latest opening of a region
abbrev pub closed_with : ℕ → List Opening → List Opening
closed_with r [] = []
closed_with r (x ∷ xs) = if x.0 == r then xs else x ∷ closed_with r xs

-- the open regions after an instruction at which the registers are these, the latest first
abbrev pub opened_with : Option Act → List ℕ → List Opening → List Opening
opened_with (Some (act.Take r)) rs opened = (r, rs) ∷ opened
opened_with (Some (act.Give r)) rs opened = closed_with r opened
opened_with _ rs opened = opened

-- a frame came from the function's beginning, after its objects, to a place with such registers, and these regions are open
pub data Walked (s : Setting) (is : List Instr) : (w : ℕ) (rs : List ℕ) (opened : List Opening) → Type 0 where
  begins : (rs : List ℕ) → Walked s is (length (objects_of is)) rs []
  goes : {w v : ℕ} {rs qs : List ℕ} {opened : List Opening} → Walked s is w rs opened → Goes s (act_in (slice_get is w)) w rs v qs → Walked s is v qs (opened_with (act_in (slice_get is w)) rs opened)
