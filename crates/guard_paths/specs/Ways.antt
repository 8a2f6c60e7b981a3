-- The ways through a function's instructions, and the regions that are open at their ends.
use Rattle.std.specs.Prelude.{◌≡◌, ℕ, ◌+◌, ◌==◌, if◌then◌else◌, List, [], ◌∷◌, length, Some, slice_get}
use Rattle.std.specs.List.{Contains}
use Rattle.flow_code.specs.declared.act.Act.{Act}
use Rattle.flow_code.specs.declared.act.Act.TheVariants as act
use Rattle.flow_code.specs.declared.act.Instr.{Instr}
use Rattle.flow_code.specs.Threads.{objects_of}

-- where control may be after an instruction at this place
abbrev pub nexts : Act → (w : ℕ) → List ℕ
nexts (act.Jump to) w = to ∷ []
nexts (act.Branch on then_at else_at) w = then_at ∷ else_at ∷ []
nexts (act.Return value) w = []
nexts _ w = (w + 1) ∷ []

-- without the latest opening of a region
abbrev pub closed : ℕ → List ℕ → List ℕ
closed r [] = []
closed r (x ∷ xs) = if x == r then xs else x ∷ closed r xs

-- the open regions after an instruction, the latest first
abbrev pub opened_by : Act → List ℕ → List ℕ
opened_by (act.Take r) opened = r ∷ opened
opened_by (act.Give r) opened = closed r opened
opened_by _ opened = opened

-- a way from a function's beginning, after its objects, to a place, with the regions that are open there then
pub data Way (is : List Instr) : (w : ℕ) → (opened : List ℕ) → Type 0 where
  begins : Way is (length (objects_of is)) []
  goes : {w : ℕ} {opened : List ℕ} (i : Instr) (v : ℕ) → Way is w opened → slice_get is w ≡ Some i → Contains (nexts i.act w) v → Way is v (opened_by i.act opened)
