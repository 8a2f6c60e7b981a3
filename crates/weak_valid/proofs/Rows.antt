-- Worked rows of loops that share a Mark: then the weakened code of a valid code may not be valid.
use Rattle.std.proofs.Common.{◌≡◌, true, false, List, [], ◌∷◌, map, Some, None, refl, pos, codes}
use Rattle.rr_base.specs.Words.{pack}
use Rattle.rr_base.specs.declared.layout.CellKind.TheVariants as kind
use Rattle.rr_base.specs.declared.layout.Place.{Place}
use Rattle.flow_code.specs.declared.act.Act.{Act}
use Rattle.flow_code.specs.declared.act.Act.TheVariants as act
use Rattle.flow_code.specs.declared.act.Instr.{Instr}
use Rattle.flow_code.specs.declared.code.Code.{Code}
use Rattle.flow_code.specs.declared.code.LoopInfo.{LoopInfo}
use Rattle.flow_code.specs.declared.region.Bound.TheVariants as bound
use Rattle.word_semantics.specs.declared.operator.BinaryOp.TheVariants as op
use Rattle.flow_code.specs.declared.work.Work.TheVariants as work
use Rattle.flow_code.specs.Valid.{is_valid}
use Rattle.facts.specs.declared.pair.Pair.{Pair}
use Rattle.facts.specs.PointsTo.{Tables}
use Rattle.weak_lock_facts.specs.declared.grain.Grain.TheVariants as grain
use Rattle.weak_lock_facts.specs.declared.grain.Grained.{Grained}
use Rattle.weak_lock_facts.specs.declared.range.Range.{Range}
use Rattle.weak_lock_facts.specs.Ranges.{ranges_of}
use Rattle.weak_code.specs.Weakened.{weakened}
use Rattle.weak_valid.specs.Apart.{loops_are_apart}

-- `int x[4]; int main(void) { for (int i = 0; i < 4; i++) x[i] = i; }`
at : Act → Instr
at a = record { at = record { line = 1; column = 1 }; act = a }

instrs : List Instr
instrs = map at (
    act.Compute 0 (work.Constant (pos 0)) ∷ act.Mark
    ∷ act.Compute 1 (work.Constant (pos 4)) ∷ act.Compute 2 (work.Binary op.Less 0 1) ∷ act.Branch 2 5 14
    ∷ act.Compute 3 (work.Address (pack 1 0 4 0)) ∷ act.Compute 4 (work.Move 3 0 1 false) ∷ act.StoreCell 4 0
    ∷ act.Compute 7 (work.Copy 0) ∷ act.Compute 8 (work.Constant (pos 1)) ∷ act.Compute 9 (work.Binary op.Add 7 8) ∷ act.Compute 0 (work.Copy 9) ∷ act.Compute 10 (work.Copy 9) ∷ act.Jump 1
    ∷ act.Return None ∷ [])

counted : LoopInfo
counted = record { at = 1; first = 5; last = 12; counter = 0; bound = bound.Number (pos 4); step = pos 1 }

-- not counted, since its counter is a pointer
other : LoopInfo
other = record { at = 1; first = 5; last = 12; counter = 3; bound = bound.Number (pos 4); step = pos 1 }

code_with : List LoopInfo → Code
code_with loops = record {
  functions = record { name = codes "main"; line = 1; formals = 0; registers = 11; pointers = false ∷ false ∷ false ∷ true ∷ true ∷ false ∷ false ∷ false ∷ false ∷ false ∷ false ∷ []; gives_pointer = false; instrs = instrs; loops = loops; regions = [] } ∷ [];
  sites = record { name = codes "x"; layout = record { size = 4; element = 1; kinds = kind.Whole ∷ kind.Whole ∷ kind.Whole ∷ kind.Whole ∷ [] }; at = record { line = 1; column = 5 } } ∷ [];
  globals = 0 ∷ 0 ∷ 0 ∷ 0 ∷ [];
  global_kinds = kind.Whole ∷ kind.Whole ∷ kind.Whole ∷ kind.Whole ∷ [];
  global_bases = Some 0 ∷ [];
  locks = [];
}

x : Place
x = record { site = 1; class = 0 }

tables : Tables
tables = record { registers = ([] ∷ [] ∷ [] ∷ (x ∷ []) ∷ (x ∷ []) ∷ [] ∷ [] ∷ [] ∷ [] ∷ [] ∷ [] ∷ []) ∷ []; cells = ([] ∷ []) ∷ [] }

ranges : List Range
ranges = record { function = 0; instr = 7; loop_at = 1; shift = pos 0 } ∷ []

pairs : List Pair
pairs = record { place = x; first = record { function = 0; instr = 7 }; second = record { function = 0; instr = 7 } } ∷ []

rows : List Grained
rows = record { access = record { function = 0; instr = 7 }; grain = grain.Loop 1 } ∷ []

-- the one loop
valid_row : is_valid (weakened (code_with (counted ∷ [])) tables pairs ranges rows) ≡ true
unfolding weakened code_with instrs at counted tables pairs ranges rows x
valid_row = refl

-- two loops at one Mark
plain_row : is_valid (code_with (counted ∷ other ∷ [])) ≡ true
unfolding code_with instrs at counted other
plain_row = refl

ranges_row : ranges_of (code_with (counted ∷ other ∷ [])) tables ≡ ranges
unfolding code_with instrs at counted other tables ranges x
ranges_row = refl

apart_row : loops_are_apart (code_with (counted ∷ other ∷ [])) ≡ false
unfolding code_with counted other
apart_row = refl

not_valid_row : is_valid (weakened (code_with (counted ∷ other ∷ [])) tables pairs ranges rows) ≡ false
unfolding weakened code_with instrs at counted other tables pairs ranges rows x
not_valid_row = refl
