-- Worked rows of weakened code.
use Rattle.std.proofs.Common.{◌≡◌, ℕ, true, false, List, [], ◌∷◌, map, None, refl, pos, ◌^◌}
use Rattle.rr_base.specs.declared.layout.Place.{Place}
use Rattle.flow_code.specs.declared.act.Act.{Act}
use Rattle.flow_code.specs.declared.act.Act.TheVariants as act
use Rattle.flow_code.specs.declared.act.Instr.{Instr}
use Rattle.flow_code.specs.declared.code.Code.{Code}
use Rattle.flow_code.specs.declared.code.Function.{Function}
use Rattle.flow_code.specs.declared.code.LoopInfo.{LoopInfo}
use Rattle.flow_code.specs.declared.region.Base.TheVariants as base
use Rattle.flow_code.specs.declared.region.Bound.TheVariants as bound
use Rattle.flow_code.specs.declared.region.Region.TheVariants as region
use Rattle.word_semantics.specs.declared.operator.BinaryOp.TheVariants as op
use Rattle.flow_code.specs.declared.work.Work.TheVariants as work
use Rattle.facts.specs.declared.pair.Pair.{Pair}
use Rattle.facts.specs.PointsTo.{Tables}
use Rattle.weak_lock_facts.specs.declared.grain.Grain.TheVariants as grain
use Rattle.weak_lock_facts.specs.declared.grain.Grained.{Grained}
use Rattle.weak_lock_facts.specs.declared.range.Range.{Range}
use Rattle.weak_code.specs.declared.stretch.Stretch.{Stretch}
use Rattle.weak_code.specs.WeakLocks.{places_in, with_number, locks_of}
use Rattle.weak_code.specs.Places.{before}
use Rattle.weak_code.specs.Stretches.{element_base}
use Rattle.weak_code.specs.Weakened.{weakened}

-- ---- locks

x : Place
x = record { site = 1; class = 0 }

y : Place
y = record { site = 1; class = 1 }

z : Place
z = record { site = 2; class = 0 }

access : ℕ → Place → Pair
access k p = record { place = p; first = record { function = 0; instr = k }; second = record { function = 0; instr = k } }

places_row : places_in (access 1 x ∷ access 2 x ∷ access 1 z ∷ []) ≡ x ∷ z ∷ []
unfolding access x z
places_row = refl

-- y has no lock
locks_row : locks_of (x ∷ z ∷ []) (z ∷ y ∷ x ∷ z ∷ []) ≡ 0 ∷ 1 ∷ []
unfolding x y z
locks_row = refl

number_row : with_number 4 (1 ∷ 4 ∷ 6 ∷ []) ≡ 1 ∷ 4 ∷ 6 ∷ []
number_row = refl

-- ---- what stands before an instruction

stretch : (first last : ℕ) → Stretch
stretch m n = record { first = m; last = n; region = region.Whole [] }

-- a function, a loop in a loop, and an access after the inner loop
nested : List Stretch
nested = stretch 0 20 ∷ stretch 2 15 ∷ stretch 3 9 ∷ stretch 10 10 ∷ []

-- where the inner loop is entered
enter_row : before nested 3 act.Mark ≡ act.Take 2 ∷ []
unfolding nested stretch
enter_row = refl

-- after the inner loop
leave_row : before nested 10 (act.LoadCell 0 0) ≡ act.Give 2 ∷ act.Take 3 ∷ []
unfolding nested stretch
leave_row = refl

-- a return inside the inner loop
return_row : before nested 5 (act.Return None) ≡ act.Give 2 ∷ act.Give 1 ∷ act.Give 0 ∷ []
unfolding nested stretch
return_row = refl

-- a return after both loops
last_row : before nested 16 (act.Return None) ≡ act.Give 1 ∷ act.Give 0 ∷ []
unfolding nested stretch
last_row = refl

-- ---- codes with one function

at : Act → Instr
at a = record { at = record { line = 1; column = 1 }; act = a }

function : List Act → List LoopInfo → Function
function acts loops = record { name = []; line = 1; formals = 0; registers = 9; pointers = []; gives_pointer = true; instrs = map at acts; loops = loops; regions = [] }

code_of : Function → Code
code_of fn = record { functions = fn ∷ []; sites = []; globals = []; global_kinds = []; global_bases = []; locks = [] }

-- each register may point to the first place of site 1
tables : Tables
tables = record { registers = ((x ∷ []) ∷ (x ∷ []) ∷ (x ∷ []) ∷ (x ∷ []) ∷ (x ∷ []) ∷ (x ∷ []) ∷ (x ∷ []) ∷ []) ∷ []; cells = [] }

address : ℕ → Act
address r = act.Compute r (work.Address (2 ^ 54))

-- `int t = x; if (t) x = t;`, in which the load and the store are guarded alone
alone : Function
alone = function (address 2 ∷ act.LoadCell 1 2 ∷ act.Branch 1 3 6 ∷ address 3 ∷ act.StoreCell 3 1 ∷ act.Jump 6 ∷ act.Return None ∷ []) []

alone_weakened : Function
alone_weakened = record (function (address 2 ∷ act.Take 0 ∷ act.LoadCell 1 2 ∷ act.Give 0 ∷ act.Branch 1 5 10 ∷ address 3 ∷ act.Take 1 ∷ act.StoreCell 3 1 ∷ act.Give 1 ∷ act.Jump 10 ∷ act.Return None ∷ []) []) {
  regions = region.Cell (base.Register 2) (0 ∷ []) ∷ region.Cell (base.Register 3) (0 ∷ []) ∷ [];
}

grained : ℕ → Grained
grained k = record { access = record { function = 0; instr = k }; grain = grain.Instruction }

alone_row : weakened (code_of alone) tables (access 1 x ∷ []) [] (grained 1 ∷ grained 4 ∷ []) ≡ record (code_of alone_weakened) { locks = record { site = 1; class = 0; stripes = 1 } ∷ [] }
unfolding weakened alone alone_weakened function code_of tables address grained access at x
alone_row = refl

-- `x = x + 1;`, whose load and store are guarded with their block
raised : Function
raised = function (address 1 ∷ address 3 ∷ act.LoadCell 2 3 ∷ act.Compute 4 (work.Copy 2) ∷ act.StoreCell 1 4 ∷ act.Return None ∷ []) []

raised_weakened : Function
raised_weakened = record (function (address 1 ∷ address 3 ∷ act.Take 0 ∷ act.LoadCell 2 3 ∷ act.Compute 4 (work.Copy 2) ∷ act.StoreCell 1 4 ∷ act.Give 0 ∷ act.Return None ∷ []) []) {
  regions = region.Whole (0 ∷ []) ∷ [];
}

raised_row : weakened (code_of raised) tables (access 2 x ∷ []) [] (record (grained 2) { grain = grain.Block 2 } ∷ record (grained 4) { grain = grain.Block 2 } ∷ []) ≡ record (code_of raised_weakened) { locks = record { site = 1; class = 0; stripes = 1 } ∷ [] }
unfolding weakened raised raised_weakened function code_of tables address grained access at x
raised_row = refl

-- the same, guarded with the function
whole_weakened : Function
whole_weakened = record (function (act.Take 0 ∷ address 1 ∷ address 3 ∷ act.LoadCell 2 3 ∷ act.Compute 4 (work.Copy 2) ∷ act.StoreCell 1 4 ∷ act.Give 0 ∷ act.Return None ∷ []) []) {
  regions = region.Whole (0 ∷ []) ∷ [];
}

whole_row : weakened (code_of raised) tables (access 2 x ∷ []) [] (record (grained 2) { grain = grain.Function } ∷ record (grained 4) { grain = grain.Function } ∷ []) ≡ record (code_of whole_weakened) { locks = record { site = 1; class = 0; stripes = 1 } ∷ [] }
unfolding weakened raised whole_weakened function code_of tables address grained access at x
whole_row = refl

-- the pointer that was moved isn't the one that the text assigned last: another block may have assigned it
branched_row : element_base (map at (act.Branch 0 1 3 ∷ address 3 ∷ act.Jump 4 ∷ address 3 ∷ act.Compute 4 (work.Move 3 0 1 false) ∷ act.StoreCell 4 0 ∷ [])) 5 4 ≡ base.Register 3
unfolding address at
branched_row = refl

-- `for (int i = 0; i < 4; i++) x[i] = i;`
counted : Function
counted = function (act.Compute 0 (work.Constant (pos 0)) ∷ act.Mark ∷ act.Compute 1 (work.Constant (pos 4)) ∷ act.Compute 2 (work.Binary op.Less 0 1) ∷ act.Branch 2 5 11 ∷ address 3 ∷ act.Compute 4 (work.Move 3 0 1 false) ∷ act.StoreCell 4 0 ∷ act.Compute 5 (work.Constant (pos 1)) ∷ act.Compute 0 (work.Binary op.Add 0 5) ∷ act.Jump 1 ∷ act.Return None ∷ []) (record { at = 1; first = 5; last = 9; counter = 0; bound = bound.Number (pos 4); step = pos 1 } ∷ [])

counted_weakened : Function
counted_weakened = record (function (act.Compute 0 (work.Constant (pos 0)) ∷ act.Take 0 ∷ act.Mark ∷ act.Compute 1 (work.Constant (pos 4)) ∷ act.Compute 2 (work.Binary op.Less 0 1) ∷ act.Branch 2 6 12 ∷ address 3 ∷ act.Compute 4 (work.Move 3 0 1 false) ∷ act.StoreCell 4 0 ∷ act.Compute 5 (work.Constant (pos 1)) ∷ act.Compute 0 (work.Binary op.Add 0 5) ∷ act.Jump 2 ∷ act.Give 0 ∷ act.Return None ∷ []) (record { at = 2; first = 6; last = 10; counter = 0; bound = bound.Number (pos 4); step = pos 1 } ∷ [])) {
  regions = region.Ranged 0 (bound.Number (pos 4)) (record { base = base.Site 1; shift = pos 0; locks = 0 ∷ [] } ∷ []) ∷ [];
}

range : Range
range = record { function = 0; instr = 7; loop_at = 1; shift = pos 0 }

counted_row : weakened (code_of counted) tables (access 7 x ∷ []) (range ∷ []) (record (grained 7) { grain = grain.Loop 1 } ∷ []) ≡ record (code_of counted_weakened) { locks = record { site = 1; class = 0; stripes = 8 } ∷ [] }
unfolding weakened counted counted_weakened function code_of tables address grained access range at x
counted_row = refl
