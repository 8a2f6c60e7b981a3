-- Worked rows of the listing of weak locks.
use Rattle.std.proofs.Common.{◌≡◌, ℕ, false, List, [], ◌∷◌, refl, codes}
use Rattle.std.specs.Fmt.{digits}
use Rattle.rr_base.specs.declared.layout.Site.{Site}
use Rattle.flow_code.specs.declared.act.Act.{Act}
use Rattle.flow_code.specs.declared.act.Act.TheVariants as act
use Rattle.flow_code.specs.declared.act.Instr.{Instr}
use Rattle.flow_code.specs.declared.code.Code.{Code}
use Rattle.flow_code.specs.declared.code.Function.{Function}
use Rattle.flow_code.specs.declared.code.LockInfo.{LockInfo}
use Rattle.weak_lock_facts.specs.declared.grain.Grain.{Grain}
use Rattle.weak_lock_facts.specs.declared.grain.Grain.TheVariants as grain
use Rattle.weak_lock_facts.specs.declared.grain.Grained.{Grained}
use Rattle.listing.specs.Sorting.{sorted_by}
use Rattle.listing.specs.WeakText.{access_before, weak_text_of}

abbrev site : List ℕ → Site
site name = record { name = name; layout = record { size = 1; element = 1; kinds = [] }; at = record { line = 1; column = 1 } }

abbrev instr : (line column : ℕ) → Act → Instr
instr line column a = record { at = record { line = line; column = column }; act = a }

abbrev function : List ℕ → List Instr → Function
function name is = record { name = name; line = 1; formals = 0; registers = 2; pointers = []; gives_pointer = false; instrs = is; loops = []; regions = [] }

abbrev load : Act
load = act.LoadCell 1 0

abbrev store : Act
store = act.StoreCell 0 1

abbrev code : List Function → Code
code fs = record { functions = fs; sites = site (codes "x") ∷ site (codes "v") ∷ []; globals = []; global_kinds = []; global_bases = []; locks = [] }

abbrev lock : (site class stripes : ℕ) → LockInfo
lock s c n = record { site = s; class = c; stripes = n }

abbrev row : (function instr : ℕ) → Grain → Grained
row f k g = record { access = record { function = f; instr = k }; grain = g }

-- `int t = x; if (t >= 0) x = t + 1;` in `inc`, and `printf("%d\n", x)` in `main`
abbrev counter : Code
counter = code (function (codes "inc") (instr 5 9 load ∷ instr 7 3 store ∷ []) ∷ function (codes "main") (instr 14 16 load ∷ []) ∷ [])

pub alone_row : weak_text_of counter (lock 1 0 1 ∷ []) (row 0 0 grain.Instruction ∷ row 0 1 grain.Instruction ∷ row 1 0 grain.Instruction ∷ [])
    ≡ codes "lock w0 x+0 stripes 1\naccess 5:9 load instruction 5:9\naccess 7:3 store instruction 7:3\naccess 14:16 load instruction 14:16\n"
unfolding digits
alone_row = refl

-- `x = x + 1;`: the store stands before the load in the source, after it in the code
abbrev raised : Code
raised = code (function (codes "inc") (instr 5 5 load ∷ instr 5 3 store ∷ []) ∷ function (codes "main") (instr 12 16 load ∷ []) ∷ [])

pub block_row : weak_text_of raised (lock 1 0 1 ∷ []) (row 0 0 (grain.Block 0) ∷ row 0 1 (grain.Block 0) ∷ row 1 0 grain.Instruction ∷ [])
    ≡ codes "lock w0 x+0 stripes 1\naccess 5:3 store block 5:5\naccess 5:5 load block 5:5\naccess 12:16 load instruction 12:16\n"
unfolding digits
block_row = refl

-- a loop at 4:1 with a store at 5:6 in `low`, and a store at 9:6 in `high` that is guarded with its function
abbrev halves : Code
halves = code (function (codes "high") (instr 9 6 store ∷ []) ∷ function (codes "low") (instr 4 1 act.Mark ∷ instr 5 6 store ∷ []) ∷ [])

pub wide_row : weak_text_of halves (lock 1 0 1 ∷ lock 2 3 8 ∷ []) (row 0 0 grain.Function ∷ row 1 1 (grain.Loop 0) ∷ [])
    ≡ codes "lock w0 x+0 stripes 1\nlock w1 v+3 stripes 8\naccess 5:6 store loop 4:1\naccess 9:6 store function high\n"
unfolding digits
wide_row = refl

-- what stands at one place comes by kind; what is of one kind there too stays as it stands
pub ties_row : sorted_by (access_before (code (function (codes "f") (instr 2 3 store ∷ instr 2 3 load ∷ instr 2 3 store ∷ []) ∷ []))) (row 0 0 grain.Instruction ∷ row 0 1 grain.Instruction ∷ row 0 2 grain.Instruction ∷ [])
    ≡ row 0 1 grain.Instruction ∷ row 0 0 grain.Instruction ∷ row 0 2 grain.Instruction ∷ []
ties_row = refl

pub none_row : weak_text_of counter [] [] ≡ []
none_row = refl
