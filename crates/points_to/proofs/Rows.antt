-- Worked rows of constraints.
use Rattle.std.proofs.Common.{◌≡◌, pos, negsuc, true, false, List, [], ◌∷◌, Some, None, refl, codes, map}
use Rattle.rr_base.specs.Words.{pack}
use Rattle.rr_base.specs.declared.layout.CellKind.{CellKind}
use Rattle.rr_base.specs.declared.layout.CellKind.TheVariants as cell
use Rattle.rr_base.specs.declared.layout.Site.{Site}
use Rattle.flow_code.specs.declared.act.Act.{Act}
use Rattle.flow_code.specs.declared.act.Act.TheVariants as act
use Rattle.flow_code.specs.declared.act.Instr.{Instr}
use Rattle.word_semantics.specs.declared.library_call.LibraryCall.TheVariants as call
use Rattle.flow_code.specs.declared.code.Code.{Code}
use Rattle.flow_code.specs.declared.work.Work.TheVariants as work
use Rattle.flow_code.specs.Valid.{is_valid}
use Rattle.facts.specs.declared.constraint.Node.TheVariants.{Register, Result, Ended, Cells}
use Rattle.facts.specs.declared.constraint.Constraint.TheVariants.{Given, Included, Shifted, Strided, Loaded, Stored}
use Rattle.facts.specs.Blocks.{constant_at}
use Rattle.facts.specs.PointsTo.{place, place_on, act_constraints, constraints_of}
use Rattle.points_to.specs.Nodes.{number_of, place_from, widths_of}

abbrev site_of_kind : CellKind → Site
site_of_kind kind = record { name = []; layout = record { size = 1; element = 1; kinds = kind ∷ [] }; at = record { line = 1; column = 1 } }

abbrev instrs : List Act → List Instr
instrs acts = map (λ a. record { at = record { line = 1; column = 1 }; act = a }) acts

-- int a; int b; int *p = &a; int main(void) { int *q = p; p = &b; *q = 1; return 1; }
abbrev stored : Code
stored = record {
  functions = record {
    name = codes "main";
    line = 1;
    formals = 0;
    registers = 4;
    pointers = true ∷ true ∷ true ∷ false ∷ [];
    gives_pointer = false;
    instrs = instrs (
        act.Compute 0 (work.Address (pack 3 2 1 0))
        ∷ act.LoadCell 1 0
        ∷ act.Compute 2 (work.Address (pack 2 1 1 0))
        ∷ act.StoreCell 0 2
        ∷ act.Compute 3 (work.Constant (pos 1))
        ∷ act.StoreCell 1 3
        ∷ act.Return (Some 3)
        ∷ []);
    loops = [];
    regions = [];
  } ∷ [];
  sites = site_of_kind cell.Whole ∷ site_of_kind cell.Whole ∷ site_of_kind cell.Pointer ∷ [];
  globals = 0 ∷ 0 ∷ pack 1 0 1 0 ∷ [];
  global_kinds = cell.Whole ∷ cell.Whole ∷ cell.Pointer ∷ [];
  global_bases = Some 0 ∷ Some 1 ∷ Some 2 ∷ [];
  locks = [];
}

pub stored_constraints : constraints_of stored ≡
    Given (Register 0 0) (place 3 0)
    ∷ Loaded (Register 0 0) (Register 0 1)
    ∷ Given (Register 0 2) (place 2 0)
    ∷ Stored (Register 0 0) (Register 0 2)
    ∷ Stored (Register 0 1) (Register 0 3)
    ∷ Included (Register 0 3) (Result 0)
    ∷ Given (Cells (place 3 0)) (place 1 0)
    ∷ []
stored_constraints = refl

-- a valid code, so the answer's contract speaks of it
pub stored_is_valid : is_valid stored ≡ true
stored_is_valid = refl

-- its rows: the result and the ended threads, four registers, and a class for each site
pub stored_widths : widths_of stored ≡ 2 ∷ 4 ∷ 1 ∷ 1 ∷ 1 ∷ []
stored_widths = refl

-- ---- constants in blocks

abbrev before_call : List Instr
before_call = instrs (
    act.Compute 1 (work.Constant (pos 3))
    ∷ act.Compute 2 (work.Move 0 1 2 true)
    ∷ act.Library call.GetChar [] (Some 4)
    ∷ act.Compute 2 (work.Move 0 1 2 true)
    ∷ [])

pub constant_in_block : constant_at before_call 1 1 ≡ Some (pos 3)
constant_in_block = refl

-- a block begins after the call
pub constant_after_call : constant_at before_call 3 1 ≡ None
constant_after_call = refl

-- three elements of two cells back, and any number of them
pub known_move : act_constraints 5 before_call 1 (act.Compute 2 (work.Move 0 1 2 true)) ≡ Shifted (Register 5 0) (Register 5 2) (pos 3) 2 true ∷ []
known_move = refl

pub unknown_move : act_constraints 5 before_call 3 (act.Compute 2 (work.Move 0 1 2 true)) ≡ Strided (Register 5 0) (Register 5 2) 2 ∷ []
unknown_move = refl

-- ---- threads

pub create_constraints : act_constraints 0 [] 0 (act.Library (call.Create 4) (7 ∷ 8 ∷ []) (Some 9)) ≡ Included (Register 0 8) (Register 4 0) ∷ Included (Result 4) Ended ∷ []
create_constraints = refl

pub join_constraints : act_constraints 0 [] 0 (act.Library call.Join (7 ∷ 8 ∷ []) (Some 9)) ≡ Stored (Register 0 8) Ended ∷ []
join_constraints = refl

-- ---- places

-- elements of two cells: one cell back from the first is the second of the element before
abbrev pairs : List Site
pairs = record { name = []; layout = record { size = 2; element = 2; kinds = cell.Whole ∷ cell.Whole ∷ [] }; at = record { line = 1; column = 1 } } ∷ []

pub one_back : place_on pairs (place 1 0) (negsuc 0) ≡ place 1 1
one_back = refl

pub number_and_place : place_from (number_of (place 3 5)) ≡ place 3 5
number_and_place = refl
