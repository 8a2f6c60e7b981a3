-- Worked rows of code.
use Rattle.std.proofs.Common.{◌≡◌, ◌≢◌, ◌⊎◌, ℕ, zero, suc, ◌+◌, ◌≤◌, pos, negsuc, true, false, List, [], ◌∷◌, Option, Some, None, slice_get, refl, subst, arith, codes, map}
use Rattle.rr_base.specs.Words.{pack}
use Rattle.rr_base.specs.declared.layout.CellKind.{CellKind}
use Rattle.rr_base.specs.declared.layout.CellKind.TheVariants as kind
use Rattle.rr_base.specs.declared.layout.Site.{Site}
use Rattle.flow_code.specs.declared.act.Act.{Act}
use Rattle.flow_code.specs.declared.act.Act.TheVariants as act
use Rattle.word_semantics.specs.declared.library_call.LibraryCall.TheVariants as library_call
use Rattle.flow_code.specs.declared.code.LoopInfo.{LoopInfo}
use Rattle.flow_code.specs.declared.region.Bound.TheVariants as bound
use Rattle.flow_code.specs.declared.work.Work.TheVariants as work
use Rattle.word_semantics.specs.declared.operator.BinaryOp.TheVariants as binary_op
use Rattle.word_semantics.specs.Pointers.{site_at, base_at}
use Rattle.word_semantics.specs.Cells.{size_of}
use Rattle.flow_code.specs.Valid.{is_valid}
use Rattle.rr_base.specs.declared.position.Position.{Position}
use Rattle.core_tree.specs.declared.value.Change.TheVariants as change
use Rattle.core_tree.specs.Core.{Exp, number, null, register, global, load, binary, copy, both, set_register, store, change_register, call, library, no_exp, and_exp, Statement, block, compute, branch, branch_else, while_loop, for_loop, break_at, gives, no_statement, and_statement, Function, Program}
use Rattle.core_tree.specs.Meaning.{is_main}
use Rattle.flow_lower.specs.Lowered.{lowered, body_code, function_code}
use Rattle.core_tree.specs.Sound.{IsAddress, IsSoundExp, IsSoundFunction, LiesAt, IsSound}

abbrev at : ℕ → Position
at line = record { line = line; column = 1 }

abbrev g : Exp
g = global (pack 1 0 1 0) (at 1)

abbrev main_of : Statement → Function
main_of body = record { name = codes "main"; place = at 2; formals = 0; pointers = false ∷ []; objects = []; arrivals = []; gives_pointer = false; body = body }

abbrev acts_of : Statement → List Act
acts_of body = map (λ i. i.act) (body_code (main_of body))

-- g = n + 2;
pub store_code : acts_of (compute (store g (binary binary_op.Add (register 0 false (at 3)) (number (pos 2) (at 3)) (at 3)) (at 3))) ≡
    act.Compute 2 (work.Address (pack 1 0 1 0))
    ∷ act.Compute 4 (work.Constant (pos 2))
    ∷ act.Compute 3 (work.Binary binary_op.Add 0 4)
    ∷ act.StoreCell 2 3
    ∷ act.Compute 1 (work.Copy 3)
    ∷ act.Return None
    ∷ []
store_code = refl

-- +n;
pub copy_code : acts_of (compute (copy (register 0 false (at 3)) (at 3))) ≡
    act.Compute 1 (work.Copy 0)
    ∷ act.Return None
    ∷ []
copy_code = refl

-- n + (n = 2); the first operand is read before it is assigned
pub lost_code : acts_of (compute (binary binary_op.Add (register 0 false (at 3)) (set_register 0 (number (pos 2) (at 3)) (at 3)) (at 3))) ≡
    act.Compute 2 (work.Copy 0)
    ∷ act.Compute 4 (work.Constant (pos 2))
    ∷ act.Compute 0 (work.Copy 4)
    ∷ act.Compute 3 (work.Copy 4)
    ∷ act.Compute 1 (work.Binary binary_op.Add 2 3)
    ∷ act.Return None
    ∷ []
lost_code = refl

-- f(n, g(), n = 2); only the first argument is read before it is assigned
pub arguments_code : acts_of (compute (call 1 (and_exp (register 0 false (at 3)) (and_exp (call 2 no_exp false (at 3)) (and_exp (set_register 0 (number (pos 2) (at 3)) (at 3)) no_exp))) false (at 3))) ≡
    act.Compute 2 (work.Copy 0)
    ∷ act.Call 2 [] (Some 3)
    ∷ act.Compute 5 (work.Constant (pos 2))
    ∷ act.Compute 0 (work.Copy 5)
    ∷ act.Compute 4 (work.Copy 5)
    ∷ act.Call 1 (2 ∷ 3 ∷ 4 ∷ []) (Some 1)
    ∷ act.Return None
    ∷ []
arguments_code = refl

-- f(n, g()); a register is the argument itself, on the other side of a call too
pub named_code : acts_of (compute (call 1 (and_exp (register 0 false (at 3)) (and_exp (call 2 no_exp false (at 3)) no_exp)) false (at 3))) ≡
    act.Call 2 [] (Some 2)
    ∷ act.Call 1 (0 ∷ 2 ∷ []) (Some 1)
    ∷ act.Return None
    ∷ []
named_code = refl

-- free(NULL);
pub free_code : acts_of (compute (library library_call.Free (and_exp (null (at 3)) no_exp) (at 3))) ≡
    act.Compute 2 (work.Constant (pos 0))
    ∷ act.Library library_call.Free (2 ∷ []) None
    ∷ act.Compute 1 (work.Constant (pos 0))
    ∷ act.Return None
    ∷ []
free_code = refl

-- while (n && 1) break;
pub loop_code : acts_of (while_loop (both (register 0 false (at 3)) (number (pos 1) (at 3)) (at 3)) (break_at (at 3)) (at 3)) ≡
    act.Mark
    ∷ act.Branch 0 2 6
    ∷ act.Compute 2 (work.Constant (pos 1))
    ∷ act.Branch 2 4 6
    ∷ act.Compute 1 (work.Constant (pos 1))
    ∷ act.Jump 7
    ∷ act.Compute 1 (work.Constant (pos 0))
    ∷ act.Branch 1 8 10
    ∷ act.Jump 10
    ∷ act.Jump 0
    ∷ act.Return None
    ∷ []
loop_code = refl

-- if (n) n = 1; the branch goes right after the first part
pub if_code : acts_of (branch (register 0 false (at 3)) (compute (set_register 0 (number (pos 1) (at 3)) (at 3))) (at 3)) ≡
    act.Branch 0 1 4
    ∷ act.Compute 2 (work.Constant (pos 1))
    ∷ act.Compute 0 (work.Copy 2)
    ∷ act.Compute 1 (work.Copy 2)
    ∷ act.Return None
    ∷ []
if_code = refl

-- if (n) n = 1; else {} with a jump over the second part, though nothing is in it
pub if_else_code : acts_of (branch_else (register 0 false (at 3)) (compute (set_register 0 (number (pos 1) (at 3)) (at 3))) (block no_statement) (at 3)) ≡
    act.Branch 0 1 5
    ∷ act.Compute 2 (work.Constant (pos 1))
    ∷ act.Compute 0 (work.Copy 2)
    ∷ act.Compute 1 (work.Copy 2)
    ∷ act.Jump 5
    ∷ act.Return None
    ∷ []
if_else_code = refl

abbrev loops_of : Statement → List LoopInfo
loops_of body = (function_code (main_of body)).loops

abbrev whole : ℕ → Exp
whole r = register r false (at 3)

-- for (r = 0; r < b; last_part) body
abbrev up_to : ℕ → Exp → Exp → Statement → Statement
up_to r b last_part body = for_loop (compute (set_register r (number (pos 0) (at 3)) (at 3))) (Some (binary binary_op.Less (whole r) b (at 3))) (Some last_part) body (at 3)

-- r += c
abbrev raised : ℕ → Exp → Exp
raised r c = change_register r (change.Compute binary_op.Add) c false (at 3)

-- r = a + b
abbrev summed : ℕ → Exp → Exp → Exp
summed r a b = set_register r (binary binary_op.Add a b (at 3)) (at 3)

-- for (i = 0; i < 4; i += 1) for (j = 0; j < n; j = j + 2) {}
pub nested_loops : loops_of (up_to 1 (number (pos 4) (at 3)) (raised 1 (number (pos 1) (at 3))) (up_to 2 (whole 0) (summed 2 (whole 2) (number (pos 2) (at 3))) (block no_statement))) ≡
    record { at = 3; first = 7; last = 22; counter = 1; bound = bound.Number (pos 4); step = pos 1 }
    ∷ record { at = 10; first = 13; last = 16; counter = 2; bound = bound.Register 0; step = pos 2 }
    ∷ []
nested_loops = refl

-- for (i = 0; i < 4; i += -1) {}
pub down : loops_of (up_to 1 (number (pos 4) (at 3)) (raised 1 (number (negsuc 0) (at 3))) (block no_statement)) ≡ []
down = refl

-- for (i = 0; i < 4; i = 1 + i) {}
pub turned : loops_of (up_to 1 (number (pos 4) (at 3)) (summed 1 (number (pos 1) (at 3)) (whole 1)) (block no_statement)) ≡ []
turned = refl

-- for (i = 0; i < 4; j += 1) {}
pub of_another : loops_of (up_to 1 (number (pos 4) (at 3)) (raised 2 (number (pos 1) (at 3))) (block no_statement)) ≡ []
of_another = refl

-- ---- sound trees

abbrev site_g : Site
site_g = record { name = codes "g"; layout = record { size = 1; element = 1; kinds = kind.Whole ∷ [] }; at = record { line = 1; column = 5 } }

-- int g; int main(void) { int n; g = n + 2; return g; }
abbrev main_body : Statement
main_body = block (and_statement (compute (store g (binary binary_op.Add (register 0 false (at 3)) (number (pos 2) (at 3)) (at 3)) (at 3))) (and_statement (gives (Some (load g false (at 4))) (at 4)) no_statement))

abbrev sound_program : Program
sound_program = record { functions = main_of main_body ∷ []; pointers = []; sites = site_g ∷ []; globals = 0 ∷ []; global_kinds = kind.Whole ∷ []; global_bases = Some 0 ∷ [] }

-- `g` has cell 0
abbrev home : ℕ → Option ℕ
home = base_at (Some 0 ∷ [])

g_there : (s base : ℕ) → home s ≡ Some base → (site : Site) × (site_at (site_g ∷ []) s ≡ Some site) × LiesAt sound_program site base
g_there zero base e = absurd cc
g_there (suc zero) base e = let first : 0 ≡ base = cc in (site_g, refl, subst (LiesAt sound_program site_g) first (record { within = omega arith; kinds = whole_there }))
  where
    whole_there : (k : ℕ) (cell : CellKind) → slice_get (kind.Whole ∷ []) k ≡ Some cell → slice_get (kind.Whole ∷ []) (0 + k) ≡ Some cell
    whole_there zero cell e = e
    whole_there (suc k) cell e = absurd cc
g_there (suc (suc s)) base e = absurd cc

g_alone : (s t base base' : ℕ) → home s ≡ Some base → home t ≡ Some base' → s ≢ t → (base + size_of (site_g ∷ []) s ≤ base') ⊎ (base' + size_of (site_g ∷ []) t ≤ base)
g_alone zero t base base' e e' ne = absurd cc
g_alone (suc zero) zero base base' e e' ne = absurd cc
g_alone (suc zero) (suc zero) base base' e e' ne = absurd (ne refl)
g_alone (suc zero) (suc (suc t)) base base' e e' ne = absurd cc
g_alone (suc (suc s)) t base base' e e' ne = absurd cc

g_starts : (k w : ℕ) → slice_get (kind.Whole ∷ []) k ≡ Some kind.Pointer → slice_get (0 ∷ []) k ≡ Some w → (w ≡ 0) ⊎ IsAddress sound_program home w
g_starts zero w e e' = absurd cc
g_starts (suc k) w e e' = absurd cc

g_address : IsAddress sound_program home (pack 1 0 1 0)
g_address = (1, 0, refl, refl)

main_sound : (k : ℕ) (f : Function) → slice_get (main_of main_body ∷ []) k ≡ Some f → IsSoundFunction sound_program home f
main_sound zero f e = let only : main_of main_body ≡ f = cc in subst (IsSoundFunction sound_program home) only (record {
  formals = omega arith;
  objects = λ k site h. absurd cc;
  arrivals = λ k a h. absurd cc;
  body = ((refl, g_address, ((refl, λ no'. absurd cc), refl, tt)), ((refl, (refl, g_address)), tt));
})
main_sound (suc k) f e = absurd cc

no_formals : (k : ℕ) (f : Function) → slice_get (main_of main_body ∷ []) k ≡ Some f → is_main f ≡ true → f.formals ≡ 0
no_formals zero f e m = let only : main_of main_body ≡ f = cc in subst (λ (f : Function). f.formals ≡ 0) only refl
no_formals (suc k) f e m = absurd cc

pub program_is_sound : IsSound sound_program
program_is_sound = record {
  homes = record { there = g_there; apart = g_alone; words = g_starts };
  functions = main_sound;
  one_main = refl;
  main_alone = no_formals;
  targets = λ k q e. absurd cc;
  cell_kinds = refl;
  bases = refl;
  layouts = refl;
  few_functions = omega arith;
  few_sites = omega arith;
  few_cells = omega arith;
}

-- *2
pub a_number_is_not_loaded : IsSoundExp sound_program home (main_of main_body) (load (number (pos 2) (at 3)) false (at 3)) → ⊥
a_number_is_not_loaded s = let wrong : false ≡ true = s.0 in cc

pub its_code_is_valid : is_valid (lowered sound_program) ≡ true
its_code_is_valid = refl
