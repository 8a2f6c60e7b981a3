-- Worked rows of the functions that a source defines.
use Rattle.std.proofs.Common.{◌≡◌, ℕ, ◌+◌, true, false, Bool, List, [], ◌∷◌, Some, None, refl, codes}
use Rattle.rr_base.specs.declared.layout.CellKind.TheVariants as cell
use Rattle.c_tree.specs.declared.ctype.CType.{CType}
use Rattle.c_tree.specs.declared.ctype.Specifier.{Specifier}
use Rattle.c_tree.specs.declared.ctype.Specifier.TheVariants as specifier
use Rattle.c_tree.specs.Tree.{Exp, no_formals, call, null, sizeof_exp, no_exp, and_exp, declares, compute, no_part, and_declares, and_does, prototype, Outer, function}
use Rattle.c_sites.specs.declared.function_info.FunctionInfo.{FunctionInfo}
use Rattle.c_types.specs.Constants.{constant_named}
use Rattle.c_types.specs.Library.{library_named}
use Rattle.c_numbers.specs.Numbered.{following}
use Rattle.c_sites.specs.Functions.{program_functions}
use Rattle.c_sites.specs.Layouts.{layout_named}
use Rattle.c_sites.proofs.SiteRows.{at, name_at, plain_at, int, address, n, function_at, of_kinds, first_source, second_source}

abbrev info : List ℕ → ℕ → ℕ → Bool → FunctionInfo
info name formals registers is_root = record { name = name; formals = formals; registers = registers; is_root = is_root }

-- of `f`: the formal, `a`, `p` and the inner `b` are registers
pub first_functions_are : program_functions first_source ≡ info (codes "f") 1 4 false ∷ []
unfolding following library_named
first_functions_are = refl

-- `f` has a struct, and `&` is applied to a formal of `h`
pub second_functions_are : program_functions second_source ≡ info (codes "f") 1 1 false ∷ info (codes "h") 2 1 false ∷ []
unfolding following library_named
second_functions_are = refl

abbrev create : List ℕ → ℕ → Exp
create name column =
    call (codes "pthread_create") (and_exp (address (n (codes "t") (column + 16)) (column + 15)) (and_exp (null (at (column + 18))) (and_exp (n name (column + 23)) (and_exp (null (at (column + 25))) no_exp)))) (at column)

-- void u(); void w() {} void u() {} int main() { int t; pthread_create(&t,NULL,w,NULL); sizeof pthread_create(&t,NULL,u,NULL); }
abbrev third_source : List Outer
third_source =
    function false (specifier.Void (at 1)) 0 (name_at (codes "u") 6) no_formals prototype
    ∷ function_at (codes "w") 16 [] no_part
    ∷ function_at (codes "u") 28 [] no_part
    ∷ function_at (codes "main") 39 [] (
    and_declares (declares (int 48) (plain_at 0 (codes "t") 52 [] ∷ []) (at 48))
    (and_does (compute (Some (create (codes "w") 55)) (at 55))
    (and_does (compute (Some (sizeof_exp (create (codes "u") 94) (at 87))) (at 87)) no_part)))
    ∷ []

-- what stands in `sizeof` isn't evaluated, but `t` is kept in cells
pub third_functions_are : program_functions third_source ≡ info (codes "w") 0 0 true ∷ info (codes "u") 0 0 false ∷ info (codes "main") 0 0 true ∷ []
unfolding following library_named
third_functions_are = refl

abbrev of_type : Specifier → ℕ → CType
of_type s stars = record { specifier = s; stars = stars; at = at 1 }

abbrev struct_named : List ℕ → Specifier
struct_named name = specifier.Struct (name_at name 8) (at 1)

-- struct s { int a; int *q; }
pub struct_is_laid_out : layout_named second_source (of_type (struct_named (codes "s")) 0) ≡ Some (of_kinds 2 (cell.Whole ∷ cell.Pointer ∷ []))
unfolding following constant_named library_named
struct_is_laid_out = refl

pub pointer_is_laid_out : layout_named second_source (of_type (struct_named (codes "s")) 1) ≡ Some (of_kinds 1 (cell.Pointer ∷ []))
unfolding following constant_named library_named
pointer_is_laid_out = refl

pub unknown_is_not_laid_out : layout_named second_source (of_type (struct_named (codes "t")) 0) ≡ None
unfolding following constant_named library_named
unknown_is_not_laid_out = refl

pub void_is_not_laid_out : layout_named second_source (of_type (specifier.Void (at 1)) 0) ≡ None
unfolding following constant_named library_named
void_is_not_laid_out = refl

pub mutex_is_laid_out : layout_named second_source (of_type (specifier.PthreadMutexT (at 1)) 0) ≡ Some (of_kinds 1 (cell.Mutex ∷ []))
unfolding following constant_named library_named
mutex_is_laid_out = refl
