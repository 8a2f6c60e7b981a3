-- Worked rows of pointers to functions as they are declared: the first fault of each line of C, by its definition.
use Rattle.std.proofs.Common.{◌≡◌, ℕ, true, List, [], ◌∷◌, map, Option, Some, None, refl, codes}
use Rattle.rr_base.specs.declared.position.Position.{Position}
use Rattle.rr_base.specs.Positions.{position_at}
use Rattle.c_tree.specs.declared.name.Name.{Name}
use Rattle.c_tree.specs.declared.ctype.Specifier.{Specifier}
use Rattle.c_tree.specs.declared.ctype.Specifier.TheVariants as specifier
use Rattle.c_tree.specs.Tree.{Formal, formal, formal_pointer, void_formals, listed_formals, listed_row, declared_pointer}
use Rattle.c_types.specs.declared.types.BaseType.TheVariants as base
use Rattle.c_types.specs.declared.fault.FaultKind.{FaultKind}
use Rattle.c_types.specs.declared.fault.FaultKind.TheVariants as fault
use Rattle.c_types.specs.declared.fault.Found.{Found}
use Rattle.c_types.specs.Types.{bare, int_type}
use Rattle.c_types.specs.Constants.{constant_named}
use Rattle.c_types.specs.Library.{library_named, an_int}
use Rattle.c_types.specs.Scopes.{Known}
use Rattle.c_types.specs.Found.{first_among, found_at}
use Rattle.c_programs.specs.Declarators.{declared_type, declarator_faults, params_faults}

abbrev at : ℕ → Position
at column = position_at 1 column

abbrev n : List ℕ → ℕ → Name
n text column = record { text = text; at = at column }

abbrev int : ℕ → Specifier
int column = specifier.Int (at column)

abbrev void : ℕ → Specifier
void column = specifier.Void (at column)

abbrev of_struct : List ℕ → ℕ → Specifier
of_struct name column = specifier.Struct (n name column) (at column)

-- one that begins at a column, with a name and without one
abbrev named : Specifier → ℕ → List ℕ → ℕ → Formal
named s stars name column = formal s stars (Some (n name column)) (at column)

abbrev unnamed : Specifier → ℕ → ℕ → Formal
unnamed s stars column = formal s stars None (at column)

abbrev to_int : List ℕ → ℕ → Formal
to_int name column = formal_pointer (int column) 0 (n name column) (listed_formals (listed_row (unnamed (int 90) 0 90 ∷ []))) (at column)

-- after `struct s { int m; };`, where only `int (*)(int)` is declared
abbrev known : Known
known = record {
  struct_names = codes "s" ∷ [];
  structs = ((codes "m", Some int_type) ∷ []) ∷ [];
  sizes = 1 ∷ [];
  defined = [];
  begun = [];
  pointers = record { signature = record { result = Some (record { stars = 0; base = base.Int }); params = an_int ∷ [] }; at = at 1 } ∷ [];
  function_types = [];
  global_cells = 0;
  scopes = [] ∷ [];
}

-- a pointer `f` at column 5
abbrev pointed : Specifier → List Formal → Option Found
pointed s ps = first_among None (declarator_faults known s (declared_pointer 0 (n (codes "f") 5) (listed_formals (listed_row ps))))

abbrev fault_at : FaultKind → ℕ → Option Found
fault_at kind column = Some (found_at kind (at column))

pub pointer_rows : List ((Specifier × List Formal) × Option Found)
pointer_rows =
    -- int (*f)(void *, int *p, int a), void (*f)(int), int (*f)(int f)
    ((int 1, unnamed (void 7) 1 7 ∷ named (int 9) 1 (codes "p") 10 ∷ named (int 12) 0 (codes "a") 13 ∷ []), None) ∷
    ((void 1, unnamed (int 7) 0 7 ∷ []), None) ∷
    ((int 1, named (int 7) 0 (codes "f") 8 ∷ []), None) ∷
    -- int (*f)(int a, int a), int (*f)(int printf), int (*f)(int a, int (*a)(int))
    ((int 1, named (int 7) 0 (codes "a") 8 ∷ named (int 10) 0 (codes "a") 11 ∷ []), fault_at fault.DuplicateName 11) ∷
    ((int 1, named (int 7) 0 (codes "printf") 8 ∷ []), fault_at fault.DuplicateName 8) ∷
    ((int 1, named (int 7) 0 (codes "a") 8 ∷ to_int (codes "a") 11 ∷ []), fault_at fault.DuplicateName 11) ∷
    -- int (*f)(struct s), int (*f)(void a), int (*f)(int (*g)(int)), int (*f)(struct s *), int (*f)(struct t *)
    ((int 1, unnamed (of_struct (codes "s") 7) 0 7 ∷ []), fault_at fault.TypeMismatch 7) ∷
    ((int 1, named (void 7) 0 (codes "a") 8 ∷ []), fault_at fault.TypeMismatch 8) ∷
    ((int 1, to_int (codes "g") 8 ∷ []), fault_at fault.TypeMismatch 8) ∷
    ((int 1, unnamed (of_struct (codes "s") 7) 1 7 ∷ []), None) ∷
    ((int 1, unnamed (of_struct (codes "t") 7) 1 7 ∷ []), fault_at fault.UnknownName 7) ∷
    -- struct s (*f)(int), struct t (*f)(int)
    ((of_struct (codes "s") 1, unnamed (int 7) 0 7 ∷ []), fault_at fault.TypeMismatch 5) ∷
    ((of_struct (codes "t") 1, unnamed (int 7) 0 7 ∷ []), fault_at fault.UnknownName 1) ∷
    []

pub pointers_are : map (λ r. pointed r.0.0 r.0.1) pointer_rows ≡ map (λ r. r.1) pointer_rows
unfolding constant_named library_named pointer_rows
pointers_are = refl

-- int (*f)(int), and int (*f)(void) that no type is known of
pub row_types : declared_type known (int 1) (declared_pointer 0 (n (codes "f") 5) (listed_formals (listed_row (unnamed (int 7) 0 7 ∷ []))))
    ∷ declared_type known (int 1) (declared_pointer 0 (n (codes "f") 5) void_formals) ∷ []
    ≡ Some (bare (base.Function 0)) ∷ None ∷ []
row_types = refl

-- int apply(int (*f)(int), int f), int apply(int (*f)(int), int a)
pub row_params : map (λ ps. first_among None (params_faults known true ps)) ((to_int (codes "f") 3 ∷ named (int 7) 0 (codes "f") 8 ∷ []) ∷ (to_int (codes "f") 3 ∷ named (int 7) 0 (codes "a") 8 ∷ []) ∷ [])
    ≡ fault_at fault.DuplicateName 8 ∷ None ∷ []
unfolding constant_named library_named
row_params = refl
