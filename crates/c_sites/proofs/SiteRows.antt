-- Worked rows of what has cells of its own: each global, each local or formal that is kept in cells, each `malloc`.
use Rattle.std.proofs.Common.{◌≡◌, ℕ, pos, false, List, [], ◌∷◌, map, length, Some, refl, codes}
use Rattle.rr_base.specs.declared.layout.CellKind.{CellKind}
use Rattle.rr_base.specs.declared.layout.CellKind.TheVariants as cell
use Rattle.rr_base.specs.declared.layout.Layout.{Layout}
use Rattle.c_tree.specs.declared.name.Name.{Name}
use Rattle.c_tree.specs.declared.ctype.Specifier.{Specifier}
use Rattle.c_tree.specs.declared.ctype.Specifier.TheVariants as specifier
use Rattle.c_tree.specs.declared.expr.PrefixOp.TheVariants as prefix_op
use Rattle.c_tree.specs.declared.expr.AssignOp.TheVariants as assign_op
use Rattle.c_tree.specs.Tree.{Exp, Formal, formal, listed_formals, listed_row, assign, prefix, named, call, number, sizeof_exp, paren, no_exp, and_exp, declared, value, Object, plain, initialised, declares, block, compute, Parts, no_part, and_declares, and_does, defined, fields, Outer, structure, function, objects}
use Rattle.rr_base.specs.declared.position.Position.{Position}
use Rattle.rr_base.specs.Positions.{position_at}
use Rattle.c_types.specs.Constants.{constant_named}
use Rattle.c_types.specs.Library.{library_named}
use Rattle.c_numbers.specs.Numbered.{following}
use Rattle.c_locals.specs.Addresses.{program_addressed}
use Rattle.c_spots.specs.Spots.{Holder, a_global, a_local, an_allocation, program_spots}
use Rattle.c_sites.specs.Sites.{kinds_of_structs, layout_by}

abbrev pub at : ℕ → Position
at column = position_at 1 column

abbrev pub name_at : List ℕ → ℕ → Name
name_at name column = record { text = name; at = at column }

abbrev pub plain_at : ℕ → List ℕ → ℕ → List Exp → Object
plain_at stars name column lengths = plain (declared stars (name_at name column) lengths)

abbrev pub int : ℕ → Specifier
int column = specifier.Int (at column)

abbrev struct_s : ℕ → ℕ → Specifier
struct_s column name_column = specifier.Struct (name_at (codes "s") name_column) (at column)

abbrev pub param_at : List ℕ → ℕ → Formal
param_at name column = formal (int column) 0 (Some (name_at name column)) (at column)

abbrev pub address : Exp → ℕ → Exp
address e column = prefix prefix_op.Address e (at column)

abbrev pub n : List ℕ → ℕ → Exp
n name column = named name (at column)

abbrev pub function_at : List ℕ → ℕ → List Formal → Parts → Outer
function_at name column ps parts = function false (specifier.Void (at 1)) 0 (name_at name column) (listed_formals (listed_row ps)) (defined parts (at column))

-- int g; void f(int n) { int a; int b; int *p = &(b); { int b; int v[2]; } p = malloc(sizeof(int)); }
abbrev pub first_source : List Outer
first_source =
    objects false (int 1) (plain_at 0 (codes "g") 5 [] ∷ []) (at 1)
    ∷ function_at (codes "f") 13 (param_at (codes "n") 19 ∷ []) (
    and_declares (declares (int 24) (plain_at 0 (codes "a") 28 [] ∷ []) (at 24))
    (and_declares (declares (int 31) (plain_at 0 (codes "b") 35 [] ∷ []) (at 31))
    (and_declares (declares (int 38) (initialised (declared 1 (name_at (codes "p") 43) []) (value (address (paren (n (codes "b") 49) (at 48)) 47)) (at 45) ∷ []) (at 38))
    (and_does (block (
    and_declares (declares (int 55) (plain_at 0 (codes "b") 59 [] ∷ []) (at 55))
    (and_declares (declares (int 62) (plain_at 0 (codes "v") 66 (number (pos 2) (at 68) ∷ []) ∷ []) (at 62)) no_part)) (at 53))
    (and_does (compute (Some (assign (n (codes "p") 74) assign_op.Assign (call (codes "malloc") (and_exp (sizeof_exp (n (codes "g") 92) (at 85)) no_exp) (at 78)) (at 76))) (at 74))
    no_part)))))
    ∷ []

-- struct s { int a; int *q; }; struct s w[3]; void f(int n) { struct s x; } void h(int m, int k) { &k; &w; }
abbrev pub second_source : List Outer
second_source =
    structure (name_at (codes "s") 8) (fields (int 12) (declared 0 (name_at (codes "a") 16) [] ∷ []) (at 12) ∷ fields (int 19) (declared 1 (name_at (codes "q") 24) [] ∷ []) (at 19) ∷ [])
    ∷ objects false (struct_s 30 37) (plain_at 0 (codes "w") 39 (number (pos 3) (at 41) ∷ []) ∷ []) (at 30)
    ∷ function_at (codes "f") 50 (param_at (codes "n") 56 ∷ []) (and_declares (declares (struct_s 61 68) (plain_at 0 (codes "x") 70 [] ∷ []) (at 61)) no_part)
    ∷ function_at (codes "h") 80 (param_at (codes "m") 86 ∷ param_at (codes "k") 93 ∷ []) (
    and_does (compute (Some (address (n (codes "k") 99) 98)) (at 98))
    (and_does (compute (Some (address (n (codes "w") 103) 102)) (at 102)) no_part))
    ∷ []

abbrev pub of_kinds : ℕ → List CellKind → Layout
of_kinds element kinds = record { size = length kinds; element = element; kinds = kinds }

abbrev row : Holder → ℕ → Layout → Holder × Position × Layout
row holder column layout = (holder, at column, layout)

abbrev rows_of : List Outer → List (Holder × Position × Layout)
rows_of os = map (λ s. (s.holder, s.at, layout_by (kinds_of_structs os) s.of)) (program_spots os)

-- the formal of `f` is 0, and `a` is 1; of `h` the formals are 2 and 3
pub numbers_are : map program_addressed (first_source ∷ second_source ∷ []) ≡ (2 ∷ []) ∷ (3 ∷ []) ∷ []
unfolding following
numbers_are = refl

pub first_rows_are : rows_of first_source ≡
    row (a_global (codes "g")) 5 (of_kinds 1 (cell.Whole ∷ []))
    ∷ row (a_local (codes "f") (codes "b")) 35 (of_kinds 1 (cell.Whole ∷ []))
    ∷ row (a_local (codes "f") (codes "v")) 66 (of_kinds 1 (cell.Whole ∷ cell.Whole ∷ []))
    ∷ row an_allocation 78 (of_kinds 1 (cell.Whole ∷ []))
    ∷ []
unfolding following constant_named library_named
first_rows_are = refl

pub second_rows_are : rows_of second_source ≡
    row (a_global (codes "w")) 39 (of_kinds 2 (cell.Whole ∷ cell.Pointer ∷ cell.Whole ∷ cell.Pointer ∷ cell.Whole ∷ cell.Pointer ∷ []))
    ∷ row (a_local (codes "f") (codes "x")) 70 (of_kinds 2 (cell.Whole ∷ cell.Pointer ∷ []))
    ∷ row (a_local (codes "h") (codes "k")) 93 (of_kinds 1 (cell.Whole ∷ []))
    ∷ []
unfolding following constant_named library_named
second_rows_are = refl
