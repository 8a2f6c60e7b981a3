-- Worked rows of whole sources: the first fault of each, and its sites.
use Rattle.std.proofs.Common.{◌≡◌, ℕ, pos, false, List, [], ◌∷◌, ◌++◌, map, Option, Some, None, refl, codes}
use Rattle.c_tree.specs.declared.name.Name.{Name}
use Rattle.c_tree.specs.declared.ctype.Specifier.{Specifier}
use Rattle.c_tree.specs.declared.ctype.Specifier.TheVariants as specifier
use Rattle.c_tree.specs.declared.expr.PrefixOp.TheVariants as prefix_op
use Rattle.c_tree.specs.declared.expr.AssignOp.TheVariants as assign_op
use Rattle.c_tree.specs.Tree.{Exp, void_formals, assign, prefix, named, call, number, null, no_exp, and_exp, Declared, declared, value, plain, initialised, declares, compute, break_at, gives, Parts, no_part, and_declares, and_does, defined, fields, Outer, structure, function, objects}
use Rattle.rr_base.specs.declared.position.Position.{Position}
use Rattle.rr_base.specs.Positions.{position_at}
use Rattle.c_types.specs.declared.fault.FaultKind.{FaultKind}
use Rattle.c_types.specs.declared.fault.FaultKind.TheVariants as fault
use Rattle.c_types.specs.declared.fault.Found.{Found}
use Rattle.c_types.specs.Constants.{constant_named}
use Rattle.c_types.specs.Library.{library_named}
use Rattle.c_types.specs.Found.{found_at}
use Rattle.c_numbers.specs.Numbered.{following}
use Rattle.c_sites.specs.Whole.{first_fault}

abbrev at : ℕ → Position
at column = position_at 1 column

abbrev name_at : List ℕ → ℕ → Name
name_at name column = record { text = name; at = at column }

abbrev int : ℕ → Specifier
int column = specifier.Int (at column)

abbrev long : ℕ → Specifier
long column = specifier.Long false false (at column)

abbrev n : List ℕ → ℕ → Exp
n name column = named name (at column)

abbrev k : ℕ → ℕ → Exp
k m column = number (pos m) (at column)

-- `int NAME;`, the name at the column
abbrev int_object : List ℕ → ℕ → Outer
int_object name column = objects false (int 1) (plain (declared 0 (name_at name column) []) ∷ []) (at 1)

-- `int NAME[LENGTH];`
abbrev int_array : List ℕ → ℕ → Exp → Outer
int_array name column e = objects false (int 1) (plain (declared 0 (name_at name column) (e ∷ [])) ∷ []) (at 1)

-- `int main(void) { .. }`
abbrev main_with : Parts → Outer
main_with ps = function false (int 1) 0 (name_at (codes "main") 5) void_formals (defined ps (at 15))

abbrev ends : Parts
ends = and_does (gives (Some (k 0 30)) (at 23)) no_part

abbrev found : FaultKind → ℕ → Option Found
found kind column = Some (found_at kind (at column))

-- `int aK[65535];` at the line
abbrev large_array : ℕ → Outer
large_array line = objects false (int 1) (plain (declared 0 (record { text = 97 ∷ line ∷ []; at = position_at line 5 }) (number (pos 65535) (position_at line 8) ∷ [])) ∷ []) (position_at line 1)

abbrev large_arrays : List Outer
large_arrays = map large_array (1 ∷ 2 ∷ 3 ∷ 4 ∷ 5 ∷ 6 ∷ 7 ∷ 8 ∷ 9 ∷ 10 ∷ 11 ∷ 12 ∷ 13 ∷ 14 ∷ 15 ∷ 16 ∷ 17 ∷ [])

pub source_rows : List (List Outer × Option Found)
source_rows =
    -- the empty text; int main(void) { return 0; }
    ([], found fault.NoMain 1) ∷
    (main_with ends ∷ [], None) ∷
    -- int a; int a; int main(void) { return 0; }
    (int_object (codes "a") 5 ∷ int_object (codes "a") 12 ∷ main_with ends ∷ [], found fault.DuplicateName 12) ∷
    -- int main(void) { break; }
    (main_with (and_does (break_at (at 16)) no_part) ∷ [], found fault.TypeMismatch 16) ∷
    -- int main(void) { 1=2; return 0; }
    (main_with (and_does (compute (Some (assign (k 1 16) assign_op.Assign (k 2 18) (at 17))) (at 16)) ends) ∷ [], found fault.NotPlace 17) ∷
    -- int main(void) { return main(); }, { return y; }
    (main_with (and_does (gives (Some (call (codes "main") no_exp (at 23))) (at 16)) no_part) ∷ [], found fault.BadCall 23) ∷
    (main_with (and_does (gives (Some (n (codes "y") 23)) (at 16)) no_part) ∷ [], found fault.UnknownName 23) ∷
    -- int main(void) { malloc(1); return 0; }
    (main_with (and_does (compute (Some (call (codes "malloc") (and_exp (k 1 23) no_exp) (at 16))) (at 16)) ends) ∷ [], found fault.OutOfProfile 16) ∷
    -- int main(void) { long t; pthread_create(&t, NULL, main, NULL); return 0; }
    (
      main_with (and_declares (declares (long 16) (plain (declared 0 (name_at (codes "t") 21) []) ∷ []) (at 16))
          (and_does (compute (Some (call (codes "pthread_create") (and_exp (prefix prefix_op.Address (n (codes "t") 40) (at 39)) (and_exp (null (at 42)) (and_exp (n (codes "main") 46) (and_exp (null (at 52)) no_exp)))) (at 24))) (at 24)) ends)) ∷ [],
      found fault.BadRoot 46,
    ) ∷
    -- int a[65536]; int a[0]; int n; int a[n];
    (int_array (codes "a") 5 (k 65536 7) ∷ main_with ends ∷ [], found fault.ObjectTooLarge 5) ∷
    (int_array (codes "a") 5 (k 0 7) ∷ main_with ends ∷ [], found fault.TypeMismatch 5) ∷
    (int_object (codes "n") 5 ∷ int_array (codes "a") 12 (n (codes "n") 14) ∷ main_with ends ∷ [], found fault.NotConstant 14) ∷
    -- 17 lines `int aK[65535];`, and 16 of them
    (large_arrays ++ main_with ends ∷ [], Some (found_at fault.GlobalsTooLarge (position_at 17 5))) ∷
    -- int x; int *p = &x; and int *p = x;
    (int_object (codes "x") 5 ∷ objects false (int 8) (initialised (declared 1 (name_at (codes "p") 13) []) (value (prefix prefix_op.Address (n (codes "x") 18) (at 17))) (at 15) ∷ []) (at 8) ∷ main_with ends ∷ [], None) ∷
    (int_object (codes "x") 5 ∷ objects false (int 8) (initialised (declared 1 (name_at (codes "p") 13) []) (value (n (codes "x") 17)) (at 15) ∷ []) (at 8) ∷ main_with ends ∷ [], found fault.TypeMismatch 15) ∷
    -- struct p { int a; int *q; }; struct p v[3]; and before it is defined
    (
      structure (name_at (codes "p") 8) (fields (int 12) (plain_member 16 (codes "a") 0 ∷ []) (at 12) ∷ fields (int 19) (plain_member 24 (codes "q") 1 ∷ []) (at 19) ∷ [])
          ∷ objects false (specifier.Struct (name_at (codes "p") 37) (at 30)) (plain (declared 0 (name_at (codes "v") 39) (k 3 41 ∷ [])) ∷ []) (at 30) ∷ main_with ends ∷ [],
      None,
    ) ∷ (
      objects false (specifier.Struct (name_at (codes "p") 8) (at 1)) (plain (declared 0 (name_at (codes "v") 10) []) ∷ []) (at 1)
          ∷ structure (name_at (codes "p") 28) (fields (int 32) (plain_member 36 (codes "a") 0 ∷ []) (at 32) ∷ []) ∷ main_with ends ∷ [],
      found fault.UnknownName 8,
    ) ∷
    []
  where
    plain_member : ℕ → List ℕ → ℕ → Declared
    plain_member column name stars = declared stars (name_at name column) []

pub sources_are : map (λ r. first_fault r.0) source_rows ≡ map (λ r. r.1) source_rows
unfolding following constant_named library_named source_rows
sources_are = refl
