-- Worked rows of the core trees of sources.
use Rattle.std.proofs.Common.{◌≡◌, ℕ, ◌+◌, pos, true, false, List, [], ◌∷◌, map, Some, None, refl, codes}
use Rattle.rr_base.specs.Words.{pack}
use Rattle.rr_base.specs.declared.layout.CellKind.TheVariants as cell
use Rattle.word_semantics.specs.declared.operator.BinaryOp.TheVariants as flow
use Rattle.c_tree.specs.declared.ctype.Specifier.TheVariants as specifier
use Rattle.c_tree.specs.declared.expr.AssignOp.TheVariants as assign_op
use Rattle.c_tree.specs.declared.expr.BinaryOp.TheVariants as binary_op
use Rattle.c_tree.specs.Tree.{no_formals, formal, Formals, listed_formals, listed_row, declared_pointer, initialised, value, call, null, no_exp, and_exp, assign, binary, number, declares, compute, gives, no_part, and_declares, and_does, defined, Outer, function, objects}
use Rattle.c_types.specs.Constants.{constant_named}
use Rattle.c_types.specs.Library.{library_named}
use Rattle.c_numbers.specs.Numbered.{following}
use Rattle.c_sites.proofs.SiteRows.{at, name_at, plain_at, int, n, first_source}
use Rattle.rr_base.specs.declared.position.Position.{Position}
use Rattle.core_tree.specs.Core as core
use Rattle.c_elaborate.specs.Whole.{core_of_source}

abbrev place : ℕ → Position
place column = record { line = 1; column = column }

abbrev block_of : List core.Statement → core.Statement
block_of ss = core.block (core.listed_statements ss)

-- int g; int main() { int x; x = g + 1; return x; }
abbrev sum_source : List Outer
sum_source =
    objects false (int 1) (plain_at 0 (codes "g") 5 [] ∷ []) (at 1)
    ∷ function false (specifier.Int (at 8)) 0 (name_at (codes "main") 12) no_formals (defined (
    and_declares (declares (int 21) (plain_at 0 (codes "x") 25 [] ∷ []) (at 21))
    (and_does (compute (Some (assign (n (codes "x") 28) assign_op.Assign (binary (n (codes "g") 32) binary_op.Add (number (pos 1) (at 36)) (at 34)) (at 30))) (at 28))
    (and_does (gives (Some (n (codes "x") 46)) (at 39)) no_part))) (at 19))
    ∷ []

-- `x` is the one register, and `g` is loaded by the pointer to its cell
pub sum_functions_are : (core_of_source sum_source).functions ≡ record {
  name = codes "main";
  place = place 12;
  formals = 0;
  pointers = false ∷ [];
  objects = [];
  arrivals = [];
  gives_pointer = false;
  body = block_of (
      core.compute (core.set_register 0 (core.binary flow.Add (core.load (core.global (pack 1 0 1 0) (place 32)) false (place 32)) (core.number (pos 1) (place 36)) (place 34)) (place 30))
      ∷ core.gives (Some (core.register 0 false (place 46))) (place 39)
      ∷ []);
} ∷ []
unfolding core_of_source following constant_named library_named
sum_functions_are = refl

pub sum_globals_are : (core_of_source sum_source).globals ≡ 0 ∷ []
unfolding core_of_source following constant_named library_named
sum_globals_are = refl

pub sum_kinds_are : (core_of_source sum_source).global_kinds ≡ cell.Whole ∷ []
unfolding core_of_source following constant_named library_named
sum_kinds_are = refl

-- Of `f` the formal, `a`, `p` and the inner `b` are registers; the outer `b` and `v` are objects at the sites 2 and 3. `p`
-- starts as the pointer to `b`, and then gets what `malloc` gives at site 4, for one cell.
pub first_functions_are : (core_of_source first_source).functions ≡ record {
  name = codes "f";
  place = place 13;
  formals = 1;
  pointers = false ∷ false ∷ true ∷ false ∷ [];
  objects = 2 ∷ 3 ∷ [];
  arrivals = [];
  gives_pointer = false;
  body = block_of (
      core.compute (core.set_register 2 (core.object 0 (place 49)) (place 45))
      ∷ block_of []
      ∷ core.compute (core.set_register 2 (core.allocate 4 (core.number (pos 1) (place 85)) (place 78)) (place 76))
      ∷ []);
} ∷ []
unfolding core_of_source following constant_named library_named
first_functions_are = refl

-- `g` begins at the first global cell, and the sites of `b`, `v` and the `malloc` are no globals
pub first_bases_are : (core_of_source first_source).global_bases ≡ Some 0 ∷ None ∷ None ∷ None ∷ []
unfolding core_of_source following constant_named library_named
first_bases_are = refl

-- int f(int a) { return a; } int (*g)(int a) = f; int main() { int (*p)(int a) = g; p = NULL; return p(1); }
abbrev pointer_source : List Outer
pointer_source =
    function false (int 1) 0 (name_at (codes "f") 5) (one_int 7) (defined (and_does (gives (Some (n (codes "a") 23)) (at 16)) no_part) (at 14))
    ∷ objects false (int 28) (initialised (declared_pointer 0 (name_at (codes "g") 34) (one_int 37)) (value (n (codes "f") 46)) (at 44) ∷ []) (at 28)
    ∷ function false (int 49) 0 (name_at (codes "main") 53) no_formals (defined (
    and_declares (declares (int 62) (initialised (declared_pointer 0 (name_at (codes "p") 68) (one_int 71)) (value (n (codes "g") 80)) (at 78) ∷ []) (at 62))
    (and_does (compute (Some (assign (n (codes "p") 83) assign_op.Assign (null (at 87)) (at 85))) (at 83))
    (and_does (gives (Some (call (codes "p") (and_exp (number (pos 1) (at 102)) no_exp) (at 100))) (at 93)) no_part))) (at 60))
    ∷ []
  where
    one_int : ℕ → Formals
    one_int column = listed_formals (listed_row (formal (int column) 0 (Some (name_at (codes "a") (column + 4))) (at column) ∷ []))

-- `p` is a register with a number, `NULL` is 0 there, and the call has the number after the two functions, with `p` before 1
pub pointer_bodies_are : map (λ (f : core.Function). f.body) (core_of_source pointer_source).functions ≡
    block_of (core.gives (Some (core.register 0 false (place 23))) (place 16) ∷ [])
    ∷ block_of (
    core.compute (core.set_register 0 (core.load (core.global (pack 1 0 1 0) (place 80)) false (place 80)) (place 78))
    ∷ core.compute (core.set_register 0 (core.number (pos 0) (place 87)) (place 85))
    ∷ core.gives (Some (core.call 2 (core.listed (core.register 0 false (place 100) ∷ core.number (pos 1) (place 102) ∷ [])) false (place 100))) (place 93)
    ∷ [])
    ∷ []
unfolding core_of_source following constant_named library_named
pointer_bodies_are = refl

-- the pointer to `f`, which is function 0, is 1
pub pointer_globals_are : (core_of_source pointer_source).globals ≡ 1 ∷ []
unfolding core_of_source following constant_named library_named
pointer_globals_are = refl

-- both pointers are of one type, whose first declaration is that of `g`; of the functions `f` alone stands as a value
pub pointer_types_are : (core_of_source pointer_source).pointers ≡
    record { kinds = false ∷ []; gives_pointer = false; place = place 34; targets = 0 ∷ [] } ∷ []
unfolding core_of_source following constant_named library_named
pointer_types_are = refl
