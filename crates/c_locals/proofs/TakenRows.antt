-- Worked rows of the names that stand as values.
use Rattle.std.proofs.Common.{◌≡◌, ℕ, false, List, [], ◌∷◌, Some, refl, codes}
use Rattle.rr_base.specs.declared.position.Position.{Position}
use Rattle.rr_base.specs.Positions.{position_at}
use Rattle.c_tree.specs.declared.name.Name.{Name}
use Rattle.c_tree.specs.declared.ctype.Specifier.{Specifier}
use Rattle.c_tree.specs.declared.ctype.Specifier.TheVariants as specifier
use Rattle.c_tree.specs.Tree.{Exp, named, call, null, sizeof_exp, paren, no_exp, and_exp, formal, Formals, no_formals, listed_formals, listed_row, declared, declared_pointer, value, braces, no_init, and_init, plain, initialised, declares, compute, Parts, no_part, and_declares, and_does, defined, fields, Outer, structure, function, objects, Statement}
use Rattle.c_types.specs.Library.{library_named}
use Rattle.c_numbers.specs.Numbered.{following}
use Rattle.c_locals.specs.Taken.{program_taken}

abbrev at : ℕ → Position
at column = position_at 1 column

abbrev name_at : List ℕ → ℕ → Name
name_at name column = record { text = name; at = at column }

abbrev n : List ℕ → ℕ → Exp
n name column = named name (at column)

abbrev int : ℕ → Specifier
int column = specifier.Int (at column)

-- `(int a)`
abbrev one_int : ℕ → Formals
one_int column = listed_formals (listed_row (formal (int column) 0 (Some (name_at (codes "a") column)) (at column) ∷ []))

abbrev int_function : List ℕ → Formals → Parts → Outer
int_function name ps parts = function false (int 1) 0 (name_at name 5) ps (defined parts (at 10))

abbrev does : Exp → Statement
does e = compute (Some e) (at 20)

-- int main() { f; sizeof(g); h(f); } takes `f` once, and `g`, though it isn't evaluated; `h` is called
pub values_are_taken : program_taken (int_function (codes "main") no_formals
    (and_does (does (n (codes "f") 20))
    (and_does (does (sizeof_exp (paren (n (codes "g") 28) (at 27)) (at 20)))
    (and_does (does (call (codes "h") (and_exp (n (codes "f") 22) no_exp) (at 20))) no_part))) ∷ []) ≡ codes "f" ∷ codes "g" ∷ []
unfolding following library_named
values_are_taken = refl

-- int main(int a) { int g = k; int (*f)(int a); f; a; g; }: of a formal, a local and a local pointer none is taken
pub hidden_names_are_not : program_taken (int_function (codes "main") (one_int 10)
    (and_declares (declares (int 18) (initialised (declared 0 (name_at (codes "g") 22) []) (value (n (codes "k") 26)) (at 24) ∷ []) (at 18))
    (and_declares (declares (int 30) (plain (declared_pointer 0 (name_at (codes "f") 36) (one_int 40)) ∷ []) (at 30))
    (and_does (does (n (codes "f") 50))
    (and_does (does (n (codes "a") 53))
    (and_does (does (n (codes "g") 56)) no_part))))) ∷ []) ≡ codes "k" ∷ []
unfolding following library_named
hidden_names_are_not = refl

-- pthread_create(t, NULL, w, u) takes `t` and `u`, and not the thread's function `w`
pub threads_functions_are_not : program_taken (int_function (codes "main") no_formals
    (and_does (does (call (codes "pthread_create") (and_exp (n (codes "t") 35) (and_exp (null (at 38)) (and_exp (n (codes "w") 44) (and_exp (n (codes "u") 47) no_exp)))) (at 20))) no_part) ∷ [])
    ≡ codes "t" ∷ codes "u" ∷ []
unfolding following library_named
threads_functions_are_not = refl

-- int k(int a) { int f; } int (*p)(int a) = f, (*q)(int a) = {g}; struct s { int v[sizeof h]; }; a local hides a name in its function alone
pub globals_take_names : program_taken
    (int_function (codes "k") (one_int 10) (and_declares (declares (int 18) (plain (declared 0 (name_at (codes "f") 22) []) ∷ []) (at 18)) no_part)
    ∷ objects false (int 1) (initialised (declared_pointer 0 (name_at (codes "p") 7) (one_int 10)) (value (n (codes "f") 20)) (at 18)
    ∷ initialised (declared_pointer 0 (name_at (codes "q") 25) (one_int 28)) (braces (and_init (value (n (codes "g") 37)) no_init) false (at 36)) (at 34) ∷ []) (at 1)
    ∷ structure (name_at (codes "s") 50) (fields (int 54) (declared 0 (name_at (codes "v") 58) (sizeof_exp (n (codes "h") 67) (at 60) ∷ []) ∷ []) (at 54) ∷ [])
    ∷ []) ≡ codes "f" ∷ codes "g" ∷ codes "h" ∷ []
unfolding following library_named
globals_take_names = refl
