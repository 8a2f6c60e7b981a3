-- What a source names: its declarators, its parameters, and the structs and functions that it defines.
use Rattle.std.specs.Prelude.{ℕ, ◌+◌, ◌^◌, min, Bool, true, false, List, [], ◌∷◌, Option, Some}
use Rattle.rr_base.specs.Texts.{Text}
use Rattle.c_tree.specs.declared.name.Name.{Name}
use Rattle.c_tree.specs.Tree.{Formal, formal, formal_pointer, Formals, no_formals, void_formals, listed_formals, FormalRow, no_formal, and_formal, Declared, declared, declared_pointer, Object, plain, initialised, Code, defined, prototype, Outer, structure, function, objects}
use Rattle.c_types.specs.Scopes.{with_text}

-- the greatest number of cells that all globals may have
abbrev pub most_global_cells : ℕ
most_global_cells = 2 ^ 20

-- faults of a declarator stand at this name
abbrev pub declared_name : Declared → Name
declared_name (declared stars name lengths) = name
declared_name (declared_pointer stars name ps) = name

-- what is declared, without what it starts as
abbrev pub declared_by : Object → Declared
declared_by (plain d) = d
declared_by (initialised d i at) = d

-- parameters, one after another
abbrev pub row_params : FormalRow → List Formal
row_params no_formal = []
row_params (and_formal p ps) = p ∷ row_params ps

-- the name of a parameter, if it has one
abbrev pub param_name : Formal → Option Name
param_name (formal s stars name at) = name
param_name (formal_pointer s stars name ps at) = Some name

-- `()` and `(void)` both list none
abbrev pub listed_params : Formals → List Formal
listed_params no_formals = []
listed_params void_formals = []
listed_params (listed_formals ps) = row_params ps

-- the cells of the globals with these ones. More than all globals may have count as one more than that
abbrev pub global_cells_with : Bool → ℕ → ℕ → ℕ
global_cells_with true before cells = min (before + cells) (most_global_cells + 1)
global_cells_with false before cells = before

-- the names of the structs that a source defines, in the order of their first definitions
abbrev pub structs_with : List Text → List Outer → List Text
structs_with names [] = names
structs_with names (structure name fs ∷ os) = structs_with (with_text names name.text) os
structs_with names (function is_static s stars name ps code ∷ os) = structs_with names os
structs_with names (objects is_static s items at ∷ os) = structs_with names os

-- only a definition counts, a prototype doesn't
abbrev pub named_by : Code → List Text → Text → List Text
named_by (defined ps at) names name = with_text names name
named_by prototype names name = names

-- the names of the functions that a source defines
abbrev pub functions_with : List Text → List Outer → List Text
functions_with names [] = names
functions_with names (structure name fs ∷ os) = functions_with names os
functions_with names (function is_static s stars name ps code ∷ os) = functions_with (named_by code names name.text) os
functions_with names (objects is_static s items at ∷ os) = functions_with names os
