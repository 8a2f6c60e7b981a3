-- The types of functions and of pointers to functions, by their declarators (C99 6.7.5.3).
use Rattle.std.specs.Prelude.{ℕ, ◌==◌, Bool, true, false, ◌&&◌, ◌||◌, map, Option, Some, None}
use Rattle.c_tree.specs.declared.ctype.Specifier.{Specifier}
use Rattle.c_tree.specs.declared.ctype.Specifier.TheVariants as specifier
use Rattle.c_tree.specs.Tree.{Formal, formal, formal_pointer, Formals}
use Rattle.c_types.specs.declared.types.BaseType.{BaseType}
use Rattle.c_types.specs.declared.types.BaseType.TheVariants as base
use Rattle.c_types.specs.declared.library.StarredType.{StarredType}
use Rattle.c_types.specs.declared.library.Wanted.{Wanted}
use Rattle.c_types.specs.declared.library.Wanted.TheVariants as wants
use Rattle.c_types.specs.declared.names.Signature.{Signature}
use Rattle.c_types.specs.Library.{fitting_type}
use Rattle.c_types.specs.Scopes.{Known, base_of}
use Rattle.c_types.specs.Signatures.{pointer_numbered}
use Rattle.c_names.specs.Sources.{listed_params}

-- ---- what can be passed and given

-- `void` before the stars: without one, no object can have it
abbrev pub is_void_specifier : Specifier → Bool
is_void_specifier (specifier.Void at) = true
is_void_specifier _ = false

-- a struct before the stars: without one, no call can pass it
abbrev pub is_struct_specifier : Specifier → Bool
is_struct_specifier (specifier.Struct name at) = true
is_struct_specifier _ = false

-- Void and structs can't be passed, nor given
abbrev pub cannot_pass : Specifier → ℕ → Bool
cannot_pass s stars = (stars == 0) && (is_void_specifier s || is_struct_specifier s)

-- no function gives a struct
abbrev pub cannot_give : Specifier → ℕ → Bool
cannot_give s stars = (stars == 0) && is_struct_specifier s

-- ---- results

-- none where it can't be given or its struct isn't known
abbrev pub result_by : Bool → Option BaseType → ℕ → Option StarredType
result_by true b stars = None
result_by false None stars = None
result_by false (Some b) stars = Some (record { stars = stars; base = b })

-- the type that a function gives; `void` without stars is allowed
abbrev pub result_of : Known → Specifier → ℕ → Option StarredType
result_of known s stars = result_by (cannot_give s stars) (base_of known s) stars

-- ---- pointers to functions

-- a parameter with a fault takes any argument
abbrev pub wanted_for : Bool → Option BaseType → ℕ → Wanted
wanted_for true b stars = wants.Anything
wanted_for false None stars = wants.Anything
wanted_for false (Some b) stars = fitting_type stars b

-- what a parameter of such a pointer wants; it can be no such pointer itself
abbrev pub wanted_inside : Known → Formal → Wanted
wanted_inside known (formal s stars name at) = wanted_for (cannot_pass s stars) (base_of known s) stars
wanted_inside known (formal_pointer s stars name ps at) = wants.Anything

-- the type of the functions to which the declarator points
abbrev pub pointed_by : Known → Specifier → ℕ → Formals → Signature
pointed_by known s stars ps = record { result = result_of known s stars; params = map (wanted_inside known) (listed_params ps) }

-- the number of the pointer's type, if it has no fault
abbrev pub pointer_of : Known → Specifier → ℕ → Formals → Option ℕ
pointer_of known s stars ps = pointer_numbered known (pointed_by known s stars ps)

-- ---- functions

-- the argument for a pointer of this number
abbrev pub wanted_pointer : Option ℕ → Wanted
wanted_pointer None = wants.Anything
wanted_pointer (Some k) = fitting_type 0 (base.Function k)

-- the argument that the parameter of a function wants
abbrev pub wanted_of : Known → Formal → Wanted
wanted_of known (formal s stars name at) = wanted_for (cannot_pass s stars) (base_of known s) stars
wanted_of known (formal_pointer s stars name ps at) = wanted_pointer (pointer_of known s stars ps)

-- what calls of the function and its later declarations are judged by
abbrev pub signature_of : Known → Specifier → ℕ → Formals → Signature
signature_of known s stars ps = record { result = result_of known s stars; params = map (wanted_of known) (listed_params ps) }
