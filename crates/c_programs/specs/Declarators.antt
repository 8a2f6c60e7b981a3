-- What declarators declare: types, the members of structs, and the parameters of functions (C99 6.7.2.1, 6.7.5).
use Rattle.std.specs.Prelude.{ℕ, ◌+◌, ◌==◌, nat_lt, Bool, true, false, ◌&&◌, ◌||◌, if◌then◌else◌, List, [], ◌∷◌, ◌++◌, replicate, map, length, Option, Some, None, is_some, is_none}
use Rattle.rr_base.specs.Texts.{Text, entry_of}
use Rattle.c_tree.specs.declared.name.Name.{Name}
use Rattle.c_tree.specs.declared.ctype.Specifier.{Specifier}
use Rattle.c_tree.specs.Tree.{Exp, Formal, formal, formal_pointer, Formals, Declared, declared, declared_pointer, Fields, fields}
use Rattle.rr_base.specs.declared.position.Position.{Position}
use Rattle.c_types.specs.declared.types.BaseType.{BaseType}
use Rattle.c_types.specs.declared.types.BaseType.TheVariants as base
use Rattle.c_types.specs.declared.types.Layer.{Layer}
use Rattle.c_types.specs.declared.types.Layer.TheVariants as layer
use Rattle.c_types.specs.declared.types.ObjectType.{ObjectType}
use Rattle.c_types.specs.declared.fault.Found.{Found}
use Rattle.c_types.specs.declared.fault.FaultKind.TheVariants as fault
use Rattle.c_types.specs.Constants.{constant_named}
use Rattle.c_types.specs.Types.{bare}
use Rattle.c_types.specs.Library.{library_named}
use Rattle.c_types.specs.Found.{where_it_comes}
use Rattle.c_types.specs.Scopes.{Known, Members, variable, innermost, base_of, starred, is_complete, struct_numbered, cells_of_some, counted_cells, most_cells, declare, with_name, has_name, with_text}
use Rattle.c_names.specs.Sources.{declared_name, param_name, listed_params}
use Rattle.c_names.specs.Signatures.{is_void_specifier, cannot_pass, cannot_give, pointer_of}
use Rattle.c_rules.specs.Faults.{name_place, mismatch, specifier_faults}
use Rattle.c_rules.specs.Sizes.{length_of, length_faults}

-- ---- types

-- layers, and after them an array of each length, where each one is known
abbrev pub with_arrays : List Layer → List (Option ℕ) → Option (List Layer)
with_arrays ls [] = Some ls
with_arrays ls (None ∷ ns) = None
with_arrays ls (Some n ∷ ns) = with_arrays (ls ++ layer.Array n ∷ []) ns

-- arrays of so many pointers to the base
abbrev pub type_by : Option BaseType → ℕ → Option (List Layer) → Option ObjectType
type_by (Some b) stars (Some arrays) = Some (record { layers = arrays ++ replicate stars layer.Pointer; base = b })
type_by _ stars _ = None

-- the array of the first length is the outermost
abbrev pub arrays_of : Known → List Exp → Option (List Layer)
arrays_of known lengths = with_arrays [] (map (length_of known) lengths)

-- an object has a type that has a size
abbrev pub complete_by : Known → Option ObjectType → Option ObjectType
complete_by known None = None
complete_by known (Some t) = if is_complete known t then Some t else None

-- the type of an object, by its specifier, its stars and its lengths
abbrev pub object_type : Known → Specifier → ℕ → List Exp → Option ObjectType
object_type known s stars lengths = complete_by known (type_by (base_of known s) stars (arrays_of known lengths))

-- a pointer to the functions whose type has this number
abbrev pub pointer_type : Option ℕ → Option ObjectType
pointer_type None = None
pointer_type (Some k) = Some (bare (base.Function k))

-- the type of what is declared, where its declaration has no fault
abbrev pub declared_type : Known → Specifier → Declared → Option ObjectType
declared_type known s (declared stars name lengths) = object_type known s stars lengths
declared_type known s (declared_pointer stars name ps) = pointer_type (pointer_of known s stars ps)

-- ---- faults

-- of each `[n]` of one declarator, at the declared name
abbrev pub lengths_faults : Known → Position → List Exp → List Found
lengths_faults known at [] = []
lengths_faults known at (e ∷ es) = length_faults known at e ++ lengths_faults known at es

-- more cells than one object may have, which are 65535
abbrev pub is_too_large : ℕ → Bool
is_too_large cells = nat_lt most_cells cells

-- of an object or a struct, at its name
abbrev pub size_faults : ℕ → Name → List Found
size_faults cells name = where_it_comes (is_too_large cells) fault.ObjectTooLarge (name_place name)

-- ---- names

-- a call or a constant of the library, which no source may declare
abbrev pub is_library_name : Text → Bool
is_library_name name = is_some (library_named name) || is_some (constant_named name)

-- the name can't be declared here: it is one of the library's, or is in the innermost scope
abbrev pub is_taken : Known → Text → Bool
is_taken known name = is_library_name name || is_some (entry_of (innermost known.scopes) name)

-- a second declaration in one scope, or one of a library name
abbrev pub taken_faults : Known → Name → List Found
taken_faults known name = where_it_comes (is_taken known name.text) fault.DuplicateName (name_place name)

-- ---- pointers to functions

-- the name, or the first token where there is no name
abbrev pub place_by : Option Name → Position → Position
place_by None at = at
place_by (Some name) at = name_place name

-- a second parameter of one name in one list, or one with a library name
abbrev pub again_inside : List Text → Name → List Found
again_inside names name = where_it_comes (is_library_name name.text || has_name names name.text) fault.DuplicateName (name_place name)

-- a parameter may have no name
abbrev pub name_inside_faults : List Text → Option Name → List Found
name_inside_faults names None = []
name_inside_faults names (Some name) = again_inside names name

-- of a parameter after those with these names. A pointer to functions is refused at its name, before its own parameters
abbrev pub inside_faults : Known → List Text → Formal → List Found
inside_faults known names (formal s stars name at) =
    specifier_faults known (stars == 0) s
    ++ mismatch (cannot_pass s stars) (place_by name at)
    ++ name_inside_faults names name
inside_faults known names (formal_pointer s stars name ps at) =
    specifier_faults known (stars == 0) s
    ++ mismatch true (name_place name)
    ++ again_inside names name

-- a name more, if there is one
abbrev pub with_name_of : List Text → Option Name → List Text
with_name_of names None = names
with_name_of names (Some name) = with_text names name.text

-- the names of a list with one parameter more
abbrev pub with_inside : List Text → Formal → List Text
with_inside names (formal s stars name at) = with_name_of names name
with_inside names (formal_pointer s stars name ps at) = with_text names name.text

-- of the parameters of a pointer to functions, one after another
abbrev pub all_inside_faults : Known → List Text → List Formal → List Found
all_inside_faults known names [] = []
all_inside_faults known names (p ∷ ps) = inside_faults known names p ++ all_inside_faults known (with_inside names p) ps

-- of its result, as functions have them, and of its parameters
abbrev pub pointer_faults : Known → Specifier → ℕ → Name → Formals → List Found
pointer_faults known s stars name ps =
    specifier_faults known (stars == 0) s
    ++ mismatch (cannot_give s stars) (name_place name)
    ++ all_inside_faults known [] (listed_params ps)

-- a struct that isn't known, an object of type Void, and the lengths; or what is wrong with a pointer to functions
abbrev pub declarator_faults : Known → Specifier → Declared → List Found
declarator_faults known s (declared stars name lengths) =
    specifier_faults known (stars == 0) s
    ++ mismatch (is_void_specifier s && (stars == 0)) (name_place name)
    ++ lengths_faults known (name_place name) lengths
declarator_faults known s (declared_pointer stars name ps) = pointer_faults known s stars name ps

-- ---- structs

-- each struct has member names of its own (C99 6.2.3)
abbrev pub has_member : Members → Text → Bool
has_member ms name = is_some (entry_of ms name)

-- a member, after those that are there
abbrev pub one_member_faults : Known → Specifier → Members → Declared → List Found
one_member_faults known s ms d =
    declarator_faults known s d
    ++ where_it_comes (has_member ms (declared_name d).text) fault.DuplicateName (name_place (declared_name d))

-- also one with a fault, whose type isn't known then
abbrev pub with_member : Known → Specifier → Members → Declared → Members
with_member known s ms d = with_name ms (declared_name d).text (declared_type known s d)

-- those of one specifier
abbrev pub some_members_faults : Known → Specifier → Members → List Declared → List Found
some_members_faults known s ms [] = []
some_members_faults known s ms (d ∷ ds) = one_member_faults known s ms d ++ some_members_faults known s (with_member known s ms d) ds

-- after all declarators of one specifier
abbrev pub with_members : Known → Specifier → Members → List Declared → Members
with_members known s ms [] = ms
with_members known s ms (d ∷ ds) = with_members known s (with_member known s ms d) ds

-- of the members of a struct, line by line
abbrev pub fields_faults : Known → Members → List Fields → List Found
fields_faults known ms [] = []
fields_faults known ms (fields s ds at ∷ fs) = some_members_faults known s ms ds ++ fields_faults known (with_members known s ms ds) fs

-- after the members of all lines in a struct's braces
abbrev pub with_fields : Known → Members → List Fields → Members
with_fields known ms [] = ms
with_fields known ms (fields s ds at ∷ fs) = with_fields known (with_members known s ms ds) fs

-- the cells of what one specifier declares, also where a name is declared twice
abbrev pub declared_cells : Known → Specifier → List Declared → ℕ
declared_cells known s [] = 0
declared_cells known s (d ∷ ds) = cells_of_some known (declared_type known s d) + declared_cells known s ds

-- without a bound, unlike the cells of the struct
abbrev pub fields_cells : Known → List Fields → ℕ
fields_cells known [] = 0
fields_cells known (fields s ds at ∷ fs) = declared_cells known s ds + fields_cells known fs

-- the struct's size, with the bound of one object
abbrev pub struct_cells : Known → List Fields → ℕ
struct_cells known fs = counted_cells (fields_cells known fs)

-- structs with lower numbers are those defined so far
abbrev pub is_numbered_below : ℕ → Option ℕ → Bool
is_numbered_below many None = false
is_numbered_below many (Some k) = nat_lt k many

-- the struct is defined before the place
abbrev pub is_struct_defined : Known → Text → Bool
is_struct_defined known name = is_numbered_below (length known.structs) (struct_numbered known name)

-- of a struct's definition, in which the struct itself has no size yet
abbrev pub struct_faults : Known → Name → List Fields → List Found
struct_faults known name fs =
    where_it_comes (is_struct_defined known name.text) fault.DuplicateName (name_place name)
    ++ fields_faults known [] fs
    ++ size_faults (struct_cells known fs) name

-- a struct is defined after its closing brace. One that was defined before stays
abbrev pub after_struct : Known → Name → List Fields → Known
after_struct known name fs =
    if is_struct_defined known name.text then known
    else record known { structs = known.structs ++ with_fields known [] fs ∷ []; sizes = known.sizes ++ struct_cells known fs ∷ [] }

-- ---- parameters

-- none where it can't be passed or its struct isn't known
abbrev pub passed_by : Bool → Option BaseType → ℕ → Option ObjectType
passed_by true b stars = None
passed_by false None stars = None
passed_by false (Some b) stars = Some (starred stars b)

-- the type of the formal inside the function, if known
abbrev pub param_type : Known → Formal → Option ObjectType
param_type known (formal s stars name at) = passed_by (cannot_pass s stars) (base_of known s) stars
param_type known (formal_pointer s stars name ps at) = pointer_type (pointer_of known s stars ps)

-- a parameter of a prototype may have no name
abbrev pub param_name_faults : Known → Option Name → List Found
param_name_faults known None = []
param_name_faults known (Some name) = taken_faults known name

-- in a definition each parameter has a name
abbrev pub object_param_faults : Known → Bool → Specifier → ℕ → Option Name → Position → List Found
object_param_faults known is_definition s stars name at =
    specifier_faults known (stars == 0) s
    ++ mismatch (cannot_pass s stars) (place_by name at)
    ++ mismatch (is_definition && is_none name) (place_by name at)
    ++ param_name_faults known name

-- of a parameter of a function
abbrev pub param_faults : Known → Bool → Formal → List Found
param_faults known is_definition (formal s stars name at) = object_param_faults known is_definition s stars name at
param_faults known is_definition (formal_pointer s stars name ps at) = pointer_faults known s stars name ps ++ taken_faults known name

-- a variable of this name, if there is one
abbrev pub named_by : Known → Option Name → Option ObjectType → Known
named_by known None t = known
named_by known (Some name) t = declare known name.text (variable t)

-- its name stands in the function's scope from here on
abbrev pub after_param : Known → Formal → Known
after_param known p = named_by known (param_name p) (param_type known p)

-- each sees the ones before it; the flag tells a definition from a prototype
abbrev pub params_faults : Known → Bool → List Formal → List Found
params_faults known is_definition [] = []
params_faults known is_definition (p ∷ ps) = param_faults known is_definition p ++ params_faults (after_param known p) is_definition ps

-- known where the body begins
abbrev pub after_params : Known → List Formal → Known
after_params known [] = known
after_params known (p ∷ ps) = after_params (after_param known p) ps
