-- Functions and whole sources (C99 6.9), and which rules they break.
use Rattle.std.specs.Prelude.{ℕ, ◌==◌, Bool, true, false, not, ◌&&◌, List, [], ◌∷◌, ◌++◌, Option, Some, None}
use Rattle.rr_base.specs.Texts.{entry_of}
use Rattle.c_tree.specs.declared.name.Name.{Name}
use Rattle.c_tree.specs.declared.ctype.Specifier.{Specifier}
use Rattle.c_tree.specs.Tree.{Formals, Code, defined, prototype, Outer, structure, function, objects}
use Rattle.rr_base.specs.declared.position.Position.{Position}
use Rattle.c_types.specs.declared.types.BaseType.TheVariants as base
use Rattle.c_types.specs.declared.library.StarredType.{StarredType}
use Rattle.c_types.specs.declared.library.Wanted.{Wanted}
use Rattle.c_types.specs.declared.library.Wanted.TheVariants as wants
use Rattle.c_types.specs.declared.names.Signature.{Signature}
use Rattle.c_types.specs.declared.fault.Found.{Found}
use Rattle.c_types.specs.declared.fault.FaultKind.TheVariants as fault
use Rattle.c_types.specs.Found.{where_it_comes, found_at}
use Rattle.c_types.specs.Scopes.{Known, Meaning, variable, function_of, innermost, declare, opened, with_text, has_name}
use Rattle.c_types.specs.Signatures.{same_starred}
use Rattle.c_types.specs.Standing.{is_main}
use Rattle.c_rules.specs.Faults.{name_place, mismatch, specifier_faults}
use Rattle.c_names.specs.Sources.{listed_params}
use Rattle.c_names.specs.Signatures.{cannot_give, signature_of}
use Rattle.c_names.specs.Known.{known_at_start}
use Rattle.c_programs.specs.Declarators.{is_library_name, struct_faults, after_struct, params_faults, after_params}
use Rattle.c_programs.specs.Statements.{objects_faults, after_objects, parts_faults, after_parts}

-- ---- the types of functions

-- a type that isn't known may be the same
abbrev pub agree_on_result : Option StarredType → Option StarredType → Bool
agree_on_result (Some s) (Some t) = same_starred s t
agree_on_result _ _ = true

-- a parameter with a fault agrees with every one
abbrev pub agree_on_one : Wanted → Wanted → Bool
agree_on_one (wants.Fits s) (wants.Fits t) = same_starred s t
agree_on_one _ _ = true

-- as many parameters, each of the same type
abbrev pub agree_on_params : List Wanted → List Wanted → Bool
agree_on_params [] [] = true
agree_on_params (x ∷ xs) (y ∷ ys) = agree_on_one x y && agree_on_params xs ys
agree_on_params _ _ = false

-- two declarations of one function are compatible (C99 6.7.5.3)
abbrev pub agree : Signature → Signature → Bool
agree f g = agree_on_result f.result g.result && agree_on_params f.params g.params

-- `int main(void)`
abbrev pub int_result : Option StarredType
int_result = Some (record { stars = 0; base = base.Int })

-- `main` takes no arguments here and gives a number (C99 5.1.2.2.1)
abbrev pub is_main_signature : Signature → Bool
is_main_signature f = agree f (record { result = int_result; params = [] })

-- ---- a function

-- a name that is declared already: as an object, as a function of other types, or as one that has a body too
abbrev pub again_faults : Option Meaning → Bool → Signature → Position → List Found
again_faults None has_body f at = []
again_faults (Some (variable t)) has_body f at = found_at fault.DuplicateName at ∷ []
again_faults (Some (function_of g)) has_body f at = where_it_comes has_body fault.DuplicateName at ++ mismatch (not (agree g f)) at

-- it has a body, where a prototype has none
abbrev pub is_definition : Code → Bool
is_definition (defined ps at) = true
is_definition prototype = false

-- of a name that is taken or declared otherwise, and of another `main`
abbrev pub function_name_faults : Known → Name → Signature → Code → List Found
function_name_faults known name f code =
    where_it_comes (is_library_name name.text) fault.DuplicateName (name_place name)
    ++ again_faults (entry_of (innermost known.scopes) name.text) (is_definition code && has_name known.begun name.text) f (name_place name)
    ++ mismatch (is_main name.text && not (is_main_signature f)) (name_place name)

-- a function is known after its declarator, in its own body too
abbrev pub after_function : Known → Name → Signature → Code → Known
after_function known name f (defined ps at) = record (declare known name.text (function_of f)) { begun = with_text known.begun name.text }
after_function known name f prototype = declare known name.text (function_of f)

-- the formals stand in one scope with the outermost block of the body
abbrev pub body_faults : Known → Option StarredType → Code → List Found
body_faults known result prototype = []
body_faults known result (defined ps at) = parts_faults known result false ps

-- known at the closing brace of the body
abbrev pub after_body : Known → Code → Known
after_body known prototype = known
after_body known (defined ps at) = after_parts known ps

-- its scope opens after the name, before the parameters
abbrev pub function_faults : Known → Specifier → ℕ → Name → Formals → Code → List Found
function_faults known s stars name ps code =
    let f = signature_of known s stars ps in
    let inside = opened (after_function known name f code) in
    specifier_faults known (stars == 0) s
    ++ mismatch (cannot_give s stars) (name_place name)
    ++ function_name_faults known name f code
    ++ params_faults inside (is_definition code) (listed_params ps)
    ++ body_faults (after_params inside (listed_params ps)) f.result code

-- ---- a source

-- of one declaration or definition at file scope (C99 6.9)
abbrev pub outer_faults : Known → Outer → List Found
outer_faults known (structure name fs) = struct_faults known name fs
outer_faults known (function is_static s stars name ps code) = function_faults known s stars name ps code
outer_faults known (objects is_static s os at) = objects_faults known true s os

-- of a function only its name and its types stay known
abbrev pub after_outer : Known → Outer → Known
after_outer known (structure name fs) = after_struct known name fs
after_outer known (function is_static s stars name ps code) = after_function known name (signature_of known s stars ps) code
after_outer known (objects is_static s os at) = after_objects known true s os

-- each sees what stands before it in the source
abbrev pub outers_faults : Known → List Outer → List Found
outers_faults known [] = []
outers_faults known (o ∷ os) = outer_faults known o ++ outers_faults (after_outer known o) os

-- all faults but those of `main` missing and of too many sites
abbrev pub program_faults : List Outer → List Found
program_faults os = outers_faults (known_at_start os) os
