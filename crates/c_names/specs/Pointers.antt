-- The types of the pointers to functions that a source declares, each with the place of the first name that has it, in the
-- order of the text: among members, parameters, objects, and what a `for` declares. And the types of its functions.
use Rattle.std.specs.Prelude.{ℕ, if◌then◌else◌, List, [], ◌∷◌, ◌++◌, position, is_some}
use Rattle.c_tree.specs.declared.name.Name.{Name}
use Rattle.c_tree.specs.declared.ctype.Specifier.{Specifier}
use Rattle.c_tree.specs.Tree.{Formal, formal, formal_pointer, Formals, Declared, declared, declared_pointer, Object, Declares, declares, Start, start_declares, start_computes, Statement, block, compute, break_at, continue_at, gives, branch, branch_else, while_loop, do_loop, for_loop, Parts, no_part, and_declares, and_does, Code, defined, prototype, Fields, fields, Outer, structure, function, objects}
use Rattle.c_types.specs.declared.names.Signature.{Signature}
use Rattle.c_types.specs.declared.names.PointerType.{PointerType}
use Rattle.c_types.specs.Scopes.{Known}
use Rattle.c_types.specs.Signatures.{same_signature, signatures_of}
use Rattle.c_names.specs.Sources.{declared_by, listed_params}
use Rattle.c_names.specs.Signatures.{pointed_by, signature_of}

-- one type more, unless it is there: the place of the first declaration stays
abbrev pub type_with : List PointerType → PointerType → List PointerType
type_with ts t = if is_some (position (same_signature t.signature) (signatures_of ts)) then ts else ts ++ t ∷ []

-- that of a pointer with this name
abbrev pub pointer_with : Known → List PointerType → Specifier → ℕ → Name → Formals → List PointerType
pointer_with known ts s stars name ps = type_with ts (record { signature = pointed_by known s stars ps; at = name.at })

-- ---- declarations

-- of one declared name
abbrev pub declared_with : Known → Specifier → List PointerType → Declared → List PointerType
declared_with known s ts (declared stars name lengths) = ts
declared_with known s ts (declared_pointer stars name ps) = pointer_with known ts s stars name ps

-- of the members of one specifier
abbrev pub members_with : Known → Specifier → List PointerType → List Declared → List PointerType
members_with known s ts [] = ts
members_with known s ts (d ∷ ds) = members_with known s (declared_with known s ts d) ds

-- of all members of a struct
abbrev pub fields_with : Known → List PointerType → List Fields → List PointerType
fields_with known ts [] = ts
fields_with known ts (fields s ds at ∷ fs) = fields_with known (members_with known s ts ds) fs

-- of the objects of one specifier
abbrev pub objects_with : Known → Specifier → List PointerType → List Object → List PointerType
objects_with known s ts [] = ts
objects_with known s ts (o ∷ os) = objects_with known s (declared_with known s ts (declared_by o)) os

-- of a declaration in a block
abbrev pub declares_with : Known → List PointerType → Declares → List PointerType
declares_with known ts (declares s os at) = objects_with known s ts os

-- of a parameter
abbrev pub formal_with : Known → List PointerType → Formal → List PointerType
formal_with known ts (formal s stars name at) = ts
formal_with known ts (formal_pointer s stars name ps at) = pointer_with known ts s stars name ps

-- of the parameters of a function
abbrev pub formals_with : Known → List PointerType → List Formal → List PointerType
formals_with known ts [] = ts
formals_with known ts (p ∷ ps) = formals_with known (formal_with known ts p) ps

-- ---- statements

-- of how a `for` begins
abbrev pub start_with : Known → List PointerType → Start → List PointerType
start_with known ts (start_declares d) = declares_with known ts d
start_with known ts (start_computes e) = ts

abbrev mutual
  pub statement_with : Known → List PointerType → Statement → List PointerType
  statement_with known ts (block ps at) = parts_with known ts ps
  statement_with known ts (compute e at) = ts
  statement_with known ts (break_at at) = ts
  statement_with known ts (continue_at at) = ts
  statement_with known ts (gives e at) = ts
  statement_with known ts (branch e a at) = statement_with known ts a
  statement_with known ts (branch_else e a b at) = statement_with known (statement_with known ts a) b
  statement_with known ts (while_loop e a at) = statement_with known ts a
  statement_with known ts (do_loop a e at) = statement_with known ts a
  statement_with known ts (for_loop start test next a at) = statement_with known (start_with known ts start) a

  pub parts_with : Known → List PointerType → Parts → List PointerType
  parts_with known ts no_part = ts
  parts_with known ts (and_declares d ps) = parts_with known (declares_with known ts d) ps
  parts_with known ts (and_does s ps) = parts_with known (statement_with known ts s) ps

-- ---- a source

-- of a function's body; a prototype has none
abbrev pub code_with : Known → List PointerType → Code → List PointerType
code_with known ts (defined ps at) = parts_with known ts ps
code_with known ts prototype = ts

-- of a declaration or definition at file scope
abbrev pub outer_with : Known → List PointerType → Outer → List PointerType
outer_with known ts (structure name fs) = fields_with known ts fs
outer_with known ts (function is_static s stars name ps code) = code_with known (formals_with known ts (listed_params ps)) code
outer_with known ts (objects is_static s os at) = objects_with known s ts os

-- of a source
abbrev pub pointers_with : Known → List PointerType → List Outer → List PointerType
pointers_with known ts [] = ts
pointers_with known ts (o ∷ os) = pointers_with known (outer_with known ts o) os

-- ---- functions

-- the types of the functions that a source declares, one for each declaration
abbrev pub function_types_with : Known → List Signature → List Outer → List Signature
function_types_with known ts [] = ts
function_types_with known ts (structure name fs ∷ os) = function_types_with known ts os
function_types_with known ts (function is_static s stars name ps code ∷ os) = function_types_with known (ts ++ signature_of known s stars ps ∷ []) os
function_types_with known ts (objects is_static s items at ∷ os) = function_types_with known ts os
