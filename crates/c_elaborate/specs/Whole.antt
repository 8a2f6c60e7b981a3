-- The core tree of a whole source (C99 6.9).
use Rattle.std.specs.Prelude.{ℕ, ◌+◌, List, [], ◌∷◌, ◌++◌}
use Rattle.c_tree.specs.declared.name.Name.{Name}
use Rattle.c_tree.specs.Tree.{Formals, Code, defined, prototype, Outer, structure, function, objects}
use Rattle.c_types.specs.declared.names.Signature.{Signature}
use Rattle.c_types.specs.Scopes.{Known, opened}
use Rattle.c_names.specs.Sources.{listed_params}
use Rattle.c_names.specs.Signatures.{signature_of}
use Rattle.c_names.specs.Known.{known_at_start}
use Rattle.c_programs.specs.Programs.{after_function, after_outer}
use Rattle.c_locals.specs.Addresses.{count_of_outer, program_addressed}
use Rattle.c_locals.specs.Taken.{program_taken}
use Rattle.c_spots.specs.Spots.{known_after, program_spots}
use Rattle.c_sites.specs.Sites.{kinds_of_structs, program_sites}
use Rattle.core_tree.specs.Core as core
use Rattle.c_operators.specs.Context.{Source}
use Rattle.c_elaborate.specs.Functions.{definition}
use Rattle.c_elaborate.specs.Pointers.{source_pointers}
use Rattle.c_globals.specs.Globals.{globals_after, global_kinds, global_bases, objects_words}

-- one function for a definition, and none for a prototype
abbrev pub code_functions : Source → List ℕ → Known → ℕ → Name → Signature → Formals → Code → List core.Function
code_functions s ns known n name f ps prototype = []
code_functions s ns known n name f ps (defined parts at) =
    definition s ns (opened (after_function known name f (defined parts at))) n name f.result (listed_params ps) parts ∷ []

-- struct and object declarations define no function
abbrev pub outer_functions : Source → List ℕ → Known → ℕ → Outer → List core.Function
outer_functions s ns known n (structure name fs) = []
outer_functions s ns known n (function is_static sp stars name ps code) = code_functions s ns known n name (signature_of known sp stars ps) ps code
outer_functions s ns known n (objects is_static sp os at) = []

-- the functions that are defined, where the formals and locals have numbers from n on
abbrev pub outers_functions : Source → List ℕ → Known → ℕ → List Outer → List core.Function
outers_functions s ns known n [] = []
outers_functions s ns known n (o ∷ os) = outer_functions s ns known n o ++ outers_functions s ns (after_outer known o) (n + count_of_outer o) os

-- only declared objects have global cells
abbrev pub outer_words : Source → Known → Outer → List ℕ
outer_words s known (structure name fs) = []
outer_words s known (function is_static sp stars name ps code) = []
outer_words s known (objects is_static sp os at) = objects_words s known sp os

-- the start words of the global cells
abbrev pub outers_words : Source → Known → List Outer → List ℕ
outers_words s known [] = []
outers_words s known (o ∷ os) = outer_words s known o ++ outers_words s (after_outer known o) os

-- what the whole source tells to each of its functions
abbrev pub source_of : List Outer → Source
source_of os = record {
  whole = known_after (known_at_start os) os;
  kinds = kinds_of_structs os;
  sites = program_sites os;
  globals = globals_after 1 0 [] (program_spots os) (program_sites os);
}

-- what a source without a fault does
unfoldable pub core_of_source : List Outer → core.Program
core_of_source os = record {
  functions = outers_functions (source_of os) (program_addressed os) (known_at_start os) 0 os;
  pointers = source_pointers (known_after (known_at_start os) os) (program_taken os);
  sites = program_sites os;
  globals = outers_words (source_of os) (known_at_start os) os;
  global_kinds = global_kinds (program_spots os) (program_sites os);
  global_bases = global_bases 0 (program_spots os) (program_sites os);
}
