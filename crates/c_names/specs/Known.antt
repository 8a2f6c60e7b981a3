-- What is known where a source begins.
use Rattle.std.specs.Prelude.{List, [], ◌∷◌}
use Rattle.c_tree.specs.Tree.{Outer}
use Rattle.c_types.specs.Scopes.{Known}
use Rattle.c_names.specs.Sources.{structs_with, functions_with}
use Rattle.c_names.specs.Pointers.{pointers_with, function_types_with}

-- the names of structs and functions alone
abbrev pub names_at_start : List Outer → Known
names_at_start os = record {
  struct_names = structs_with [] os;
  structs = [];
  sizes = [];
  defined = functions_with [] os;
  begun = [];
  pointers = [];
  function_types = [];
  global_cells = 0;
  scopes = [] ∷ [];
}

-- and the types of pointers to functions, which have numbers then
abbrev pub pointers_at_start : List Outer → Known
pointers_at_start os = record (names_at_start os) { pointers = pointers_with (names_at_start os) [] os }

-- and the types of functions
abbrev pub known_at_start : List Outer → Known
known_at_start os = record (pointers_at_start os) { function_types = function_types_with (pointers_at_start os) [] os }
