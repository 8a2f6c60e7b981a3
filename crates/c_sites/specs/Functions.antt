-- What is told of each function that a source defines: its formals, which of its names are registers, and whether a thread
-- begins with it.
use Rattle.std.specs.Prelude.{ℕ, ◌+◌, Bool, ◌||◌, if◌then◌else◌, List, [], ◌∷◌, ◌++◌, length, map}
use Rattle.rr_base.specs.Texts.{Text}
use Rattle.c_tree.specs.declared.name.Name.{Name}
use Rattle.c_tree.specs.declared.ctype.Specifier.{Specifier}
use Rattle.c_tree.specs.Tree.{Formal, Object, Declares, declares, Start, start_declares, start_computes, Statement, block, compute, break_at, continue_at, gives, branch, branch_else, while_loop, do_loop, for_loop, Parts, no_part, and_declares, and_does, Code, defined, prototype, Outer, structure, function, objects}
use Rattle.c_sites.specs.declared.function_info.FunctionInfo.{FunctionInfo}
use Rattle.c_names.specs.Sources.{listed_params, declared_by}
use Rattle.c_locals.specs.Kept.{is_kept_declared, is_kept_formal}
use Rattle.c_locals.specs.Addresses.{program_addressed, is_among, count_of_outer}
use Rattle.c_locals.specs.Roots.{program_starts, is_root_among}

-- ---- for each formal and local in the order of the text, whether its type keeps it in cells

-- a local that is an array, a struct, a mutex or its kin
abbrev pub object_kept : Specifier → Object → Bool
object_kept s o = is_kept_declared s (declared_by o)

-- one mark for each object that is declared
abbrev pub declares_kept : Declares → List Bool
declares_kept (declares s os at) = map (object_kept s) os

-- a `for` may declare locals in its first clause
abbrev pub start_kept : Start → List Bool
start_kept (start_declares d) = declares_kept d
start_kept (start_computes e) = []

abbrev mutual
  pub statement_kept : Statement → List Bool
  statement_kept (block ps at) = parts_kept ps
  statement_kept (compute e at) = []
  statement_kept (break_at at) = []
  statement_kept (continue_at at) = []
  statement_kept (gives e at) = []
  statement_kept (branch e a at) = statement_kept a
  statement_kept (branch_else e a b at) = statement_kept a ++ statement_kept b
  statement_kept (while_loop e a at) = statement_kept a
  statement_kept (do_loop a e at) = statement_kept a
  statement_kept (for_loop start test next a at) = start_kept start ++ statement_kept a

  pub parts_kept : Parts → List Bool
  parts_kept no_part = []
  parts_kept (and_declares d ps) = declares_kept d ++ parts_kept ps
  parts_kept (and_does s ps) = statement_kept s ++ parts_kept ps

-- the formals come first, and then the locals of the body
abbrev pub definition_kept : List Formal → Parts → List Bool
definition_kept ps parts = map is_kept_formal ps ++ parts_kept parts

-- ---- functions

-- how many registers it takes: none if it is kept in cells
abbrev pub register_where : Bool → ℕ
register_where kept = if kept then 0 else 1

-- how many are kept neither by their type nor because `&` is applied to them, the first having the number n
abbrev pub registers_from : List ℕ → ℕ → List Bool → ℕ
registers_from ns n [] = 0
registers_from ns n (kept ∷ more) = register_where (kept || is_among ns n) + registers_from ns (n + 1) more

-- `ns` are the numbers to which `&` is applied, n the first formal's
abbrev pub info_of : List ℕ → List Text → ℕ → Name → List Formal → Parts → FunctionInfo
info_of ns starts n name ps parts = record {
  name = name.text;
  formals = length ps;
  registers = registers_from ns n (definition_kept ps parts);
  is_root = is_root_among starts name.text;
}

-- a prototype defines no function
abbrev pub code_functions : List ℕ → List Text → ℕ → Name → List Formal → Code → List FunctionInfo
code_functions ns starts n name ps prototype = []
code_functions ns starts n name ps (defined parts at) = info_of ns starts n name ps parts ∷ []

-- structs and globals define no function
abbrev pub outer_functions : List ℕ → List Text → ℕ → Outer → List FunctionInfo
outer_functions ns starts n (structure name fs) = []
outer_functions ns starts n (function is_static s stars name ps code) = code_functions ns starts n name (listed_params ps) code
outer_functions ns starts n (objects is_static s os at) = []

-- the first formal or local of these has the number n
abbrev pub outers_functions : List ℕ → List Text → ℕ → List Outer → List FunctionInfo
outers_functions ns starts n [] = []
outers_functions ns starts n (o ∷ os) = outer_functions ns starts n o ++ outers_functions ns starts (n + count_of_outer o) os

-- the functions that a source defines, in the order of their definitions
abbrev pub program_functions : List Outer → List FunctionInfo
program_functions os = outers_functions (program_addressed os) (program_starts os) 0 os
