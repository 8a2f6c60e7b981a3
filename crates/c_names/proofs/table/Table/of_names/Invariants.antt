use Rattle.std.proofs.Common.{◌≡◌, map, drop, []}
use Rattle.c_tree.specs.View.{outer_of}
use Rattle.c_names.specs.Sources.{structs_with, functions_with}
use Rattle.c_names.specs.Table.{texts_of}
use Rattle.c_names.proofs.table.Table.of_names.Given as goal

-- the names so far, and those of the rest
abbrev pub invariant-loop-external : goal.invariant-loop-external
invariant-loop-external l = let externals = l.externals in record {
  structs : structs_with (texts_of l.struct_names.keys) (map outer_of (drop l.external-index externals)) ≡ structs_with [] (map outer_of externals);
  functions : functions_with (texts_of l.defined.keys) (map outer_of (drop l.external-index externals)) ≡ functions_with [] (map outer_of externals);
}
