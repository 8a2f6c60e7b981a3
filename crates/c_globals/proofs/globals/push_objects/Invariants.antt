use Rattle.std.proofs.Common.{◌≡◌, ◌++◌, drop, map, true}
use Rattle.c_tree.specs.View.{object_of}
use Rattle.c_programs.specs.Statements.{after_objects}
use Rattle.c_names.specs.Table.{known_of}
use Rattle.c_globals.specs.Globals.{objects_words}
use Rattle.c_operators.specs.Views.{source_in}
use Rattle.c_globals.proofs.globals.push_objects.Given as goal

-- what is done and the rest make the whole
abbrev pub invariant-loop-item : goal.invariant-loop-item
invariant-loop-item l = record {
  known :
      after_objects (known_of l.table) true l.specifier (map object_of (drop l.item-index l.items))
      ≡ after_objects (known_of l.fn.table) true l.specifier (map object_of l.items);
  out :
      l.out ++ objects_words (source_in l.source) (known_of l.table) l.specifier (map object_of (drop l.item-index l.items))
      ≡ l.fn.out ++ objects_words (source_in l.fn.source) (known_of l.fn.table) l.specifier (map object_of l.items);
}
