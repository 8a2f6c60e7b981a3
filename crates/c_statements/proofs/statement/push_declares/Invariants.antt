use Rattle.std.proofs.Common.{◌≡◌, ◌++◌, false, drop, map}
use Rattle.c_tree.specs.View.{object_of}
use Rattle.c_locals.specs.Addresses.{after_names}
use Rattle.c_numbers.specs.NumberTables.{numbered_of}
use Rattle.c_programs.specs.Statements.{after_objects}
use Rattle.c_names.specs.Table.{known_of}
use Rattle.core_tree.specs.View.{stmt_of}
use Rattle.c_operators.specs.Context.{context_in}
use Rattle.c_statements.specs.Statements.{objects_elaborated}
use Rattle.c_operators.specs.Views.{frame_in, source_in}
use Rattle.c_statements.proofs.statement.push_declares.Given as goal

-- what is done and the rest make the whole
abbrev pub invariant-loop-item : goal.invariant-loop-item
invariant-loop-item l = record {
  known :
      after_objects (known_of l.table) false l.declaration.specifier (map object_of (drop l.item-index l.declaration.items))
      ≡ after_objects (known_of l.fn.table) false l.declaration.specifier (map object_of l.declaration.items);
  numbers :
      after_names (numbered_of l.numbers) (map object_of (drop l.item-index l.declaration.items))
      ≡ after_names (numbered_of l.fn.numbers) (map object_of l.declaration.items);
  out :
      map stmt_of l.out ++ objects_elaborated (context_in (source_in l.source) (frame_in l.frame) (known_of l.table) (numbered_of l.numbers)) l.declaration.specifier (map object_of (drop l.item-index l.declaration.items))
      ≡ map stmt_of l.fn.out ++ objects_elaborated (context_in (source_in l.source) (frame_in l.frame) (known_of l.fn.table) (numbered_of l.fn.numbers)) l.declaration.specifier (map object_of l.declaration.items);
}
