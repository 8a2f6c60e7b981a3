use Rattle.std.proofs.Common.{◌≡◌, drop, map}
use Rattle.c_tree.specs.View.{object_of}
use Rattle.c_names.specs.Table.{texts_of}
use Rattle.c_numbers.specs.NumberTables.{numbered_of}
use Rattle.c_locals.specs.Addresses.{after_names}
use Rattle.c_locals.specs.Taken.{with_objects_taken}
use Rattle.c_locals.proofs.taken.put_objects_taken.Given as goal

-- what is done and the rest make the whole
abbrev pub invariant-loop-item : goal.invariant-loop-item
invariant-loop-item l = record {
  known : after_names (numbered_of l.table) (map object_of (drop l.item-index l.items)) ≡ after_names (numbered_of l.fn.table) (map object_of l.fn.items);
  names : with_objects_taken (numbered_of l.table) (texts_of l.names.keys) (map object_of (drop l.item-index l.items)) ≡ with_objects_taken (numbered_of l.fn.table) (texts_of l.fn.names.keys) (map object_of l.fn.items);
}
