use Rattle.std.proofs.Common.{◌≡◌, ◌++◌, drop, map}
use Rattle.c_tree.specs.View.{object_of}
use Rattle.c_locals.specs.Addresses.{objects_addressed, after_names}
use Rattle.c_numbers.specs.NumberTables.{numbered_of}
use Rattle.c_locals.proofs.addresses.push_objects.Given as goal

-- what is done and the rest make the whole
abbrev pub invariant-loop-item : goal.invariant-loop-item
invariant-loop-item l = record {
  known : after_names (numbered_of l.table) (map object_of (drop l.item-index l.items)) ≡ after_names (numbered_of l.fn.table) (map object_of l.fn.items);
  out : l.out ++ objects_addressed (numbered_of l.table) (map object_of (drop l.item-index l.items)) ≡ l.fn.out ++ objects_addressed (numbered_of l.fn.table) (map object_of l.fn.items);
}
