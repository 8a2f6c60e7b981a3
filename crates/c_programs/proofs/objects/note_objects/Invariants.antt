use Rattle.std.proofs.Common.{◌≡◌, drop, map}
use Rattle.c_tree.specs.View.{object_of}
use Rattle.c_types.specs.Found.{first_among}
use Rattle.c_programs.specs.Statements.{objects_faults, after_objects}
use Rattle.c_names.specs.Table.{known_of}
use Rattle.c_programs.proofs.objects.note_objects.Given as goal

-- the objects that are left make of what is known and found what all of them make
abbrev pub invariant-loop-item : goal.invariant-loop-item
invariant-loop-item l = record {
  known : after_objects (known_of l.table) l.is_global l.specifier (map object_of (drop l.item-index l.items)) ≡ after_objects (known_of l.fn.table) l.is_global l.specifier (map object_of l.items);
  first : first_among l.first (objects_faults (known_of l.table) l.is_global l.specifier (map object_of (drop l.item-index l.items))) ≡ first_among l.fn.first (objects_faults (known_of l.fn.table) l.is_global l.specifier (map object_of l.items));
}
