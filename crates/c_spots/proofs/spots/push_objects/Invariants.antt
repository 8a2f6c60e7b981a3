use Rattle.std.proofs.Common.{◌≡◌, ◌+◌, ◌++◌, drop, map, length}
use Rattle.c_tree.specs.View.{object_of}
use Rattle.c_programs.specs.Statements.{after_objects}
use Rattle.c_spots.specs.Spots.{is_global_level, objects_spots}
use Rattle.c_spots.specs.SpotViews.{shown_spots, shown_where}
use Rattle.c_names.specs.Table.{known_of}
use Rattle.c_spots.proofs.spots.push_objects.Given as goal

-- what is done and the rest make the whole
abbrev pub invariant-loop-item : goal.invariant-loop-item
invariant-loop-item l = record {
  known :
      after_objects (known_of l.table) (is_global_level (shown_where l.here)) l.specifier (map object_of (drop l.item-index l.items))
      ≡ after_objects (known_of l.fn.table) (is_global_level (shown_where l.fn.here)) l.specifier (map object_of l.items);
  next : l.next + length (drop l.item-index l.items) ≡ l.fn.next + length l.items;
  out :
      shown_spots l.out ++ objects_spots (shown_where l.here) (known_of l.table) l.next l.specifier (map object_of (drop l.item-index l.items))
      ≡ shown_spots l.fn.out ++ objects_spots (shown_where l.fn.here) (known_of l.fn.table) l.fn.next l.specifier (map object_of l.items);
}
