use Rattle.std.proofs.Common.{◌≡◌, ◌+◌, ◌++◌, drop, map}
use Rattle.c_tree.specs.Tree.{listed_parts}
use Rattle.c_tree.specs.View.{part_of}
use Rattle.c_locals.specs.Addresses.{count_of_parts}
use Rattle.c_programs.specs.Statements.{after_parts}
use Rattle.c_spots.specs.Spots.{parts_spots}
use Rattle.c_spots.specs.SpotViews.{shown_owner, shown_spots}
use Rattle.c_names.specs.Table.{known_of}
use Rattle.c_spots.proofs.spots.+statement_spots.Given as goal

-- what is done and the rest make the whole
abbrev pub invariant-push_parts-loop-part : goal.invariant-push_parts-loop-part
invariant-push_parts-loop-part l = record {
  known : after_parts (known_of l.table) (listed_parts (map part_of (drop l.part-index l.parts))) ≡ after_parts (known_of l.fn.table) (listed_parts (map part_of l.parts));
  next : l.next + count_of_parts (listed_parts (map part_of (drop l.part-index l.parts))) ≡ l.fn.next + count_of_parts (listed_parts (map part_of l.parts));
  out :
      shown_spots l.out ++ parts_spots (shown_owner l.owner) (known_of l.table) l.next (listed_parts (map part_of (drop l.part-index l.parts)))
      ≡ shown_spots l.fn.out ++ parts_spots (shown_owner l.fn.owner) (known_of l.fn.table) l.fn.next (listed_parts (map part_of l.parts));
}
