use Rattle.std.proofs.Common.{◌≡◌, ◌++◌, drop, map}
use Rattle.c_tree.specs.View.{outer_of}
use Rattle.c_spots.specs.Spots.{known_after, outers_spots}
use Rattle.c_spots.specs.SpotViews.{shown_spots}
use Rattle.c_names.specs.Table.{known_of}
use Rattle.c_spots.proofs.program_spots.push_externals.Given as goal

-- what is done and the rest make the whole
abbrev pub invariant-loop-external : goal.invariant-loop-external
invariant-loop-external l = record {
  known : known_after (known_of l.table) (map outer_of (drop l.external-index l.externals)) ≡ known_after (known_of l.fn.table) (map outer_of l.externals);
  out :
      shown_spots l.out ++ outers_spots l.marks.numbers (known_of l.table) l.next (map outer_of (drop l.external-index l.externals))
      ≡ shown_spots l.fn.out ++ outers_spots l.marks.numbers (known_of l.fn.table) 0 (map outer_of l.externals);
}
