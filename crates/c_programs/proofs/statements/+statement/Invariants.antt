use Rattle.std.proofs.Common.{◌≡◌, drop, map}
use Rattle.c_tree.specs.Tree.{listed_parts}
use Rattle.c_tree.specs.View.{part_of}
use Rattle.c_types.specs.Found.{first_among}
use Rattle.c_programs.specs.Statements.{parts_faults, after_parts}
use Rattle.c_names.specs.Table.{known_of}
use Rattle.c_programs.proofs.statements.+statement.Given as goal

-- the parts that are left make of what is known and found what all of them make
abbrev pub invariant-note_parts-loop-part : goal.invariant-note_parts-loop-part
invariant-note_parts-loop-part l = record {
  known : after_parts (known_of l.table) (listed_parts (map part_of (drop l.part-index l.parts))) ≡ after_parts (known_of l.fn.table) (listed_parts (map part_of l.fn.parts));
  first : first_among l.first (parts_faults (known_of l.table) l.gives l.in_loop (listed_parts (map part_of (drop l.part-index l.parts)))) ≡ first_among l.fn.first (parts_faults (known_of l.fn.table) l.gives l.in_loop (listed_parts (map part_of l.fn.parts)));
}
