use Rattle.std.proofs.Common.{◌≡◌, drop, map}
use Rattle.c_tree.specs.Tree.{listed_parts}
use Rattle.c_tree.specs.View.{part_of}
use Rattle.c_names.specs.Table.{texts_of}
use Rattle.c_numbers.specs.NumberTables.{numbered_of}
use Rattle.c_locals.specs.Addresses.{past_parts}
use Rattle.c_locals.specs.Taken.{with_parts_taken}
use Rattle.c_locals.proofs.taken.+with_statement_taken.Given as goal

-- what is done and the rest make the whole
abbrev pub invariant-put_parts_taken-loop-part : goal.invariant-put_parts_taken-loop-part
invariant-put_parts_taken-loop-part l = record {
  known : past_parts (numbered_of l.table) (listed_parts (map part_of (drop l.part-index l.parts))) ≡ past_parts (numbered_of l.fn.table) (listed_parts (map part_of l.fn.parts));
  names : with_parts_taken (numbered_of l.table) (texts_of l.names.keys) (listed_parts (map part_of (drop l.part-index l.parts))) ≡ with_parts_taken (numbered_of l.fn.table) (texts_of l.fn.names.keys) (listed_parts (map part_of l.fn.parts));
}
