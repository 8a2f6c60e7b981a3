use Rattle.std.proofs.Common.{◌≡◌, ◌++◌, drop, map}
use Rattle.c_tree.specs.Tree.{listed_parts}
use Rattle.c_tree.specs.View.{part_of}
use Rattle.c_locals.specs.Addresses.{parts_addressed, past_parts}
use Rattle.c_numbers.specs.NumberTables.{numbered_of}
use Rattle.c_locals.proofs.addresses.+statement_addressed.Given as goal

-- what is done and the rest make the whole
abbrev pub invariant-push_parts-loop-part : goal.invariant-push_parts-loop-part
invariant-push_parts-loop-part l = record {
  known : past_parts (numbered_of l.table) (listed_parts (map part_of (drop l.part-index l.parts))) ≡ past_parts (numbered_of l.fn.table) (listed_parts (map part_of l.fn.parts));
  out : l.out ++ parts_addressed (numbered_of l.table) (listed_parts (map part_of (drop l.part-index l.parts))) ≡ l.fn.out ++ parts_addressed (numbered_of l.fn.table) (listed_parts (map part_of l.fn.parts));
}
