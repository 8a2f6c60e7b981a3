use Rattle.std.proofs.Common.{◌≡◌, ◌++◌, drop, map}
use Rattle.c_tree.specs.Tree.{listed_parts}
use Rattle.c_tree.specs.View.{part_of}
use Rattle.c_locals.specs.Addresses.{past_parts}
use Rattle.c_numbers.specs.NumberTables.{numbered_of}
use Rattle.c_programs.specs.Statements.{after_parts}
use Rattle.c_names.specs.Table.{known_of}
use Rattle.core_tree.specs.View.{stmt_of}
use Rattle.c_operators.specs.Context.{context_in}
use Rattle.c_statements.specs.Statements.{all_elaborated}
use Rattle.c_operators.specs.Views.{frame_in, source_in}
use Rattle.c_statements.proofs.statement.+statement.Given as goal

-- what is done and the rest make the whole
abbrev pub invariant-push_parts-loop-part : goal.invariant-push_parts-loop-part
invariant-push_parts-loop-part l = record {
  known : after_parts (known_of l.table) (listed_parts (map part_of (drop l.part-index l.parts))) ≡ after_parts (known_of l.fn.table) (listed_parts (map part_of l.parts));
  numbers : past_parts (numbered_of l.numbers) (listed_parts (map part_of (drop l.part-index l.parts))) ≡ past_parts (numbered_of l.fn.numbers) (listed_parts (map part_of l.parts));
  out :
      map stmt_of l.out ++ all_elaborated (context_in (source_in l.source) (frame_in l.frame) (known_of l.table) (numbered_of l.numbers)) (listed_parts (map part_of (drop l.part-index l.parts)))
      ≡ map stmt_of l.fn.out ++ all_elaborated (context_in (source_in l.source) (frame_in l.frame) (known_of l.fn.table) (numbered_of l.fn.numbers)) (listed_parts (map part_of l.parts));
}
