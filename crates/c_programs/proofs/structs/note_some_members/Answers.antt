use Rattle.std.proofs.Common.{arith}
use Rattle.std.proofs.lemmas.Grind.{common_steps}
use Rattle.c_types.proofs.First.{first_of_both}
use Rattle.c_programs.proofs.Counted.{counted_more}
use Rattle.c_programs.proofs.structs.note_some_members.Goals as goal

pub loop-declarator-preserved : goal.loop-declarator-preserved
loop-declarator-preserved g c = record {
  members = grind (arith, common_steps);
  cells = grind (arith, common_steps, counted_more);
  bound = grind (arith, common_steps);
  first = grind (arith, common_steps, first_of_both);
}
