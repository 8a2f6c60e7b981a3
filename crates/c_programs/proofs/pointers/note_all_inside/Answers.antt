use Rattle.std.proofs.Common.{arith}
use Rattle.std.proofs.lemmas.Grind.{common_steps}
use Rattle.c_types.proofs.First.{first_of_both}
use Rattle.c_programs.proofs.pointers.note_all_inside.Goals as goal

pub loop-p-preserved : goal.loop-p-preserved
loop-p-preserved g c = grind (arith, common_steps, first_of_both)
