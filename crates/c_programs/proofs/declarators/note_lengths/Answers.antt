use Rattle.std.proofs.Common.{arith}
use Rattle.std.proofs.lemmas.Grind.{common_steps}
use Rattle.c_types.proofs.First.{first_of_both}
use Rattle.c_programs.proofs.declarators.note_lengths.Goals as goal

pub loop-length-preserved : goal.loop-length-preserved
loop-length-preserved g c = grind (arith, common_steps, first_of_both)
