use Rattle.std.proofs.Common.{arith}
use Rattle.std.proofs.lemmas.Grind.{common_steps}
use Rattle.c_tree.proofs.Views.{inits_of_row-list}
use Rattle.c_types.proofs.First.{first_of_both}
use Rattle.c_programs.proofs.initials.+note_initial.Goals as goal

pub note_initial-returns-in-Braces : goal.note_initial-returns-in-Braces
note_initial-returns-in-Braces g t c = rw (c.in-Braces.is, inits_of_row-list) (grind (arith, common_steps))

pub note_parts-loop-index-preserved : goal.note_parts-loop-index-preserved
note_parts-loop-index-preserved g t c = grind (arith, common_steps, first_of_both)
