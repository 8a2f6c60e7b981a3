use Rattle.std.proofs.Common.{arith}
use Rattle.std.proofs.lemmas.Grind.{common_steps}
use Rattle.c_tree.proofs.Views.{inits_of_row-list}
use Rattle.c_initials.proofs.initials.push_object.Goals as goal

pub returns-in-Braces : goal.returns-in-Braces
returns-in-Braces c = rw (c.in-Braces.is, inits_of_row-list) (grind (arith, common_steps))
