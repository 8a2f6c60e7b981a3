use Rattle.std.proofs.Common.{length}
use Rattle.c_operators.proofs.commas.+push_last.Given as goal

abbrev pub decreases-push_last : goal.decreases-push_last
decreases-push_last l = length l.so_far.now
