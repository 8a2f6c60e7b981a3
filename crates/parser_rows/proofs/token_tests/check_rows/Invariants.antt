use Rattle.std.proofs.Common.{length}
use Rattle.parser_rows.proofs.token_tests.check_rows.Given as goal

abbrev pub decreases-loop-rows : goal.decreases-loop-rows
decreases-loop-rows g l = length l.rows
