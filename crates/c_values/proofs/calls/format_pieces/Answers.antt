use Rattle.std.proofs.Common.{arith}
use Rattle.std.proofs.lemmas.Grind.{common_steps}
use Rattle.c_values.proofs.Pieces.{pieces_at_end}
use Rattle.c_values.proofs.calls.format_pieces.Goals as goal

pub returns : goal.returns
returns c = grind (arith, common_steps, pieces_at_end c.loop-byte.inside)
