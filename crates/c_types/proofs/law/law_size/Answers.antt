use Rattle.c_types.proofs.Lengths.{sizes_are_lengths}
use Rattle.c_types.proofs.law.law_size.Goals as goal

pub returns : goal.returns
returns c = sizes_are_lengths
