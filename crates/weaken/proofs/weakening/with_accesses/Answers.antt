use Rattle.weaken.proofs.Chosen.{jumps_of_fits}
use Rattle.weaken.proofs.weakening.with_accesses.Goals as goal

pub with_stretches-requires-clause-jumps : goal.with_stretches-requires-clause-jumps
with_stretches-requires-clause-jumps c = jumps_of_fits c.args._code.now c.args.function.now c.requires.fits
