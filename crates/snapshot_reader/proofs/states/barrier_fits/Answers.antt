use Rattle.std.proofs.Common.{rules, arith}
use Rattle.std.proofs.lemmas.Grind.{common_steps}
use Rattle.std.proofs.lemmas.Bool.Decides.{nat_tests}
use Rattle.snapshot_reader.proofs.StateNumbers.{barrier_number}
use Rattle.snapshot_reader.proofs.states.barrier_fits.Goals as goal

pub returns-then-generation-lt4194304 : goal.returns-then-generation-lt4194304
returns-then-generation-lt4194304 c = rw (barrier_number c.args.code.now c.args.setup.now c.args.operations c.args.state) (first_of (search rules, grind (arith, common_steps), grind (arith, nat_tests)))

pub returns-else-generation-lt4194304 : goal.returns-else-generation-lt4194304
returns-else-generation-lt4194304 c = rw (barrier_number c.args.code.now c.args.setup.now c.args.operations c.args.state) (first_of (search rules, grind (arith, common_steps), grind (arith, nat_tests)))
