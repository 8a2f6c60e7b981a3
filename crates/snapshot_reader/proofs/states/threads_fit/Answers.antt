use Rattle.std.proofs.Common.{rules, arith}
use Rattle.std.proofs.lemmas.Grind.{common_steps}
use Rattle.std.proofs.lemmas.Bool.Decides.{nat_tests}
use Rattle.snapshot_reader.proofs.StateNumbers.{threads_number}
use Rattle.snapshot_reader.proofs.states.threads_fit.Goals as goal

pub returns-then-drawn-from : goal.returns-then-drawn-from
returns-then-drawn-from c = rw (threads_number c.args.code.now c.args.setup.now c.args.operations c.args.state) (first_of (search rules, grind (arith, common_steps), grind (arith, nat_tests)))

pub returns-else-drawn-from : goal.returns-else-drawn-from
returns-else-drawn-from c = rw (threads_number c.args.code.now c.args.setup.now c.args.operations c.args.state) (first_of (search rules, grind (arith, common_steps), grind (arith, nat_tests)))
