use Rattle.std.proofs.Common.{arith}
use Rattle.order_log.proofs.Few.{AreBytes-from_reads}
use Rattle.order_log.proofs.log.law_bytes.Goals as goal

pub returns : goal.returns
returns c = AreBytes-from_reads c.args.bytes.now (λ i. omega (arith, c.type_inv.bytes i))
