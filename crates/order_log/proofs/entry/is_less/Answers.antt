use Rattle.order_log.proofs.Numerals.{less_by_digits}
use Rattle.order_log.proofs.entry.is_less.Goals as goal

pub returns : goal.returns
returns c m n is_m is_n = let e = less_by_digits c.args.first.now c.args.second.now m n is_m is_n in cc
