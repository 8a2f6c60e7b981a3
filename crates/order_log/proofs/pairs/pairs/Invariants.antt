use Rattle.std.proofs.Common.{◌≡◌, []}
use Rattle.order_log.specs.Recogniser.{pairs_from, lines_in}
use Rattle.order_log.proofs.pairs.pairs.Given as goal

abbrev pub invariant-loop-left : goal.invariant-loop-left
invariant-loop-left l = pairs_from l.left l.found (lines_in l.reader.line l.reader.bytes.now) ≡ pairs_from l.fn.count [] (lines_in l.fn.reader.line l.fn.reader.bytes.now)

abbrev pub decreases-loop-left : goal.decreases-loop-left
decreases-loop-left l = l.left
