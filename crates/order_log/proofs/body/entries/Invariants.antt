use Rattle.std.proofs.Common.{length}
use Rattle.order_log.specs.Reading.{lines_of}
use Rattle.order_log.specs.Recogniser.{lines_in, entries_at}
use Rattle.order_log.proofs.Counting.{Reads}
use Rattle.order_log.proofs.body.entries.Given as goal

abbrev pub invariant-loop-version : goal.invariant-loop-version
invariant-loop-version l =
    Reads l.version l.setup l.found (lines_in l.reader.line l.reader.bytes.now) l.counts.others l.counts.endings (entries_at l.version l.setup (lines_in l.fn.reader.line l.fn.reader.bytes.now))

abbrev pub decreases-loop-version : goal.decreases-loop-version
decreases-loop-version l = length (lines_of l.reader.bytes.now)
