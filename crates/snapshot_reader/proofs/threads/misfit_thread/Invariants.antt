use Rattle.std.proofs.Common.{◌≡◌, ◌+◌, length}
use Rattle.snapshots.specs.Conditions.{threads_judged}
use Rattle.snapshot_reader.specs.Misfits.{Judging}
use Rattle.snapshot_reader.specs.Reading.{AreFew}
use Rattle.snapshot_reader.proofs.threads.misfit_thread.Given as goal

abbrev pub invariant-loop-rest : goal.invariant-loop-rest
invariant-loop-rest l = record {
  judging : Judging (threads_judged l.code l.setup 0 l.threads) (threads_judged l.code l.setup l.number l.rest) l.first l.line;
  few : AreFew l.rest;
  numbered : l.number + length l.rest ≡ length l.threads;
}

abbrev pub decreases-loop-rest : goal.decreases-loop-rest
decreases-loop-rest l = length l.rest
