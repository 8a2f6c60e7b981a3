use Rattle.std.proofs.Common.{◌≡◌, ◌++◌, take}
use Rattle.snapshots.specs.Text.{threads_text}
use Rattle.snapshots.proofs.write.push_threads.Given as goal

abbrev pub invariant-loop-number : goal.invariant-loop-number
invariant-loop-number l = l.out ≡ l.fn.out ++ threads_text 0 (take l.number l.threads)
