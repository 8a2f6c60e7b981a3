use Rattle.std.proofs.Common.{◌≡◌, length, map}
use Rattle.core_run.specs.Machine.{start_threads_from}
use Rattle.core_run.specs.Shown.{RunAll, running_thread, told_thread}
use Rattle.core_run.proofs.start.start_flows.Given as goal

abbrev pub invariant-loop-k : goal.invariant-loop-k
invariant-loop-k l = record {
  all : RunAll l.code l.setup 0 l.flows.items;
  len : length l.flows.items ≡ l.k;
  threads : map running_thread l.flows.items ≡ map told_thread (start_threads_from l.code l.setup 0 l.k);
}
