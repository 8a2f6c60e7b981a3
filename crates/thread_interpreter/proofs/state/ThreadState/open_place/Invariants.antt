use Rattle.std.proofs.Common.{◌≡◌, ◌<◌, drop, length}
use Rattle.std.specs.Prelude.{IfSome, None}
use Rattle.flow_code.specs.Holding.{is_open_of, last_place}
use Rattle.thread_interpreter.proofs.state.ThreadState.open_place.Given as goal

abbrev pub invariant-loop-at : goal.invariant-loop-at
invariant-loop-at l = record {
  value : last_place (is_open_of l.code l.self.thread l.region) l.at l.found (drop l.at l.self.thread.regions) ≡ last_place (is_open_of l.code l.self.thread l.region) 0 None l.self.thread.regions;
  within : IfSome l.found (λ i. i < length l.self.thread.regions);
}
