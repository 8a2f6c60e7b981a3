use Rattle.std.proofs.Common.{length, ◌-◌, ◌≡◌, ◌≤◌, take}
use Rattle.rr_base.specs.Streams.{Took}
use Rattle.rr_base.proofs.sink.write_all.Given as goal

-- what was written so far is in the sink, and nothing has failed
abbrev pub invariant-loop-at : goal.invariant-loop-at
invariant-loop-at g l =
    (l.at ≤ length l.bytes) × Took (take l.at l.bytes) (g.O.Sink.held l.initial.sink) (g.O.Sink.held l.sink)
    × (g.O.Sink.faults l.sink ≡ g.O.Sink.faults l.initial.sink)

abbrev pub decreases-loop-at : goal.decreases-loop-at
decreases-loop-at g l = length l.bytes - l.at
