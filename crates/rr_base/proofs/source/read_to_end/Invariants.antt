use Rattle.std.proofs.Common.{◌≡◌, ◌≤◌, length, ◌-◌}
use Rattle.rr_base.specs.Streams.{Gave}
use Rattle.rr_base.proofs.source.read_to_end.Given as goal

-- what came so far is kept and isn't too much, and nothing has failed
abbrev pub invariant-loop-bytes : goal.invariant-loop-bytes
invariant-loop-bytes g l =
    (length l.bytes ≤ l.most) × Gave l.bytes (g.S.Source.left l.initial.source) (g.S.Source.left l.source)
    × (g.S.Source.faults l.source ≡ g.S.Source.faults l.initial.source)

abbrev pub decreases-loop-bytes : goal.decreases-loop-bytes
decreases-loop-bytes g l = l.most - length l.bytes
