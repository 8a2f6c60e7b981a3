use Rattle.std.proofs.Common.{◌≡◌, ◌*◌, length}
use Rattle.weak_turns.proofs.carrier.Carrier.new.Given as goal

abbrev pub invariant-loop-k : goal.invariant-loop-k
invariant-loop-k l = length l.since.items ≡ 8 * l._k
