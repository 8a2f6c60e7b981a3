use Rattle.std.proofs.Common.{◌≡◌, ◌++◌, length, map}
use Rattle.seen_pairs.specs.Pairings.{names_of}
use Rattle.seen_pairs.proofs.naming.names_of_all.Given as goal

abbrev pub invariant-loop-rest : goal.invariant-loop-rest
invariant-loop-rest l = record { same : map (names_of l.code) l.pairs ≡ l.named ++ map (names_of l.code) l.rest }

abbrev pub decreases-loop-rest : goal.decreases-loop-rest
decreases-loop-rest l = length l.rest
