use Rattle.std.proofs.Common.{◌≡◌, length}
use Rattle.loop_bounds.specs.Tables.{AreRounds}
use Rattle.loop_bounds.proofs.rounds.rounds_of.Given as goal

abbrev pub invariant-loop-at : goal.invariant-loop-at
invariant-loop-at l = record {
  long : length l.rounds.items ≡ l.at;
  each : AreRounds l.instrs l.rounds.items;
}
