use Rattle.std.proofs.Common.{◌≡◌, ◌-◌, ◌≤◌, [], length, take, drop}
use Rattle.chain_report.specs.Past.{PastIs}
use Rattle.chain_report.specs.Tables.{rows_from}
use Rattle.chain_report.proofs.linking.noted_of.Given as goal

abbrev pub invariant-loop-at : goal.invariant-loop-at
invariant-loop-at l = record {
  same : rows_from l.from l.entries [] l.entries ≡ rows_from l.from l.entries l.rows (drop l.at l.entries);
  place : length l.rows ≡ l.at;
  within : l.at ≤ length l.entries;
  past : PastIs (take (length l.rows) l.entries) l.rows l.past;
  room : length l.past.links ≡ 256;
}

abbrev pub decreases-loop-at : goal.decreases-loop-at
decreases-loop-at l = length l.entries - l.at
