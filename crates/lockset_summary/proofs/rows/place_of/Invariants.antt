use Rattle.std.proofs.Common.{◌-◌, ◌≡◌, ◌≤◌, ◌<◌, ℕ, true, length, Some}
use Rattle.std.specs.Prelude.{slice_get}
use Rattle.facts.specs.Summaries.{guarded_less}
use Rattle.facts.specs.declared.locks.Guarded.{Guarded}
use Rattle.lockset_summary.proofs.rows.place_of.Given as goal

abbrev pub invariant-loop-low : goal.invariant-loop-low
invariant-loop-low l = record {
  order : l.low ≤ l.high;
  within : l.high ≤ length l.row;
  below : (j : ℕ) (b : Guarded) → j < l.low → slice_get l.row j ≡ Some b → guarded_less b l.access ≡ true;
  above : (j : ℕ) (b : Guarded) → l.high ≤ j → slice_get l.row j ≡ Some b → guarded_less l.access b ≡ true;
}

abbrev pub decreases-loop-low : goal.decreases-loop-low
decreases-loop-low l = l.high - l.low
