use Rattle.std.proofs.Common.{◌≡◌, ◌≤◌, ℕ, length}
use Rattle.std.specs.Prelude.{slice_get}
use Rattle.lockset_summary.specs.Collecting.{AreCollected}
use Rattle.lockset_summary.proofs.summary.collect.Given as goal

abbrev pub invariant-loop-f : goal.invariant-loop-f
invariant-loop-f l = record {
  made : AreCollected l.points l.initial.rows.items l.f l.summaries;
  long : length l.rows.items ≡ length l.initial.rows.items;
  left : (g : ℕ) → l.f ≤ g → slice_get l.rows.items g ≡ slice_get l.initial.rows.items g;
}
