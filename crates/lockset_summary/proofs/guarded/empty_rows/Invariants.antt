use Rattle.std.proofs.Common.{◌≡◌, ℕ, length, List, [], Some}
use Rattle.std.specs.Prelude.{slice_get}
use Rattle.facts.specs.declared.locks.Guarded.{Guarded}
use Rattle.lockset_summary.proofs.guarded.empty_rows.Given as goal

abbrev pub invariant-loop-f : goal.invariant-loop-f
invariant-loop-f l = record {
  long : length l.rows.items ≡ l._f;
  empty : (g : ℕ) (row : List Guarded) → slice_get l.rows.items g ≡ Some row → row ≡ [];
}
