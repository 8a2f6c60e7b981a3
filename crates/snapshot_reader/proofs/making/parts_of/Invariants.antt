use Rattle.std.proofs.Common.{◌≡◌, ◌++◌, length}
use Rattle.std.specs.Vec.Iter.{into_iter_items}
use Rattle.snapshots.specs.Text.{threads_from}
use Rattle.snapshot_reader.specs.Made.{AllCanBe}
use Rattle.snapshot_reader.proofs.making.parts_of.Given as goal

-- those that are made, and those that are to come
abbrev pub invariant-loop-draft : goal.invariant-loop-draft
invariant-loop-draft l = record {
  can_next : (goal.iterator-loop-draft).can_next l.draft-iterator;
  is_finite : (goal.iterator-loop-draft).is_finite l.draft-iterator;
  can : AllCanBe (length l.found) (into_iter_items l.draft-iterator);
  made : threads_from 0 l.found ++ into_iter_items l.draft-iterator ≡ l.fn.drafts;
}
