use Rattle.std.proofs.Common.{◌≡◌, ◌+◌, length, map}
use Rattle.std.specs.List.{AllByRecursion, flat_map}
use Rattle.snapshots.specs.Conditions.{IsThreadForm}
use Rattle.snapshots.specs.Text.{thread_lines}
use Rattle.snapshot_grammar.specs.Drafts.{clipped_thread}
use Rattle.snapshot_grammar.specs.Parts.{IsRead, left}
use Rattle.snapshot_grammar.proofs.draft.read_threads.Given as goal

-- those that are found were read, and so many are to come
abbrev pub invariant-loop-left : goal.invariant-loop-left
invariant-loop-left l = record {
  read : IsRead _ _ (AllByRecursion IsThreadForm) (flat_map thread_lines) (map clipped_thread) (left l.fn.reader) l.found (left l.reader);
  counted : length l.found + l.left ≡ l.fn.slots;
}

abbrev pub decreases-loop-left : goal.decreases-loop-left
decreases-loop-left l = l.left
