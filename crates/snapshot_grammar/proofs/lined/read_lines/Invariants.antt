use Rattle.std.proofs.Common.{◌≡◌, ◌+◌, length, map}
use Rattle.std.specs.List.{AllByRecursion}
use Rattle.snapshot_grammar.specs.Parts.{IsRead, left}
use Rattle.snapshot_grammar.proofs.lined.read_lines.Given as goal

-- those that are found were read, and so many are to come
abbrev pub invariant-loop-left : goal.invariant-loop-left
invariant-loop-left g l = record {
  read : IsRead _ _ (AllByRecursion g.T.Lined.stands) (map g.T.Lined.line) (map g.T.Lined.clip) (left l.fn.reader) l.found (left l.reader);
  counted : length l.found + l.left ≡ l.fn.count;
}

abbrev pub decreases-loop-left : goal.decreases-loop-left
decreases-loop-left g l = l.left
