use Rattle.std.proofs.Common.{◌≡◌, ◌++◌, take}
use Rattle.listing.specs.WeakText.{accesses_text}
use Rattle.listing.proofs.weak.push_accesses.Given as goal

abbrev pub invariant-loop-row : goal.invariant-loop-row
invariant-loop-row l = l.out ≡ l.fn.out ++ accesses_text l.code (take l.row-index l.rows)
