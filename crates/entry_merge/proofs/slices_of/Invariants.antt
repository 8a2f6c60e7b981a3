use Rattle.std.proofs.Common.{◌≡◌, take}
use Rattle.entry_merge.specs.Counts.{lists_of}
use Rattle.entry_merge.proofs.slices_of.Given as goal

abbrev pub invariant-loop-list : goal.invariant-loop-list
invariant-loop-list l = lists_of l.slices ≡ take l.list-index l.lists
