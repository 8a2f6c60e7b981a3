use Rattle.run_theory.specs.Merge.{total_length}
use Rattle.entry_merge.specs.Counts.{count_in, lists_of}
use Rattle.entry_merge.proofs.Merging.{IsBetween}
use Rattle.entry_merge.proofs.merge.Given as goal

abbrev pub invariant-loop-next : goal.invariant-loop-next
invariant-loop-next l = IsBetween l.fn.lists (count_in l.counts) l.merged (lists_of l.rest)

abbrev pub decreases-loop-next : goal.decreases-loop-next
decreases-loop-next l = total_length (lists_of l.rest)
