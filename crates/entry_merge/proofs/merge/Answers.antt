use Rattle.std.proofs.Common.{◌≡◌, [], ◌∷◌, ◌++◌, sym, subst, arith, rules}
use Rattle.run_theory.specs.Merge.{Stuck, Takes}
use Rattle.entry_merge.specs.Counts.{count_in, AreCounted, next_by, lists_of}
use Rattle.entry_merge.proofs.Merging.{IsBetween, taken_is_shorter, takes_next, ends}
use Rattle.entry_merge.proofs.merge.Goals as goal

pub loop-next-smaller : goal.loop-next-smaller
loop-next-smaller c = omega (arith, taken_is_shorter (count_in c.loop-next.counts) (lists_of c.loop-next.rest) (lists_of c.take_next.new.lists) c.in-Some.next next)
  where
    next : next_by (count_in c.loop-next.counts) (lists_of c.loop-next.rest) ≡ Takes c.in-Some.next (lists_of c.take_next.new.lists)
    next = search rules

pub loop-next-preserved : goal.loop-next-preserved
loop-next-preserved c = subst (λ z. IsBetween c.args.lists.now (count_in c.count_up.new.counts) z (lists_of c.take_next.new.lists)) (sym pushed) (takes_next c.args.lists.now (count_in c.loop-next.counts) c.loop-next.merged (lists_of c.loop-next.rest) c.loop-next.invariant c.in-Some.next (lists_of c.take_next.new.lists) (count_in c.count_up.new.counts) next counted)
  where
    next : next_by (count_in c.loop-next.counts) (lists_of c.loop-next.rest) ≡ Takes c.in-Some.next (lists_of c.take_next.new.lists)
    next = search rules

    pushed : c.push.new.self ≡ c.loop-next.merged ++ c.in-Some.next.entry ∷ []
    pushed = search rules

    counted : AreCounted c.loop-next.counts c.in-Some.next.entry.obj c.count_up.new.counts
    counted = search rules

pub returns : goal.returns
returns c = ends c.args.lists.now (count_in c.loop-next.counts) c.loop-next.merged (lists_of c.loop-next.rest) c.loop-next.invariant next
  where
    next : next_by (count_in c.loop-next.counts) (lists_of c.loop-next.rest) ≡ Stuck
    next = search rules
