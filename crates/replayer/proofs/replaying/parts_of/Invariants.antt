use Rattle.std.proofs.Common.{◌≡◌, ◌++◌, map}
use Rattle.std.specs.Vec.Iter.{into_iter_items}
use Rattle.replayer.specs.Following.{Following}
use Rattle.run_walk.specs.Remains.{remains_in}
use Rattle.replayer.proofs.replaying.parts_of.Given as goal

abbrev pub invariant-loop-follower : goal.invariant-loop-follower
invariant-loop-follower l = record {
  can_next : (goal.iterator-loop-follower).can_next l.follower-iterator;
  is_finite : (goal.iterator-loop-follower).is_finite l.follower-iterator;
  seats : map (λ (f : Following). f.seat) l.fn.followers.items ≡ l.seats.items ++ map (λ (f : Following). f.seat) (into_iter_items l.follower-iterator);
  remains : map (λ (f : Following). remains_in f.run) l.fn.followers.items ≡ l.remains.items ++ map (λ (f : Following). remains_in f.run) (into_iter_items l.follower-iterator);
}
