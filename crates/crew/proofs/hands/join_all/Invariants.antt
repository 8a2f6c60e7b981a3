use Rattle.std.proofs.Common.{◌≡◌, ◌≤◌, ◌+◌, length, take, drop, vec_len, vec_capacity}
use Rattle.std.specs.List.{AllZip}
use Rattle.std.specs.Vec.Iter.{into_iter_items, into_iter_len}
use Rattle.crew.specs.Turns.{Finished}
use Rattle.crew.specs.Hands.{IsReadyHandOf}
use Rattle.crew.proofs.hands.join_all.Given as goal

-- the jobs that are back, and the hands that are still to come
abbrev pub invariant-loop-hand : goal.invariant-loop-hand
invariant-loop-hand g l =
    let given = g.G.Given.given in let done = vec_len l.back in
    (goal.iterator-loop-hand g).can_next l.hand-iterator × (goal.iterator-loop-hand g).is_finite l.hand-iterator
    × (done + into_iter_len l.hand-iterator ≡ length given) × (length given ≤ vec_capacity l.back)
    × AllZip (Finished g.J.Job) (take done given) l.back.items × AllZip (IsReadyHandOf g.J.Job given) (drop done given) (into_iter_items l.hand-iterator)
