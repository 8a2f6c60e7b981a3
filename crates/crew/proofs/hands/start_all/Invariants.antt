use Rattle.std.proofs.Common.{◌≡◌, ◌≤◌, take, vec_len, vec_capacity}
use Rattle.std.specs.List.{AllZip}
use Rattle.crew.specs.Hands.{IsHandOf}
use Rattle.crew.proofs.hands.start_all.Given as goal

abbrev pub invariant-loop-at : goal.invariant-loop-at
invariant-loop-at g l = (vec_len l.hands ≡ l.at) × (l.count ≤ vec_capacity l.hands) × AllZip (IsHandOf g.J.Job g.G.Given.given) (take l.at g.G.Given.given) l.hands.items
