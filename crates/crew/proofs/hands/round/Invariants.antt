use Rattle.std.proofs.Common.{◌≡◌, ◌<◌, ℕ, true, Some, vec_len}
use Rattle.std.specs.List.{AllZip, slice_get}
use Rattle.crew.specs.Hands.{IsHandOf, IsReady}
use Rattle.crew.proofs.hands.round.Given as goal

abbrev pub invariant-loop-at : goal.invariant-loop-at
invariant-loop-at g l =
    (vec_len l.hands ≡ vec_len l.initial.hands)
    × (AllZip (IsHandOf g.J.Job g.G.Given.given) g.G.Given.given l.initial.hands.items → AllZip (IsHandOf g.J.Job g.G.Given.given) g.G.Given.given l.hands.items)
    × (l.is_ready ≡ true → (k : ℕ) (hand : _) → k < l.at → slice_get l.hands.items k ≡ Some hand → IsReady hand)
