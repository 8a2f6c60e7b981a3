use Rattle.std.specs.List.{AllZip}
use Rattle.crew.specs.Hands.{IsHandOf}
use Rattle.crew.proofs.hands.finish_all.Given as goal

abbrev pub invariant-loop : goal.invariant-loop
invariant-loop g l =
    (goal.iterator-loop g).can_next l.iterator' × (goal.iterator-loop g).is_finite l.iterator'
    × AllZip (IsHandOf g.J.Job g.G.Given.given) g.G.Given.given l.hands.items
