use Rattle.std.proofs.Common.{◌≡◌, ◌<◌, ◌∙◌, sym, ap, length, true, false, Some, get_or, arith}
use Rattle.std.specs.List.{slice_get}
use Rattle.std.proofs.lemmas.Option.{slice_get-get_or, slice_get_within}
use Rattle.crew.specs.Hands.{IsHandOf, IsReady}
use Rattle.crew.proofs.Zips.{zip_set, zip_both, below_set}
use Rattle.crew.proofs.hands.round.Goals as goal
use Rattle.crew.proofs.hands.round.Goals.{then-not-turn, else-not-turn}

pub loop-at-preserved : goal.loop-at-preserved
loop-at-preserved g c =
    let given = g.G.Given.given in let at = c.loop-at.at in let hands = c.loop-at.hands.items in let was = c.loop-at.invariant in
    let old = c.index_mut.result.now in let end = c.len-at-end.ensures in let long = c.loop-at.hands.ok.0 in
    let low : at < length hands = omega arith in
    let here : slice_get hands at ≡ Some old = slice_get-get_or hands at old low ∙ ap Some (sym c.index_mut.ensures.value) in (
      was.0,
      (λ all. zip_set (IsHandOf g.J.Job {G = g.row.G.Denot} given) given hands at old c.turn.new.hand (was.1 all) here (λ job of. c.turn.ensures.keeps job of)),
      elim c.if-not-turn.branch [
        | then-not-turn w ↦ λ ready. let e : false ≡ true = sym w.is_ready-is ∙ ready in cc
        | else-not-turn w ↦ λ ready. below_set IsReady hands at c.turn.new.hand (was.2 (sym w.is_ready-is ∙ ready)) (c.turn.ensures.ready w.if-not-turn.false)
      ],
    )

pub returns-clause-ready : goal.returns-clause-ready
returns-clause-ready g c ready all =
    let given = g.G.Given.given in let hands = c.loop-at.hands.items in let was = c.loop-at.invariant in
    let end = c.len-at-end.ensures in let long = c.loop-at.hands.ok.0 in
    zip_both (IsHandOf g.J.Job {G = g.row.G.Denot} given) IsReady given hands (was.1 all)
    (λ k hand is. let low = slice_get_within hands k hand is in was.2 ready k hand (omega arith) is)
