use Rattle.std.proofs.Common.{◌<◌, ◌+◌, ◌++◌, ◌∷◌, [], subst, sym, suc, length, take, add-one, arith}
use Rattle.std.specs.List.{AllZip}
use Rattle.rr_base.proofs.Lists.{slice_get_inside}
use Rattle.crew.specs.Hands.{IsHandOf}
use Rattle.crew.proofs.Zips.{zip_more}
use Rattle.crew.proofs.hands.start_all.Goals as goal

pub loop-at-preserved : goal.loop-at-preserved
loop-at-preserved g c =
    let given = g.G.Given.given in let at = c.loop-at.at in let hands = c.loop-at.hands.items in let was = c.loop-at.invariant in
    let all = c.requires.all in let low : at < length given = omega arith in
    let here = slice_get_inside given at low in
    let more : AllZip (IsHandOf g.J.Job {G = g.row.G.Denot} given) (take (suc at) given) (hands ++ c.start.result ∷ [])
    = zip_more (IsHandOf g.J.Job {G = g.row.G.Denot} given) given at hands here.0 c.start.result was.2 here.1 (c.start.ensures here.0 here.1) in
    let grown = c.in-Ok.ensures.len in let room = c.in-Ok.ensures.capacity in
    (omega arith, omega arith, rw add-one (subst (λ ys. AllZip (IsHandOf g.J.Job {G = g.row.G.Denot} given) (take (suc at) given) ys) (sym c.in-Ok.ensures.items) more))
