use Rattle.std.proofs.Common.{◌≡◌, ◌+◌, ◌++◌, ◌∷◌, [], subst, sym, suc, length, take, drop, vec_len, arith}
use Rattle.std.specs.List.{AllZip}
use Rattle.std.specs.Vec.Iter.{into_iter_items}
use Rattle.std.proofs.lemmas.Slice.Zip.{AllZip-long}
use Rattle.crew.specs.Turns.{Finished}
use Rattle.crew.specs.Hands.{IsReady, IsReadyHandOf}
use Rattle.crew.proofs.Zips.{zip_begin, zip_next, zip_more}
use Rattle.crew.proofs.hands.join_all.Goals as goal

pub loop-hand-init : goal.loop-hand-init
loop-hand-init g c =
    let given = g.G.Given.given in let began = c.into_iter-hand-iterator.ensures.into_iter_gives in
    let Kept = IsReadyHandOf g.J.Job {G = g.row.G.Denot} given in
    let none : length c.args.back.items ≡ 0 = let len = c.args.back.ok.0 in let none = c.requires.none in omega arith in
    let all : AllZip Kept given (into_iter_items c.into_iter-hand-iterator.result) = subst (λ ys. AllZip Kept given ys) (sym began.0) c.requires.hands in
    let zips = zip_begin (Finished g.J.Job) Kept given (into_iter_items c.into_iter-hand-iterator.result) c.args.back.items (vec_len c.args.back) c.requires.none none all in
    let long = AllZip-long Kept given c.args.hands.items c.requires.hands in
    let len = c.args.hands.ok.0 in let count = began.1 in let empty = c.requires.none in
    (tt, tt, omega arith, c.requires.room, zips.0, zips.1)

pub join-requires : goal.join-requires
join-requires g c =
    let given = g.G.Given.given in let n = vec_len c.loop-hand.back in let hand = c.in-Some.hand in let rest = into_iter_items c.next.new.self in
    let Kept = IsReadyHandOf g.J.Job {G = g.row.G.Denot} given in
    let next = zip_next Kept given n hand rest (subst (λ ys. AllZip Kept (drop n given) ys) c.in-Some.ensures.steps.0 c.loop-hand.invariant.5) in
    next.2.1

pub loop-hand-preserved : goal.loop-hand-preserved
loop-hand-preserved g c =
    let given = g.G.Given.given in let n = vec_len c.loop-hand.back in let hand = c.in-Some.hand in let rest = into_iter_items c.next.new.self in
    let Kept = IsReadyHandOf g.J.Job {G = g.row.G.Denot} given in let was = c.loop-hand.invariant in let steps = c.in-Some.ensures.steps in
    let next = zip_next Kept given n hand rest (subst (λ ys. AllZip Kept (drop n given) ys) steps.0 was.5) in
    let back = c.loop-hand.back.items in let job = c.join.result in
    let more : AllZip (Finished g.J.Job) (take (suc n) given) (back ++ job ∷ []) = zip_more (Finished g.J.Job) given n back next.0 job was.4 next.1 (c.join.ensures next.0 next.2.0) in
    let grown = c.in-Ok.ensures.len in let room = c.in-Ok.ensures.capacity in let fewer = steps.1 in let count = was.2 in let fits = was.3 in
    let long : suc n ≡ vec_len c.push.new.self = omega arith in (
      tt,
      tt,
      omega arith,
      omega arith,
      subst (λ k. AllZip (Finished g.J.Job) (take k given) c.push.new.self.items) long
          (subst (λ ys. AllZip (Finished g.J.Job) (take (suc n) given) ys) (sym c.in-Ok.ensures.items) more),
      subst (λ k. AllZip Kept (drop k given) rest) long next.3,
    )
