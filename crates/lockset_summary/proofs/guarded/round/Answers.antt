use Rattle.std.proofs.Common.{ℕ, arith, List}
use Rattle.std.proofs.lemmas.Option.{slice_get_within}
use Rattle.facts.specs.declared.locks.Guarded.{Guarded}
use Rattle.lockset_summary.specs.Rounds.{ForEach, room}
use Rattle.lockset_summary.specs.Guarding.{AreAllMet, AreAllMetAt, AreMade}
use Rattle.lockset_summary.proofs.Rounds.{more, all_of, for_the, weaker}
use Rattle.lockset_summary.proofs.Visiting.{place_in}
use Rattle.lockset_summary.proofs.guarded.round.Goals as goal

pub loop-k-preserved : goal.loop-k-preserved
loop-k-preserved c = more (List (List Guarded)) (room Guarded) (AreMade c.args.code.now c.args.points.now) ℕ (λ r. c.args.order.now) (λ j f r. AreAllMetAt c.args.code.now c.args.points.now f r) c.loop-k.k c.args.rows.now.items c.loop-k.rows.items c.meet_all.new.rows.items c.loop-k.added c.in_ok-added.field-0 c.loop-k.invariant
    (for_the (List (List Guarded)) (room Guarded) (AreMade c.args.code.now c.args.points.now) ℕ (λ r. c.args.order.now) (λ j f r. AreAllMetAt c.args.code.now c.args.points.now f r) c.loop-k.k c.function_at-f.result c.loop-k.rows.items c.meet_all.new.rows.items c.in_ok-added.field-0 c.function_at-f.ensures.value c.in_ok-added.ensures)

pub returns : goal.returns
returns c = weaker (List (List Guarded)) (room Guarded) (AreMade c.args.code.now c.args.points.now) (ForEach (List (List Guarded)) ℕ (λ r. c.args.order.now) (λ j f r. AreAllMetAt c.args.code.now c.args.points.now f r)) (AreAllMet c.args.code.now c.args.points.now) c.args.rows.now.items c.loop-k.rows.items c.loop-k.added
    (λ m f j fn i x l at. let p = place_in c.args.order.now f (c.requires.order.each f (slice_get_within c.args.code.now.functions f fn at.function)) in m p.0 f p.1 j fn i x l at)
    (all_of (List (List Guarded)) (room Guarded) (AreMade c.args.code.now c.args.points.now) ℕ (λ r. c.args.order.now) (λ j f r. AreAllMetAt c.args.code.now c.args.points.now f r) c.loop-k.k c.args.rows.now.items c.loop-k.rows.items c.loop-k.added (omega (arith, c.loop-k-test.false)) c.loop-k.invariant)
