use Rattle.std.proofs.Common.{arith, refl, ap}
use Rattle.weak_code.specs.WeakLocks as spec
use Rattle.facts.specs.Pairs.{place_same}
use Rattle.weaken.proofs.Nexts.{gets, any_next, take_all}
use Rattle.weaken.proofs.Striped.{mark_more, mark_start, mark_as}
use Rattle.weaken.proofs.stripes.mark_all.Goals as goal

pub loop-place-init : goal.loop-place-init
loop-place-init c = mark_start c.args.locked.now _ c.args.striped.now.items (λ q. refl)

pub loop-place-preserved : goal.loop-place-preserved
loop-place-preserved c = mark_more c.args.locked.now _ _ _ _ _ _ (λ q. any_next (λ p. place_same q p) c.args.places.now c.loop-place.place-index _ (gets c.args.places.now c.loop-place.place-index _ (omega arith))) c.loop-place.invariant c.mark.ensures

pub returns : goal.returns
returns c = mark_as c.args.locked.now _ _ _ _ (λ q. ap (spec.has_place q) (take_all c.args.places.now c.loop-place.place-index (omega arith))) c.loop-place.invariant
