use Rattle.std.proofs.Common.{sym, subst, List}
use Rattle.race_pairs.specs.declared.touch.Touch.{Touch}
use Rattle.race_pairs.specs.declared.touch.Group.{Group}
use Rattle.race_pairs.specs.Groups.{AreSorted, HasPlacesInOrder, HasLocksInOrder}
use Rattle.race_pairs.proofs.Racing.{are_pairs}
use Rattle.race_pairs.proofs.race.pairs.Goals as goal

pub groups-requires : goal.groups-requires
groups-requires c = subst (λ (ws : List Touch). AreSorted ws) (sym c.deref.ensures.value) c.in_ok-put_in_order.ensures.sorted

pub pairs_of-requires-clause-places : goal.pairs_of-requires-clause-places
pairs_of-requires-clause-places c = subst (λ (gs : List Group). HasPlacesInOrder gs) (sym c.deref-2.ensures.value) c.in_ok-grouped.ensures.places

pub pairs_of-requires-clause-locks : goal.pairs_of-requires-clause-locks
pairs_of-requires-clause-locks c = subst (λ (gs : List Group). HasLocksInOrder gs) (sym c.deref-2.ensures.value) c.in_ok-grouped.ensures.locks

pub returns : goal.returns
returns c = are_pairs c.args.code.now c.args.points.now c.args.summaries.now c.as_slice-known.result.now c.as_slice-known.result.now c.in_ok-all.all.items c.put_in_order.new.touches.items c.deref.result.now c.in_ok-grouped.grouped.items c.deref-2.result.now c.in_ok-found.found.items c.each_once.result c.as_slice-known.ensures c.as_slice-known.ensures c.deref.ensures.value c.deref-2.ensures.value c.in_ok-all.ensures c.in_ok-put_in_order.ensures.same c.in_ok-grouped.ensures c.in_ok-found.ensures c.each_once.ensures.ascending c.each_once.ensures.same
