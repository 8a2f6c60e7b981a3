use Rattle.std.proofs.Common.{◌≡◌, arith, ap, ◌∙◌, sym, subst, get_or}
use Rattle.std.proofs.lemmas.Option.{same_Some}
use Rattle.race_pairs.specs.declared.touch.Group.{Group}
use Rattle.race_pairs.specs.Races.{ArePaired}
use Rattle.race_pairs.proofs.Elements.{gets_at, held}
use Rattle.race_pairs.proofs.Pairing.{from_more, from_all, from_closed, places_differ, places_same, same_at}
use Rattle.race_pairs.proofs.race.add_from.Goals as goal

pub returns-then-ne : goal.returns-then-ne
returns-then-ne c =
    let gs = c.args.groups.now in
    let g = c.index-groups-from.result in
    let u = c.index-groups-other.result in
    from_closed gs c.args.from c.loop-other.other g u c.args.found.now.items c.loop-other.found.items c.requires.places (gets_at gs c.args.from g (omega arith) c.index-groups-from.is) (gets_at gs c.loop-other.other u (omega arith) c.index-groups-other.is) (omega arith)
    (λ e. places_differ (get_or gs c.loop-other.other u).place (get_or gs c.args.from g).place c.ne.result c.ne.ensures c.if-ne.true (ap (λ (z : Group). z.place) (sym c.index-groups-other.is) ∙ e ∙ ap (λ (z : Group). z.place) c.index-groups-from.is))
    c.loop-other.invariant.0

pub add_racing-requires-clause-locks : goal.add_racing-requires-clause-locks
add_racing-requires-clause-locks c = let v = c.index-groups-other-in-loop-other.result in c.requires.locks v (held c.args.groups.now c.loop-other.other v (gets_at c.args.groups.now c.loop-other.other v (omega arith) c.index-groups-other-in-loop-other.is))

pub loop-other-preserved : goal.loop-other-preserved
loop-other-preserved c =
    let gs = c.args.groups.now in
    let g = c.index-groups-from.result in
    let u = c.index-groups-other.result in
    let h = c.index-groups-from-in-loop-other.result in
    let v = c.index-groups-other-in-loop-other.result in (
      from_more gs c.args.from c.loop-other.other h v c.args.found.now.items c.loop-other.found.items c.add_racing.new.found.items
          (gets_at gs c.args.from h (omega arith) c.index-groups-from-in-loop-other.is)
          (gets_at gs c.loop-other.other v (omega arith) c.index-groups-other-in-loop-other.is)
          (omega arith)
          (ap (λ (z : Group). z.place) (same_at gs c.loop-other.other v u (omega arith) c.index-groups-other-in-loop-other.is c.index-groups-other.is ∙ c.index-groups-other.is)
          ∙ places_same (get_or gs c.loop-other.other u).place (get_or gs c.args.from g).place c.ne.result c.ne.ensures c.if-ne.false
          ∙ ap (λ (z : Group). z.place) (sym c.index-groups-from.is ∙ same_at gs c.args.from g h (omega arith) c.index-groups-from.is c.index-groups-from-in-loop-other.is))
          c.loop-other.invariant.0
          c.in_ok-paired.ensures.pairs,
      λ f e. let s : f ≡ h = same_Some f h (sym e ∙ gets_at gs c.args.from h (omega arith) c.index-groups-from-in-loop-other.is) in subst (λ (z : Group). ArePaired z c.in_ok-paired.paired.now c.add_racing.new.found.items) (sym s) c.in_ok-paired.ensures.paired,
    )

pub returns : goal.returns
returns c = from_all c.args.groups.now c.args.from c.loop-other.other c.args.found.now.items c.loop-other.found.items (omega arith) c.loop-other.invariant.0
