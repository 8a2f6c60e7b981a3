use Rattle.std.proofs.Common.{◌≡◌, ◌∙◌, ap, sym, subst, length, pos, ◌*ℤ◌, rules, to_z, of_z, w64, ◌≤◌, ◌/◌}
use Rattle.word_semantics.specs.Pointers.{directed}
use Rattle.facts.specs.PointsTo.{place_on, element_of}
use Rattle.points_to.specs.Nodes.{Has, place_from, number_of}
use Rattle.points_to.specs.Filling.{number_on, Adds}
use Rattle.points_to.proofs.Adding.{for_one, ok_map, read_in}
use Rattle.points_to.proofs.Places.{fine_number, on_place}
use Rattle.points_to.proofs.filling.shift_at.Goals as goal

pub moved-q-requires : goal.moved-q-requires
moved-q-requires c = subst (λ s. 1 ≤ element_of s (c.in-Some.p / 64)) (sym c.as_slice.ensures) (c.requires.there.elements (c.in-Some.p / 64))

pub put-requires-clause-fine : goal.put-requires-clause-fine
put-requires-clause-fine c f =
    let e : to_z w64 (of_z w64 c.args.step.by) ≡ c.args.step.by = search rules in
    let fine = f c.args.from c.in-Some.p c.requires.from.0 (read_in (length c.args.code.now.functions) c.args.sets.now c.args.from c.args.k c.in-Some.p (sym c.in-Some.ensures)) in
    fine_number c.args.code.now c.args.to c.moved-q.result (place_on c.args.code.now.sites (place_from c.in-Some.p) (directed c.args.step.back c.args.step.by *ℤ pos c.args.step.element)) (c.moved-q.ensures ∙ ap (λ s. number_of (place_on s (place_from c.in-Some.p) (directed c.args.step.back (to_z w64 (of_z w64 c.args.step.by)) *ℤ pos c.args.step.element))) c.as_slice.ensures ∙ ap (λ b. number_on c.args.code.now b c.args.step.element c.args.step.back c.in-Some.p) e) (on_place c.args.code.now.sites (place_from c.in-Some.p) (directed c.args.step.back c.args.step.by *ℤ pos c.args.step.element) c.requires.there.elements fine.0) (c.requires.gives c.in-Some.p fine)

pub returns-in-Some : goal.returns-in-Some
returns-in-Some c =
    let e : to_z w64 (of_z w64 c.args.step.by) ≡ c.args.step.by = search rules in
    ok_map c.put.result _ _ (λ a s. for_one c.args.code.now c.args.from c.args.k c.in-Some.p (λ p r. Has (length c.args.code.now.functions) r c.args.to (number_on c.args.code.now c.args.step.by c.args.step.element c.args.step.back p)) c.args.sets.now c.put.new.sets a (sym c.in-Some.ensures) (subst (λ q. Adds c.args.code.now (λ r. Has (length c.args.code.now.functions) r c.args.to q) c.args.sets.now c.put.new.sets a) (c.moved-q.ensures ∙ ap (λ s. number_of (place_on s (place_from c.in-Some.p) (directed c.args.step.back (to_z w64 (of_z w64 c.args.step.by)) *ℤ pos c.args.step.element))) c.as_slice.ensures ∙ ap (λ b. number_on c.args.code.now b c.args.step.element c.args.step.back c.in-Some.p) e) s)) c.put.ensures
