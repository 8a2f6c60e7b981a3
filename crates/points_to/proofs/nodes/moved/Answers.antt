use Rattle.std.proofs.Common.{◌≡◌, ◌∙◌, ap, rules, to_z, of_z, w64, pos, ◌*ℤ◌}
use Rattle.word_semantics.specs.Pointers.{directed}
use Rattle.std.specs.Int.{w128}
use Rattle.rr_base.specs.declared.layout.Place.{Place}
use Rattle.facts.specs.PointsTo.{class_on}
use Rattle.points_to.proofs.Places.{moved_is}
use Rattle.points_to.proofs.nodes.moved.Goals as goal

pub returns : goal.returns
returns c =
    let e : to_z w128 (of_z w128 c.cells_in-cells.result) ≡ c.cells_in-cells.result = search rules in
    let e2 : to_z w64 (of_z w64 c.args.by) ≡ c.args.by = search rules in
    c.number_of.ensures ∙ moved_is c.args.sites.now c.args.number c.place_at-place.result.site c.place_at-place.result.class c.class_on-class.result c.element_of.result _ _ (ap (λ (p : Place). p.site) c.place_at-place.ensures) (ap (λ (p : Place). p.class) c.place_at-place.ensures) c.element_of.ensures (c.cells_in-cells.ensures.value ∙ ap (λ b. directed c.args.back b *ℤ pos c.args.element) e2) (c.class_on-class.ensures.value ∙ ap (class_on c.element_of.result c.place_at-place.result.class) e)
