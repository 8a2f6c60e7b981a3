use Rattle.std.proofs.Common.{◌∙◌, ap, subst, sym, pos, ◌*ℤ◌, ◌≤◌, ◌^◌, w64}
use Rattle.std.specs.Prelude.{unsigned_abs}
use Rattle.std.proofs.lemmas.Int.{to_z-of_z}
use Rattle.word_semantics.specs.Pointers.{directed}
use Rattle.points_to.proofs.Products.{product_fits, product_is, product_small}
use Rattle.points_to.proofs.nodes.cells_in.Goals as goal

pub overflow_mul-result : goal.overflow_mul-result
overflow_mul-result c = product_fits c.directed.result c.from.result c.args.element c.directed.ensures.small c.from.ensures c.ranges.element.fits

pub returns-clause-value : goal.returns-clause-value
returns-clause-value c = product_is c.directed.result c.from.result c.args.element c.directed.ensures.small c.from.ensures c.ranges.element.fits ∙ ap (λ z. z *ℤ pos c.args.element) (c.directed.ensures.value ∙ ap (directed c.args.back) (to_z-of_z w64 c.args.by c.ranges.by))

pub returns-clause-small : goal.returns-clause-small
returns-clause-small c = subst (λ z. unsigned_abs z ≤ 2 ^ 96) (sym (product_is c.directed.result c.from.result c.args.element c.directed.ensures.small c.from.ensures c.ranges.element.fits)) (product_small c.directed.result c.args.element c.directed.ensures.small c.ranges.element.fits)
