use Rattle.std.proofs.Common.{arith, ap, sym, ◌∙◌, ℕ, List, length, [], ◌∷◌, get_or, length-append}
use Rattle.weak_code.specs.Places as spec
use Rattle.weaken.proofs.Lengths.{place_zero, place_in, pushed}
use Rattle.weaken.proofs.places.places.Goals as goal

pub loop-at-init : goal.loop-at-init
loop-at-init c = record {
  long = ap (λ (z : List ℕ). length z) c.new-places.ensures.items;
  place = sym (place_zero c.args._stretches.now 0 c.args._instrs.now);
  each = λ k lt. absurd (omega (arith, lt));
}

pub loop-at-preserved : goal.loop-at-preserved
loop-at-preserved c = record {
  long = omega (arith, ap (λ (z : List ℕ). length z) c.in_ok-push.ensures.items, length-append c.loop-at.places.items (c.loop-at.place ∷ []), c.loop-at.invariant.long);
  place = place_in c.args._stretches.now c.args._instrs.now c.args.ends.now c.args.begins.now c.args.left.now c.loop-at.at c.loop-at.place c.in_ok-next.next c.len.result c.len-in-loop-at.result c.len-in-loop-at-2.result c.index-ends-at.result c.index-begins-at.result c.index-left-at.result (omega arith) c.requires.ends_long c.requires.begins_long c.requires.left_long (c.requires.ends c.loop-at.at (omega arith)) (c.requires.begins c.loop-at.at (omega arith)) (c.requires.left c.loop-at.at) c.index-ends-at.is c.index-begins-at.is c.index-left-at.is c.len.ensures c.len-in-loop-at.ensures c.len-in-loop-at-2.ensures c.loop-at.invariant.place c.in_ok-next.ensures;
  each = λ k lt. ap (λ (z : List ℕ). get_or z k 0) c.in_ok-push.ensures.items ∙ pushed c.loop-at.places.items c.loop-at.place (spec.place_of c.args._stretches.now c.args._instrs.now) c.loop-at.at k c.loop-at.invariant.long c.loop-at.invariant.each c.loop-at.invariant.place lt;
}
