use Rattle.std.proofs.Common.{◌≡◌, ◌<◌, ◌+◌, ◌∷◌, List, true, false, get_or, drop, length, sym, ap, ◌∙◌, subst, arith}
use Rattle.std.specs.Prelude.{if◌then◌else◌}
use Rattle.std.specs.List.{filter}
use Rattle.std.proofs.lemmas.List.{drop_more}
use Rattle.sync_objects.specs.declared.mode.Mode.TheVariants.{Read}
use Rattle.facts.specs.declared.locks.Held.{Held}
use Rattle.facts.specs.declared.locks.LockPath.TheVariants.{Cell}
use Rattle.facts.specs.Locks.{held_less, held_same, has_held, held_ascend, held_as}
use Rattle.facts.proofs.TotalOrders.{orders_held}
use Rattle.lockset_flow.proofs.Walking.{Walked, ascending_drop, walked_here, walked_on, kept_on}
use Rattle.lockset_flow.proofs.meeting.kept_in_order.Goals.{then-begins_with+in_ok-push, else-begins_with}
use Rattle.lockset_flow.proofs.meeting.kept_in_order.Goals as goal

pub loop-held-preserved : goal.loop-held-preserved
loop-held-preserved c =
    let plus = c.args.plus.now in
    let others = c.args.others.now in
    let i = c.loop-held.held-index in
    let p = get_or plus i (held_as Read (Cell 0)) in
    let ps = drop (i + 1) plus in
    let rest = c.loop-held.rest.now in
    let next = c.from-rest.result.now in
    let lt : i < length plus = omega arith in
    let split : drop i plus ≡ p ∷ ps = drop_more plus i (held_as Read (Cell 0)) lt in
    let up : held_ascend (p ∷ ps) ≡ true = ap held_ascend (sym split) ∙ ascending_drop held_less held_same orders_held plus i c.requires.plus in
    let was : Walked held_less held_same orders_held (p ∷ ps) rest others = subst (λ (z : List Held). Walked held_less held_same orders_held z rest others) split c.loop-held.invariant.walked in
    let here : has_held p others ≡ c.begins_with.result = sym (c.begins_with.ensures ∙ walked_here held_less held_same orders_held p ps rest others next c.requires.others was c.from-rest.ensures) in
    let so_far = c.loop-held.invariant.so_far in
    record {
      so_far = elim c.if-begins_with.branch [
        | then-begins_with+in_ok-push w ↦ kept_on (λ q. has_held q others) p ps c.loop-held.kept c.if-begins_with.kept (drop i plus) (filter (λ q. has_held q others) plus) true split (here ∙ w.if-begins_with.true) (w.kept-is ∙ w.in_ok-push.ensures.ok) so_far
        | else-begins_with w ↦ kept_on (λ q. has_held q others) p ps c.loop-held.kept c.if-begins_with.kept (drop i plus) (filter (λ q. has_held q others) plus) false split (here ∙ w.if-begins_with.false) w.kept-is so_far
      ];
      walked = walked_on held_less held_same orders_held p ps rest others next up was c.from-rest.ensures;
    }
