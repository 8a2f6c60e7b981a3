use Rattle.std.proofs.Common.{List, [], ◌∷◌, ◌++◌, length, length-append, ap, arith, ◌∙◌}
use Rattle.std.specs.Prelude.{slice_index_or}
use Rattle.weaken.proofs.Nexts.{empty_next}
use Rattle.weaken.proofs.grouping.empty_groups.Goals as goal

pub loop-at-preserved : goal.loop-at-preserved
loop-at-preserved g c = record {
  long = omega (arith, ap (λ (z : List (List g.row.T.Denot)). length z) c.in_ok-push.ensures.items, length-append c.loop-at.groups.items (c.new.result ∷ []), c.loop-at.invariant.long);
  each = λ k. ap (λ (z : List (List g.row.T.Denot)). slice_index_or z k []) (c.in_ok-push.ensures.items ∙ ap (λ (z : List g.row.T.Denot). c.loop-at.groups.items ++ z ∷ []) c.new.ensures) ∙ empty_next c.loop-at.groups.items c.loop-at.invariant.each k;
}
