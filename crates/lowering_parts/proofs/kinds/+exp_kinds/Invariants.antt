use Rattle.std.proofs.Common.{◌≡◌, ◌++◌, drop, map}
use Rattle.rr_base.specs.declared.position.Position.{Position}
use Rattle.core_tree.specs.Core.{listed}
use Rattle.core_tree.specs.View.{exp_of}
use Rattle.lowering_parts.specs.Kept.{all_kept}
use Rattle.lowering_parts.specs.Kinds.{exps_kinds}
use Rattle.lowering_parts.proofs.kinds.+exp_kinds.Given as goal

-- what is pushed and the rest make the whole
abbrev pub invariant-push_all_kinds-loop-index : goal.invariant-push_all_kinds-loop-index
invariant-push_all_kinds-loop-index l = (at : Position) → l.out ++ exps_kinds (all_kept at (listed (map exp_of (drop l.index l.es)))) ≡ l.fn.out ++ exps_kinds (all_kept at (listed (map exp_of l.fn.es)))
