use Rattle.std.proofs.Common.{◌≡◌, ◌+◌, drop, map}
use Rattle.rr_base.specs.declared.position.Position.{Position}
use Rattle.core_tree.specs.Core.{listed}
use Rattle.core_tree.specs.View.{exp_of}
use Rattle.lowering_parts.specs.Kept.{all_kept}
use Rattle.lowering_parts.specs.Sizes.{exps_size}
use Rattle.lowering_parts.proofs.sizes.+exp_size.Given as goal

-- what is counted and the rest make the whole
abbrev pub invariant-values_size-loop-index : goal.invariant-values_size-loop-index
invariant-values_size-loop-index l = (at : Position) → l.size + exps_size (all_kept at (listed (map exp_of (drop l.index l.es)))) ≡ exps_size (all_kept at (listed (map exp_of l.fn.es)))
