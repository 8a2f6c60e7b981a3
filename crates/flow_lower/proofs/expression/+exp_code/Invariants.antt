use Rattle.std.proofs.Common.{◌≡◌, ◌+◌, ◌++◌, length, drop, map}
use Rattle.core_tree.specs.Core.{listed}
use Rattle.core_tree.specs.View.{exp_of}
use Rattle.lowering_parts.specs.Kept.{all_kept}
use Rattle.flow_lower.specs.Lowered.{exps_kinds, exps_size, exps_code, value_registers}
use Rattle.flow_lower.proofs.expression.+exp_code.Given as goal

-- what is done and the rest make the whole
abbrev pub invariant-push_values-loop-index : goal.invariant-push_values-loop-index
invariant-push_values-loop-index l = record {
  register : l.following.register + length (exps_kinds (all_kept l.at (listed (map exp_of (drop l.index l.es))))) ≡ l.fn.from.register + 1 + length (exps_kinds (all_kept l.fn.at (listed (map exp_of l.fn.es))));
  place : l.following.place + exps_size (all_kept l.at (listed (map exp_of (drop l.index l.es)))) ≡ l.fn.from.place + exps_size (all_kept l.fn.at (listed (map exp_of l.fn.es)));
  registers : l.registers ++ value_registers l.first l.following.register (all_kept l.at (listed (map exp_of (drop l.index l.es)))) ≡ value_registers l.fn.first (l.fn.from.register + 1) (all_kept l.fn.at (listed (map exp_of l.fn.es)));
  out : l.out ++ exps_code l.first (all_kept l.at (listed (map exp_of (drop l.index l.es)))) l.following.register l.following.place ≡ l.fn.out ++ exps_code l.fn.first (all_kept l.fn.at (listed (map exp_of l.fn.es))) (l.fn.from.register + 1) l.fn.from.place;
}
