use Rattle.std.proofs.Common.{◌≡◌, ◌++◌, drop, map}
use Rattle.core_tree.specs.View.{exp_of}
use Rattle.call_targets.specs.Resolved.{formals_from}
use Rattle.call_targets.proofs.choosers.formals.Given as goal

-- what is pushed and the rest make the whole
abbrev pub invariant-loop-kind : goal.invariant-loop-kind
invariant-loop-kind l = map exp_of l.arguments ++ formals_from l.number (drop l.kind-index l.kinds) l.at ≡ formals_from 1 l.fn.kinds l.fn.at
