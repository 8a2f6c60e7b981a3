use Rattle.std.proofs.Common.{◌≡◌, drop, map}
use Rattle.core_tree.specs.Core.{listed}
use Rattle.core_tree.specs.View.{exp_of}
use Rattle.lowering_parts.specs.Kept.{any_assigns}
use Rattle.lowering_parts.proofs.copies.+assigns.Given as goal

-- the rest decides
abbrev pub invariant-any_assigns-loop-e : goal.invariant-any_assigns-loop-e
invariant-any_assigns-loop-e l = any_assigns l.register (listed (map exp_of (drop l.e-index l.es))) ≡ any_assigns l.fn.register (listed (map exp_of l.fn.es))
