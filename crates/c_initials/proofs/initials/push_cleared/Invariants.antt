use Rattle.std.proofs.Common.{◌≡◌, ◌++◌, drop, map}
use Rattle.core_tree.specs.View.{stmt_of}
use Rattle.c_initials.specs.Initials.{cleared}
use Rattle.c_initials.proofs.initials.push_cleared.Given as goal

-- what is pushed and the rest make the whole
abbrev pub invariant-loop-kind : goal.invariant-loop-kind
invariant-loop-kind l = map stmt_of l.out ++ cleared l.object l.at l.next (drop l.kind-index l.kinds) ≡ map stmt_of l.fn.out ++ cleared l.fn.object l.fn.at l.fn.offset l.fn.kinds
