use Rattle.std.proofs.Common.{◌≡◌, ◌++◌, drop, map}
use Rattle.core_tree.specs.View.{stmt_of, pointer_of}
use Rattle.call_targets.specs.Resolved.{choice}
use Rattle.call_targets.proofs.choosers.push_choices.Given as goal

-- what is pushed and the rest make the whole
abbrev pub invariant-loop-target : goal.invariant-loop-target
invariant-loop-target l = map stmt_of l.choices ++ map (choice (pointer_of l.pointer)) (drop l.target-index l.targets) ≡ map stmt_of l.fn.choices ++ map (choice (pointer_of l.fn.pointer)) l.fn.targets
