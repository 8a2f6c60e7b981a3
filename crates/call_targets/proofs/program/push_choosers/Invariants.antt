use Rattle.std.proofs.Common.{◌≡◌, ◌++◌, drop, map}
use Rattle.core_tree.specs.View.{function_of, pointer_of}
use Rattle.call_targets.specs.Resolved.{choosers}
use Rattle.call_targets.proofs.program.push_choosers.Given as goal

-- what is pushed and the rest make the whole
abbrev pub invariant-loop-pointer : goal.invariant-loop-pointer
invariant-loop-pointer l = map function_of l.functions ++ choosers l.number (map pointer_of (drop l.pointer-index l.pointers)) ≡ map function_of l.fn.functions ++ choosers 1 (map pointer_of l.fn.pointers)
