use Rattle.std.proofs.Common.{◌≡◌, ◌++◌, drop, map}
use Rattle.core_tree.specs.View.{function_of}
use Rattle.flow_lower.specs.Lowered.{function_code}
use Rattle.flow_lower.proofs.function.lower_functions.Given as goal

-- what is lowered and the rest make the whole
abbrev pub invariant-loop-function : goal.invariant-loop-function
invariant-loop-function l = l.lowered ++ map function_code (map function_of (drop l.function-index l.functions)) ≡ map function_code (map function_of l.fn.functions)
