use Rattle.std.proofs.Common.{◌≡◌, ◌++◌, drop, map}
use Rattle.c_tree.specs.View.{formal_of}
use Rattle.c_locals.specs.Kept.{is_kept_formal}
use Rattle.c_sites.proofs.function_info.push_params_kept.Given as goal

-- what is pushed and the rest make the whole
abbrev pub invariant-loop-param : goal.invariant-loop-param
invariant-loop-param l = l.out ++ map is_kept_formal (map formal_of (drop l.param-index l.params)) ≡ l.fn.out ++ map is_kept_formal (map formal_of l.fn.params)
