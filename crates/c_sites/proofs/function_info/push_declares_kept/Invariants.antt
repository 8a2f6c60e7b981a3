use Rattle.std.proofs.Common.{◌≡◌, ◌++◌, drop, map}
use Rattle.c_tree.specs.View.{object_of, declares_of}
use Rattle.c_sites.specs.Functions.{object_kept, declares_kept}
use Rattle.c_sites.proofs.function_info.push_declares_kept.Given as goal

-- what is pushed and the rest make the whole
abbrev pub invariant-loop-item : goal.invariant-loop-item
invariant-loop-item l =
    l.out ++ map (object_kept l.declaration.specifier) (map object_of (drop l.item-index l.declaration.items))
    ≡ l.fn.out ++ declares_kept (declares_of l.fn.declaration)
