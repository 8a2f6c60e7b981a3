use Rattle.std.proofs.Common.{◌≡◌, ◌++◌, drop, map}
use Rattle.c_tree.specs.View.{object_of, declares_of}
use Rattle.c_frames.specs.Locals.{local_of, declares_locals}
use Rattle.c_frames.proofs.local.push_declares_locals.Given as goal

-- what is pushed and the rest make the whole
abbrev pub invariant-loop-item : goal.invariant-loop-item
invariant-loop-item l =
    l.out ++ map (local_of l.declaration.specifier) (map object_of (drop l.item-index l.declaration.items))
    ≡ l.fn.out ++ declares_locals (declares_of l.fn.declaration)
