use Rattle.std.proofs.Common.{◌≡◌, drop, map}
use Rattle.c_tree.specs.View.{object_of}
use Rattle.c_locals.specs.Roots.{with_objects_starts}
use Rattle.c_names.specs.Table.{texts_of}
use Rattle.c_locals.proofs.roots.put_declares_starts.Given as goal

-- what is put and the rest make the whole
abbrev pub invariant-loop-item : goal.invariant-loop-item
invariant-loop-item l = with_objects_starts (texts_of l.names.keys) (map object_of (drop l.item-index l.declaration.items)) ≡ with_objects_starts (texts_of l.fn.names.keys) (map object_of l.fn.declaration.items)
