use Rattle.std.proofs.Common.{◌≡◌, drop, map}
use Rattle.c_tree.specs.View.{declared_of}
use Rattle.c_names.specs.Table.{texts_of}
use Rattle.c_locals.specs.Taken.{with_members_taken}
use Rattle.c_locals.proofs.taken.put_members_taken.Given as goal

-- what is put and the rest make the whole
abbrev pub invariant-loop-declarator : goal.invariant-loop-declarator
invariant-loop-declarator l = with_members_taken (texts_of l.names.keys) (map declared_of (drop l.declarator-index l.declarators)) ≡ with_members_taken (texts_of l.fn.names.keys) (map declared_of l.fn.declarators)
