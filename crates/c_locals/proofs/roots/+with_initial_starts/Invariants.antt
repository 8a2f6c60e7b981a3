use Rattle.std.proofs.Common.{◌≡◌, drop, map}
use Rattle.c_tree.specs.Tree.{listed_inits}
use Rattle.c_tree.specs.View.{init_of}
use Rattle.c_locals.specs.Roots.{with_initials_starts}
use Rattle.c_names.specs.Table.{texts_of}
use Rattle.c_locals.proofs.roots.+with_initial_starts.Given as goal

-- what is put and the rest make the whole
abbrev pub invariant-put_initials_starts-loop-initial : goal.invariant-put_initials_starts-loop-initial
invariant-put_initials_starts-loop-initial l = with_initials_starts (texts_of l.names.keys) (listed_inits (map init_of (drop l.initial-index l.initials))) ≡ with_initials_starts (texts_of l.fn.names.keys) (listed_inits (map init_of l.fn.initials))
