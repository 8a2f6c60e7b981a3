use Rattle.std.proofs.Common.{◌≡◌, drop, map}
use Rattle.c_tree.specs.Tree.{listed}
use Rattle.c_tree.specs.View.{exp_of}
use Rattle.c_locals.specs.Roots.{with_all_starts}
use Rattle.c_names.specs.Table.{texts_of}
use Rattle.c_locals.proofs.roots.+with_starts.Given as goal

-- what is put and the rest make the whole
abbrev pub invariant-put_all_starts-loop-e : goal.invariant-put_all_starts-loop-e
invariant-put_all_starts-loop-e l = with_all_starts (texts_of l.names.keys) (listed (map exp_of (drop l.e-index l.es))) ≡ with_all_starts (texts_of l.fn.names.keys) (listed (map exp_of l.fn.es))
