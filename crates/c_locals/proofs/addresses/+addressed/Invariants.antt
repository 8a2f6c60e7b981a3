use Rattle.std.proofs.Common.{◌≡◌, ◌++◌, drop, map}
use Rattle.c_tree.specs.Tree.{listed}
use Rattle.c_tree.specs.View.{exp_of}
use Rattle.c_locals.specs.Addresses.{all_addressed}
use Rattle.c_numbers.specs.NumberTables.{numbered_of}
use Rattle.c_locals.proofs.addresses.+addressed.Given as goal

-- what is pushed and the rest make the whole
abbrev pub invariant-push_all_addressed-loop-e : goal.invariant-push_all_addressed-loop-e
invariant-push_all_addressed-loop-e l = l.out ++ all_addressed (numbered_of l.table) (listed (map exp_of (drop l.e-index l.es))) ≡ l.fn.out ++ all_addressed (numbered_of l.fn.table) (listed (map exp_of l.fn.es))
