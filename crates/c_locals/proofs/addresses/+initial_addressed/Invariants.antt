use Rattle.std.proofs.Common.{◌≡◌, ◌++◌, drop, map}
use Rattle.c_tree.specs.Tree.{listed_inits}
use Rattle.c_tree.specs.View.{init_of}
use Rattle.c_locals.specs.Addresses.{initials_addressed}
use Rattle.c_numbers.specs.NumberTables.{numbered_of}
use Rattle.c_locals.proofs.addresses.+initial_addressed.Given as goal

-- what is pushed and the rest make the whole
abbrev pub invariant-push_initials-loop-initial : goal.invariant-push_initials-loop-initial
invariant-push_initials-loop-initial l = l.out ++ initials_addressed (numbered_of l.table) (listed_inits (map init_of (drop l.initial-index l.initials))) ≡ l.fn.out ++ initials_addressed (numbered_of l.fn.table) (listed_inits (map init_of l.fn.initials))
