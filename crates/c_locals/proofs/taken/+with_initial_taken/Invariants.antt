use Rattle.std.proofs.Common.{◌≡◌, drop, map}
use Rattle.c_tree.specs.Tree.{listed_inits}
use Rattle.c_tree.specs.View.{init_of}
use Rattle.c_names.specs.Table.{texts_of}
use Rattle.c_numbers.specs.NumberTables.{numbered_of}
use Rattle.c_locals.specs.Taken.{with_initials_taken}
use Rattle.c_locals.proofs.taken.+with_initial_taken.Given as goal

-- what is put and the rest make the whole
abbrev pub invariant-put_initials_taken-loop-initial : goal.invariant-put_initials_taken-loop-initial
invariant-put_initials_taken-loop-initial l = with_initials_taken (numbered_of l.table) (texts_of l.names.keys) (listed_inits (map init_of (drop l.initial-index l.initials))) ≡ with_initials_taken (numbered_of l.fn.table) (texts_of l.fn.names.keys) (listed_inits (map init_of l.fn.initials))
