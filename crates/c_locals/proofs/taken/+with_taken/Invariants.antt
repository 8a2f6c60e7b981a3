use Rattle.std.proofs.Common.{◌≡◌, drop, map}
use Rattle.c_tree.specs.Tree.{listed}
use Rattle.c_tree.specs.View.{exp_of}
use Rattle.c_names.specs.Table.{texts_of}
use Rattle.c_numbers.specs.NumberTables.{numbered_of}
use Rattle.c_locals.specs.Taken.{with_all_taken, with_create_taken}
use Rattle.c_locals.proofs.taken.+with_taken.Given as goal

-- what is put and the rest make the whole
abbrev pub invariant-put_all_taken-loop-e : goal.invariant-put_all_taken-loop-e
invariant-put_all_taken-loop-e l = with_all_taken (numbered_of l.table) (texts_of l.names.keys) (listed (map exp_of (drop l.e-index l.es))) ≡ with_all_taken (numbered_of l.fn.table) (texts_of l.fn.names.keys) (listed (map exp_of l.fn.es))

-- what is put and the rest make the whole
abbrev pub invariant-put_create_taken-loop-place : goal.invariant-put_create_taken-loop-place
invariant-put_create_taken-loop-place l = with_create_taken (numbered_of l.table) (texts_of l.names.keys) l.place (listed (map exp_of (drop l.place l.arguments))) ≡ with_create_taken (numbered_of l.fn.table) (texts_of l.fn.names.keys) 0 (listed (map exp_of l.fn.arguments))
