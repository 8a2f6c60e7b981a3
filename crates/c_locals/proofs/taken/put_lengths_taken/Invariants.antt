use Rattle.std.proofs.Common.{◌≡◌, drop, map}
use Rattle.c_tree.specs.View.{exp_of}
use Rattle.c_names.specs.Table.{texts_of}
use Rattle.c_numbers.specs.NumberTables.{numbered_of}
use Rattle.c_locals.specs.Taken.{with_lengths_taken}
use Rattle.c_locals.proofs.taken.put_lengths_taken.Given as goal

-- what is put and the rest make the whole
abbrev pub invariant-loop-length : goal.invariant-loop-length
invariant-loop-length l = with_lengths_taken (numbered_of l.table) (texts_of l.names.keys) (map exp_of (drop l.length-index l.lengths)) ≡ with_lengths_taken (numbered_of l.fn.table) (texts_of l.fn.names.keys) (map exp_of l.fn.lengths)
