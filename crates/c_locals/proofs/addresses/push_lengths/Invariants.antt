use Rattle.std.proofs.Common.{◌≡◌, ◌++◌, drop, map}
use Rattle.c_tree.specs.View.{exp_of}
use Rattle.c_locals.specs.Addresses.{lengths_addressed}
use Rattle.c_numbers.specs.NumberTables.{numbered_of}
use Rattle.c_locals.proofs.addresses.push_lengths.Given as goal

-- what is pushed and the rest make the whole
abbrev pub invariant-loop-length : goal.invariant-loop-length
invariant-loop-length l = l.out ++ lengths_addressed (numbered_of l.table) (map exp_of (drop l.length-index l.lengths)) ≡ l.fn.out ++ lengths_addressed (numbered_of l.fn.table) (map exp_of l.fn.lengths)
