use Rattle.std.proofs.Common.{◌≡◌, drop, map}
use Rattle.c_tree.specs.View.{formal_of}
use Rattle.c_locals.specs.Addresses.{after_formals}
use Rattle.c_numbers.specs.NumberTables.{numbered_of}
use Rattle.c_locals.proofs.addresses.number_formals.Given as goal

abbrev pub invariant-loop-param : goal.invariant-loop-param
invariant-loop-param l = after_formals (numbered_of l.table) (map formal_of (drop l.param-index l.params)) ≡ after_formals (numbered_of l.fn.table) (map formal_of l.fn.params)
