use Rattle.std.proofs.Common.{◌≡◌, drop, map}
use Rattle.c_tree.specs.View.{formal_of}
use Rattle.c_locals.specs.Addresses.{after_formals}
use Rattle.c_programs.specs.Declarators.{after_params}
use Rattle.c_numbers.specs.NumberTables.{numbered_of}
use Rattle.c_names.specs.Table.{known_of}
use Rattle.c_frames.proofs.frames.pass_formals.Given as goal

-- what is passed and the rest make the whole
abbrev pub invariant-loop-param : goal.invariant-loop-param
invariant-loop-param l = record {
  known : after_params (known_of l.table) (map formal_of (drop l.param-index l.params)) ≡ after_params (known_of l.fn.table) (map formal_of l.fn.params);
  numbers : after_formals (numbered_of l.numbers) (map formal_of (drop l.param-index l.params)) ≡ after_formals (numbered_of l.fn.numbers) (map formal_of l.fn.params);
}
