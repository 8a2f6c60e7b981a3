use Rattle.std.proofs.Common.{◌≡◌, ◌++◌, drop, map}
use Rattle.c_tree.specs.View.{outer_of, program_of}
use Rattle.c_locals.specs.Addresses.{outers_addressed, program_addressed}
use Rattle.c_locals.proofs.addresses.push_program.Given as goal

-- what is pushed and the rest make the whole
abbrev pub invariant-loop-external : goal.invariant-loop-external
invariant-loop-external l = l.out ++ outers_addressed l.next (map outer_of (drop l.external-index l.program.externals)) ≡ l.fn.out ++ program_addressed (program_of l.program)
