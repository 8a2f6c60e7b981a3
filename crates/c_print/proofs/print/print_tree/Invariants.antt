use Rattle.std.proofs.Common.{◌≡◌, ◌++◌, drop, map}
use Rattle.c_tree.specs.View.{outer_of, program_of}
use Rattle.c_print.specs.Kinds.{kinds_of}
use Rattle.c_print.proofs.print.print_tree.Given as goal

-- what is printed and the rest make the whole
abbrev pub invariant-loop-external : goal.invariant-loop-external
invariant-loop-external l = l.out ++ kinds_of (map outer_of (drop l.external-index l.program.externals)) ≡ kinds_of (program_of l.program)
