use Rattle.std.proofs.Common.{◌≡◌, drop, map}
use Rattle.c_tree.specs.View.{outer_of, program_of}
use Rattle.c_names.specs.Table.{texts_of}
use Rattle.c_locals.specs.Taken.{with_outers_taken, program_taken}
use Rattle.c_locals.proofs.taken.taken_in.Given as goal

-- what is put and the rest make the whole
abbrev pub invariant-loop-external : goal.invariant-loop-external
invariant-loop-external l = with_outers_taken (texts_of l.names.keys) (map outer_of (drop l.external-index l.program.externals)) ≡ program_taken (program_of l.program)
