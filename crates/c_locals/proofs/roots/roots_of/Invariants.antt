use Rattle.std.proofs.Common.{◌≡◌, drop, map}
use Rattle.c_tree.specs.View.{outer_of, program_of}
use Rattle.c_locals.specs.Roots.{with_outers_starts, program_starts}
use Rattle.c_names.specs.Table.{texts_of}
use Rattle.c_locals.proofs.roots.roots_of.Given as goal

-- what is put and the rest make the whole
abbrev pub invariant-loop-external : goal.invariant-loop-external
invariant-loop-external l = with_outers_starts (texts_of l.names.keys) (map outer_of (drop l.external-index l.program.externals)) ≡ program_starts (program_of l.program)
