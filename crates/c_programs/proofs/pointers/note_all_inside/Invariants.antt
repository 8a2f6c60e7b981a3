use Rattle.std.proofs.Common.{◌≡◌, drop, map, []}
use Rattle.c_tree.specs.View.{formal_of}
use Rattle.c_types.specs.Found.{first_among}
use Rattle.c_names.specs.Table.{texts_of}
use Rattle.c_programs.specs.Declarators.{all_inside_faults}
use Rattle.c_programs.proofs.pointers.note_all_inside.Given as goal

-- what was noted and the rest make the whole
abbrev pub invariant-loop-p : goal.invariant-loop-p
invariant-loop-p g l =
    first_among l.first (all_inside_faults (g.N.Names.known l.known) (texts_of l.names.keys) (map formal_of (drop l.p-index l.params)))
    ≡ first_among l.fn.first (all_inside_faults (g.N.Names.known l.fn.known) [] (map formal_of l.fn.params))
