use Rattle.std.proofs.Common.{◌≡◌, drop, map}
use Rattle.c_tree.specs.View.{exp_of}
use Rattle.c_types.specs.Found.{first_among}
use Rattle.c_programs.specs.Declarators.{lengths_faults}
use Rattle.c_programs.proofs.declarators.note_lengths.Given as goal

-- what was noted and the rest make the whole
abbrev pub invariant-loop-length : goal.invariant-loop-length
invariant-loop-length g l = first_among l.first (lengths_faults (g.N.Names.known l.names) l.at (map exp_of (drop l.length-index l.lengths))) ≡ first_among l.fn.first (lengths_faults (g.N.Names.known l.fn.names) l.fn.at (map exp_of l.fn.lengths))
