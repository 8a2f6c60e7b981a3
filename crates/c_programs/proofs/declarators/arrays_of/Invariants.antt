use Rattle.std.proofs.Common.{◌≡◌, drop, map}
use Rattle.c_tree.specs.View.{exp_of}
use Rattle.c_rules.specs.Sizes.{length_of}
use Rattle.c_programs.specs.Declarators.{with_arrays, arrays_of}
use Rattle.c_programs.proofs.declarators.arrays_of.Given as goal

-- what is laid and the rest make the whole
abbrev pub invariant-loop-length : goal.invariant-loop-length
invariant-loop-length g l = with_arrays l.layers (map (length_of (g.N.Names.known l.names)) (map exp_of (drop l.length-index l.lengths))) ≡ arrays_of (g.N.Names.known l.fn.names) (map exp_of l.fn.lengths)
