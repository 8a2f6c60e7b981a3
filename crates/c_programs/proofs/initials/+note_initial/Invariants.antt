use Rattle.std.proofs.Common.{◌≡◌, drop, map}
use Rattle.c_tree.specs.Tree.{listed_inits}
use Rattle.c_tree.specs.View.{init_of}
use Rattle.c_types.specs.Found.{first_among}
use Rattle.c_types.specs.Shown.{shown_maybe}
use Rattle.c_programs.specs.Initials.{inits_faults}
use Rattle.c_programs.proofs.initials.+note_initial.Given as goal

-- what was noted and the rest make the whole
abbrev pub invariant-note_parts-loop-index : goal.invariant-note_parts-loop-index
invariant-note_parts-loop-index g l =
    first_among l.first (inits_faults (g.N.Names.known l.names) l.is_global (shown_maybe l.of) l.index l.at (listed_inits (map init_of (drop l.index l.parts))))
    ≡ first_among l.fn.first (inits_faults (g.N.Names.known l.fn.names) l.fn.is_global (shown_maybe l.fn.of) 0 l.fn.at (listed_inits (map init_of l.fn.parts)))
