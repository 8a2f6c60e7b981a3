use Rattle.std.proofs.Common.{◌≡◌, drop, map}
use Rattle.c_tree.specs.View.{formal_of, formals_of}
use Rattle.c_names.specs.Sources.{listed_params}
use Rattle.c_names.specs.Pointers.{formals_with}
use Rattle.c_names.proofs.pointers.add_formals.Given as goal

-- the types so far, and those of the rest
abbrev pub invariant-loop-p : goal.invariant-loop-p
invariant-loop-p g l =
    formals_with (g.N.Names.known l.names) l.types (map formal_of (drop l.p-index l.p-items))
    ≡ formals_with (g.N.Names.known l.fn.names) l.fn.types (listed_params (formals_of l.fn.params))
