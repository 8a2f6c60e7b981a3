use Rattle.std.proofs.Common.{◌≡◌, drop, map, []}
use Rattle.c_tree.specs.View.{outer_of}
use Rattle.c_names.specs.Pointers.{function_types_with}
use Rattle.c_names.proofs.pointers.function_types_in.Given as goal

-- the types so far, and those of the rest
abbrev pub invariant-loop-external : goal.invariant-loop-external
invariant-loop-external g l =
    function_types_with (g.N.Names.known l.names) l.types (map outer_of (drop l.external-index l.externals))
    ≡ function_types_with (g.N.Names.known l.fn.names) [] (map outer_of l.fn.externals)
