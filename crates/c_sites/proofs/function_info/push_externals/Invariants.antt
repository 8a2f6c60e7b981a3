use Rattle.std.proofs.Common.{◌≡◌, ◌++◌, drop, map}
use Rattle.c_tree.specs.View.{outer_of}
use Rattle.c_sites.specs.Functions.{outers_functions}
use Rattle.c_names.specs.Table.{texts_of}
use Rattle.c_sites.proofs.function_info.push_externals.Given as goal

-- what is pushed and the rest make the whole
abbrev pub invariant-loop-external : goal.invariant-loop-external
invariant-loop-external l =
    l.out ++ outers_functions l.marks.numbers (texts_of l.roots.names.keys) l.next (map outer_of (drop l.external-index l.externals))
    ≡ l.fn.out ++ outers_functions l.fn.marks.numbers (texts_of l.fn.roots.names.keys) 0 (map outer_of l.fn.externals)
