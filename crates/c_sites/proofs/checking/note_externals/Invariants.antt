use Rattle.std.proofs.Common.{◌≡◌, drop, map}
use Rattle.c_tree.specs.View.{outer_of}
use Rattle.c_types.specs.Found.{first_among}
use Rattle.c_programs.specs.Programs.{outers_faults}
use Rattle.c_names.specs.Table.{known_of}
use Rattle.c_sites.proofs.checking.note_externals.Given as goal

-- what is left of the source makes of what is found what the whole makes
abbrev pub invariant-loop-external : goal.invariant-loop-external
invariant-loop-external l = first_among l.first (outers_faults (known_of l.table) (map outer_of (drop l.external-index l.externals))) ≡ first_among l.fn.first (outers_faults (known_of l.fn.table) (map outer_of l.fn.externals))
