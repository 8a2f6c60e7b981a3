use Rattle.std.proofs.Common.{◌≡◌, map, take}
use Rattle.c_sites.specs.Sites.{types_of_members}
use Rattle.c_names.specs.Table.{known_of}
use Rattle.c_sites.proofs.sites.types_of_structs.Given as goal

abbrev pub invariant-loop-number : goal.invariant-loop-number
invariant-loop-number l = l.all ≡ map types_of_members (take l.number (known_of l.table).structs)
