use Rattle.std.proofs.Common.{◌≡◌, ◌++◌, drop, map}
use Rattle.c_names.specs.Table.{known_of, texts_of}
use Rattle.c_elaborate.specs.Pointers.{target_type, target_types}
use Rattle.c_elaborate.proofs.pointers.target_types.Given as goal

-- those so far and the rest make the whole
abbrev pub invariant-loop-number : goal.invariant-loop-number
invariant-loop-number l =
    l.types ++ map (target_type (known_of l.table) (texts_of l.taken.names.keys)) (drop l.number (known_of l.table).defined)
    ≡ target_types (known_of l.table) (texts_of l.taken.names.keys)
