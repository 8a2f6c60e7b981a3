use Rattle.std.proofs.Common.{◌≡◌, ◌++◌, drop, map}
use Rattle.c_tree.specs.Tree.{listed_inits}
use Rattle.c_tree.specs.View.{init_of}
use Rattle.c_types.specs.Shown.{shown_maybe}
use Rattle.c_names.specs.Table.{known_of}
use Rattle.c_globals.specs.Globals.{parts_words}
use Rattle.c_operators.specs.Views.{source_in}
use Rattle.c_globals.proofs.globals.+start_words.Given as goal

-- what is pushed and the rest make the whole
abbrev pub invariant-push_parts-loop-index : goal.invariant-push_parts-loop-index
invariant-push_parts-loop-index l =
    l.out ++ parts_words (source_in l.source) (known_of l.table) (shown_maybe l.of) l.index (listed_inits (map init_of (drop l.index l.parts)))
    ≡ l.fn.out ++ parts_words (source_in l.fn.source) (known_of l.fn.table) (shown_maybe l.fn.of) 0 (listed_inits (map init_of l.fn.parts))
