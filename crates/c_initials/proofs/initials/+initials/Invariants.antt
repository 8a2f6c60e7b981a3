use Rattle.std.proofs.Common.{◌≡◌, ◌++◌, drop, map}
use Rattle.c_tree.specs.Tree.{listed_inits}
use Rattle.c_tree.specs.View.{init_of}
use Rattle.c_types.specs.Shown.{shown_maybe}
use Rattle.core_tree.specs.View.{stmt_of}
use Rattle.c_initials.specs.Initials.{parts_started}
use Rattle.c_operators.specs.Views.{context_of}
use Rattle.c_initials.proofs.initials.+initials.Given as goal

-- what is pushed and the rest make the whole
abbrev pub invariant-push_parts-loop-index : goal.invariant-push_parts-loop-index
invariant-push_parts-loop-index l =
    map stmt_of l.out ++ parts_started (context_of l.context) l.object l.at (shown_maybe l.of) l.begin l.index l.offset (listed_inits (map init_of (drop l.index l.parts)))
    ≡ map stmt_of l.fn.out ++ parts_started (context_of l.fn.context) l.fn.object l.fn.at (shown_maybe l.fn.of) l.fn.begin 0 l.fn.begin (listed_inits (map init_of l.fn.parts))
