use Rattle.std.proofs.Common.{map, ◌∙◌}
use Rattle.c_tree.specs.Tree.{listed_parts}
use Rattle.c_tree.specs.View.{formal_of, part_of}
use Rattle.c_names.specs.Table.{known_of}
use Rattle.c_operators.specs.Views.{source_in}
use Rattle.c_elaborate.proofs.Defined.{definition_of}
use Rattle.c_elaborate.proofs.functions.definition.Goals as goal

pub returns-clause-function : goal.returns-clause-function
returns-clause-function c =
    c.in_ok-function.ensures.function
    ∙ definition_of (source_in c.args.source.now) c.args.marks.now.numbers (known_of c.args.table.now) c.args.next.now c.args.name.now c.args.gives (map formal_of c.args.params.now) (listed_parts (map part_of c.args.parts.now)) _ _
    (c.as_slice.ensures ∙ c.in_ok-kept.ensures.formals) (c.as_slice-2.ensures ∙ c.in_ok-kept.ensures.locals)
