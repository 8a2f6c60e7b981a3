use Rattle.std.proofs.Common.{map, ◌∙◌}
use Rattle.c_tree.specs.Tree.{listed_parts}
use Rattle.c_tree.specs.View.{formal_of, part_of}
use Rattle.c_names.specs.Table.{known_of}
use Rattle.c_operators.specs.Views.{frame_in, source_in}
use Rattle.c_elaborate.proofs.Made.{body_made}
use Rattle.c_elaborate.proofs.functions.body_of.Goals as goal

pub returns-clause-body : goal.returns-clause-body
returns-clause-body c =
    c.in_ok-made.ensures
    ∙ body_made (source_in c.args.source.now) (frame_in c.args.frame.now) (known_of c.args.table.now) _ _ _ (map formal_of c.args.params.now) (listed_parts (map part_of c.args.parts.now)) _ _
    c.new-body.ensures c.in_ok-pass_formals.ensures.known c.in_ok-numbers.ensures c.in_ok-pass_formals.ensures.numbers c.in_ok-push_parts.ensures.out
