use Rattle.std.proofs.Common.{ℕ, ◌+◌, map, ap, sym, ◌∙◌}
use Rattle.std.proofs.lemmas.List.{length-map}
use Rattle.c_tree.specs.Tree.{listed_parts}
use Rattle.c_tree.specs.View.{formal_of, part_of}
use Rattle.c_frames.proofs.Counts.{definition_after}
use Rattle.c_frames.proofs.frames.kept_in.Goals as goal

pub returns-clause-last : goal.returns-clause-last
returns-clause-last c =
    definition_after c.args.marks.now.numbers c.args.first c.in_ok-middle.middle _ (map formal_of c.args.params.now) (listed_parts (map part_of c.args.parts.now)) c.in_ok-locals.locals
    (c.in_ok-middle.ensures.is ∙ ap (λ (z : ℕ). c.args.first + z) (sym (length-map c.args.params.now formal_of))) c.in_ok-locals.ensures
    (c.in_ok-last.ensures.is ∙ ap (λ (z : ℕ). c.in_ok-middle.middle + z) c.len.ensures)
