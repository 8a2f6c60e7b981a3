use Rattle.std.proofs.Common.{◌≡◌, ◌∷◌, ap, ◌∙◌, rules}
use Rattle.std.specs.Cmp.Lexicographic.{bytes_decides}
use Rattle.std.specs.Prelude.{codes}
use Rattle.profiles.specs.Profile.{Text}
use Rattle.snapshot_lines.specs.Fields.{fields_left}
use Rattle.snapshot_lines.proofs.Phases.{begun_phase, no_phase, trapped_phase}
use Rattle.snapshot_lines.proofs.head.phase_in.Goals as goal

pub returns-in_err-word : goal.returns-in_err-word
returns-in_err-word c = no_phase (fields_left c.args.rest.rest) c.from_residual.result c.from_residual.ensures c.in_err-word.ensures

pub returns-then-eq-2 : goal.returns-then-eq-2
returns-then-eq-2 c =
    let same : c.in_ok-word.word.now ≡ codes "begun" = (bytes_decides c.in_ok-word.word.now (codes "begun")).0 (search rules) in
    begun_phase (fields_left c.args.rest.rest) (fields_left c.take.new.self.rest) c.begun.result (c.in_ok-word.ensures ∙ ap (λ (w : Text). w ∷ fields_left c.take.new.self.rest) same) c.begun.ensures

pub returns-then-eq-5 : goal.returns-then-eq-5
returns-then-eq-5 c =
    let same : c.in_ok-word.word.now ≡ codes "trapped" = (bytes_decides c.in_ok-word.word.now (codes "trapped")).0 (search rules) in
    trapped_phase (fields_left c.args.rest.rest) (fields_left c.take.new.self.rest) c.trapped.result (c.in_ok-word.ensures ∙ ap (λ (w : Text). w ∷ fields_left c.take.new.self.rest) same) c.trapped.ensures
