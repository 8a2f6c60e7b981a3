use Rattle.std.proofs.Common.{◌≡◌, ℕ, min, Bool, true, false, List, [], ◌∷◌, map, Option, Some, None, refl, sym, ap, ◌∙◌, rules}
use Rattle.std.specs.Prelude.{codes, IsTrue}
use Rattle.std.proofs.lemmas.Bool.{true≢false}
use Rattle.profiles.specs.Profile.{Text}
use Rattle.order_log.specs.Text.{number_text, object_text}
use Rattle.reads_text.specs.Text.{value_text}
use Rattle.snapshot_lines.specs.Fields.{fields_of, fields_left}
use Rattle.snapshot_lines.proofs.Blanks.{text_by_fields}
use Rattle.snapshot_lines.specs.Lines.{StartsRegion}
use Rattle.snapshot_lines.proofs.Lines.{region_none, tails}
use Rattle.snapshot_lines.proofs.line.region_start.Goals as goal

pub returns-in_err-instr : goal.returns-in_err-instr
returns-in_err-instr c =
    let f = c.in_ok-frame.ensures in
    let front : fields_left c.args.fields.now.rest ≡ codes "region" ∷ number_text f.0 ∷ fields_left c.take_u32.new.self.rest = c.if-not-take_word.ensures ∙ ap (λ (r : List Text). codes "region" ∷ r) f.2 in
    region_none _ c.from_residual-in_err-instr.result _ (search rules) (λ d i rest e. c.in_err-instr.ensures i rest (tails _ _ _ _ (tails _ _ _ _ (sym front ∙ e))))
