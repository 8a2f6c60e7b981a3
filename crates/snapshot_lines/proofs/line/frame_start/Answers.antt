use Rattle.std.proofs.Common.{◌≡◌, ℕ, min, Bool, true, false, List, [], ◌∷◌, map, Option, Some, None, refl, sym, ap, ◌∙◌, rules}
use Rattle.std.specs.Prelude.{codes, IsTrue}
use Rattle.std.proofs.lemmas.Bool.{true≢false}
use Rattle.profiles.specs.Profile.{Text}
use Rattle.order_log.specs.Text.{number_text, object_text}
use Rattle.reads_text.specs.Text.{value_text}
use Rattle.snapshot_lines.specs.Fields.{fields_of, fields_left}
use Rattle.snapshot_lines.proofs.Blanks.{text_by_fields}
use Rattle.snapshot_lines.specs.Lines.{StartsFrame}
use Rattle.snapshot_lines.proofs.Lines.{frame_none, tails}
use Rattle.snapshot_lines.proofs.line.frame_start.Goals as goal

pub returns-in_err-instr : goal.returns-in_err-instr
returns-in_err-instr c =
    let f = c.in_ok-function.ensures in
    let front : fields_left c.args.fields.now.rest ≡ codes "frame" ∷ number_text f.0 ∷ fields_left c.take_u32.new.self.rest = c.if-not-take_word.ensures ∙ ap (λ (r : List Text). codes "frame" ∷ r) f.2 in
    frame_none _ c.from_residual-in_err-instr.result _ (search rules) (λ g i p w rest small e. c.in_err-instr.ensures i _ (tails _ _ _ _ (tails _ _ _ _ (sym front ∙ e))))

pub returns-in_err-made : goal.returns-in_err-made
returns-in_err-made c =
    let f = c.in_ok-function.ensures in
    let k = c.in_ok-instr.ensures in
    let front : fields_left c.args.fields.now.rest ≡ codes "frame" ∷ number_text f.0 ∷ number_text k.0 ∷ fields_left c.take_u32-2.new.self.rest =
    c.if-not-take_word.ensures ∙ ap (λ (r : List Text). codes "frame" ∷ r) (f.2 ∙ ap (λ (r : List Text). number_text f.0 ∷ r) k.2) in
    frame_none _ c.from_residual-in_err-made.result _ (search rules) (λ g i p w rest small e. c.in_err-made.ensures p _ (tails _ _ _ _ (tails _ _ _ _ (tails _ _ _ _ (sym front ∙ e)))))

pub returns-in_err-kept : goal.returns-in_err-kept
returns-in_err-kept c =
    let f = c.in_ok-function.ensures in
    let k = c.in_ok-instr.ensures in
    let m = c.in_ok-made.ensures in
    let front : fields_left c.args.fields.now.rest ≡ codes "frame" ∷ number_text f.0 ∷ number_text k.0 ∷ number_text m.0 ∷ fields_left c.take_u8.new.self.rest =
    c.if-not-take_word.ensures ∙ ap (λ (r : List Text). codes "frame" ∷ r) (f.2 ∙ ap (λ (r : List Text). number_text f.0 ∷ r) (k.2 ∙ ap (λ (r : List Text). number_text k.0 ∷ r) m.2)) in
    frame_none _ c.from_residual-in_err-kept.result _ (search rules) (λ g i p w rest small e. c.in_err-kept.ensures w rest small (tails _ _ _ _ (tails _ _ _ _ (tails _ _ _ _ (tails _ _ _ _ (sym front ∙ e))))))
