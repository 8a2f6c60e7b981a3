use Rattle.std.proofs.Common.{◌≡◌, ℕ, min, Bool, true, false, List, [], ◌∷◌, map, Option, Some, None, refl, sym, ap, ◌∙◌, rules}
use Rattle.std.specs.Prelude.{codes, IsTrue}
use Rattle.std.proofs.lemmas.Bool.{true≢false}
use Rattle.profiles.specs.Profile.{Text}
use Rattle.order_log.specs.Text.{number_text, object_text}
use Rattle.reads_text.specs.Text.{value_text}
use Rattle.snapshot_lines.specs.Fields.{fields_of, fields_left}
use Rattle.snapshot_lines.proofs.Blanks.{text_by_fields}
use Rattle.snapshots.specs.Text.{cell_line}
use Rattle.snapshot_lines.specs.Lines.{IsCell, clipped_cell}
use Rattle.snapshot_lines.proofs.Lines.{read_none, tails, cell_fields}
use Rattle.snapshot_lines.proofs.line.cell_in.Goals as goal

pub returns-in_err-cell : goal.returns-in_err-cell
returns-in_err-cell c =
    read_none IsCell cell_line clipped_cell c.args.line.now c.from_residual.result (search rules)
    (λ x is e. c.in_err-cell.ensures x.0 (value_text x.1 ∷ []) (c.of-fields.ensures ∙ ap fields_of e ∙ cell_fields x is))

pub returns-in_err-word : goal.returns-in_err-word
returns-in_err-word c =
    let n = c.in_ok-cell.ensures in
    let front : fields_of c.args.line.now ≡ number_text n.0 ∷ fields_left c.take_u32.new.self.rest = sym c.of-fields.ensures ∙ n.2 in
    read_none IsCell cell_line clipped_cell c.args.line.now c.from_residual-in_err-word.result (search rules)
    (λ x is e. c.in_err-word.ensures x.1 [] is (tails _ _ _ _ (sym front ∙ ap fields_of e ∙ cell_fields x is)))

pub returns-then-not-is_over : goal.returns-then-not-is_over
returns-then-not-is_over c x is e =
    let n = c.in_ok-cell.ensures in
    let w = c.in_ok-word.ensures in
    let front : fields_of c.args.line.now ≡ number_text n.0 ∷ value_text c.in_ok-word.word ∷ fields_left c.take_value.new.self.rest = sym c.of-fields.ensures ∙ n.2 ∙ ap (λ (r : List Text). number_text n.0 ∷ r) w.1 in
    let going : c.is_over.result ≡ false = search rules in
    true≢false (sym (c.is_over.ensures.1 (tails _ _ _ _ (tails _ _ _ _ (sym front ∙ ap fields_of e ∙ cell_fields x is)))) ∙ going)

pub returns : goal.returns
returns c =
    let n = c.in_ok-cell.ensures in
    let w = c.in_ok-word.ensures in
    let over : fields_left c.take_value.new.self.rest ≡ [] = c.is_over.ensures.0 (search rules) in
    let front : fields_of c.args.line.now ≡ number_text n.0 ∷ value_text c.in_ok-word.word ∷ [] = sym c.of-fields.ensures ∙ n.2 ∙ ap (λ (r : List Text). number_text n.0 ∷ r) (w.1 ∙ ap (λ (r : List Text). value_text c.in_ok-word.word ∷ r) over) in
    ((n.0, c.in_ok-word.word), w.0, text_by_fields c.args.line.now (number_text n.0) (value_text c.in_ok-word.word ∷ []) front, λ i. (n.1 i, c.in_ok-word.word))
