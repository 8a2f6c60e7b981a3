use Rattle.std.proofs.Common.{◌≡◌, ℕ, min, Bool, true, false, List, [], ◌∷◌, map, Option, Some, None, refl, sym, ap, ◌∙◌, rules}
use Rattle.std.specs.Prelude.{codes, IsTrue}
use Rattle.std.proofs.lemmas.Bool.{true≢false}
use Rattle.profiles.specs.Profile.{Text}
use Rattle.order_log.specs.Text.{number_text, object_text}
use Rattle.reads_text.specs.Text.{value_text}
use Rattle.snapshot_lines.specs.Fields.{fields_of, fields_left}
use Rattle.snapshot_lines.proofs.Blanks.{text_by_fields}
use Rattle.std.specs.Option.{option_map}
use Rattle.std.proofs.lemmas.Option.{none-some}
use Rattle.sync_objects.specs.declared.object.ObjId.{ObjId}
use Rattle.order_log.specs.Line.{object_in, clipped_object}
use Rattle.order_log.proofs.Entries.{map_some, object_again, object_is}
use Rattle.snapshots.specs.Text.{object_line}
use Rattle.snapshot_lines.specs.Lines.{IsAny, clipped_entry}
use Rattle.snapshot_lines.proofs.Blanks.{fields_of_some}
use Rattle.snapshot_lines.proofs.Lines.{read_none, heads, tails, object_fields}
use Rattle.snapshot_lines.proofs.line.object_line_in.Goals as goal

pub returns-in_err-take : goal.returns-in_err-take
returns-in_err-take c =
    read_none IsAny object_line clipped_entry c.args.line.now c.from_residual.result (search rules) (λ x is e. fields_of_some c.args.line.now (sym c.of-fields.ensures ∙ c.in_err-take.ensures))

pub returns-in_err-object : goal.returns-in_err-object
returns-in_err-object c =
    let first : fields_of c.args.line.now ≡ c.in_ok-take.field-0.now ∷ fields_left c.take.new.self.rest = sym c.of-fields.ensures ∙ c.in_ok-take.ensures in
    read_none IsAny object_line clipped_entry c.args.line.now c.from_residual-in_err-object.result (search rules)
    (λ x is e.
    let named : c.in_ok-take.field-0.now ≡ object_text x.0 = heads _ _ _ _ (sym first ∙ ap fields_of e ∙ object_fields x) in
    none-some (clipped_object x.0) (c.in_err-object.ensures ∙ ap (option_map clipped_object) (ap object_in named ∙ object_again x.0)))

pub returns-in_err-operations : goal.returns-in_err-operations
returns-in_err-operations c =
    let first : fields_of c.args.line.now ≡ c.in_ok-take.field-0.now ∷ fields_left c.take.new.self.rest = sym c.of-fields.ensures ∙ c.in_ok-take.ensures in
    read_none IsAny object_line clipped_entry c.args.line.now c.from_residual-in_err-operations.result (search rules)
    (λ x is e. c.in_err-operations.ensures x.1 _ (tails _ _ _ _ (sym first ∙ ap fields_of e ∙ object_fields x)))

pub returns-in_err-state : goal.returns-in_err-state
returns-in_err-state c =
    let first : fields_of c.args.line.now ≡ c.in_ok-take.field-0.now ∷ fields_left c.take.new.self.rest = sym c.of-fields.ensures ∙ c.in_ok-take.ensures in
    let n = c.in_ok-operations.ensures in
    let front : fields_of c.args.line.now ≡ c.in_ok-take.field-0.now ∷ number_text n.0 ∷ fields_left c.take_u32.new.self.rest = first ∙ ap (λ (r : List Text). c.in_ok-take.field-0.now ∷ r) n.2 in
    read_none IsAny object_line clipped_entry c.args.line.now c.from_residual-in_err-state.result (search rules)
    (λ x is e. c.in_err-state.ensures x.2 _ (tails _ _ _ _ (tails _ _ _ _ (sym front ∙ ap fields_of e ∙ object_fields x))))

pub returns-then-not-is_over : goal.returns-then-not-is_over
returns-then-not-is_over c x is e =
    let first : fields_of c.args.line.now ≡ c.in_ok-take.field-0.now ∷ fields_left c.take.new.self.rest = sym c.of-fields.ensures ∙ c.in_ok-take.ensures in
    let n = c.in_ok-operations.ensures in
    let m = c.in_ok-state.ensures in
    let front : fields_of c.args.line.now ≡ c.in_ok-take.field-0.now ∷ number_text n.0 ∷ number_text m.0 ∷ fields_left c.take_u32-2.new.self.rest =
    first ∙ ap (λ (r : List Text). c.in_ok-take.field-0.now ∷ r) (n.2 ∙ ap (λ (r : List Text). number_text n.0 ∷ r) m.2) in
    let going : c.is_over.result ≡ false = search rules in
    true≢false (sym (c.is_over.ensures.1 (tails _ _ _ _ (tails _ _ _ _ (tails _ _ _ _ (sym front ∙ ap fields_of e ∙ object_fields x))))) ∙ going)

pub returns : goal.returns
returns c =
    let y = map_some clipped_object (object_in c.in_ok-take.field-0.now) c.in_ok-object.object (sym c.in_ok-object.ensures) in
    let first : fields_of c.args.line.now ≡ object_text y.0 ∷ fields_left c.take.new.self.rest =
    sym c.of-fields.ensures ∙ c.in_ok-take.ensures ∙ ap (λ (w : Text). w ∷ fields_left c.take.new.self.rest) (object_is c.in_ok-take.field-0.now y.0 y.1) in
    let n = c.in_ok-operations.ensures in
    let m = c.in_ok-state.ensures in
    let over : fields_left c.take_u32-2.new.self.rest ≡ [] = c.is_over.ensures.0 (search rules) in
    let front : fields_of c.args.line.now ≡ object_text y.0 ∷ number_text n.0 ∷ number_text m.0 ∷ [] =
    first ∙ ap (λ (r : List Text). object_text y.0 ∷ r) (n.2 ∙ ap (λ (r : List Text). number_text n.0 ∷ r) (m.2 ∙ ap (λ (r : List Text). number_text m.0 ∷ r) over)) in
    ((y.0, n.0, m.0), tt, text_by_fields c.args.line.now (object_text y.0) (number_text n.0 ∷ number_text m.0 ∷ []) front, λ i. (sym y.2 i, n.1 i, m.1 i))
