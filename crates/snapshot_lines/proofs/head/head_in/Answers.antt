use Rattle.std.proofs.Common.{None, refl, sym, ◌∙◌}
use Rattle.snapshot_lines.specs.Fields.{fields_left}
use Rattle.snapshot_lines.proofs.Heads.{head_reads, no_end, no_first, no_second, no_third, no_word}
use Rattle.snapshot_lines.proofs.head.head_in.Goals as goal

pub returns-then-not-take_word : goal.returns-then-not-take_word
returns-then-not-take_word c x is e = no_word c.args.line.now None refl (λ rest f. c.if-not-take_word.ensures rest (c.of-fields.ensures ∙ f)) x e

pub returns-in_err-number : goal.returns-in_err-number
returns-in_err-number c =
    no_first c.args.line.now c.from_residual.result (fields_left c.take_word.new.self.rest) (sym c.of-fields.ensures ∙ c.if-not-take_word.ensures) (fields_left c.take_three.new.self.rest) c.from_residual.ensures c.in_err-number.ensures

pub returns-in_err-entries : goal.returns-in_err-entries
returns-in_err-entries c =
    no_second c.args.line.now c.from_residual-in_err-entries.result (fields_left c.take_word.new.self.rest) (sym c.of-fields.ensures ∙ c.if-not-take_word.ensures)
    (fields_left c.take_three.new.self.rest) (c.in_ok-number.number, c.in_ok-number.count, c.in_ok-number.arena) c.in_ok-number.ensures
    (fields_left c.take_three-2.new.self.rest) c.from_residual-in_err-entries.ensures c.in_err-entries.ensures

pub returns-in_err-frames : goal.returns-in_err-frames
returns-in_err-frames c =
    no_third c.args.line.now c.from_residual-in_err-frames.result (fields_left c.take_word.new.self.rest) (sym c.of-fields.ensures ∙ c.if-not-take_word.ensures)
    (fields_left c.take_three.new.self.rest) (c.in_ok-number.number, c.in_ok-number.count, c.in_ok-number.arena) c.in_ok-number.ensures
    (fields_left c.take_three-2.new.self.rest) (c.in_ok-entries.entries, c.in_ok-entries.revokes, c.in_ok-entries.printed) c.in_ok-entries.ensures
    (fields_left c.take_three_long.new.self.rest) c.from_residual-in_err-frames.ensures c.in_err-frames.ensures

pub returns-in_err-phase : goal.returns-in_err-phase
returns-in_err-phase c =
    no_end c.args.line.now c.from_residual-in_err-phase.result (fields_left c.take_word.new.self.rest) (sym c.of-fields.ensures ∙ c.if-not-take_word.ensures)
    (fields_left c.take_three.new.self.rest) (c.in_ok-number.number, c.in_ok-number.count, c.in_ok-number.arena) c.in_ok-number.ensures
    (fields_left c.take_three-2.new.self.rest) (c.in_ok-entries.entries, c.in_ok-entries.revokes, c.in_ok-entries.printed) c.in_ok-entries.ensures
    (fields_left c.take_three_long.new.self.rest) (c.in_ok-frames.frames, c.in_ok-frames.stripes, c.in_ok-frames.regions) c.in_ok-frames.ensures
    c.from_residual-in_err-phase.ensures c.in_err-phase.ensures

pub returns : goal.returns
returns c =
    head_reads c.args.line.now None (fields_left c.take_word.new.self.rest) (sym c.of-fields.ensures ∙ c.if-not-take_word.ensures)
    (fields_left c.take_three.new.self.rest) (c.in_ok-number.number, c.in_ok-number.count, c.in_ok-number.arena) c.in_ok-number.ensures
    (fields_left c.take_three-2.new.self.rest) (c.in_ok-entries.entries, c.in_ok-entries.revokes, c.in_ok-entries.printed) c.in_ok-entries.ensures
    (fields_left c.take_three_long.new.self.rest) (c.in_ok-frames.frames, c.in_ok-frames.stripes, c.in_ok-frames.regions) c.in_ok-frames.ensures
    c.in_ok-phase.phase c.in_ok-phase.ensures
