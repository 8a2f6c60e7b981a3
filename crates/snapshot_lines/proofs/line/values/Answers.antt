use Rattle.std.proofs.Common.{◌≡◌, false, sym, ◌∙◌, rules}
use Rattle.std.proofs.lemmas.Bool.{true≢false}
use Rattle.snapshot_lines.specs.Fields.{fields_left}
use Rattle.snapshot_lines.proofs.Lines.{no_values}
use Rattle.snapshot_lines.proofs.line.values.Goals as goal

pub returns-in_default : goal.returns-in_default
returns-in_default c ws h e =
    let going : c.is_over.result ≡ false = search rules in
    no_values (fields_left c.args.rest.rest) (fields_left c.loop-fields.fields.rest) (fields_left c.take_value.new.self.rest) c.loop-fields.found ws c.loop-fields.invariant.so_far
    (λ z. true≢false (sym (c.is_over.ensures.1 z) ∙ going)) c.in_default.ensures h e
