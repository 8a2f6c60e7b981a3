use Rattle.std.proofs.Common.{◌≡◌, false, [], ◌∷◌, ◌++◌, sym, ◌∙◌, rules}
use Rattle.std.proofs.lemmas.Bool.{true≢false}
use Rattle.std.proofs.lemmas.List.{map-append}
use Rattle.snapshot_lines.specs.Fields.{fields_left}
use Rattle.snapshot_lines.specs.Lines.{clipped_pair}
use Rattle.snapshot_lines.proofs.Lines.{no_pairs, more_pairs}
use Rattle.snapshot_lines.proofs.line.pairs.Goals as goal

pub loop-fields-preserved : goal.loop-fields-preserved
loop-fields-preserved c =
    let before = fields_left c.loop-fields.fields.rest in
    let after = fields_left c.take_pair.new.fields.rest in
    let pair = c.in-Some.ensures in
    let so_far = c.loop-fields.invariant in (
      so_far.0 ++ pair.0 ∷ [],
      c.in_ok-push.ensures.ok ∙ (λ i. so_far.1 i ++ pair.1 i ∷ []) ∙ sym (map-append clipped_pair so_far.0 (pair.0 ∷ [])),
      more_pairs (fields_left c.args.rest.rest) before after so_far.0 pair.0 so_far.2 pair.2,
    )

pub returns-in_default : goal.returns-in_default
returns-in_default c ps e =
    let going : c.is_over.result ≡ false = search rules in
    no_pairs (fields_left c.args.rest.rest) (fields_left c.loop-fields.fields.rest) (fields_left c.take_pair.new.fields.rest) c.loop-fields.invariant.0 ps c.loop-fields.invariant.2
    (λ z. true≢false (sym (c.is_over.ensures.1 z) ∙ going)) c.in_default.ensures e
