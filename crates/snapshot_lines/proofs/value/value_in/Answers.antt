use Rattle.std.proofs.Common.{sym, ap, subst, ◌∙◌}
use Rattle.std.specs.Prelude.{codes}
use Rattle.std.proofs.lemmas.Option.{none-some}
use Rattle.profiles.specs.Profile.{Text}
use Rattle.order_log.specs.Line.{after_word}
use Rattle.order_log.proofs.Parts.{after_word_at, after_word_is}
use Rattle.snapshot_lines.specs.Fields.{IsValue}
use Rattle.snapshot_lines.proofs.value.value_in.Goals as goal

pub returns-in-Some : goal.returns-in-Some
returns-in-Some c = subst (λ (t : Text). IsValue t c.below_zero.result) (sym (after_word_is (codes "-") c.args.field.now c.in-Some.digits.now (sym c.in-Some.ensures))) c.below_zero.ensures

pub returns-in-None : goal.returns-in-None
returns-in-None c = c.from_zero.ensures (λ bs e. none-some bs (c.in-None.ensures ∙ ap (after_word (codes "-")) e ∙ after_word_at (codes "-") bs))
