use Rattle.std.proofs.Common.{ap, ◌∙◌, Err}
use Rattle.job_outcomes.proofs.Reading.{large_input}
use Rattle.job_outcomes.proofs.steps.input.Goals as goal

pub returns-in-Err-TooLarge-clause-content : goal.returns-in-Err-TooLarge-clause-content
returns-in-Err-TooLarge-clause-content g c = large_input (g.I.Source.left c.args.source.now) c.args.most c.args.what (c.read_to_end.ensures.too_large (c.in-Err-TooLarge.is ∙ ap Err c.in-Err-TooLarge.field-0-is))
