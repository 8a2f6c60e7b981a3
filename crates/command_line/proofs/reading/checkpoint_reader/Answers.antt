use Rattle.std.proofs.Common.{ap, ◌∙◌, codes}
use Rattle.std.proofs.lemmas.Result.{IfOk-weaker}
use Rattle.command_line.proofs.Matched.{word}
use Rattle.command_line.proofs.reading.checkpoint_reader.Goals as goal

pub returns : goal.returns
returns c =
    let source = c.in_ok-reader.ensures ∙ ap (word (codes "source")) c.bare.ensures in
    let log = c.in_ok-reader-2.ensures ∙ ap (word (codes "log")) source in
    let count = c.in_ok-reader-3.ensures ∙ ap (word (codes "count")) log in
    IfOk-weaker c.with_word-4.result _ _ (λ r e. e ∙ ap (word (codes "name")) count) c.with_word-4.ensures
