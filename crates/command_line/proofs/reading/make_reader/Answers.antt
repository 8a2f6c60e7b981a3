use Rattle.std.proofs.Common.{ap, ◌∙◌, codes}
use Rattle.std.proofs.lemmas.Result.{IfOk-weaker}
use Rattle.command_line.proofs.Matched.{word}
use Rattle.command_line.proofs.reading.make_reader.Goals as goal

pub returns : goal.returns
returns c =
    let count = c.in_ok-reader.ensures ∙ ap (word (codes "count")) c.bare.ensures in
    IfOk-weaker c.with_word-2.result _ _ (λ r e. e ∙ ap (word (codes "name")) count) c.with_word-2.ensures
