use Rattle.std.proofs.Common.{ap, ◌∙◌, codes}
use Rattle.std.proofs.lemmas.Result.{IfOk-weaker}
use Rattle.command_line.proofs.Matched.{word}
use Rattle.command_line.proofs.reading.races_reader.Goals as goal

pub returns : goal.returns
returns c =
    IfOk-weaker c.with_word.result _ _ (λ r e. e ∙ ap (word (codes "source")) c.bare.ensures) c.with_word.ensures
