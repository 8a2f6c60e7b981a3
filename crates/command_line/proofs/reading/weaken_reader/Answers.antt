use Rattle.std.proofs.Common.{ap, ◌∙◌, codes}
use Rattle.std.proofs.lemmas.Result.{IfOk-weaker}
use Rattle.command_line.proofs.Matched.{setting, word}
use Rattle.command_line.proofs.reading.weaken_reader.Goals as goal

pub returns : goal.returns
returns c =
    let source = c.in_ok-reader.ensures ∙ ap (word (codes "source")) c.bare.ensures in
    IfOk-weaker c.with_option.result _ _ (λ r e. e ∙ ap (setting (codes "profile")) source) c.with_option.ensures
