use Rattle.std.proofs.Common.{ap, ◌∙◌, codes}
use Rattle.std.proofs.lemmas.Result.{IfOk-weaker}
use Rattle.command_line.proofs.Matched.{setting, word}
use Rattle.command_line.proofs.reading.replay_reader.Goals as goal

pub returns : goal.returns
returns c =
    let source = c.in_ok-reader.ensures ∙ ap (word (codes "source")) c.bare.ensures in
    let log = c.in_ok-reader-2.ensures ∙ ap (word (codes "log")) source in
    let reads = c.in_ok-reader-3.ensures ∙ ap (setting (codes "reads")) log in
    IfOk-weaker c.with_option-2.result _ _ (λ r e. e ∙ ap (setting (codes "from")) reads) c.with_option-2.ensures
