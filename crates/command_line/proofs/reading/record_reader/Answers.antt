use Rattle.std.proofs.Common.{ap, ◌∙◌, codes}
use Rattle.std.proofs.lemmas.Result.{IfOk-weaker}
use Rattle.command_line.proofs.Matched.{setting, word}
use Rattle.command_line.proofs.reading.record_reader.Goals as goal

pub returns : goal.returns
returns c =
    let source = c.in_ok-reader.ensures ∙ ap (word (codes "source")) c.bare.ensures in
    let log = c.in_ok-reader-2.ensures ∙ ap (word (codes "log")) source in
    let profile = c.in_ok-reader-3.ensures ∙ ap (setting (codes "profile")) log in
    let slots = c.in_ok-reader-4.ensures ∙ ap (setting (codes "slots")) profile in
    let cells = c.in_ok-reader-5.ensures ∙ ap (setting (codes "cells")) slots in
    let limit = c.in_ok-reader-6.ensures ∙ ap (setting (codes "limit")) cells in
    let budget = c.in_ok-reader-7.ensures ∙ ap (setting (codes "budget")) limit in
    IfOk-weaker c.with_option-6.result _ _ (λ r e. e ∙ ap (setting (codes "reads")) budget) c.with_option-6.ensures
