use Rattle.std.proofs.Common.{◌++◌, ap, ◌∙◌}
use Rattle.std.specs.Prelude.{codes, decimal}
use Rattle.std.proofs.lemmas.Result.{on_ok_weaker}
use Rattle.command_line.proofs.Written.{two_numbers}
use Rattle.command_line.proofs.answer.push_refused.Goals as goal

pub returns : goal.returns
returns c =
    let number = c.in_ok-push_numbered.ensures ∙ ap (λ n. c.args.out.now ++ (c.args.words.now ++ decimal n)) c.from.ensures in
    on_ok_weaker c.extend_from_slice.result
    (λ e. two_numbers c.args.out.now c.push_numbered.new.out c.push_numbered-2.new.out c.extend_from_slice.new.self c.args.words.now (decimal c.args.number) (codes " ") (decimal c.args.place) (codes "\n") number c.in_ok-push_numbered-2.ensures e)
    c.extend_from_slice.ensures.ok
