use Rattle.std.proofs.Common.{◌++◌, ap, ◌∙◌}
use Rattle.std.specs.Prelude.{codes, decimal}
use Rattle.std.proofs.lemmas.Result.{on_ok_weaker}
use Rattle.command_line.proofs.Written.{three_numbers}
use Rattle.command_line.proofs.answer.push_source_refused.Goals as goal

pub returns : goal.returns
returns c =
    let number = c.in_ok-push_numbered.ensures ∙ ap (λ n. c.args.out.now ++ (codes "source refused " ++ decimal n)) c.from.ensures in
    on_ok_weaker c.extend_from_slice.result
    (λ e. three_numbers c.args.out.now c.push_numbered.new.out c.push_numbered-2.new.out c.push_numbered-3.new.out c.extend_from_slice.new.self (codes "source refused ") (decimal c.args.number) (codes " ") (decimal c.args.line) (codes " ") (decimal c.args.column) (codes "\n") number c.in_ok-push_numbered-2.ensures c.in_ok-push_numbered-3.ensures e)
    c.extend_from_slice.ensures.ok
