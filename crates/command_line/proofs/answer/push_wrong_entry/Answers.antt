use Rattle.std.specs.Prelude.{codes, decimal}
use Rattle.std.proofs.lemmas.Result.{on_ok_weaker}
use Rattle.command_line.proofs.Written.{one_number}
use Rattle.command_line.proofs.answer.push_wrong_entry.Goals as goal

pub returns : goal.returns
returns c =
    on_ok_weaker c.extend_from_slice.result
    (λ e. one_number c.args.out.now c.push_numbered.new.out c.extend_from_slice.new.self (codes "wrong entry ") (decimal c.args.at) (codes "\n") c.in_ok-push_numbered.ensures e)
    c.extend_from_slice.ensures.ok
