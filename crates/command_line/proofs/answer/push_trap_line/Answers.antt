use Rattle.std.proofs.Common.{◌++◌, ap, ◌∙◌}
use Rattle.std.specs.Prelude.{codes, decimal}
use Rattle.std.proofs.lemmas.Result.{on_ok_weaker}
use Rattle.rr_base.specs.Traps.{trap_number}
use Rattle.command_line.proofs.Written.{three_numbers}
use Rattle.command_line.proofs.answer.push_trap_line.Goals as goal

pub returns : goal.returns
returns c =
    let number = c.in_ok-push_numbered.ensures ∙ ap (λ n. c.args.out.now ++ (codes "trap " ++ decimal n)) (c.from.ensures ∙ c.number.ensures) in
    let thread = c.in_ok-push_numbered-2.ensures ∙ ap (λ n. c.push_numbered.new.out ++ (codes " thread " ++ decimal n)) c.from-2.ensures in
    on_ok_weaker c.extend_from_slice.result
    (λ e. three_numbers c.args.out.now c.push_numbered.new.out c.push_numbered-2.new.out c.push_numbered-3.new.out c.extend_from_slice.new.self (codes "trap ") (decimal (trap_number c.args.kind)) (codes " thread ") (decimal c.args.thread) (codes " line ") (decimal c.args.line) (codes "\n") number thread c.in_ok-push_numbered-3.ensures e)
    c.extend_from_slice.ensures.ok
