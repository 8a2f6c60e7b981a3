use Rattle.std.proofs.Common.{◌≡◌, arith, ◌∙◌, length}
use Rattle.std.specs.List.{position_or_len}
use Rattle.command_line.specs.Events.{is_point}
use Rattle.command_line.proofs.EventParts.{no_point}
use Rattle.command_line.proofs.event.event_named.Goals as goal

pub returns-in_err-thread : goal.returns-in_err-thread
returns-in_err-thread c =
    let word = c.args.word.now in
    let place : position_or_len is_point word ≡ length word = c.in_err-thread.ensures.byte (omega arith) (λ w o h. h) in
    c.from_residual.ensures ∙ no_point word place
