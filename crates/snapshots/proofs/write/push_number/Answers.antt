use Rattle.std.proofs.Common.{◌++◌, ◌∙◌, ap, arith}
use Rattle.std.proofs.lemmas.Result.{on_ok_weaker}
use Rattle.order_log.proofs.Written.{decimal-number_text}
use Rattle.snapshots.proofs.write.push_number.Goals as goal

pub returns : goal.returns
returns c = on_ok_weaker c.push_numbered.result (λ e. e ∙ ap (λ digits. c.args.out.now ++ (c.args.word.now ++ digits)) (decimal-number_text c.args.n (omega arith))) c.push_numbered.ensures
