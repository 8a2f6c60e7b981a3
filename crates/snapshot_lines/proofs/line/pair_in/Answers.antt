use Rattle.std.proofs.Common.{rules}
use Rattle.snapshots.specs.Text.{pair_text}
use Rattle.snapshot_lines.specs.Lines.{IsAny, clipped_pair}
use Rattle.snapshot_lines.proofs.Lines.{read_none, not_cut, pair_parts, no_number, pair_is}
use Rattle.snapshot_lines.proofs.line.pair_in.Goals as goal

pub returns-in_err-lock : goal.returns-in_err-lock
returns-in_err-lock c = read_none IsAny pair_text clipped_pair c.args.field.now c.from_residual.result (search rules) (λ x is e. not_cut c.args.field.now x c.in_err-lock.ensures e)

pub returns-in_err-number : goal.returns-in_err-number
returns-in_err-number c =
    read_none IsAny pair_text clipped_pair c.args.field.now c.from_residual-in_err-number.result (search rules)
    (λ x is e. no_number c.in_ok-lock.lock.now x.0 c.in_err-number.ensures (pair_parts c.args.field.now c.in_ok-lock.lock.now c.in_ok-lock.stripe.now x c.in_ok-lock.ensures e).0)

pub returns-in_err-number-2 : goal.returns-in_err-number-2
returns-in_err-number-2 c =
    read_none IsAny pair_text clipped_pair c.args.field.now c.from_residual-in_err-number-2.result (search rules)
    (λ x is e. no_number c.in_ok-lock.stripe.now x.1 c.in_err-number-2.ensures (pair_parts c.args.field.now c.in_ok-lock.lock.now c.in_ok-lock.stripe.now x c.in_ok-lock.ensures e).1)

pub returns : goal.returns
returns c =
    pair_is c.args.field.now c.in_ok-lock.lock.now c.in_ok-lock.stripe.now c.in_ok-number.field-0 c.in_ok-number-2.field-0 c.min-lock.result c.min-stripe.result
    c.in_ok-lock.ensures c.in_ok-number.ensures c.in_ok-number-2.ensures (search rules) (search rules)
